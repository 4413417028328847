-- The certificate of a search meets the row check and the bound check.
use Rattle.std.proofs.Common.{◌≡◌, ℕ, ◌+◌, ◌≤◌, List, [], ◌∷◌, ◌++◌, slice_get, Option, Some, None, refl, ap, subst}
use Rattle.certificate.specs.BoundCheck.{state_after, BoundWithin, BoundsHold, EndsHold, StepsHold}
use Rattle.certificate.specs.CertOf.{RowsAre}
use Rattle.certificate.specs.declared.parts.CertRow.{CertRow}
use Rattle.certificate.specs.RowCheck.{RootIsRow, RowsHold}
use Rattle.residual_keys.proofs.Fitting.{reached_fits}
use Rattle.certificate.proofs.ListFacts.{each_in, in_map, is_in, map_in, map_pairs, pair_last}
use Rattle.fare_law.specs.declared.flights.Flight.{Flight}
use Rattle.fare_law.specs.declared.moves.Move.{Move}
use Rattle.fare_law.specs.declared.requests.Request.{Request}
use Rattle.fare_law.specs.declared.requests.Slice.{Slice}
use Rattle.fare_law.specs.declared.tickets.Piece.{Piece}
use Rattle.fare_law.specs.Book.{Book}
use Rattle.fare_law.specs.Lists.{IsIn}
use Rattle.fare_law.specs.Parts.{price_of}
use Rattle.flight_paths.specs.declared.positions.Position.{Position}
use Rattle.flight_paths.specs.Positions.{before_slice, position_before}
use Rattle.open_unit.specs.declared.units.OpenUnit.{OpenUnit}
use Rattle.residual_keys.specs.ResidualOrder.{StateBefore}
use Rattle.residual_keys.specs.Residuals.{State, no_part, Moves, Run, LeadsFrom}
use Rattle.residual_keys.specs.Searches.{Least, Reached}

pub run_more : (b : Book) (q : Request) (x : State) (m : Move) (ms : List Move) (fs : List Flight) (p : Piece) (at : Position) (us : List OpenUnit) (price : ℕ) → Moves b q x m fs p (Some at) us → Run b q (state_after x m p at us) ms price
    → Run b q x (m ∷ ms) (price_of fs p + price)
run_more b q x m [] fs p at us price mv run = absurd run
run_more b q x m (n ∷ ms) fs p at us price mv run = (fs, p, at, us, price, mv, run, refl)

leads_more : (b : Book) (q : Request) (r x : State) (ms : List Move) (m : Move) (fs : List Flight) (p : Piece) (at : Position) (us : List OpenUnit) → LeadsFrom b q r ms x → Moves b q x m fs p (Some at) us
    → LeadsFrom b q r (ms ++ m ∷ []) (state_after x m p at us)
leads_more b q r x [] m fs p at us h mv = (fs, p, at, us, subst (λ z. Moves b q z m fs p (Some at) us) h mv, ap (λ z. state_after z m p at us) h)
leads_more b q r x (k ∷ ms) m fs p at us (gs, p', at', us', mv', h) mv = (gs, p', at', us', mv', leads_more b q (state_after r k p' at' us') x ms m fs p at us h mv)

bound_at : (b : Book) (q : Request) (row : CertRow) (ms : List Move) (price : ℕ) → Least b q row.residual row.bound → Run b q row.residual ms price → BoundWithin row price
bound_at b q row ms price least run = go row.bound least
  where
    go : (o : Option ℕ) → Least b q row.residual o → (bound : ℕ) × (o ≡ Some bound) × (bound ≤ price)
    go None h = absurd (h ms price run)
    go (Some bound) h = (bound, refl, h.1 ms price run)

-- a bound is the price of a run
pub run_at : (b : Book) (q : Request) (x : State) (o : Option ℕ) (bound : ℕ) → Least b q x o → o ≡ Some bound → (ms : List Move) × Run b q x ms bound
run_at b q x None bound h e = absurd (none_some e)
  where
    none_some : None ≡ Some bound → ⊥
    none_some e = cc
run_at b q x (Some k) bound h e = let s : k ≡ bound = some_same e in subst (λ z. (ms : List Move) × Run b q x ms z) s h.0
  where
    some_same : Some k ≡ Some bound → k ≡ bound
    some_same e = cc

module _ (b : Book) (q : Request) (rows : List CertRow) (of : RowsAre b q rows) where
  row_of : (x : State) → Reached b q x → (row : CertRow) × IsIn row rows × (row.residual ≡ x)
  row_of x h = in_map (λ row. row.residual) rows x ((of.need.are x).1 h)

  reached : (row : CertRow) → IsIn row rows → Reached b q row.residual
  reached row i = (of.need.are row.residual).0 (map_in (λ row. row.residual) rows row i)

  pub least : (row : CertRow) → IsIn row rows → Least b q row.residual row.bound
  least row i = each_in (λ row. Least b q row.residual row.bound) rows of.bounds row i

  pub rows_hold : (first : Slice) → slice_get q.slices 0 ≡ Some first → RowsHold b q rows
  rows_hold first e = (
    λ before row after split. record {
      greater = pair_last (λ x y. StateBefore x.residual y.residual) rows before row after (map_pairs (λ row. row.residual) StateBefore rows of.need.in_order) split;
      fits = reached_fits b q row.residual (reached row (is_in rows before row after split));
    },
    root,
  )
    where
      root : RootIsRow b q rows
      root =
          let at = position_before b 0 first None in
          let is : before_slice b 0 (slice_get q.slices 0) None ≡ Some at = ap (λ o. before_slice b 0 o None) e in
          let r = row_of (record { at = at; units = []; part = no_part }) ([], (at, is, refl)) in
          (r.0, r.1, (at, is, r.2))

  ends : (row : CertRow) → IsIn row rows → EndsHold b q row
  ends row i m fs p mv = bound_at b q row (m ∷ []) (price_of fs p) (least row i) (fs, p, mv, refl)

  steps : (row : CertRow) → IsIn row rows → StepsHold b q rows row
  steps row i m fs p at us mv =
      let from = reached row i in
      let next = row_of (state_after row.residual m p at us) (from.0 ++ m ∷ [], (from.1.0, from.1.1, leads_more b q _ row.residual from.0 m fs p at us from.1.2 mv)) in (
        next.0,
        next.1,
        next.2,
        λ further k.
            let r = run_at b q next.0.residual next.0.bound further (least next.0 next.1) k in
            bound_at b q row (m ∷ r.0) (price_of fs p + further) (least row i) (run_more b q row.residual m r.0 fs p at us further mv (subst (λ z. Run b q z r.0 further) next.2 r.1)),
      )

  pub bounds_hold : BoundsHold b q rows
  bounds_hold before row after split = let i = is_in rows before row after split in (ends row i, steps row i)
