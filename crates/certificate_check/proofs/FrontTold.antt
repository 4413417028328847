-- The first of the least moves of a front that no answer takes decides its departures, whatever more moves were drawn.
use Rattle.std.proofs.Common.{◌≡◌, ◌↔◌, ◌∙◌, ℕ, ◌+◌, ◌≤◌, Bool, true, false, IsTrue, List, [], ◌∷◌, ◌++◌, get_or, map, MatchBool, refl, sym, ap, subst, arith}
use Rattle.certificate_check.specs.declared.drawings.Drawing.{Drawing}
use Rattle.certificate_check.specs.Drawings.{AreDrawn, BoundIn, HasDrawing}
use Rattle.certificate_check.proofs.Drawn.{one_in, rows_are}
use Rattle.certificate.specs.declared.parts.CertAnswer.{CertAnswer}
use Rattle.certificate.specs.declared.parts.CertRow.{CertRow}
use Rattle.certificate.specs.DepartureCheck.{ComesAfter, IsFront}
use Rattle.certificate_check.specs.Fronts.{CountsBeginning, FrontFails, FrontHolds, LeadsTo, TakenByAny, UntakenFirst}
use Rattle.certificate_check.proofs.LeastDepartures.{all_taken, least_fails, least_holds}
use Rattle.fare_law.specs.declared.moves.Move.{Move}
use Rattle.fare_law.specs.declared.requests.Request.{Request}
use Rattle.fare_law.specs.Book.{Book}
use Rattle.fare_law.specs.Lists.{AllDifferent}
use Rattle.law_lemmas.proofs.Lists.{got_is}
use Rattle.residual_keys.specs.Residuals.{State}
use Rattle.residual_table.specs.declared.key.ResidualKey.{ResidualKey}
use Rattle.search_steps.specs.declared.least.LeastMove.{LeastMove}
use Rattle.search_steps.specs.LeastMoves.{least_as}

taken_as : (state : ResidualKey → State) (answers : List CertAnswer) (front : List Move) (ms : List (LeastMove ResidualKey)) → TakenByAny answers front ms → TakenByAny answers front (map (least_as state) ms)
taken_as state answers front [] h = tt
taken_as state answers front (m ∷ ms) h = (h.0, taken_as state answers front ms h.1)

map_joined : (f : LeastMove ResidualKey → LeastMove State) (xs ys : List (LeastMove ResidualKey)) → map f (xs ++ ys) ≡ map f xs ++ map f ys
map_joined f [] ys = refl
map_joined f (x ∷ xs) ys = ap (λ zs. f x ∷ zs) (map_joined f xs ys)

untaken_as : (state : ResidualKey → State) (answers : List CertAnswer) (front : List Move) (ms : List (LeastMove ResidualKey)) (m : LeastMove ResidualKey) → UntakenFirst answers front ms m → UntakenFirst answers front (map (least_as state) ms) (least_as state m)
untaken_as state answers front ms m u = record {
  before = map (least_as state) u.before;
  after = map (least_as state) u.after;
  whole = ap (map (least_as state)) u.whole ∙ map_joined (least_as state) u.before (m ∷ u.after);
  taken = taken_as state answers front u.before u.taken;
  untaken = u.untaken;
}

-- the moves of a residual, as they were asked for
as_asked : (b c : Book) (q r : Request) (rows : List CertRow) (x y : State) (wanted : ℕ) (ms : List (LeastMove ResidualKey)) → c ≡ b → r ≡ q → y ≡ x → AreDrawn c r rows y wanted ms → AreDrawn b q rows x wanted ms
as_asked b c q r rows x y wanted ms eb eq ex h = subst (λ z. AreDrawn z q rows x wanted ms) eb (subst (λ z. AreDrawn c z rows x wanted ms) eq (subst (λ z. AreDrawn c r rows z wanted ms) ex h))

module _ (b : Book) (q : Request) (rows : List CertRow) (differ : AllDifferent (map (λ row. row.residual) rows)) (answers : List CertAnswer) (front : List Move) (x : State) (price : ℕ) (leads : LeadsTo b q front x price) (wanted : ℕ) (ms : List (LeastMove ResidualKey))
    (drawn : AreDrawn b q rows x wanted ms) where
  none_untaken : (n : ℕ) → n + 1 ≤ wanted → CountsBeginning front answers n → TakenByAny answers front ms → FrontHolds b q rows answers front
  none_untaken n enough c t =
      all_taken b q rows (BoundIn rows) (rows_are rows) (one_in rows differ) answers front leads.0 x price leads.1 leads.2 n wanted (map (least_as drawn.left) ms) (omega (arith, enough)) c drawn.least (taken_as drawn.left answers front ms t)

  some_untaken : (m : LeastMove ResidualKey) (result : Bool) → IsFront answers front → UntakenFirst answers front ms m → IsTrue result ↔ ComesAfter q answers (front ++ m.mv ∷ []) (price + m.total)
      → MatchBool result (FrontHolds b q rows answers front) (FrontFails b q rows answers front)
  some_untaken m true is u told =
      least_holds b q rows (BoundIn rows) (rows_are rows) (one_in rows differ) answers front leads.0 x price leads.1 leads.2 wanted (map (least_as drawn.left) ms) (least_as drawn.left m) drawn.least (untaken_as drawn.left answers front ms m u) (told.0 refl)
  some_untaken m false is u told =
      least_fails b q rows (BoundIn rows) (rows_are rows) (one_in rows differ) answers front leads.0 x price leads.1 leads.2 wanted (map (least_as drawn.left) ms) (least_as drawn.left m) is drawn.least (untaken_as drawn.left answers front ms m u)
      (λ after. never (told.1 after))
    where
      never : false ≡ true → ⊥
      never e = cc

-- the same by what was asked: the moves are those of a drawing for the same book, request and residual
module _ (b c : Book) (q r : Request) (rows : List CertRow) (differ : AllDifferent (map (λ row. row.residual) rows)) (answers : List CertAnswer) (front : List Move) (x y : State) (price wanted place : ℕ) (ds : List Drawing) (d : Drawing) (ns : List (LeastMove ResidualKey)) (eb : c ≡ b) (eq : r ≡ q) (ex : y ≡ x)
    (has : HasDrawing c r rows y wanted ds place) (at : d ≡ get_or ds place d) (em : ns ≡ d.moves) (leads : LeadsTo b q front x price) where
  same : ns ≡ has.drawing.moves
  same = em ∙ ap (λ z. z.moves) (at ∙ got_is ds place d has.drawing has.stands)

  drawn : AreDrawn b q rows x has.drawing.wanted ns
  drawn = as_asked b c q r rows x y has.drawing.wanted ns eb eq ex (subst (AreDrawn c r rows y has.drawing.wanted) (sym same) has.drawn)

  pub front_some : (s : Request) (m : LeastMove ResidualKey) (result : Bool) → s ≡ q → IsFront answers front → UntakenFirst answers front ns m → IsTrue result ↔ ComesAfter s answers (front ++ m.mv ∷ []) (price + m.total)
      → MatchBool result (FrontHolds b q rows answers front) (FrontFails b q rows answers front)
  front_some s m result es is u told =
      some_untaken b q rows differ answers front x price leads has.drawing.wanted ns drawn m result is u (subst (λ z. IsTrue result ↔ ComesAfter z answers (front ++ m.mv ∷ []) (price + m.total)) es told)

  pub front_none : (n : ℕ) → wanted ≡ n + 1 → CountsBeginning front answers n → TakenByAny answers front ns → FrontHolds b q rows answers front
  front_none n is counts t = none_untaken b q rows differ answers front x price leads has.drawing.wanted ns drawn n (let e = has.enough in omega (arith, e, is)) counts t
