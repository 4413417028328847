-- The moves with the fares of a sheet, offer by offer. Given on to the crates above.
use Rattle.std.proofs.Common.{◌≡◌, ◌⊎◌, ℕ, zero, suc, ◌+◌, ◌<◌, Bool, true, false, List, [], ◌∷◌, ◌++◌, length, take, get_or, slice_get, MatchBool, Some, refl, sym, ap, subst, ◌∙◌, inl, inr, arith}
use Rattle.std.proofs.Math.Seq.{take-suc}
use Rattle.fare_book.specs.Keeping.{Limited}
use Rattle.fare_component.specs.declared.offer.Offer.{Offer}
use Rattle.fare_component.specs.declared.offer.OfferRows.{OfferRows}
use Rattle.fare_component.specs.Offers.{AreOffers, StandsBefore}
use Rattle.fare_law.specs.declared.market.OfferKey.{OfferKey}
use Rattle.fare_law.specs.declared.fares.FareKey.{FareKey}
use Rattle.fare_law.specs.declared.flights.Flight.{Flight}
use Rattle.fare_law.specs.declared.names.Place.{Place}
use Rattle.fare_law.specs.declared.requests.Request.{Request}
use Rattle.fare_law.specs.declared.sheets.Leg.{Leg}
use Rattle.fare_law.specs.declared.sheets.SheetRow.{SheetRow}
use Rattle.fare_law.specs.Book.{Book}
use Rattle.fare_law.specs.Lists.{EachPair, IsIn, Less}
use Rattle.fare_law.specs.Limits.{IsFare}
use Rattle.fare_law.specs.Offers.{IsOffered, flights_of, row_price}
use Rattle.fare_law.specs.RuleLimits.{IsRule}
use Rattle.fare_law.specs.Sheets.{IsLiveRow, RowBefore, Sheet, SheetOf}
use Rattle.flight_paths.specs.declared.positions.Path.{Path}
use Rattle.flight_paths.specs.Positions.{IsPath}
use Rattle.residual_keys.specs.declared.residual.Chosen.{Chosen}
use Rattle.residual_keys.specs.Gathered.{Adds, AreLegs, FiledOver, IsChosenFiled, IsChosenWith, IsOfferOn, IsOfferedOver, IsPathOf, OffersOn}
use Rattle.residual_keys.specs.Residuals.{State}
use Rattle.residual_keys.specs.Steps.{KeyOn, MarketOver}
use Rattle.residual_keys.proofs.Adding.{adds_like, adds_none, adds_then}
use Rattle.residual_keys.proofs.OneNext.{last_one}
use Rattle.residual_keys.proofs.Sheeted.{places_apart}
use Rattle.residual_keys.proofs.StepFacts.{moves_key}
use Rattle.residual_keys.proofs.StepTaken.{flights_same, move_offered, whole}
use Rattle.law_lemmas.proofs.Ends.{last_like}
use Rattle.law_lemmas.proofs.Lists.{got_within}
use Rattle.law_lemmas.proofs.Members.{got_in, in_either, in_got, in_left, in_one, in_right}
use Rattle.law_lemmas.proofs.Options.{some_one}

-- a move with the fare of the row at an offer's place
pub record IsAt (rows : List SheetRow) (o : Offer) (c : Chosen) : Type 0 where
  pub row : SheetRow
  pub stands : slice_get rows o.place ≡ Some row
  pub carrier : c.mv.carrier ≡ row.fare.key.carrier
  pub basis : c.mv.basis ≡ row.fare.key.basis

-- a move with the fare of one of these offers
pub record Upto (b : Book) (q : Request) (r : State) (ns : List ℕ) (reverse : Bool) (rows : List SheetRow) (offers : List Offer) (c : Chosen) : Type 0 where
  pub filed : IsChosenFiled b q r ns reverse c
  pub offer : Offer
  pub within : IsIn offer offers
  pub at : IsAt rows offer c

-- the fares of a sheet are filed as its market is
pub market_filed : (reverse : Bool) (fs : List Flight) (from to : Place) (key : FareKey) → MarketOver reverse fs from to → key.from ≡ from → key.to ≡ to → FiledOver reverse fs key
market_filed reverse [] from to key h a b = absurd h
market_filed reverse (f ∷ fs) from to key h a b = last_like (λ z. MatchBool reverse ((from ≡ z.to) × (to ≡ f.from)) ((from ≡ f.from) × (to ≡ z.to))) (λ z. MatchBool reverse ((key.from ≡ z.to) × (key.to ≡ f.from)) ((key.from ≡ f.from) × (key.to ≡ z.to))) (f ∷ fs) h
    (λ z k. of reverse z k)
  where
    of : (t : Bool) (z : Flight) → MatchBool t ((from ≡ z.to) × (to ≡ f.from)) ((from ≡ f.from) × (to ≡ z.to)) → MatchBool t ((key.from ≡ z.to) × (key.to ≡ f.from)) ((key.from ≡ f.from) × (key.to ≡ z.to))
    of true z k = (a ∙ k.0, b ∙ k.1)
    of false z k = (a ∙ k.0, b ∙ k.1)

-- a fare that is filed this way over the flights is filed in the market
pub filed_market : (reverse : Bool) (fs : List Flight) (from to : Place) (key : FareKey) → MarketOver reverse fs from to → FiledOver reverse fs key → (key.from ≡ from) × (key.to ≡ to)
filed_market reverse [] from to key h k = absurd h
filed_market reverse (f ∷ fs) from to key h k = last_one (λ z. MatchBool reverse ((from ≡ z.to) × (to ≡ f.from)) ((from ≡ f.from) × (to ≡ z.to))) (λ z. MatchBool reverse ((key.from ≡ z.to) × (key.to ≡ f.from)) ((key.from ≡ f.from) × (key.to ≡ z.to))) ((key.from ≡ from) × (key.to ≡ to))
    (λ z x y. of reverse z x y) (f ∷ fs) h k
  where
    of : (t : Bool) (z : Flight) → MatchBool t ((from ≡ z.to) × (to ≡ f.from)) ((from ≡ f.from) × (to ≡ z.to)) → MatchBool t ((key.from ≡ z.to) × (key.to ≡ f.from)) ((key.from ≡ f.from) × (key.to ≡ z.to)) → (key.from ≡ from) × (key.to ≡ to)
    of true z x y = (y.0 ∙ sym x.0, y.1 ∙ sym x.1)
    of false z x y = (y.0 ∙ sym x.0, y.1 ∙ sym x.1)

module _ (b : Book) (q : Request) (r : State) (ns : List ℕ) (reverse : Bool) (rows : List SheetRow) where
  pub upto_none : (old : List Chosen) → Adds (Upto b q r ns reverse rows []) old old
  upto_none old = adds_none (Upto b q r ns reverse rows []) old (λ c h. h.within)

  -- one offer more, which stands behind those before
  pub upto_more : (never : (w : List ℕ) → Less w w → ⊥) (trans : (u v w : List ℕ) → Less u v → Less v w → Less u w) (total : (v w : List ℕ) → Less v w ⊎ ((v ≡ w) ⊎ Less w v))
      → EachPair RowBefore rows → (offers : List Offer) (i : ℕ) (d : Offer) (row : SheetRow) (a m c : List Chosen) → i < length offers → slice_get rows (get_or offers i d).place ≡ Some row
      → ((o : Offer) → IsIn o (take i offers) → o.place < (get_or offers i d).place) → Adds (Upto b q r ns reverse rows (take i offers)) a m → Adds (IsChosenWith b q r ns reverse row) m c → Adds (Upto b q r ns reverse rows (take (i + 1) offers)) a c
  upto_more never trans total ascending offers i d row a m c lt stands behind h k =
      adds_like (λ x. Upto b q r ns reverse rows (take i offers) x ⊎ IsChosenWith b q r ns reverse row x) (Upto b q r ns reverse rows (take (i + 1) offers)) a c
      (adds_then (Upto b q r ns reverse rows (take i offers)) (IsChosenWith b q r ns reverse row) a m c h k apart) (λ x. (forth x, back x))
    where
      o : Offer
      o = get_or offers i d

      one : i + 1 ≡ suc i
      one = omega arith

      front : take (i + 1) offers ≡ take i offers ++ o ∷ []
      front = ap (λ n. take n offers) one ∙ take-suc offers i d lt

      apart : (x y : Chosen) → Upto b q r ns reverse rows (take i offers) x → IsChosenWith b q r ns reverse row y → x.mv ≡ y.mv → ⊥
      apart x y u w e =
          places_apart never trans total rows u.offer.place o.place u.at.row row ascending u.at.stands stands (behind u.offer u.within)
          (sym u.at.carrier ∙ ap (λ z. z.carrier) e ∙ w.1) (sym u.at.basis ∙ ap (λ z. z.basis) e ∙ w.2)

      forth : (x : Chosen) → Upto b q r ns reverse rows (take i offers) x ⊎ IsChosenWith b q r ns reverse row x → Upto b q r ns reverse rows (take (i + 1) offers) x
      forth x (inl u) = record { filed = u.filed; offer = u.offer; within = subst (IsIn u.offer) (sym front) (in_left u.offer (take i offers) (o ∷ []) u.within); at = u.at }
      forth x (inr w) = record { filed = w.0; offer = o; within = subst (IsIn o) (sym front) (in_right o (take i offers) (o ∷ []) (inl refl)); at = record { row = row; stands = stands; carrier = w.1; basis = w.2 } }

      back : (x : Chosen) → Upto b q r ns reverse rows (take (i + 1) offers) x → Upto b q r ns reverse rows (take i offers) x ⊎ IsChosenWith b q r ns reverse row x
      back x u = elim (in_either u.offer (take i offers) (o ∷ []) (subst (IsIn u.offer) front u.within)) [
        | inl l ↦ inl (record { filed = u.filed; offer = u.offer; within = l; at = u.at })
        | inr l ↦
            let row_is : u.at.row ≡ row = some_one (slice_get rows o.place) u.at.row row (subst (λ z. slice_get rows z.place ≡ Some u.at.row) (in_one u.offer o l) u.at.stands) stands in
            inr (u.filed, u.at.carrier ∙ ap (λ z. z.fare.key.carrier) row_is, u.at.basis ∙ ap (λ z. z.fare.key.basis) row_is)
      ]

-- all offers have all moves
module _ (b : Book) (q : Request) (r : State) (path : Path) (fs : List Flight) (legs : List Leg) (reverse : Bool) (sheet : Sheet) (offers : List Offer)
    (is : IsPathOf b q r path fs) (are : AreLegs b q fs legs) (market : MarketOver reverse fs sheet.from sheet.to) (s : SheetOf b sheet.from sheet.to sheet) (limited : Limited b) (on : OffersOn legs sheet.rows offers) where
  -- a move that is filed this way has a fare of the sheet
  offer_of : (c : Chosen) → IsChosenFiled b q r path.flights reverse c → Upto b q r path.flights reverse sheet.rows offers c
  offer_of c ((chosen, ns), way) =
      let m = c.mv in
      let h = chosen.moves in
      let p = chosen.piece in
      let row : SheetRow = record { fare = p.fare; rule = p.rule } in
      let at_path : IsPath b q.slices r.at m.flights fs path.after = subst (λ xs. IsPath b q.slices r.at xs fs path.after) (sym ns) is in
      let same = (flights_same b q r m fs path.after at_path chosen.flights p chosen.after chosen.units h).0 in
      let key : KeyOn m fs p.fare.key = subst (λ xs. KeyOn m xs p.fare.key) same (moves_key b q r m chosen.flights p chosen.after chosen.units h) in
      let filed : FiledOver reverse fs p.fare.key = subst (λ t. FiledOver t fs p.fare.key) way key.ends in
      let ends = filed_market reverse fs sheet.from sheet.to p.fare.key market filed in
      let live : IsLiveRow b sheet.from sheet.to row = record { filed_from = ends.0; filed_to = ends.1; fare = h.stands.fare; rule = h.stands.rule } in
      let place = in_got sheet.rows row ((s.live row).1 live) in
      let class = (limited.fares p.fare.key p.fare h.stands.fare).1.class in
      let offered = move_offered b q r m fs path.after at_path row legs (record { key = key; fare = h.stands.fare; rule = h.stands.rule }) are.each are.flights (omega (arith, class)) c.next (c.price, (whole b q r c).0 chosen) in
      let o : Offer = record { place = place.0; price = row_price (flights_of legs) row } in
      record {
        filed = ((chosen, ns), way);
        offer = o;
        within = (on.exact o).1 (record { row = row; stands = place.1; offered = offered; costs = refl });
        at = record { row = row; stands = place.1; carrier = h.carrier; basis = h.basis };
      }

  pub all_upto : (old new : List Chosen) → Adds (Upto b q r path.flights reverse sheet.rows offers) old new → Adds (IsChosenFiled b q r path.flights reverse) old new
  all_upto old new h = adds_like (Upto b q r path.flights reverse sheet.rows offers) (IsChosenFiled b q r path.flights reverse) old new h (λ c. (λ u. u.filed, λ k. offer_of c k))

  -- the row at an offer's place
  pub offered_at : (o : Offer) → IsIn o offers → (row : SheetRow) → slice_get sheet.rows o.place ≡ Some row → IsOfferedOver b reverse fs legs row o.price
  offered_at o i row stands =
      let on_row = (on.exact o).0 i in
      let row_is : on_row.row ≡ row = some_one (slice_get sheet.rows o.place) on_row.row row on_row.stands stands in
      let live = (s.live row).0 (got_in sheet.rows o.place row stands) in
      record {
        fare = live.fare;
        rule = live.rule;
        filed = market_filed reverse fs sheet.from sheet.to row.fare.key market live.filed_from live.filed_to;
        offered = subst (IsOffered legs) row_is on_row.offered;
        costs = on_row.costs ∙ ap (row_price (flights_of legs)) row_is ∙ ap (λ xs. row_price xs row) are.flights;
      }

  pub row_within : (o : Offer) → IsIn o offers → (row : SheetRow) → slice_get sheet.rows o.place ≡ Some row → IsFare row.fare × IsRule row.rule
  row_within o i row stands =
      let live = (s.live row).0 (got_in sheet.rows o.place row stands) in
      ((limited.fares row.fare.key row.fare live.fare).1, limited.rules row.fare.key.carrier row.fare.rule row.rule live.rule)

  pub place_within : (o : Offer) → IsIn o offers → o.place < length sheet.rows
  place_within o i = got_within sheet.rows o.place ((on.exact o).0 i).row ((on.exact o).0 i).stands

-- offers before one stand at earlier places
pub offers_behind : (offers : List Offer) (i : ℕ) (d o : Offer) → EachPair StandsBefore offers → i < length offers → IsIn o (take i offers) → o.place < (get_or offers i d).place
offers_behind [] i d o h lt k = absurd (omega arith)
offers_behind (x ∷ offers) zero d o h lt k = absurd k
offers_behind (x ∷ offers) (suc i) d o h lt (inl e) = first x offers i (omega arith) h (ap (λ z. z.place) e)
  where
    first : (y : Offer) (ys : List Offer) (j : ℕ) → j < length ys → EachPair StandsBefore (y ∷ ys) → o.place ≡ y.place → o.place < (get_or ys j d).place
    first y [] j l p q = absurd (omega arith)
    first y (z ∷ ys) zero l p q = omega (arith, p.0, q)
    first y (z ∷ zs) (suc j) l p q = let r = later z zs j (omega arith) p.1 in omega (arith, p.0, q, r)
      where
        later : (y : Offer) (ys : List Offer) (j : ℕ) → j < length ys → EachPair StandsBefore (y ∷ ys) → y.place < (get_or ys j d).place
        later y [] j l p = absurd (omega arith)
        later y (z ∷ ys) zero l p = p.0
        later y (z ∷ zs) (suc j) l p = let r = later z zs j (omega arith) p.1 in omega (arith, p.0, r)
offers_behind (x ∷ offers) (suc i) d o h lt (inr k) = offers_behind offers i d o (rest x offers h) (omega arith) k
  where
    rest : (y : Offer) (ys : List Offer) → EachPair StandsBefore (y ∷ ys) → EachPair StandsBefore ys
    rest y [] h = tt
    rest y (z ∷ ys) h = h.1

-- the offers that a source gives are those of the rows
pub offers_on : (key : OfferKey) (legs : List Leg) (sheet : Sheet) (rows : OfferRows) → key.legs ≡ legs → key.sheet.value ≡ sheet → AreOffers key rows → OffersOn legs sheet.rows rows.rows
offers_on key legs sheet rows a e h = record { ascending = h.ascending; exact = λ o. (forth o, back o) }
  where
    forth : (o : Offer) → IsIn o rows.rows → IsOfferOn legs sheet.rows o
    forth o i =
        let k = (h.exact o).0 i in
        record { row = k.row; stands = subst (λ s. slice_get s.rows o.place ≡ Some k.row) e k.stands; offered = subst (λ ls. IsOffered ls k.row) a k.offered; costs = subst (λ ls. o.price ≡ row_price (flights_of ls) k.row) a k.costs }

    back : (o : Offer) → IsOfferOn legs sheet.rows o → IsIn o rows.rows
    back o k = (h.exact o).1 (record { row = k.row; stands = subst (λ s. slice_get s.rows o.place ≡ Some k.row) (sym e) k.stands; offered = subst (λ ls. IsOffered ls k.row) (sym a) k.offered; costs = subst (λ ls. o.price ≡ row_price (flights_of ls) k.row) (sym a) k.costs })
