-- The moves of a component, fare by fare.
use Rattle.std.proofs.Common.{◌≡◌, ◌≢◌, ◌⊎◌, ℕ, zero, suc, ◌+◌, ◌≤◌, ◌<◌, Bool, List, [], ◌∷◌, ◌++◌, length, map, take, get_or, slice_get, Option, Some, IsBitSet, refl, sym, ap, subst, ◌∙◌, inl, inr, arith}
use Rattle.std.proofs.lemmas.List.Sorted.{IsPermutation-map}
use Rattle.cheap_moves.specs.declared.component.Component.{Component}
use Rattle.cheap_moves.specs.declared.component.Onward.{Onward}
use Rattle.cheap_moves.specs.Making.{IsComponent, IsFareMove, Of}
use Rattle.cheap_moves.specs.Within.{IsWithin}
use Rattle.cheap_moves.proofs.Cutting.{lesser_within}
use Rattle.cheap_moves.proofs.Joining.{differs_before, of_more, taken_in}
use Rattle.fare_groups.specs.declared.group.FareGroup.{FareGroup}
use Rattle.fare_groups.specs.declared.group.GroupKey.{GroupKey}
use Rattle.fare_groups.specs.declared.group.GroupedFare.{GroupedFare}
use Rattle.fare_groups.specs.Grouping.{AreCheapestFirst, AreFares, IsGroup, IsRowOf}
use Rattle.fare_groups.proofs.ByShare.{before_or_dearer}
use Rattle.fare_groups.proofs.OneGroup.{fares_are_rows}
use Rattle.fare_groups.proofs.Reordered.{differ_reordered}
use Rattle.fare_law.specs.declared.flights.Flight.{Flight}
use Rattle.fare_law.specs.declared.moves.Move.{Move}
use Rattle.fare_law.specs.declared.requests.Request.{Request}
use Rattle.fare_law.specs.declared.sheets.Leg.{Leg}
use Rattle.fare_law.specs.declared.sheets.SheetRow.{SheetRow}
use Rattle.fare_law.specs.Book.{Book}
use Rattle.fare_law.specs.Limits.{IsFare}
use Rattle.fare_law.specs.Lists.{AllDifferent, Each, EachPair, IsIn, Less}
use Rattle.fare_law.specs.Sheets.{IsLiveRow, RowBefore, Sheet}
use Rattle.flight_paths.specs.declared.positions.Path.{Path}
use Rattle.flight_paths.specs.declared.positions.Position.{Position}
use Rattle.outlines.specs.ByGroups.{OverMarket}
use Rattle.residual_keys.specs.declared.residual.Chosen.{Chosen}
use Rattle.residual_keys.specs.Gathered.{Adds}
use Rattle.residual_keys.specs.Residuals.{State}
use Rattle.residual_keys.proofs.Adding.{adds_one}
use Rattle.residual_keys.proofs.Sheeted.{places_apart}
use Rattle.law_lemmas.proofs.EachOne.{each_in, each_weaker}
use Rattle.law_lemmas.proofs.LawFacts.{low_share}
use Rattle.law_lemmas.proofs.Lists.{got_within}
use Rattle.law_lemmas.proofs.Members.{got_in}
use Rattle.law_lemmas.proofs.Options.{some_one}

-- the fares of a group stand at different places
later_places : (key : GroupKey) (place : ℕ) (rows : List SheetRow) (fares : List GroupedFare) → AreFares key place rows fares → Each (λ n. place ≤ n) (map (λ (f : GroupedFare). f.place) fares)
later_places key place [] fares h = subst (λ fs. Each (λ n. place ≤ n) (map (λ (f : GroupedFare). f.place) fs)) (sym h) tt
later_places key place (row ∷ rows) fares (inl (k, (more, is, rest))) = subst (λ fs. Each (λ n. place ≤ n) (map (λ (f : GroupedFare). f.place) fs)) (sym is)
    (itself place, each_weaker (λ n. suc place ≤ n) (λ n. place ≤ n) (λ n le. before place n le) (map (λ (f : GroupedFare). f.place) more) (later_places key (suc place) rows more rest))
  where
    itself : (n : ℕ) → n ≤ n
    itself n = omega arith

    before : (m n : ℕ) → suc m ≤ n → m ≤ n
    before m n le = omega (arith, le)
later_places key place (row ∷ rows) fares (inr (k, rest)) = each_weaker (λ n. suc place ≤ n) (λ n. place ≤ n) (λ n le. before place n le) (map (λ (f : GroupedFare). f.place) fares) (later_places key (suc place) rows fares rest)
  where
    before : (m n : ℕ) → suc m ≤ n → m ≤ n
    before m n le = omega (arith, le)

places_differ : (key : GroupKey) (place : ℕ) (rows : List SheetRow) (fares : List GroupedFare) → AreFares key place rows fares → AllDifferent (map (λ (f : GroupedFare). f.place) fares)
places_differ key place [] fares h = subst (λ fs. AllDifferent (map (λ (f : GroupedFare). f.place) fs)) (sym h) tt
places_differ key place (row ∷ rows) fares (inl (k, (more, is, rest))) = subst (λ fs. AllDifferent (map (λ (f : GroupedFare). f.place) fs)) (sym is)
    (each_weaker (λ n. suc place ≤ n) (λ n. place ≢ n) (λ n le e. other place n le e) (map (λ (f : GroupedFare). f.place) more) (later_places key (suc place) rows more rest), places_differ key (suc place) rows more rest)
  where
    other : (m n : ℕ) → suc m ≤ n → m ≡ n → ⊥
    other m n le e = absurd (omega (arith, le, e))
places_differ key place (row ∷ rows) fares (inr (k, rest)) = places_differ key (suc place) rows fares rest

-- rows of one carrier and basis stand at one place
module _ (never : (w : List ℕ) → Less w w → ⊥) (trans : (u v w : List ℕ) → Less u v → Less v w → Less u w) (total : (v w : List ℕ) → Less v w ⊎ ((v ≡ w) ⊎ Less w v)) where
  pub one_place : (rows : List SheetRow) (i j : ℕ) (r s : SheetRow) → EachPair RowBefore rows → slice_get rows i ≡ Some r → slice_get rows j ≡ Some s → r.fare.key.carrier ≡ s.fare.key.carrier → r.fare.key.basis ≡ s.fare.key.basis → i ≡ j
  one_place rows i j r s h e f c a = elim (three i j) [
    | inl lt ↦ absurd (places_apart never trans total rows i j r s h e f lt c a)
    | inr o ↦ elim o [ inl same ↦ same | inr gt ↦ absurd (places_apart never trans total rows j i s r h f e gt (sym c) (sym a)) ]
  ]
    where
      three : (m n : ℕ) → (m < n) ⊎ ((m ≡ n) ⊎ (n < m))
      three zero zero = inr (inl refl)
      three zero (suc n) = inl (omega arith)
      three (suc m) zero = inr (inr (omega arith))
      three (suc m) (suc n) = elim (three m n) [ inl lt ↦ inl (omega (arith, lt)) | inr o ↦ elim o [ inl same ↦ inr (inl (ap suc same)) | inr gt ↦ inr (inr (omega (arith, gt))) ] ]

-- the fares of a group of a market
module _ (b : Book) (q : Request) (at : Position) (path : Path) (fs : List Flight) (legs : List Leg) (classes : ℕ) (reverse : Bool) (sheet : Sheet) (groups : List FareGroup) (is : OverMarket b q at path fs legs classes reverse sheet groups) (g : FareGroup) (i : IsIn g groups) where
  pub row_at : (f : GroupedFare) → IsIn f g.fares → IsRowOf sheet.rows g.key f
  row_at f j = fares_are_rows sheet.rows groups is.groups_are g i f j

  pub live_at : (f : GroupedFare) (j : IsIn f g.fares) → IsLiveRow b sheet.from sheet.to (row_at f j).row
  live_at f j = (is.sheet_is.live (row_at f j).row).0 (got_in sheet.rows f.place (row_at f j).row (row_at f j).stands)

  fare_at_limits : (f : GroupedFare) (j : IsIn f g.fares) → IsFare (row_at f j).row.fare
  fare_at_limits f j = (is.limited.fares (row_at f j).row.fare.key (row_at f j).row.fare (live_at f j).fare).1

  pub class_low : (f : GroupedFare) → IsIn f g.fares → f.class ≤ 25
  class_low f j = subst (λ n. n ≤ 25) (sym (ap (λ (x : GroupedFare). x.class) (row_at f j).fare)) (fare_at_limits f j).class

  pub share_low : (f : GroupedFare) → IsIn f g.fares → f.share ≤ 1000000000
  share_low f j = subst (λ n. n ≤ 1000000000) (sym (ap (λ (x : GroupedFare). x.share) (row_at f j).fare)) (low_share (row_at f j).row.fare.kind (row_at f j).row.fare.amount (fare_at_limits f j).amount)

  pub place_low : (f : GroupedFare) → IsIn f g.fares → f.place < length sheet.rows
  place_low f j = got_within sheet.rows f.place (row_at f j).row (row_at f j).stands

  pub places_apart_in : AllDifferent (map (λ (f : GroupedFare). f.place) g.fares)
  places_apart_in =
      let own = (each_in (IsGroup sheet.rows) groups g is.groups_are.each i).fares in
      let place = λ (f : GroupedFare). f.place in
      differ_reordered (map place own.by_rows) (map place g.fares) (IsPermutation-map place own.by_rows g.fares own.same) (places_differ g.key 0 sheet.rows own.by_rows own.are)

  pub cheapest_first_in : AreCheapestFirst g.fares
  cheapest_first_in = (each_in (IsGroup sheet.rows) groups g is.groups_are.each i).fares.order

-- ---- a fare's move

module _ (k : Component) (limit : Option ℕ) (way : Onward) (f : GroupedFare) where
  pub fare_made : (old new : List Chosen) (row : SheetRow) (m : Move) (price : ℕ) → slice_get k.market.now.sheet.value.rows f.place ≡ Some row → IsBitSet k.flown.now.classes f.class → IsWithin limit ((f.share + k.charges) + way.rest)
      → m ≡ record { flights = k.flown.now.way.path.flights; carrier = row.fare.key.carrier; basis = row.fare.key.basis; role = way.role; slot = way.slot } → price ≡ f.share + k.charges
      → new ≡ old ++ record { mv = m; price = price; next = way.next } ∷ [] → Adds (IsFareMove k limit way f) old new
  fare_made old new row m price stands open_class within move costs is =
      adds_one (IsFareMove k limit way f) old new (record { mv = m; price = price; next = way.next }) is (record { row = row; stands = stands; open_class = open_class; move = move; price = costs; next = refl; within = within }) only
    where
      only : (d : Chosen) → IsFareMove k limit way f d → d ≡ record { mv = m; price = price; next = way.next }
      only d h =
          let same : h.row ≡ row = some_one (slice_get k.market.now.sheet.value.rows f.place) h.row row h.stands stands in
          let x : d.mv ≡ m = h.move ∙ ap (λ (r : SheetRow). record { flights = k.flown.now.way.path.flights; carrier = r.fare.key.carrier; basis = r.fare.key.basis; role = way.role; slot = way.slot }) same ∙ sym move in
          let y : d.price ≡ price = h.price ∙ sym costs in
          let z : d.next ≡ way.next = h.next in
          λ i. record { mv = x i; price = y i; next = z i }

-- ---- and those of all

module _ (b : Book) (q : Request) (r : State) (k : Component) (limit : Option ℕ) (way : Onward) (is : IsComponent b q r k) where
  pub fares_more : (never : (w : List ℕ) → Less w w → ⊥) (trans : (u v w : List ℕ) → Less u v → Less v w → Less u w) (total : (v w : List ℕ) → Less v w ⊎ ((v ≡ w) ⊎ Less w v))
      → (i : ℕ) (d f : GroupedFare) (a m c : List Chosen) → i < length k.group.now.fares → f ≡ get_or k.group.now.fares i d
      → Adds (Of (IsFareMove k limit way) (take i k.group.now.fares)) a m → Adds (IsFareMove k limit way f) m c → Adds (Of (IsFareMove k limit way) (take (i + 1) k.group.now.fares)) a c
  fares_more never trans total i d f a m c lt e h one = of_more (IsFareMove k limit way) k.group.now.fares i d f a m c lt e apart h one
    where
      apart : (g : GroupedFare) → IsIn g (take i k.group.now.fares) → (u v : Chosen) → IsFareMove k limit way g u → IsFareMove k limit way f v → u.mv ≡ v.mv → ⊥
      apart g j u v x y s =
          let same = sym x.move ∙ s ∙ y.move in
          differs_before (λ (z : GroupedFare). z.place) k.group.now.fares i d f g
          (places_apart_in b q r.at k.flown.now.way.path k.flown.now.way.flights k.flown.now.way.legs k.flown.now.classes k.facts.reverse k.market.now.sheet.value k.market.now.groups is.over.over k.group.now is.within) lt e j
          (one_place never trans total k.market.now.sheet.value.rows g.place f.place x.row y.row is.over.over.sheet_is.ascending x.stands y.stands (ap (λ (z : Move). z.carrier) same) (ap (λ (z : Move). z.basis) same))

  -- from a fare on that is beyond the limit there are no more
  pub no_more : (i : ℕ) (d f : GroupedFare) (a m : List Chosen) → i < length k.group.now.fares → f ≡ get_or k.group.now.fares i d → (IsWithin limit ((f.share + k.charges) + way.rest) → ⊥)
      → Adds (Of (IsFareMove k limit way) (take i k.group.now.fares)) a m → Adds (Of (IsFareMove k limit way) k.group.now.fares) a m
  no_more i d f a m lt e far h = record { more = h.more; joined = h.joined; once = h.once; are = λ c. (λ j. all c ((h.are c).0 j), λ x. (h.are c).1 (before c x)) }
    where
      all : (c : Chosen) → Of (IsFareMove k limit way) (take i k.group.now.fares) c → Of (IsFareMove k limit way) k.group.now.fares c
      all c x = (x.0, taken_in x.0 i k.group.now.fares x.1, x.2)

      dearer : (g : GroupedFare) → f.share ≤ g.share → IsWithin limit ((g.share + k.charges) + way.rest) → ⊥
      dearer g le w = far (lesser_within limit ((f.share + k.charges) + way.rest) ((g.share + k.charges) + way.rest) (omega (arith, le)) w)

      before : (c : Chosen) → Of (IsFareMove k limit way) k.group.now.fares c → Of (IsFareMove k limit way) (take i k.group.now.fares) c
      before c x = elim (before_or_dearer k.group.now.fares i d
          (cheapest_first_in b q r.at k.flown.now.way.path k.flown.now.way.flights k.flown.now.way.legs k.flown.now.classes k.facts.reverse k.market.now.sheet.value k.market.now.groups is.over.over k.group.now is.within) lt x.0 x.1) [
            | inl j ↦ (x.0, j, x.2)
            | inr le ↦ absurd (dearer x.0 (subst (λ (y : GroupedFare). y.share ≤ x.0.share) (sym e) le) x.2.within)
          ]
