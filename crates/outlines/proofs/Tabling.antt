-- A table in which each path is done is the position's. Given on to the crates above.
use Rattle.std.proofs.Common.{◌≡◌, ◌≢◌, ◌⊎◌, ℕ, zero, suc, ◌≤◌, ◌^◌, Bool, List, [], ◌∷◌, ◌++◌, append-nil, append_assoc, Option, Some, None, IsBitSet, bit_and, refl, sym, subst, ◌∙◌, inl, inr, arith}
use Rattle.fare_book.specs.Keeping.{NoFare}
use Rattle.fare_groups.specs.declared.group.FareGroup.{FareGroup}
use Rattle.fare_groups.specs.declared.group.GroupKey.{GroupKey}
use Rattle.fare_groups.specs.declared.group.GroupedFare.{GroupedFare}
use Rattle.fare_groups.specs.Grouping.{Cheapest}
use Rattle.fare_groups.proofs.Cheaper.{cheap_first, cheap_less, cheap_skip, cheap_stays}
use Rattle.fare_law.specs.declared.flights.Flight.{Flight}
use Rattle.fare_law.specs.declared.requests.Request.{Request}
use Rattle.fare_law.specs.declared.sheets.Leg.{Leg}
use Rattle.fare_law.specs.Book.{Book, live_fare}
use Rattle.fare_law.specs.Lists.{IsIn}
use Rattle.fare_law.specs.Sheets.{Sheet}
use Rattle.flight_paths.specs.declared.positions.Path.{Path}
use Rattle.flight_paths.specs.declared.positions.Position.{Position}
use Rattle.outlines.specs.declared.outline.Entry.{Entry}
use Rattle.outlines.specs.declared.outline.Outline.{Outline}
use Rattle.outlines.specs.ByGroups.{HasGroups, OutlineOver, OverMarket, PathDone, PathsTabled}
use Rattle.outlines.specs.Outlines.{Outlined}
use Rattle.outlines.proofs.ByGroups.{groups_cover}
use Rattle.outlines.proofs.Offering.{filed_over}
use Rattle.residual_keys.proofs.Offered.{filed_market}
use Rattle.residual_keys.proofs.OneNext.{first_one, last_one}
use Rattle.law_lemmas.proofs.Numbers.{at_most_or, le_on}
use Rattle.law_lemmas.proofs.Options.{not_both}

-- a group's outline on some flights is one
outline_one : (o p : Outline) (after : Option Position) (fs : List Flight) (key : GroupKey) (reverse : Bool) → OutlineOver o after fs key reverse → OutlineOver p after fs key reverse → o ≡ p
outline_one o p after fs key reverse h k =
    let ends = last_one (λ f. (o.end ≡ f.to) × (o.last ≡ f.day)) (λ f. (p.end ≡ f.to) × (p.last ≡ f.day)) ((o.end ≡ p.end) × (o.last ≡ p.last)) (λ f x y. (x.0 ∙ sym y.0, x.1 ∙ sym y.1)) fs h.ends k.ends in
    let first = first_one (λ f. o.first ≡ f.day) (λ f. p.first ≡ f.day) (o.first ≡ p.first) (λ f x y. x ∙ sym y) fs h.first k.first in
    let after_is = h.after_is ∙ sym k.after_is in
    let carrier = h.carrier ∙ sym k.carrier in
    let number = h.number ∙ sym k.number in
    let kind = h.kind ∙ sym k.kind in
    let way = h.reverse_is ∙ sym k.reverse_is in
    λ i. record { after = after_is i; end = ends.0 i; first = first i; last = ends.1 i; carrier = carrier i; number = number i; kind = kind i; reverse = way i }

-- there is a least share, or none
some_or : (n : ℕ) → (n ≢ 0) ⊎ ((n ≢ 0) → ⊥)
some_or zero = inr (λ h. h refl)
some_or (suc n) = inl (λ e. absurd (omega (arith, e)))

cheapest_next : (classes : ℕ) (fares : List GroupedFare) (f : GroupedFare) (c : Option ℕ) → Cheapest classes fares c → (d : Option ℕ) × Cheapest classes (fares ++ f ∷ []) d
cheapest_next classes fares f c h = elim (some_or (bit_and classes (2 ^ f.class))) [ inl o ↦ among c o h | inr closed ↦ (c, cheap_skip classes fares f c closed h) ]
  where
    among : (c : Option ℕ) → IsBitSet classes f.class → Cheapest classes fares c → (d : Option ℕ) × Cheapest classes (fares ++ f ∷ []) d
    among None o k = (Some f.share, cheap_first classes fares f o k)
    among (Some share) o k = elim (at_most_or share f.share) [ inl le ↦ (Some share, cheap_stays classes fares f share le k) | inr lt ↦ (Some f.share, cheap_less classes fares f share o lt k) ]

cheapest_on : (classes : ℕ) (fares more : List GroupedFare) (c : Option ℕ) → Cheapest classes fares c → (d : Option ℕ) × Cheapest classes (fares ++ more) d
cheapest_on classes fares [] c h = (c, subst (λ fs. Cheapest classes fs c) (sym (append-nil fares)) h)
cheapest_on classes fares (f ∷ more) c h =
    let next = cheapest_next classes fares f c h in
    let rest = cheapest_on classes (fares ++ f ∷ []) more next.0 next.1 in
    (rest.0, subst (λ fs. Cheapest classes fs rest.0) (append_assoc fares (f ∷ []) more) rest.1)

cheapest_of : (classes : ℕ) (fares : List GroupedFare) → (c : Option ℕ) × Cheapest classes fares c
cheapest_of classes fares = cheapest_on classes [] fares None tt

pub paths_tabled : (b : Book) (q : Request) → PathsTabled b q
paths_tabled b q at table attained done = record { attained = attained; covered = λ o price h. cover o price h (done (record { flights = h.numbers; after = o.after }) h.flights h.path o.reverse) }
  where
    cover : (o : Outline) (price : ℕ) (h : Outlined b q at o price) → PathDone b q at (record { flights = h.numbers; after = o.after }) h.flights o.reverse table → (e : Entry) × IsIn e table × (e.outline ≡ o) × (e.price ≤ price)
    cover o price h d = elim d.done [ inl none ↦ absurd (unfiled none) | inr k ↦ found k.0 k.1 k.2 k.3 k.4 k.5 ]
      where
        path : Path
        path = record { flights = h.numbers; after = o.after }

        unfiled : NoFare b d.from d.to → ⊥
        unfiled none =
            let ends = filed_market o.reverse h.flights d.from d.to h.piece.fare.key d.market (filed_over b q h.flights h.piece o.reverse (sym h.outline.reverse) h.stands) in
            not_both (live_fare b h.piece.fare.key) h.piece.fare h.stands.fare (none h.piece.fare.key ends.0 ends.1)

        found : (legs : List Leg) (classes : ℕ) (sheet : Sheet) (groups : List FareGroup) → OverMarket b q at path h.flights legs classes o.reverse sheet groups → HasGroups b path h.flights classes o.reverse groups table → (e : Entry) × IsIn e table × (e.outline ≡ o) × (e.price ≤ price)
        found legs classes sheet groups over has =
            let c = groups_cover b q at path h.flights legs classes o.reverse sheet groups over o price h refl refl in
            let cheapest = cheapest_of classes c.group.fares in
            let below = c.below cheapest.0 cheapest.1 in
            let e = has c.group c.within c.rule c.live c.permits below.0 (subst (Cheapest classes c.group.fares) below.1 cheapest.1) in
            (e.0, e.1, outline_one e.0.outline o path.after h.flights c.group.key o.reverse e.2 c.outline, le_on e.0.price _ price e.3 below.2)
