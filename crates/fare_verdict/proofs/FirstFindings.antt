-- The first finding of a ticket and its first breach. Cited by the law on them.
use Rattle.std.proofs.Common.{◌≡◌, ◌<◌, ◌≤◌, ◌⊎◌, ℕ, List, [], ◌∷◌, refl, sym, ap, subst, ◌∙◌, inl, inr, arith, IfSome, Option, Some, None}
use Rattle.std.proofs.lemmas.Bool.{cases_order}
use Rattle.fare_law.specs.declared.requests.Request.{Request}
use Rattle.fare_law.specs.declared.tickets.Ticket.{Ticket}
use Rattle.fare_law.specs.Book.{Book}
use Rattle.fare_law.specs.Lists.{OnFirst}
use Rattle.ticket_whole.specs.declared.breach.Breach.{Breach}
use Rattle.ticket_whole.specs.declared.demand.CategoryDemand.TheVariants.{Season, Advance, LeastStay, GreatestStay}
use Rattle.ticket_whole.specs.declared.demand.ComponentDemand.TheVariants.{KnownFlights, FlightCount, NoGap, PlacesOnce, LiveFare, FareEnds, Seats, DayTime, Flights, Stopovers, Transfers}
use Rattle.ticket_whole.specs.declared.demand.Demand.{Demand}
use Rattle.ticket_whole.specs.declared.demand.Demand.TheVariants.{HasComponent, OfComponent, OfJourney, Labels, OfUnit, EndOnEnd, Straddling}
use Rattle.ticket_whole.specs.declared.demand.JourneyDemand.TheVariants.{Slices, Length, Places, Connections, Window}
use Rattle.ticket_whole.specs.declared.demand.UnitDemand.{UnitDemand}
use Rattle.ticket_whole.specs.declared.demand.UnitDemand.TheVariants.{Shape, FareKind, FirstDay, TravelDates, Stay, Combination}
use Rattle.ticket_whole.specs.Breaches.{BrokenAt, Breaks, FirstBreach, FirstBroken, Met, TicketMeets, number_of}
use Rattle.ticket_whole.specs.Categories.{CategoryMeets}
use Rattle.ticket_whole.specs.Known.{part_of, parts_of}
use Rattle.ticket_whole.proofs.DemandNumbers.{met_unbroken, number_same}
use Rattle.fare_verdict.specs.declared.finding.Finding.{Finding}
use Rattle.fare_verdict.specs.Findings.{AreFindings, Fails, IsFinding, IsOf, component_category, whole_category}
use Rattle.fare_verdict.specs.Stages.{IsTested, JoinedMet, KnownMet}
use Rattle.fare_verdict.proofs.OneList.{first_least}
use Rattle.fare_verdict.proofs.RuleTurns.{ByCategory, finding_breaks}
use Rattle.fare_verdict.proofs.UnitsAlone.{unit_alone}

module _ (b : Book) (q : Request) (t : Ticket) where
  known : (d : Demand) → 3 < number_of d → ((other : Demand) → number_of other < number_of d → Met b q t other) → KnownMet b q t
  known d l lower = record {
    some = lower HasComponent (omega (arith, l));
    flights = lower (OfComponent KnownFlights) (omega (arith, l));
    count = lower (OfComponent FlightCount) (omega (arith, l));
  }

  joined : (d : Demand) → 13 < number_of d → ((other : Demand) → number_of other < number_of d → Met b q t other) → JoinedMet b q t
  joined d l lower = record {
    no_gap = lower (OfComponent NoGap) (omega (arith, l));
    places = lower (OfComponent PlacesOnce) (omega (arith, l));
    fare = lower (OfComponent LiveFare) (omega (arith, l));
    ends = lower (OfComponent FareEnds) (omega (arith, l));
    labels = lower Labels (omega (arith, l));
  }

  -- a demand is tested where each of a lower number is met
  tested_where_lower : (d : Demand) → ((other : Demand) → number_of other < number_of d → Met b q t other) → IsTested b q t d
  tested_where_lower HasComponent lower = tt
  tested_where_lower (OfComponent KnownFlights) lower = tt
  tested_where_lower (OfComponent FlightCount) lower = tt
  tested_where_lower (OfComponent NoGap) lower = known (OfComponent NoGap) (omega arith) lower
  tested_where_lower (OfComponent PlacesOnce) lower = known (OfComponent PlacesOnce) (omega arith) lower
  tested_where_lower (OfComponent LiveFare) lower = known (OfComponent LiveFare) (omega arith) lower
  tested_where_lower (OfComponent FareEnds) lower = known (OfComponent FareEnds) (omega arith) lower
  tested_where_lower (OfComponent Seats) lower = (known (OfComponent Seats) (omega arith) lower, joined (OfComponent Seats) (omega arith) lower)
  tested_where_lower (OfComponent DayTime) lower = (known (OfComponent DayTime) (omega arith) lower, joined (OfComponent DayTime) (omega arith) lower)
  tested_where_lower (OfComponent Flights) lower = (known (OfComponent Flights) (omega arith) lower, joined (OfComponent Flights) (omega arith) lower)
  tested_where_lower (OfComponent Stopovers) lower = (known (OfComponent Stopovers) (omega arith) lower, joined (OfComponent Stopovers) (omega arith) lower)
  tested_where_lower (OfComponent Transfers) lower = (known (OfComponent Transfers) (omega arith) lower, joined (OfComponent Transfers) (omega arith) lower)
  tested_where_lower (OfJourney Slices) lower = known (OfJourney Slices) (omega arith) lower
  tested_where_lower (OfJourney Length) lower = (known (OfJourney Length) (omega arith) lower, lower (OfJourney Slices) (omega arith))
  tested_where_lower (OfJourney Places) lower = (known (OfJourney Places) (omega arith) lower, lower (OfJourney Slices) (omega arith))
  tested_where_lower (OfJourney Connections) lower = (known (OfJourney Connections) (omega arith) lower, lower (OfJourney Slices) (omega arith))
  tested_where_lower (OfJourney Window) lower = (known (OfJourney Window) (omega arith) lower, lower (OfJourney Slices) (omega arith))
  tested_where_lower Labels lower = known Labels (omega arith) lower
  tested_where_lower (OfUnit Shape) lower = (known (OfUnit Shape) (omega arith) lower, joined (OfUnit Shape) (omega arith) lower)
  tested_where_lower (OfUnit FareKind) lower = (known (OfUnit FareKind) (omega arith) lower, joined (OfUnit FareKind) (omega arith) lower)
  tested_where_lower (OfUnit FirstDay) lower = (known (OfUnit FirstDay) (omega arith) lower, joined (OfUnit FirstDay) (omega arith) lower)
  tested_where_lower (OfUnit TravelDates) lower = (known (OfUnit TravelDates) (omega arith) lower, joined (OfUnit TravelDates) (omega arith) lower)
  tested_where_lower (OfUnit Stay) lower = (known (OfUnit Stay) (omega arith) lower, joined (OfUnit Stay) (omega arith) lower)
  tested_where_lower (OfUnit Combination) lower = (known (OfUnit Combination) (omega arith) lower, joined (OfUnit Combination) (omega arith) lower)
  tested_where_lower EndOnEnd lower = (known EndOnEnd (omega arith) lower, joined EndOnEnd (omega arith) lower)
  tested_where_lower Straddling lower = (known Straddling (omega arith) lower, joined Straddling (omega arith) lower)

  -- No finding of this demand is at this number.
  abbrev NoneAt : Demand → ℕ → Type 0
  NoneAt d number = (f : Finding) → f.component ≡ number → IsOf b q t d f → ⊥

  not_whole : (d : Demand) (number : ℕ) → number ≡ 0 → NoneAt d number → (TicketMeets b q t d → ⊥) → ⊥
  not_whole d number e none fails = none (record { rule = number_of d; component = 0; unit = 0; category = whole_category d }) (sym e)
      (record { rule = refl; fails = inl (record { component = refl; unit = refl; category = refl; fails = fails }) })

  not_at : (d : Demand) (number : ℕ) (k : ℕ) (x : BrokenAt b q t d number) → NoneAt d number → Fails b q t d k x.before x.component → ⊥
  not_at d number k x none fails = none (record { rule = number_of d; component = number; unit = x.component.unit; category = k }) refl
      (record { rule = refl; fails = inr (record { before = x.before; component = x.component; after = x.after; split = x.split; at = x.at; unit = refl; fails = fails }) })

  if_none_pair : {X : Type 0} (o : Option X) (P Q : X → Type 0) → ((IfSome o P → ⊥) → ⊥) → ((IfSome o Q → ⊥) → ⊥) → (IfSome o (λ x. P x × Q x) → ⊥) → ⊥
  if_none_pair None P Q h k fails = fails tt
  if_none_pair (Some x) P Q h k fails = h (λ p. k (λ r. fails (p, r)))

  if_some_like : {X : Type 0} (o : Option X) (P Q : X → Type 0) → ((x : X) → P x → Q x) → IfSome o P → IfSome o Q
  if_some_like None P Q to h = h
  if_some_like (Some x) P Q to h = to x h

  not_unit : ByCategory → IsTested b q t (OfUnit Shape) → (d : UnitDemand) (number : ℕ) → FirstBroken b q t (OfUnit d) number → BrokenAt b q t (OfUnit d) number → NoneAt (OfUnit d) number → ⊥
  not_unit by tested Shape number h x none = not_at (OfUnit Shape) number 0 x none (refl, unit_alone b q t tested.0 tested.1 number h x, x.broken)
  not_unit by tested FareKind number h x none = not_at (OfUnit FareKind) number 0 x none (refl, x.broken)
  not_unit by tested FirstDay number h x none =
      if_none_pair (part_of b q.sale x.component) (CategoryMeets (parts_of b q.sale t.components) Season) (CategoryMeets (parts_of b q.sale t.components) Advance)
      (λ m. not_at (OfUnit FirstDay) number 3 x none (inl (refl, m)))
      (λ m. not_at (OfUnit FirstDay) number 5 x none (inr (refl, m)))
      (λ both. x.broken (if_some_like (part_of b q.sale x.component) _ _ (λ part p. (by.first_day _ part).1 p) both))
  not_unit by tested TravelDates number h x none = not_at (OfUnit TravelDates) number 14 x none (refl, x.broken)
  not_unit by tested Stay number h x none =
      if_none_pair (part_of b q.sale x.component) (CategoryMeets (parts_of b q.sale t.components) LeastStay) (CategoryMeets (parts_of b q.sale t.components) GreatestStay)
      (λ m. not_at (OfUnit Stay) number 6 x none (inl (refl, m)))
      (λ m. not_at (OfUnit Stay) number 7 x none (inr (refl, m)))
      (λ both. x.broken (if_some_like (part_of b q.sale x.component) _ _ (λ part p. (by.stay _ part).1 p) both))
  not_unit by tested Combination number h x none = not_at (OfUnit Combination) number 10 x none (refl, x.broken)

  -- where a demand is broken first, there is a finding of it
  not_none : ByCategory → (d : Demand) → IsTested b q t d → (number : ℕ) → FirstBroken b q t d number → NoneAt d number → ⊥
  not_none by d tested number h none = elim h.breaks [ inl w ↦ not_whole d number w.0 none w.1 | inr x ↦ go d tested h none x ]
    where
      go : (d : Demand) → IsTested b q t d → FirstBroken b q t d number → NoneAt d number → BrokenAt b q t d number → ⊥
      go HasComponent tested h none x = x.broken tt
      go (OfComponent e) tested h none x = not_at (OfComponent e) number (component_category e) x none (refl, x.broken)
      go (OfJourney e) tested h none x = x.broken tt
      go Labels tested h none x = not_at Labels number 0 x none (refl, subst (λ n. FirstBroken b q t Labels n) x.at h)
      go (OfUnit e) tested h none x = not_unit by tested e number h x none
      go EndOnEnd tested h none x = x.broken tt
      go Straddling tested h none x = x.broken tt

  module _ (by : ByCategory) (breach : Breach) (first : FirstBreach b q t breach) where
    tested : IsTested b q t first.demand
    tested = tested_where_lower first.demand (λ other l. first.lower other (let n = first.number in omega (arith, n, l)))

    -- no finding has a lower rule
    not_lower : (g : Finding) → IsFinding b q t g → g.rule < breach.rule → ⊥
    not_lower g h l = met_unbroken b q t h.demand g.component (first.lower h.demand (let r = h.of.rule in omega (arith, r, l))) (finding_breaks b q t by h.demand g h.of)

    -- nor the same one at a lesser component
    not_nearer : (g : Finding) → IsFinding b q t g → g.rule ≡ breach.rule → breach.component ≤ g.component
    not_nearer g h e =
        let same : h.demand ≡ first.demand = number_same h.demand first.demand (sym h.of.rule ∙ e ∙ first.number) in
        first.broken.least g.component (subst (λ d. Breaks b q t d g.component) same (finding_breaks b q t by h.demand g h.of))

    pub first_is : (fs : List Finding) → AreFindings t b q fs → OnFirst (λ f. (f.rule ≡ breach.rule) × (f.component ≡ breach.component)) fs
    first_is [] h = not_none by first.demand tested breach.component first.broken (λ f c of. absurd ((h.each f).1 (record { demand = first.demand; tested = tested; of = of })))
    first_is (g ∷ fs) h = decided g.rule breach.rule g.component breach.component
        (not_lower g is)
        (not_nearer g is)
        (λ far. not_none by first.demand tested breach.component first.broken (λ f c of. far (reach f c of)))
      where
        is : IsFinding b q t g
        is = (h.each g).0 (inl refl)

        reach : (f : Finding) → f.component ≡ breach.component → IsOf b q t first.demand f → (g.rule < breach.rule) ⊎ ((g.rule ≡ breach.rule) × (g.component ≤ breach.component))
        reach f c of =
            let r : f.rule ≡ breach.rule = of.rule ∙ sym first.number in
            elim (first_least g f fs h.order ((h.each f).1 (record { demand = first.demand; tested = tested; of = of }))) [
              | inl e ↦ inr (ap (λ x. x.rule) e ∙ r, let k = ap (λ (x : Finding). x.component) e in omega (arith, k, c))
              | inr below ↦ elim below [
                | inl l ↦ inl (omega (arith, l, r))
                | inr s ↦ inr (s.0 ∙ r, let k = at_most s.1 in omega (arith, k, c))
              ]
            ]
          where
            at_most : (g.component < f.component) ⊎ ((g.component ≡ f.component) × (g.category < f.category)) → g.component ≤ f.component
            at_most p = elim p [ inl l ↦ omega (arith, l) | inr e ↦ let k = e.0 in omega (arith, k) ]

        decided : (r s c d : ℕ) → (r < s → ⊥) → (r ≡ s → d ≤ c) → (((r < s) ⊎ ((r ≡ s) × (c ≤ d)) → ⊥) → ⊥) → (r ≡ s) × (c ≡ d)
        decided r s c d lower near far = elim (cases_order r s) [
          | inl e ↦ (
            e,
            elim (cases_order c d) [
              | inl k ↦ k
              | inr x ↦ elim x [
                | inl l ↦ let n = near e in absurd (omega (arith, n, l))
                | inr l ↦ absurd (far (λ p. elim p [ inl y ↦ lower y | inr y ↦ let m = y.1 in absurd (omega (arith, m, l)) ]))
              ]
            ],
          )
          | inr x ↦ elim x [
            | inl l ↦ absurd (lower l)
            | inr l ↦ absurd (far (λ p. elim p [ inl y ↦ lower y | inr y ↦ let m = y.0 in absurd (omega (arith, m, l)) ]))
          ]
        ]
