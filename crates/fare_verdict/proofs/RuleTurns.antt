-- Findings of the rules up to one, and what a finding breaks.
use Rattle.std.proofs.Common.{◌≡◌, ◌<◌, ◌≤◌, ◌+◌, ◌⊎◌, ◌↔◌, ℕ, List, [], sym, subst, ◌∙◌, inl, inr, arith, IfSome}
use Rattle.fare_law.specs.declared.requests.Request.{Request}
use Rattle.fare_law.specs.declared.tickets.Component.{Component}
use Rattle.fare_law.specs.declared.tickets.Ticket.{Ticket}
use Rattle.fare_law.specs.Book.{Book}
use Rattle.fare_law.specs.Parts.{Part}
use Rattle.ticket_whole.specs.declared.demand.CategoryDemand.TheVariants.{Season, Advance, LeastStay, GreatestStay}
use Rattle.ticket_whole.specs.declared.demand.Demand.{Demand}
use Rattle.ticket_whole.specs.declared.demand.Demand.TheVariants.{HasComponent, OfComponent, OfJourney, Labels, OfUnit, EndOnEnd, Straddling}
use Rattle.ticket_whole.specs.declared.demand.ComponentDemand.TheVariants.{KnownFlights, FlightCount, NoGap, PlacesOnce, LiveFare, FareEnds, Seats, DayTime, Flights, Stopovers, Transfers}
use Rattle.ticket_whole.specs.declared.demand.JourneyDemand.TheVariants.{Slices, Length, Places, Connections, Window}
use Rattle.ticket_whole.specs.declared.demand.UnitDemand.{UnitDemand}
use Rattle.ticket_whole.specs.declared.demand.UnitDemand.TheVariants.{Shape, FareKind, FirstDay, TravelDates, Stay, Combination}
use Rattle.ticket_whole.specs.Breaches.{Breaks, Met, PartMeets, StandingMeets, number_of}
use Rattle.ticket_whole.specs.Categories.{CategoryMeets}
use Rattle.ticket_whole.specs.Known.{part_of, parts_of}
use Rattle.ticket_whole.proofs.DemandNumbers.{met_unbroken, number_low, number_same}
use Rattle.fare_verdict.specs.declared.finding.Finding.{Finding}
use Rattle.fare_verdict.specs.Findings.{AreAll, Fails, FailsInUnit, IsFinding, IsOf, OnComponent}
use Rattle.fare_verdict.specs.Stages.{IsTested}
use Rattle.fare_verdict.specs.Told.{Extends}
use Rattle.fare_verdict.proofs.Growth.{all_like, all_more, none_all}
use Rattle.law_lemmas.proofs.Options.{if_some}

-- the demands of a part by their categories
pub record ByCategory : Type 0 where
  pub first_day : (parts : List Part) (part : Part) → PartMeets parts FirstDay part ↔ (CategoryMeets parts Season part × CategoryMeets parts Advance part)
  pub stay : (parts : List Part) (part : Part) → PartMeets parts Stay part ↔ (CategoryMeets parts LeastStay part × CategoryMeets parts GreatestStay part)

number_some : (d : Demand) → 1 ≤ number_of d
number_some HasComponent = omega arith
number_some (OfComponent KnownFlights) = omega arith
number_some (OfComponent FlightCount) = omega arith
number_some (OfComponent NoGap) = omega arith
number_some (OfComponent PlacesOnce) = omega arith
number_some (OfComponent LiveFare) = omega arith
number_some (OfComponent FareEnds) = omega arith
number_some (OfComponent Seats) = omega arith
number_some (OfComponent DayTime) = omega arith
number_some (OfComponent Flights) = omega arith
number_some (OfComponent Stopovers) = omega arith
number_some (OfComponent Transfers) = omega arith
number_some (OfJourney Slices) = omega arith
number_some (OfJourney Length) = omega arith
number_some (OfJourney Places) = omega arith
number_some (OfJourney Connections) = omega arith
number_some (OfJourney Window) = omega arith
number_some Labels = omega arith
number_some (OfUnit Shape) = omega arith
number_some (OfUnit FareKind) = omega arith
number_some (OfUnit FirstDay) = omega arith
number_some (OfUnit TravelDates) = omega arith
number_some (OfUnit Stay) = omega arith
number_some (OfUnit Combination) = omega arith
number_some EndOnEnd = omega arith
number_some Straddling = omega arith

module _ (b : Book) (q : Request) (t : Ticket) where
  -- a finding by one of the rules below this one
  abbrev pub IsBelow : ℕ → Finding → Type 0
  IsBelow rule f = IsFinding b q t f × (f.rule < rule)

  pub rules_none : (rule : ℕ) → rule ≤ 1 → AreAll (IsBelow rule) []
  rules_none rule l = none_all (IsBelow rule) (λ f p. let x = p.1 in let y = p.0.of.rule in let z = number_some p.0.demand in absurd (omega (arith, l, x, y, z)))

  same_rule : (d : Demand) (f : Finding) → IsFinding b q t f → f.rule ≡ number_of d → IsTested b q t d × IsOf b q t d f
  same_rule d f h e =
      let s : h.demand ≡ d = number_same h.demand d (sym h.of.rule ∙ e) in
      (subst (λ x. IsTested b q t x) s h.tested, subst (λ x. IsOf b q t x f) s h.of)

  step_from : (rule : ℕ) (d : Demand) (f : Finding) → rule ≡ number_of d → IsBelow (rule + 1) f → IsBelow rule f ⊎ IsOf b q t d f
  step_from rule d f e p = elim (below rule f.rule p.1) [ inl l ↦ inl (p.0, l) | inr s ↦ inr (same_rule d f p.0 (s ∙ e)).1 ]
    where
      below : (m n : ℕ) → n < m + 1 → (n < m) ⊎ (n ≡ m)
      below m n h = search (arith, h)

  -- a rule that is tested adds its findings
  pub rules_more : (rule : ℕ) (d : Demand) (old new : List Finding) → rule ≡ number_of d → IsTested b q t d → AreAll (IsBelow rule) old → Extends (IsOf b q t d) old new → AreAll (IsBelow (rule + 1)) new
  rules_more rule d old new e tested h k = all_more (IsBelow rule) (IsOf b q t d) (IsBelow (rule + 1)) old new h k
      (λ f g p o. inl (let x = p.1 in let y = o.rule in omega (arith, x, y, e)))
      (λ f p. elim p [
        | inl l ↦ (l.0, let x = l.1 in omega (arith, x))
        | inr o ↦ (record { demand = d; tested = tested; of = o }, let y = o.rule in omega (arith, y, e))
      ])
      (λ f p. step_from rule d f e p)

  -- one that isn't has none
  pub rules_skip : (rule : ℕ) (d : Demand) (old : List Finding) → rule ≡ number_of d → (IsTested b q t d → ⊥) → AreAll (IsBelow rule) old → AreAll (IsBelow (rule + 1)) old
  rules_skip rule d old e not h = all_like (IsBelow rule) (IsBelow (rule + 1)) old
      (λ f p. (p.0, let x = p.1 in omega (arith, x)))
      (λ f p. (p.0, lower f p)) h
    where
      lower : (f : Finding) → IsBelow (rule + 1) f → f.rule < rule
      lower f p = elim (below rule f.rule p.1) [ inl l ↦ l | inr s ↦ absurd (not (same_rule d f p.0 (s ∙ e)).0) ]
        where
          below : (m n : ℕ) → n < m + 1 → (n < m) ⊎ (n ≡ m)
          below m n h = search (arith, h)

  pub rules_all : (rule : ℕ) (found : List Finding) → 27 ≤ rule → AreAll (IsBelow rule) found → AreAll (IsFinding b q t) found
  rules_all rule found l h = all_like (IsBelow rule) (IsFinding b q t) found (λ f p. p.0) (λ f p. (p, let x = p.of.rule in let y = number_low p.demand in omega (arith, l, x, y))) h

  by_part : (d : UnitDemand) (c : Component) (P : Part → Type 0) → ((part : Part) → PartMeets (parts_of b q.sale t.components) d part → P part) → IfSome (part_of b q.sale c) (PartMeets (parts_of b q.sale t.components) d) → IfSome (part_of b q.sale c) P
  by_part d c P to h = if_some (part_of b q.sale c) (PartMeets (parts_of b q.sale t.components) d) P to h

  unit_misses : ByCategory → (d : UnitDemand) (k : ℕ) (before : List Component) (c : Component) → FailsInUnit b q t d k before c → StandingMeets b q t (OfUnit d) before c → ⊥
  unit_misses by Shape k before c h m = h.2 m
  unit_misses by FareKind k before c h m = h.1 m
  unit_misses by FirstDay k before c h m = elim h [
    | inl x ↦ x.1 (by_part FirstDay c _ (λ part p. ((by.first_day _ part).0 p).0) m)
    | inr y ↦ y.1 (by_part FirstDay c _ (λ part p. ((by.first_day _ part).0 p).1) m)
  ]
  unit_misses by TravelDates k before c h m = h.1 m
  unit_misses by Stay k before c h m = elim h [
    | inl x ↦ x.1 (by_part Stay c _ (λ part p. ((by.stay _ part).0 p).0) m)
    | inr y ↦ y.1 (by_part Stay c _ (λ part p. ((by.stay _ part).0 p).1) m)
  ]
  unit_misses by Combination k before c h m = h.1 m

  component_breaks : ByCategory → (d : Demand) (f : Finding) → OnComponent b q t d f → Breaks b q t d f.component
  component_breaks by d f o = go d o.fails
    where
      broken : (e : Demand) → (StandingMeets b q t e o.before o.component → ⊥) → Breaks b q t e f.component
      broken e misses = inr (record { before = o.before; component = o.component; after = o.after; split = o.split; at = o.at; broken = misses })

      go : (e : Demand) → Fails b q t e f.category o.before o.component → Breaks b q t e f.component
      go HasComponent h = absurd h
      go (OfComponent e) h = broken (OfComponent e) h.1
      go (OfJourney e) h = absurd h
      go Labels h = subst (λ n. Breaks b q t Labels n) (sym o.at) h.1.breaks
      go (OfUnit e) h = broken (OfUnit e) (unit_misses by e f.category o.before o.component h)
      go EndOnEnd h = absurd h
      go Straddling h = absurd h

  -- a finding breaks its demand at its component
  pub finding_breaks : ByCategory → (d : Demand) (f : Finding) → IsOf b q t d f → Breaks b q t d f.component
  finding_breaks by d f h = elim h.fails [ inl w ↦ inl (w.component, w.fails) | inr o ↦ component_breaks by d f o ]

  -- where all demands are met, there is no finding
  pub none_where_met : ByCategory → ((d : Demand) → Met b q t d) → AreAll (IsFinding b q t) []
  none_where_met by met = none_all (IsFinding b q t) (λ f h. met_unbroken b q t h.demand f.component (met h.demand) (finding_breaks by h.demand f h.of))
