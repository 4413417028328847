-- Demands have different numbers, and a ticket has one first breach. This file is given on to the crates above.
use Rattle.std.proofs.Common.{◌≡◌, ◌<◌, ◌≤◌, ◌==◌, ◌∙◌, ℕ, cond, refl, ap, sym, subst, inl, inr, arith}
use Rattle.std.proofs.lemmas.Bool.{cases_order}
use Rattle.fare_law.specs.declared.requests.Request.{Request}
use Rattle.fare_law.specs.declared.tickets.Ticket.{Ticket}
use Rattle.fare_law.specs.Book.{Book}
use Rattle.ticket_whole.specs.declared.breach.Breach.{Breach}
use Rattle.ticket_whole.specs.declared.demand.ComponentDemand.TheVariants.{KnownFlights, FlightCount, NoGap, PlacesOnce, LiveFare, FareEnds, Seats, DayTime, Flights, Stopovers, Transfers}
use Rattle.ticket_whole.specs.declared.demand.JourneyDemand.TheVariants.{Slices, Length, Places, Connections, Window}
use Rattle.ticket_whole.specs.declared.demand.Demand.{Demand}
use Rattle.ticket_whole.specs.declared.demand.Demand.TheVariants.{HasComponent, OfComponent, OfJourney, Labels, OfUnit, EndOnEnd, Straddling}
use Rattle.ticket_whole.specs.declared.demand.UnitDemand.TheVariants.{Shape, FareKind, FirstDay, TravelDates, Stay, Combination}
use Rattle.ticket_whole.specs.Breaches.{Met, Breaks, FirstBreach, number_of}

abbrev demand_at : ℕ → Demand
demand_at n =
    cond (n == 1) HasComponent (
    cond (n == 2) (OfComponent KnownFlights) (
    cond (n == 3) (OfComponent FlightCount) (
    cond (n == 4) (OfComponent NoGap) (
    cond (n == 5) (OfComponent PlacesOnce) (
    cond (n == 6) (OfJourney Slices) (
    cond (n == 7) (OfJourney Length) (
    cond (n == 8) (OfJourney Places) (
    cond (n == 9) (OfJourney Connections) (
    cond (n == 10) (OfJourney Window) (
    cond (n == 11) (OfComponent LiveFare) (
    cond (n == 12) (OfComponent FareEnds) (
    cond (n == 13) Labels (
    cond (n == 14) (OfComponent Seats) (
    cond (n == 15) (OfComponent DayTime) (
    cond (n == 16) (OfComponent Flights) (
    cond (n == 17) (OfComponent Stopovers) (
    cond (n == 18) (OfComponent Transfers) (
    cond (n == 19) (OfUnit Shape) (
    cond (n == 20) (OfUnit FareKind) (
    cond (n == 21) (OfUnit FirstDay) (
    cond (n == 22) (OfUnit TravelDates) (
    cond (n == 23) (OfUnit Stay) (
    cond (n == 24) (OfUnit Combination) (
    cond (n == 25) EndOnEnd (
    Straddling)))))))))))))))))))))))))

found_again : (d : Demand) → demand_at (number_of d) ≡ d
found_again HasComponent = refl
found_again (OfComponent KnownFlights) = refl
found_again (OfComponent FlightCount) = refl
found_again (OfComponent NoGap) = refl
found_again (OfComponent PlacesOnce) = refl
found_again (OfJourney Slices) = refl
found_again (OfJourney Length) = refl
found_again (OfJourney Places) = refl
found_again (OfJourney Connections) = refl
found_again (OfJourney Window) = refl
found_again (OfComponent LiveFare) = refl
found_again (OfComponent FareEnds) = refl
found_again Labels = refl
found_again (OfComponent Seats) = refl
found_again (OfComponent DayTime) = refl
found_again (OfComponent Flights) = refl
found_again (OfComponent Stopovers) = refl
found_again (OfComponent Transfers) = refl
found_again (OfUnit Shape) = refl
found_again (OfUnit FareKind) = refl
found_again (OfUnit FirstDay) = refl
found_again (OfUnit TravelDates) = refl
found_again (OfUnit Stay) = refl
found_again (OfUnit Combination) = refl
found_again EndOnEnd = refl
found_again Straddling = refl

pub number_low : (d : Demand) → number_of d ≤ 26
number_low HasComponent = omega arith
number_low (OfComponent KnownFlights) = omega arith
number_low (OfComponent FlightCount) = omega arith
number_low (OfComponent NoGap) = omega arith
number_low (OfComponent PlacesOnce) = omega arith
number_low (OfJourney Slices) = omega arith
number_low (OfJourney Length) = omega arith
number_low (OfJourney Places) = omega arith
number_low (OfJourney Connections) = omega arith
number_low (OfJourney Window) = omega arith
number_low (OfComponent LiveFare) = omega arith
number_low (OfComponent FareEnds) = omega arith
number_low Labels = omega arith
number_low (OfComponent Seats) = omega arith
number_low (OfComponent DayTime) = omega arith
number_low (OfComponent Flights) = omega arith
number_low (OfComponent Stopovers) = omega arith
number_low (OfComponent Transfers) = omega arith
number_low (OfUnit Shape) = omega arith
number_low (OfUnit FareKind) = omega arith
number_low (OfUnit FirstDay) = omega arith
number_low (OfUnit TravelDates) = omega arith
number_low (OfUnit Stay) = omega arith
number_low (OfUnit Combination) = omega arith
number_low EndOnEnd = omega arith
number_low Straddling = omega arith

pub number_same : (d e : Demand) → number_of d ≡ number_of e → d ≡ e
number_same d e h = sym (found_again d) ∙ ap demand_at h ∙ found_again e

module _ (b : Book) (q : Request) (t : Ticket) where
  pub met_unbroken : (d : Demand) (number : ℕ) → Met b q t d → Breaks b q t d number → ⊥
  met_unbroken d number met breaks = elim breaks [ inl whole ↦ whole.1 met.whole | inr x ↦ x.broken (met.each x.before x.component x.after x.split) ]

  not_lower : (one other : Breach) → FirstBreach b q t one → FirstBreach b q t other → one.rule < other.rule → ⊥
  not_lower one other h k below = met_unbroken h.demand one.component (k.lower h.demand (let n = h.number in omega (arith, n, below))) h.broken.breaks

  not_nearer : (one other : Breach) (h : FirstBreach b q t one) (k : FirstBreach b q t other) → h.demand ≡ k.demand → one.component ≤ other.component
  not_nearer one other h k same = h.broken.least other.component (subst (λ d. Breaks b q t d other.component) (sym same) k.broken.breaks)

  pub one_first : (one other : Breach) → FirstBreach b q t one → FirstBreach b q t other → one ≡ other
  one_first one other h k =
      let rules : one.rule ≡ other.rule = elim (cases_order one.rule other.rule) [ inl e ↦ e | inr x ↦ elim x [ inl y ↦ absurd (not_lower one other h k y) | inr z ↦ absurd (not_lower other one k h z) ] ] in
      let same : h.demand ≡ k.demand = number_same h.demand k.demand (sym h.number ∙ rules ∙ k.number) in
      let low = not_nearer one other h k same in
      let high = not_nearer other one k h (sym same) in
      let components : one.component ≡ other.component = omega (arith, low, high) in
      let whole : ◌≡◌ {A = Breach} (record { rule = one.rule; component = one.component }) (record { rule = other.rule; component = other.component }) = cc in
      whole
