use Rattle.std.proofs.Common.{◌≢◌, ◌∷◌, get_or, refl, subst}
use Rattle.fare_law.specs.declared.names.Place.{Place}
use Rattle.fare_law.specs.Lists.{Each}
use Rattle.flight_paths.specs.Ways.{arrivals_of}
use Rattle.flight_paths.proofs.Apart.{more_apart, next_apart}
use Rattle.flight_paths.proofs.Places.{arrival_next, arrivals_all, no_flight, numbers_known}
use Rattle.law_lemmas.proofs.Tests.{not_so}
use Rattle.flight_paths.proofs.visits.are_apart.Goals as goal

pub bounds-flights-number : goal.bounds-flights-number
bounds-flights-number c = numbers_known c.args.flights.now c.args.numbers.now c.requires.0 c.loop-number.number-index 0 c.requires.1 c.loop-number-test.true

pub returns-then-not-is_new : goal.returns-then-not-is_new
returns-then-not-is_new c = λ fs h.
    let fl = c.args.flights.now in
    let ns = c.args.numbers.now in
    let i = c.loop-number.number-index in
    let P : Place → Type 0 = λ q. Each (λ (p : Place). q ≢ p) (c.args.before ∷ c.args.places.now) in (
      λ t. absurd (cc),
      λ e. absurd (not_so c.is_new.result c.if-not-is_new.true c.is_new.ensures.1 (next_apart P (arrivals_of fs) i (get_or fl (get_or ns i 0) no_flight).to (arrival_next fl ns fs i 0 no_flight h c.loop-number-test.true) e)),
    )

pub loop-number-preserved : goal.loop-number-preserved
loop-number-preserved c = λ fs h.
    let fl = c.args.flights.now in
    let ns = c.args.numbers.now in
    let i = c.loop-number.number-index in
    let P : Place → Type 0 = λ q. Each (λ (p : Place). q ≢ p) (c.args.before ∷ c.args.places.now) in
    more_apart P (arrivals_of fs) i (get_or fl (get_or ns i 0) no_flight).to (arrival_next fl ns fs i 0 no_flight h c.loop-number-test.true) (c.loop-number.invariant fs h) (c.is_new.ensures.0 c.if-not-is_new.false)

pub returns : goal.returns
returns c = λ fs h.
    let P : Place → Type 0 = λ q. Each (λ (p : Place). q ≢ p) (c.args.before ∷ c.args.places.now) in
    (λ t. subst (Each P) (arrivals_all c.args.flights.now c.args.numbers.now fs c.loop-number.number-index h c.loop-number-test.false) (c.loop-number.invariant fs h), λ e. refl)
