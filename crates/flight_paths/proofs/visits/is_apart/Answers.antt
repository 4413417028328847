use Rattle.std.proofs.Common.{◌≢◌, ◌∷◌, refl, sym, subst}
use Rattle.fare_law.specs.Lists.{Each}
use Rattle.flight_paths.specs.Ways.{AreFlightsOf, arrivals_of}
use Rattle.flight_paths.proofs.Marking.{marks_apart}
use Rattle.flight_paths.proofs.visits.is_apart.Goals as goal

pub are_apart-requires : goal.are_apart-requires
are_apart-requires c =
    let fs = c.requires.tail.0 in
    let ns = c.args.tail.now.flights in
    (fs, subst (λ xs. AreFlightsOf c.flights.result.now xs fs) (sym c.as_slice.ensures.items) (subst (λ xs. AreFlightsOf xs ns fs) (sym c.flights.ensures.flights) c.requires.tail.1))

pub returns-then-has_no_bit_of : goal.returns-then-has_no_bit_of
returns-then-has_no_bit_of c = λ fs known.
    let j = c.args.junction.now in
    let w = c.has_no_bit_of.ensures c.if-has_no_bit_of.true in
    (λ t. marks_apart j.mark w.0 (j.start.now.place ∷ j.places) (arrivals_of fs) c.requires.mark (c.requires.marks w.0 w.1 fs known) w.2, λ e. refl)

pub returns : goal.returns
returns c = λ fs known.
    let j = c.args.junction.now in
    let ns = c.args.tail.now.flights in
    let there = subst (λ xs. AreFlightsOf c.flights.result.now xs fs) (sym c.as_slice.ensures.items) (subst (λ xs. AreFlightsOf xs ns fs) (sym c.flights.ensures.flights) known) in
    let apart = c.are_apart.ensures fs there in (
      λ t. subst (λ ps. Each (λ q. Each (λ p. q ≢ p) (j.start.now.place ∷ ps)) (arrivals_of fs)) c.as_slice-2.ensures.items (apart.0 t),
      λ e. apart.1 (subst (λ ps. Each (λ q. Each (λ p. q ≢ p) (j.start.now.place ∷ ps)) (arrivals_of fs)) (sym c.as_slice-2.ensures.items) e),
    )
