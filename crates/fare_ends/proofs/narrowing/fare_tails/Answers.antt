use Rattle.std.proofs.Common.{subst, sym}
use Rattle.fare_ends.specs.Tails.{AreNumbersTo, AreTailsFrom, AreWanted}
use Rattle.fare_ends.proofs.Wanted.{tails_from}
use Rattle.flight_paths.specs.Heads.{chosen}
use Rattle.fare_ends.proofs.narrowing.fare_tails.Goals as goal

pub returns-clause-tails : goal.returns-clause-tails
returns-clause-tails c = λ q slice tails over are.
    let b = c.args.book.now in
    let from = c.args.from in
    let ends = c.args.ends.now in
    let wanted = c.in_ok-wanted.wanted.items in
    let numbers = c.in_ok-numbers.numbers in
    let told = subst (λ ps. AreWanted b from ps wanted) c.as_slice.ensures.keys c.in_ok-wanted.ensures in
    let those = subst (λ es. AreNumbersTo wanted es numbers) c.as_slice-3.ensures.value (subst (λ ws. AreNumbersTo ws c.as_slice-3.result.now numbers) c.as_slice-2.ensures.value c.in_ok-numbers.ensures) in
    subst (λ ns. AreTailsFrom b q from slice (chosen tails ns)) (sym c.fitted.ensures) (tails_from b q from slice tails ends.places.keys ends.of.items wanted numbers are told those over)
