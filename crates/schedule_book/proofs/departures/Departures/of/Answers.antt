use Rattle.std.proofs.Common.{◌%◌, ap, map, subst, ◌∙◌}
use Rattle.std.specs.List.Sorted.{IsPermutation}
use Rattle.schedule_book.proofs.Packing.{indexed}
use Rattle.schedule_book.proofs.departures.Departures.of.Goals as goal

pub returns : goal.returns
returns c =
    let keys = c.sort_unstable.new.self.items in
    indexed c.args.flights.now keys c.in_ok-numbers.numbers.items c.requires.few c.requires.limits (subst (λ xs. IsPermutation xs keys) c.in_ok-keys.ensures c.sort_unstable.ensures.permutation) c.sort_unstable.ensures.sorted
    (c.in_ok-numbers.ensures ∙ ap (map (λ key. key % 4294967296)) c.as_slice.ensures.value)
