use Rattle.std.proofs.Common.{◌≡◌, ◌++◌, map, take}
use Rattle.fare_verdict.specs.Told.{with_category}
use Rattle.fare_verdict.proofs.judging.push_each.Given as goal

abbrev pub invariant-loop-category : goal.invariant-loop-category
invariant-loop-category l = l.found ≡ l.initial.found ++ map (with_category l.first) (take l.category-index l.categories)
