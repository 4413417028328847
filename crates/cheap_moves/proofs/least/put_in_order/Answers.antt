use Rattle.std.proofs.Common.{rules}
use Rattle.std.specs.Ordering.{is_lt}
use Rattle.std.proofs.lemmas.List.MinMax.{ranks_by}
use Rattle.std.proofs.lemmas.List.Sorted.{answers_always}
use Rattle.cheap_moves.specs.declared.least.CountedMove.{CountedMove}
use Rattle.cheap_moves.specs.LeastMoves.{IsSooner}
use Rattle.cheap_moves.proofs.Sooner.{code_of, compare, moves_total, sooner_told}
use Rattle.residual_keys.proofs.SortedWords.{NoneLower, sorted_order}
use Rattle.cheap_moves.proofs.least.put_in_order.Goals as goal

pub returns-clause-order : goal.returns-clause-order
returns-clause-order c =
    let new = c.sort_unstable_by.new.self in
    let sorted : NoneLower compare new = c.sort_unstable_by.ensures.sorted (λ m n. is_lt (compare m n)) (ranks_by moves_total (λ (m : CountedMove). m)) (answers_always _ _ _ (λ f a r g k. search rules)) in
    sorted_order code_of compare IsSooner (sooner_told c.order_laws.ensures.less_told) c.args.moves.now new c.sort_unstable_by.ensures.permutation sorted c.requires
