use Rattle.std.proofs.Common.{IsPermutation, subst, sym}
use Rattle.fare_law.specs.Lists.{Each, EachPair}
use Rattle.residual_keys.specs.ResidualOrder.{StateBefore}
use Rattle.residual_table.specs.contracts.key.ResidualKeyPartialEq.TheImpl as key
use Rattle.residual_table.specs.contracts.key.SortKeyOrd.TheImpl as order
use Rattle.residual_table.specs.Keys.{IsLive, residual_at}
use Rattle.residual_table.specs.PartNumbers.{HasLetters}
use Rattle.residual_table.specs.Ranks.{rank_of}
use Rattle.search_steps.proofs.RowsByNumber.{tells_states}
use Rattle.search_steps.proofs.RowsInOrder.{each_both, rows_ordered, still_each}
use Rattle.search_steps.proofs.SortedKeys.{IsSortable, order_told, still_distinct}
use Rattle.search_steps.proofs.row_order.put_rows_in_order.Goals as goal

pub reorder-requires : goal.reorder-requires
reorder-requires c = subst (λ rs. IsPermutation rs c.in_ok-sorted.sorted.items) c.entries.ensures.entries c.in_ok-sorted.ensures.same

pub returns-clause-order : goal.returns-clause-order
returns-clause-order c =
    let t = c.args.numbers.now in
    let ranks = c.in_ok-ranks.ranks in
    let old = c.args.rows.now.entries in
    let turned = c.in_ok-sorted.sorted.items in
    let found = c.in_ok-sorted.ensures in
    let same : IsPermutation old turned = subst (λ rs. IsPermutation rs turned) c.entries.ensures.entries found.same in
    let letters = subst (Each (λ r. HasLetters r.0.part.carrier)) c.entries.ensures.entries found.letters in
    let tells = tells_states t key.ghosts.eq c.keys_tell.ensures in
    subst (EachPair (λ r s. StateBefore (residual_at t r.0) (residual_at t s.0))) (sym c.reorder.ensures.entries)
    (rows_ordered (IsSortable t) (residual_at t) StateBefore (λ k l. order.ghosts.cmp (rank_of ranks k) (rank_of ranks l)) key.ghosts.eq
    (order_told t ranks order.ghosts.cmp (λ k l x y h i. c.ranks_order.ensures t ranks k l x y c.in_ok-ranks.ensures h i)) (λ k l h i. tells k l h.0 i.0) c.residual_order.ensures.order.total turned found.sorted (still_distinct old turned same c.entries.ensures.differ)
    (still_each (λ r. IsSortable t r.0) old turned same (each_both (λ r. IsLive t r.0) (λ r. HasLetters r.0.part.carrier) old c.requires letters)))

pub returns-clause-same : goal.returns-clause-same
returns-clause-same c = subst (IsPermutation c.args.rows.now.entries) (sym c.reorder.ensures.entries) (subst (λ rs. IsPermutation rs c.in_ok-sorted.sorted.items) c.entries.ensures.entries c.in_ok-sorted.ensures.same)
