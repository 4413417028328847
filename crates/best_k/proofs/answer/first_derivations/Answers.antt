use Rattle.std.proofs.Common.{◌+◌, ◌∷◌, [], length, refl, ap, subst, arith, length-append}
use Rattle.best_k.specs.declared.lattice.Derivation.{Derivation}
use Rattle.best_k.specs.Ranked.{Nth}
use Rattle.best_k.proofs.Tables.{drawn_rank, drawn_held}
use Rattle.best_k.proofs.Found.{found_more}
use Rattle.best_k.proofs.answer.first_derivations.Goals as goal

pub word_of-word-requires-clause-way : goal.word_of-word-requires-clause-way
word_of-word-requires-clause-way g c =
    let l = g.L.Lattice.shape c.args.lattice.now in
    let way = c.drawn_at-way.result in
    record {
      rank = c.loop-rank.rank;
      ranked = drawn_rank l c.args.table.now (c.args.node + 1) c.args.node c.loop-rank.rank way c.requires.table (omega arith) c.drawn_at-way.ensures;
      held = drawn_held l c.args.table.now (c.args.node + 1) c.args.node c.loop-rank.rank way c.requires.table (omega arith) c.drawn_at-way.ensures;
    }

pub loop-rank-preserved : goal.loop-rank-preserved
loop-rank-preserved g c =
    let l = g.L.Lattice.shape c.args.lattice.now in
    let way = c.drawn_at-way.result in
    let h = drawn_rank l c.args.table.now (c.args.node + 1) c.args.node c.loop-rank.rank way c.requires.table (omega arith) c.drawn_at-way.ensures in
    let d : Derivation = record { price = way.price; word = c.word_of-word.result } in
    let new = c.in_ok-push.ensures.items in
    record {
      long = omega (arith, ap length new, length-append c.loop-rank.found (d ∷ []), c.loop-rank.invariant.long);
      first = λ i x k. found_more l c.args.node c.loop-rank.rank c.loop-rank.found way d h refl c.word_of-word.ensures c.loop-rank.invariant.long c.loop-rank.invariant.first i x (subst (λ z. Nth z i x) new k);
    }
