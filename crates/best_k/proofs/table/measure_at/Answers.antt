use Rattle.std.proofs.Common.{◌≡◌, ◌≤◌, Some, None, MatchOption, ◌∙◌, subst, sym, ap, arith}
use Rattle.best_k.specs.declared.lattice.Choice.TheVariants.{Pair}
use Rattle.best_k.specs.Tables.{HeldBy, ArePartsDrawnTo, IsDrawn, count}
use Rattle.best_k.specs.Ways.{IsMeasure}
use Rattle.best_k.proofs.Apart.{Inside, inside}
use Rattle.best_k.proofs.Tables.{drawn_counts, drawn_rank}
use Rattle.best_k.proofs.Measures.{leaf_measure, alone_measure, pair_measure, pair_small, no_alone, no_first, no_second}
use Rattle.best_k.proofs.table.measure_at.Goals as goal

pub overflow_add-result : goal.overflow_add-result
overflow_add-result g c =
    let l = g.L.Lattice.shape c.args.lattice.now in
    let laws = g.met.L.Lattice.laws c.args.lattice.now in
    let p = c.in-Pair-default-Some in
    let is : l.choice c.args.node c.args.at ≡ Pair p.one (Some p.other) = sym c.choice.ensures ∙ p.is ∙ ap (λ z. Pair p.one z) p.rest-is in
    let small = subst (λ z. Inside c.args.node z) is (inside l laws c.args.node c.args.at c.requires.node c.requires.at) in
    let s = pair_small l laws c.args.node c.args.at p.one p.other c.args.first c.args.rest c.in-Some-Some.part c.in-Some-Some.more c.requires.node c.requires.at is
    (drawn_rank l c.args.table.now c.args.node p.one c.args.first c.in-Some-Some.part c.requires.table small.0 c.in-Some-Some.ensures)
    (drawn_rank l c.args.table.now c.args.node p.other c.args.rest c.in-Some-Some.more c.requires.table small.1 c.in-Some-Some.ensures') in
    omega (arith, s.0)

pub overflow_add-result-in-Some-Some : goal.overflow_add-result-in-Some-Some
overflow_add-result-in-Some-Some g c =
    let l = g.L.Lattice.shape c.args.lattice.now in
    let laws = g.met.L.Lattice.laws c.args.lattice.now in
    let p = c.in-Pair-default-Some in
    let is : l.choice c.args.node c.args.at ≡ Pair p.one (Some p.other) = sym c.choice.ensures ∙ p.is ∙ ap (λ z. Pair p.one z) p.rest-is in
    let small = subst (λ z. Inside c.args.node z) is (inside l laws c.args.node c.args.at c.requires.node c.requires.at) in
    let s = pair_small l laws c.args.node c.args.at p.one p.other c.args.first c.args.rest c.in-Some-Some.part c.in-Some-Some.more c.requires.node c.requires.at is
    (drawn_rank l c.args.table.now c.args.node p.one c.args.first c.in-Some-Some.part c.requires.table small.0 c.in-Some-Some.ensures)
    (drawn_rank l c.args.table.now c.args.node p.other c.args.rest c.in-Some-Some.more c.requires.table small.1 c.in-Some-Some.ensures') in
    omega (arith, s.1)

pub returns-then-rest-eq0-clause-measure : goal.returns-then-rest-eq0-clause-measure
returns-then-rest-eq0-clause-measure g c =
    subst (λ z. IsMeasure (g.L.Lattice.shape c.args.lattice.now) ((g.L.Lattice.shape c.args.lattice.now).choice c.args.node c.args.at) c.args.first c.args.rest (Some (c.in-Leaf.price, z))) (sym c.len-length.ensures.value)
    (leaf_measure (g.L.Lattice.shape c.args.lattice.now) c.args.node c.args.at c.args.first c.args.rest c.in-Leaf.price c.in-Leaf.word (sym c.choice.ensures ∙ c.in-Leaf.is) c.if-first-eq0.true c.if-rest-eq0.true)

pub returns-in-Some-clause-measure : goal.returns-in-Some-clause-measure
returns-in-Some-clause-measure g c =
    let l = g.L.Lattice.shape c.args.lattice.now in
    let laws = g.met.L.Lattice.laws c.args.lattice.now in
    let p = c.in-Pair-default-None in
    let is : l.choice c.args.node c.args.at ≡ Pair p.one None = sym c.choice.ensures ∙ p.is ∙ ap (λ z. Pair p.one z) p.rest-is in
    let small = subst (λ z. Inside c.args.node z) is (inside l laws c.args.node c.args.at c.requires.node c.requires.at) in
    alone_measure l c.args.node c.args.at p.one c.args.first c.args.rest c.in-Some.part is (drawn_rank l c.args.table.now c.args.node p.one c.args.first c.in-Some.part c.requires.table small c.in-Some.ensures) c.if-rest-eq0-2.true

pub returns-in-Some-clause-held : goal.returns-in-Some-clause-held
returns-in-Some-clause-held g c =
    let l = g.L.Lattice.shape c.args.lattice.now in
    let p = c.in-Pair-default-None in
    let is : l.choice c.args.node c.args.at ≡ Pair p.one None = sym c.choice.ensures ∙ p.is ∙ ap (λ z. Pair p.one z) p.rest-is in
    subst (λ z. HeldBy c.args.table.now z c.args.first c.args.rest) (sym is) (drawn_counts c.args.table.now p.one c.args.first c.in-Some.part c.in-Some.ensures)

pub returns-in_default-3-clause-measure : goal.returns-in_default-3-clause-measure
returns-in_default-3-clause-measure g c =
    let l = g.L.Lattice.shape c.args.lattice.now in
    let p = c.in-Pair-default-None in
    let is : l.choice c.args.node c.args.at ≡ Pair p.one None = sym c.choice.ensures ∙ p.is ∙ ap (λ z. Pair p.one z) p.rest-is in
    no_alone l c.args.table.now c.args.node c.args.at c.args.first c.args.rest p.one is (subst (λ z. ArePartsDrawnTo l c.args.table.now z c.args.first c.args.rest) is c.requires.parts) c.in_default.ensures

pub returns-in-Some-Some-clause-measure : goal.returns-in-Some-Some-clause-measure
returns-in-Some-Some-clause-measure g c =
    let l = g.L.Lattice.shape c.args.lattice.now in
    let laws = g.met.L.Lattice.laws c.args.lattice.now in
    let p = c.in-Pair-default-Some in
    let is : l.choice c.args.node c.args.at ≡ Pair p.one (Some p.other) = sym c.choice.ensures ∙ p.is ∙ ap (λ z. Pair p.one z) p.rest-is in
    let small = subst (λ z. Inside c.args.node z) is (inside l laws c.args.node c.args.at c.requires.node c.requires.at) in
    pair_measure l c.args.node c.args.at p.one p.other c.args.first c.args.rest c.in-Some-Some.part c.in-Some-Some.more is
    (drawn_rank l c.args.table.now c.args.node p.one c.args.first c.in-Some-Some.part c.requires.table small.0 c.in-Some-Some.ensures)
    (drawn_rank l c.args.table.now c.args.node p.other c.args.rest c.in-Some-Some.more c.requires.table small.1 c.in-Some-Some.ensures')

pub returns-in-Some-Some-clause-held : goal.returns-in-Some-Some-clause-held
returns-in-Some-Some-clause-held g c =
    let l = g.L.Lattice.shape c.args.lattice.now in
    let p = c.in-Pair-default-Some in
    let is : l.choice c.args.node c.args.at ≡ Pair p.one (Some p.other) = sym c.choice.ensures ∙ p.is ∙ ap (λ z. Pair p.one z) p.rest-is in
    subst (λ z. HeldBy c.args.table.now z c.args.first c.args.rest) (sym is)
    (drawn_counts c.args.table.now p.one c.args.first c.in-Some-Some.part c.in-Some-Some.ensures, drawn_counts c.args.table.now p.other c.args.rest c.in-Some-Some.more c.in-Some-Some.ensures')

pub returns-in_default-2-clause-measure : goal.returns-in_default-2-clause-measure
returns-in_default-2-clause-measure g c =
    let l = g.L.Lattice.shape c.args.lattice.now in
    let p = c.in-Pair-default-Some in
    let is : l.choice c.args.node c.args.at ≡ Pair p.one (Some p.other) = sym c.choice.ensures ∙ p.is ∙ ap (λ z. Pair p.one z) p.rest-is in
    let drawn = subst (λ z. ArePartsDrawnTo l c.args.table.now z c.args.first c.args.rest) is c.requires.parts in
    no_second l c.args.table.now c.args.node c.args.at c.args.first c.args.rest p.one p.other is drawn.1 c.in_default-2.ensures'

pub returns-in_default-2-2-clause-measure : goal.returns-in_default-2-2-clause-measure
returns-in_default-2-2-clause-measure g c =
    let l = g.L.Lattice.shape c.args.lattice.now in
    let p = c.in-Pair-default-Some in
    let is : l.choice c.args.node c.args.at ≡ Pair p.one (Some p.other) = sym c.choice.ensures ∙ p.is ∙ ap (λ z. Pair p.one z) p.rest-is in
    let drawn = subst (λ z. ArePartsDrawnTo l c.args.table.now z c.args.first c.args.rest) is c.requires.parts in
    let e = c.drawn-in-Pair-default-Some.ensures in
    no_first l c.args.table.now c.args.node c.args.at c.args.first c.args.rest p.one p.other is drawn.0
    (subst (λ z. MatchOption z (count c.args.table.now p.one ≤ c.args.first) (IsDrawn c.args.table.now p.one c.args.first)) c.in_default-2.is-0 e)
