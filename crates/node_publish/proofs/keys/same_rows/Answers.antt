use Rattle.std.proofs.Common.{◌≡◌, ◌<◌, length, take, slice_index_or, refl, sym, subst, ap, ◌∙◌, arith}
use Rattle.std.proofs.lemmas.List.{get_or_default}
use Rattle.node_publish.proofs.SameRows.{all_rows, row_whole, rows_more}
use Rattle.node_publish.proofs.keys.same_rows.Goals as goal

pub loop-at-init : goal.loop-at-init
loop-at-init c = refl

pub same_rule-requires-clause-before : goal.same_rule-requires-clause-before
same_rule-requires-clause-before c =
    let n = c.loop-at.at in
    ap (take n) (ap (λ s. s.rows) (sym c.one.view_is) ∙ sym c.as_slice-ours.ensures) ∙ c.loop-at.invariant ∙ ap (take n) (c.as_slice-theirs.ensures ∙ ap (λ s. s.rows) c.other.view_is)

pub loop-at-preserved : goal.loop-at-preserved
loop-at-preserved c =
    let n = c.loop-at.at in
    let ours = c.as_slice-ours.result.now in
    let theirs = c.as_slice-theirs.result.now in
    let d = c.index-ours-at.result in
    let e = c.index-theirs-at.result in
    let within : n < length theirs = subst (λ k. n < k) c.if-ours-theirs.false c.loop-at-test.true in
    let our_rows : c.args.one.now.rows ≡ ours = ap (λ s. s.rows) (sym c.one.view_is) ∙ sym c.as_slice-ours.ensures in
    let their_rows : c.args.other.now.rows ≡ theirs = ap (λ s. s.rows) (sym c.other.view_is) ∙ sym c.as_slice-theirs.ensures in
    let they : slice_index_or theirs n d ≡ e = get_or_default theirs n d e within ∙ sym c.index-theirs-at.is in
    let fares : d.fare ≡ (slice_index_or theirs n d).fare =
    ap (λ r. r.fare) c.index-ours-at.is ∙ c.is.ensures.0 c.if-not-is.false ∙ ap (λ r. r.fare) (sym c.index-theirs-at.is ∙ sym they) in
    let rules : d.rule ≡ (slice_index_or theirs n d).rule =
    ap (λ r. r.rule) (c.index-ours-at.is ∙ ap (λ xs. slice_index_or xs n d) (sym our_rows)) ∙ c.same_rule.ensures.0 c.if-not-same_rule.false d ∙ ap (λ xs. (slice_index_or xs n d).rule) their_rows in
    rows_more ours theirs n d c.loop-at-test.true within c.loop-at.invariant (sym c.index-ours-at.is ∙ row_whole d (slice_index_or theirs n d) fares rules)

pub returns : goal.returns
returns c =
    let ours = c.as_slice-ours.result.now in
    let theirs = c.as_slice-theirs.result.now in
    let end : c.loop-at.at ≡ length ours = omega (arith, c.loop-at.auto.at-end, c.loop-at-test.false) in
    let our_rows : c.args.one.now.rows ≡ ours = ap (λ s. s.rows) (sym c.one.view_is) ∙ sym c.as_slice-ours.ensures in
    let their_rows : c.args.other.now.rows ≡ theirs = ap (λ s. s.rows) (sym c.other.view_is) ∙ sym c.as_slice-theirs.ensures in
    let same = our_rows ∙ all_rows ours theirs c.if-ours-theirs.false (subst (λ k. take k ours ≡ take k theirs) end c.loop-at.invariant) ∙ sym their_rows in
    (λ _. same, λ _. refl)
