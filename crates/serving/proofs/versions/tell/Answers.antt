use Rattle.std.proofs.Common.{◌<◌, ◌+◌, ◌∙◌, ℕ, List, length, vec_len, refl, ap, sym, subst, arith}
use Rattle.serving.proofs.Replays.{ToldSome, all_told, none_more, none_told, one_told, others_kept}
use Rattle.serving.proofs.versions.tell.Goals as goal
use Rattle.serving.proofs.versions.tell.Goals.{then-named-number+in_ok-text, else-named-number}

pub loop-at-init : goal.loop-at-init
loop-at-init c = (refl, none_told c.args.book.now c.args.replies.now c.args.texts.now.items)

pub loop-at-preserved : goal.loop-at-preserved
loop-at-preserved c =
    let b = c.args.book.now in
    let replies = c.args.replies.now in
    let old = c.args.texts.now.items in
    let now = c.loop-at.texts in
    let at = c.loop-at.at in
    let r = c.index-replies-at.result in
    let less = c.loop-at-test.true in
    let so_far = c.loop-at.invariant in
    elim c.if-named-number.branch [
      | then-named-number+in_ok-text w ↦
          let within : at < length now.items = omega (arith, less, c.requires.lines, so_far.0, now.ok.0) in
          let names = w.if-named-number.true ∙ c.number-number.ensures.value in
          let put = ap (λ v. v.items) w.texts-is ∙ w.put.ensures.items in (
            ap vec_len w.texts-is ∙ w.put.ensures.lines ∙ so_far.0,
            one_told b replies old now.items c.if-named-number.texts.items at r w.in_ok-text.text less within c.index-replies-at.is w.in_ok-text.ensures names put so_far.1,
          )
      | else-named-number w ↦
          let same = ap (λ v. v.items) w.texts-is in
          let others = none_more b replies old now.items at r less c.index-replies-at.is (λ e. w.if-named-number.false (e ∙ sym c.number-number.ensures.value)) so_far.1 in
          (ap vec_len w.texts-is ∙ so_far.0, subst (λ (xs : List (List ℕ)). ToldSome b replies old xs (at + 1)) (sym same) others)
    ]

pub returns-clause-made : goal.returns-clause-made
returns-clause-made c = all_told c.args.book.now c.args.replies.now c.args.texts.now.items c.loop-at.texts.items c.loop-at.at c.loop-at-test.false c.loop-at.invariant.1

pub returns-clause-kept : goal.returns-clause-kept
returns-clause-kept c = others_kept c.args.book.now c.args.replies.now c.args.texts.now.items c.loop-at.texts.items c.loop-at.at c.loop-at.invariant.1
