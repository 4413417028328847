use Rattle.std.proofs.Common.{◌∙◌, refl, arith}
use Rattle.serving.proofs.LineSteps.{replies_all, reply_more}
use Rattle.serving.proofs.replies.push_replies.Goals as goal

pub loop-at-preserved : goal.loop-at-preserved
loop-at-preserved c =
    let less = c.loop-at-test.true in
    reply_more c.args.searches.now c.args.replies.now c.args.texts.now c.loop-at.at _ _ c.index-replies-at.result c.index-replies-at.result c.as_slice.result.now c.index-texts-at.result c.loop-at.text.items c.push_reply.new.text.items _
    less (omega (arith, less, c.requires.replies)) (omega (arith, less, c.requires.replies, c.requires.texts)) refl c.index-replies-at.is (c.as_slice.ensures ∙ c.index-texts-at.is) c.in_ok-push_reply.ensures c.loop-at.invariant

pub returns : goal.returns
returns c = replies_all c.args.searches.now c.args.replies.now c.args.texts.now c.loop-at.at c.loop-at.text.items _ c.loop-at-test.false c.loop-at.invariant
