use Rattle.serving.specs.Lines.{reply_line}
use Rattle.serving.proofs.LineSteps.{two_added}
use Rattle.serving.proofs.replies.push_reply.Goals as goal

pub returns : goal.returns
returns c = two_added c.args.text.now.items c.push_heading.new.text.items c.extend_from_slice.new.self.items (reply_line c.args.search.line c.args.search.desk c.args.reply.now.number) c.args.body.now c.in_ok-push_heading.ensures c.in_ok-extend_from_slice.ensures.items
