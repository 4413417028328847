use Rattle.std.proofs.Common.{◌≡◌, ◌++◌, drop}
use Rattle.serving.specs.Replaying.{replies_text}
use Rattle.serving.proofs.replies.push_replies.Given as goal

-- with the replies that are left the text is whole
abbrev pub invariant-loop-at : goal.invariant-loop-at
invariant-loop-at l = l.text.items ++ replies_text (drop l.at l.searches) (drop l.at l.replies) (drop l.at l.texts) ≡ l.initial.text.items ++ replies_text l.searches l.replies l.texts
