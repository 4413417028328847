use Rattle.std.proofs.Common.{refl, inl, inr}
use Rattle.joint_paths.proofs.join_ends.JoinEnds.keep.Goals as goal

pub returns-in_err-insert-clause-kept : goal.returns-in_err-insert-clause-kept
returns-in_err-insert-clause-kept c = inl refl

pub returns-in_err-push-clause-kept : goal.returns-in_err-push-clause-kept
returns-in_err-push-clause-kept c = inl c.in_err-push.ensures.items

pub returns-clause-kept : goal.returns-clause-kept
returns-clause-kept c = inr c.in_ok-push.ensures.items
