use Rattle.std.proofs.Common.{refl, inl, inr}
use Rattle.joint_paths.proofs.join_ends.JoinEnds.keep_place.Goals as goal

pub returns-in_err-insert-clause-places : goal.returns-in_err-insert-clause-places
returns-in_err-insert-clause-places c = inl refl

pub returns-in_err-push-clause-places : goal.returns-in_err-push-clause-places
returns-in_err-push-clause-places c = inl c.in_err-push.ensures.items

pub returns-clause-places : goal.returns-clause-places
returns-clause-places c = inr c.in_ok-push.ensures.items
