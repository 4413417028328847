use Rattle.std.proofs.Common.{refl, inl, inr}
use Rattle.joint_paths.proofs.join_ends.add_place_end.Goals as goal

pub returns-then-not-has_fare-clause-added : goal.returns-then-not-has_fare-clause-added
returns-then-not-has_fare-clause-added c = inr (refl, c.has_fare.ensures c.if-not-has_fare.true)

pub returns-clause-added : goal.returns-clause-added
returns-clause-added c = inl c.in_ok-push.ensures.items
