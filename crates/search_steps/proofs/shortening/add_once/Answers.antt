use Rattle.std.proofs.Common.{[], ◌∷◌, ◌++◌, subst, sym}
use Rattle.search_steps.specs.Shortening.{IsShorter}
use Rattle.search_steps.proofs.Shorter.{shorter_itself}
use Rattle.search_steps.proofs.shortening.add_once.Goals as goal

pub returns-in_ok-push-in-Err : goal.returns-in_ok-push-in-Err
returns-in_ok-push-in-Err c = subst (IsShorter (c.args.kept.now.items ++ c.args.step.now ∷ [])) (sym c.in_ok-push-in-Err.ensures.items) (shorter_itself (c.args.kept.now.items ++ c.args.step.now ∷ []))
