use Rattle.std.proofs.Common.{length, refl}
use Rattle.std.proofs.lemmas.Option.{slice_get_read}
use Rattle.search_steps.proofs.step_lists.position_at.Goals as goal

pub returns-then-steps-position : goal.returns-then-steps-position
returns-then-steps-position c =
    let xs = c.args.positions.now in
    let found = c.in_ok-steps.ensures.lookup in
    record {
      steps = c.in_ok-steps.steps.now;
      stands = slice_get_read xs (length xs) c.in_ok-at.at c.in_ok-steps.steps.now refl found.3.0 found.1;
      of_position = c.if-steps-position.true;
    }
