use Rattle.std.proofs.Common.{length, refl}
use Rattle.std.proofs.lemmas.Option.{slice_get_read}
use Rattle.search_steps.proofs.unit_spots.unit_at.Goals as goal

pub returns-then-steps-key-2 : goal.returns-then-steps-key-2
returns-then-steps-key-2 c =
    let xs = c.args.units.now in
    let found = c.in_ok-steps.ensures.lookup in
    record {
      steps = c.in_ok-steps.steps.now;
      stands = slice_get_read xs (length xs) c.in_ok-at.at c.in_ok-steps.steps.now refl found.3.0 found.1;
      of_place = c.if-steps-key.true;
      of_slot = c.if-steps-key-2.true;
      is_open = c.requires;
    }
