use Rattle.std.proofs.Common.{length, refl}
use Rattle.std.proofs.lemmas.Option.{slice_get_read}
use Rattle.component_table.proofs.networks.known_for.Goals as goal

pub returns-then-found-slice : goal.returns-then-found-slice
returns-then-found-slice c =
    let xs = c.args.tails.now in
    let found = c.in_ok-found.ensures.lookup in
    record {
      tails = c.in_ok-found.found.now;
      stands = slice_get_read xs (length xs) c.in_ok-at.at c.in_ok-found.found.now refl found.3.0 found.1;
      place_is = c.is.ensures.0 c.if-is.true;
      slice_is = c.if-found-slice.true;
    }
