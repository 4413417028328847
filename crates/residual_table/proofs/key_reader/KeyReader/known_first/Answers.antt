use Rattle.std.proofs.Common.{◌∙◌, ◌++◌, ◌∷◌, ap}
use Rattle.residual_table.proofs.SlashAhead.{slash_ahead}
use Rattle.residual_table.proofs.key_reader.KeyReader.known_first.Goals as goal

pub returns : goal.returns
returns c =
    let known = c.in_ok-known.known.now in
    let other = c.in_ok-other.other.now in
    let is = c.in_ok-other.ensures ∙ ap (λ w. w ++ 47 ∷ other) c.as_slice.ensures.value in
    (known.text.items, slash_ahead c.cuts_tell.ensures.first c.args.text.now known.text.items other known.whole is, c.in_ok-known.ensures)
