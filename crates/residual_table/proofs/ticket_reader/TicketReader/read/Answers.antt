use Rattle.std.proofs.Common.{◌∙◌, ◌++◌, ◌∷◌, ap}
use Rattle.word_text.specs.Words.{cut_last_at}
use Rattle.word_text.proofs.CutLemmas.{last_none}
use Rattle.residual_table.proofs.SpaceAhead.{space_ahead}
use Rattle.residual_table.proofs.ticket_reader.TicketReader.read.Goals as goal

pub returns-in-Some-before_space : goal.returns-in-Some-before_space
returns-in-Some-before_space c =
    let known = c.in-Some.known in
    let before = c.in-Some-before_space.before.now in
    let is = c.in-Some-before_space.ensures ∙ ap (λ w. before ++ 32 ∷ w) c.as_slice.ensures.value in
    record { word = known.text.items; cut = ap (cut_last_at 32) is ∙ space_ahead before known.text.items known.whole; spelled = known.spells; kept = known.kept }

pub keep-requires-clause-whole : goal.keep-requires-clause-whole
keep-requires-clause-whole c =
    last_none 32 c.in_ok-before.text.now (c.cuts_tell.ensures.last.read 32 c.args.text.now (c.in_ok-before.before.now, c.in_ok-before.text.now) c.in_ok-before.ensures).1
