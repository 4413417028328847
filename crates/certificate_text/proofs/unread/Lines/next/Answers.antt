use Rattle.certificate_text.proofs.TakingLemmas.{cut_takes}
use Rattle.certificate_text.proofs.unread.Lines.next.Goals as goal

pub returns-in_ok-line-in-Text : goal.returns-in_ok-line-in-Text
returns-in_ok-line-in-Text c =
    let t = cut_takes c.cuts_tell.ensures.first c.in-Text.text.now c.in_ok-line-in-Text.line.now c.in_ok-line-in-Text.text.now c.in-Text.number c.in_ok-line-in-Text.ensures in
    rw c.in-Text.is t
