use Rattle.std.proofs.Common.{◌↔◌, ◌∙◌, IsTrue, List, subst}
use Rattle.std.specs.List.{All}
use Rattle.ticket_whole.specs.Known.{parts_of}
use Rattle.ticket_whole.specs.declared.fares_on.FareOn.{FareOn}
use Rattle.ticket_whole.specs.FaresOn.{Combines}
use Rattle.ticket_whole.proofs.FaresCombine.{combine_told}
use Rattle.ticket_whole.proofs.fares_on.end_on_end_meets.Goals as goal

pub returns : goal.returns
returns c sale =
    let told = combine_told (parts_of c.args.book.now sale c.args.components.now) in
    let asked = subst (λ (fares : List FareOn). IsTrue c.all_combine.result ↔ All (Combines fares) fares) (c.as_slice.ensures.items ∙ c.fares_on-fares.ensures sale) c.all_combine.ensures in
    (λ t. told.0 (asked.0 t), λ h. asked.1 (told.1 h))
