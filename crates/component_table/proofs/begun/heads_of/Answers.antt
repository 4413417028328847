use Rattle.flight_paths.specs.Heads.{AreHeads}
use Rattle.law_lemmas.proofs.Options.{if_ok_to}
use Rattle.component_table.proofs.begun.heads_of.Goals as goal

pub returns : goal.returns
returns c =
    let o = c.args.origin.now in
    let b = o.case.now.book.now in
    if_ok_to _ (AreHeads b o.case.now.request.now.slices o.at.now) c.heads.result c.heads.ensures (λ hs are. are b c.schedule_of.ensures)
