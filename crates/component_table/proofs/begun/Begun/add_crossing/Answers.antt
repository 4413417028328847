use Rattle.component_table.proofs.HeadsAdded.{crossing_none, head_begins}
use Rattle.component_table.proofs.begun.Begun.add_crossing.Goals as goal

pub crossing_head-requires-clause-first : goal.crossing_head-requires-clause-first
crossing_head-requires-clause-first c =
    let p = c.args.path.now in
    head_begins c.args.origin.now c.requires.origin p.flights c.requires.head.0 p.after c.requires.head.1

pub returns-in-None-clause-added : goal.returns-in-None-clause-added
returns-in-None-clause-added c =
    let o = c.args.origin.now in
    crossing_none o.case.now.book.now o.case.now.request.now o.at.now c.args.path.now c.args.self.now.heads.items (λ opened tail f. c.in-None.ensures.none tail f)
