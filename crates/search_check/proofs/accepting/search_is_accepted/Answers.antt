use Rattle.search_check.proofs.accepting.search_is_accepted.Goals as goal

pub returns-clause-lines : goal.returns-clause-lines
returns-clause-lines c = c.searches_are_accepted.ensures.lines c.args.found.now c.tell_kept.ensures c.requires

pub returns-clause-text : goal.returns-clause-text
returns-clause-text c = c.searches_are_accepted.ensures.text c.args.found.now c.tell_kept.ensures c.requires
