use Rattle.lowfare.proofs.MakeMakes.{large_made, never_made, summed_made}
use Rattle.lowfare.proofs.making.summarized.Goals as goal

-- the made case was searched
pub returns-in-Answered-clause-makes : goal.returns-in-Answered-clause-makes
returns-in-Answered-clause-makes c =
    summed_made c.args.seed c.args.size c.args.bytes c.requires.made c.in_ok-searched.searched c.in_ok-searched.ensures c.summed.result c.in-Answered.found c.in-Answered.answer c.in-Answered.is c.summed.ensures.status c.summed.ensures.text

-- it is too large
pub returns-in-Beyond-clause-makes : goal.returns-in-Beyond-clause-makes
returns-in-Beyond-clause-makes c =
    large_made c.args.seed c.args.size c.args.bytes c.requires.made c.in_ok-searched.searched c.in_ok-searched.ensures c.too_large.result c.in-Beyond.is c.too_large.ensures.status c.too_large.ensures.text

-- it is never refused
pub unreachable-requires : goal.unreachable-requires
unreachable-requires c =
    never_made c.args.seed c.args.size c.args.bytes c.requires.made c.in_ok-searched.searched c.in_ok-searched.ensures c.made_cases_are_taken.ensures (c.requires.range.1) c.in-NoCase.is
