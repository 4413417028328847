use Rattle.lowfare.proofs.SearchMakes.{done_made, large_made, refused_made}
use Rattle.lowfare.proofs.searching.searched.Goals as goal

-- the case was searched
pub returns-in-Answered-clause-makes : goal.returns-in-Answered-clause-makes
returns-in-Answered-clause-makes c =
    done_made c.args.best c.args.budget c.args.at c.args.bytes c.in_ok-searched.searched c.in_ok-searched.ensures c.done.result c.in-Answered.found c.in-Answered.answer c.in-Answered.is c.done.ensures.status c.done.ensures.text

-- it is too large
pub returns-in-Beyond-clause-makes : goal.returns-in-Beyond-clause-makes
returns-in-Beyond-clause-makes c =
    large_made c.args.best c.args.budget c.args.at c.args.bytes c.in_ok-searched.searched c.in_ok-searched.ensures c.too_large.result c.in-Beyond.is c.too_large.ensures.status c.too_large.ensures.text

-- the bytes spell no case
pub returns-in-NoCase-clause-makes : goal.returns-in-NoCase-clause-makes
returns-in-NoCase-clause-makes c =
    refused_made c.args.best c.args.budget c.args.at c.args.bytes c.in_ok-searched.searched c.in_ok-searched.ensures c.refused.result c.in-NoCase.refusal c.in-NoCase.is c.refused.ensures.status c.refused.ensures.text
