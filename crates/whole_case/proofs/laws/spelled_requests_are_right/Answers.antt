use Rattle.whole_case.proofs.RightRequests.{calendar_right, checked_right, searched_right, verdict_right}
use Rattle.whole_case.proofs.laws.spelled_requests_are_right.Goals as goal

pub returns-clause-search : goal.returns-clause-search
returns-clause-search c = searched_right

pub returns-clause-check : goal.returns-clause-check
returns-clause-check c = checked_right

pub returns-clause-calendar : goal.returns-clause-calendar
returns-clause-calendar c = calendar_right

pub returns-clause-verdict : goal.returns-clause-verdict
returns-clause-verdict c = verdict_right
