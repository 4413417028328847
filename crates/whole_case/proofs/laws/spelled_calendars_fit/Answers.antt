use Rattle.whole_case.proofs.RightRequests.{calendar_has_two, calendar_spanned}
use Rattle.whole_case.proofs.laws.spelled_calendars_fit.Goals as goal

pub returns-clause-two : goal.returns-clause-two
returns-clause-two c = calendar_has_two

pub returns-clause-spans : goal.returns-clause-spans
returns-clause-spans c = calendar_spanned
