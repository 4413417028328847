use Rattle.std.proofs.Common.{◌∙◌}
use Rattle.fare_calendar.proofs.columns.column_on.Goals as goal

pub column_request-request-requires-clause-right : goal.column_request-request-requires-clause-right
column_request-request-requires-clause-right c = c.requires.asked.right

pub column_request-request-requires-clause-two : goal.column_request-request-requires-clause-two
column_request-request-requires-clause-two c = c.requires.asked.two

pub values_on-requires-clause-book : goal.values_on-requires-clause-book
values_on-requires-clause-book c = c.new-steps.ensures.book

pub values_on-requires-clause-request : goal.values_on-requires-clause-request
values_on-requires-clause-request c = c.new-steps.ensures.request ∙ c.column_request-request.ensures

pub returns : goal.returns
returns c = c.values_on.ensures
