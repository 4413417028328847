use Rattle.std.proofs.Common.{◌≡◌, IfOk, rules}
use Rattle.whole_case.specs.Texts.{refusal_text}
use Rattle.shop_book.proofs.CalendarReplies.{faulted_calendar, refused_calendar, told_calendar}
use Rattle.shop_book.proofs.calendars.calendar_text.Goals as goal

-- the request is refused
pub returns-in-Err-Refused : goal.returns-in-Err-Refused
returns-in-Err-Refused c =
    let text : IfOk c.refused.result (λ o. o.text ≡ refusal_text c.in-Err-Refused.refusal) = search rules in
    refused_calendar c.args.book.now c.args.spans c.args.budget c.args.request.now c.refused.result c.in-Err-Refused.field-0 c.in-Err-Refused.refusal
    c.in-Err-Refused.ensures.request c.in-Err-Refused.field-0-is c.refused.ensures.status text

-- its days are priced
pub returns-in-Ok-calendar : goal.returns-in-Ok-calendar
returns-in-Ok-calendar c =
    told_calendar c.args.book.now c.args.spans c.args.budget c.args.request.now c.told.result c.in-Ok.asked c.in-Ok.ensures.request c.in-Ok-calendar.ensures.cells.spanned c.told.ensures.status c.told.ensures.text

-- it has no such calendar
pub returns-in-Err : goal.returns-in-Err
returns-in-Err c =
    faulted_calendar c.args.book.now c.args.spans c.args.budget c.args.request.now c.faulted.result c.in-Ok.asked c.in-Ok.ensures.request c.in-Err.fault c.in-Ok.ensures.right c.in-Err.ensures.cause c.faulted.ensures.status c.faulted.ensures.text
