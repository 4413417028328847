use Rattle.std.proofs.Common.{◌≡◌, IfOk, rules}
use Rattle.whole_case.specs.Cases.{calendar_case}
use Rattle.whole_case.specs.Texts.{refusal_text}
use Rattle.program_words.specs.declared.commands.Command.TheVariants.{Calendar}
use Rattle.lowfare.specs.Makes.{Makes}
use Rattle.lowfare.proofs.CalendarMakes.{no_cause, told_made}
use Rattle.lowfare.proofs.Refusing.{refused_ends}
use Rattle.lowfare.proofs.calendars.days_priced.Goals as goal

-- the bytes spell no case
pub returns-in-Err-Refused-clause-makes : goal.returns-in-Err-Refused-clause-makes
returns-in-Err-Refused-clause-makes c =
    let spans = c.args.spans in
    let text : IfOk c.refused.result (λ o. o.text ≡ refusal_text c.in-Err-Refused.refusal) = search rules in
    refused_ends (calendar_case spans.outs spans.backs c.args.at c.args.bytes) (Makes (Calendar spans.outs spans.backs c.args.budget c.args.at) c.args.bytes) (λ t h. h)
    c.refused.result c.in-Err-Refused.field-0 c.in-Err-Refused.refusal c.in-Err-Refused.ensures c.in-Err-Refused.field-0-is c.refused.ensures.status text

-- the cells are told
pub returns-in-Ok-calendar-clause-makes : goal.returns-in-Ok-calendar-clause-makes
returns-in-Ok-calendar-clause-makes c =
    told_made c.args.spans c.args.budget c.args.at c.args.bytes c.told.result c.in-Ok.found c.in-Ok.ensures c.told.ensures.status c.told.ensures.text

-- a case with a calendar has no other fault
pub want_of_memory-requires : goal.want_of_memory-requires
want_of_memory-requires c =
    let found = c.in-Ok.found in
    let spans = c.args.spans in
    let right = c.spelled_requests_are_right.ensures.calendar spans.outs spans.backs c.args.at c.args.bytes found c.in-Ok.ensures in
    let two = c.spelled_calendars_fit.ensures.two spans.outs spans.backs c.args.at c.args.bytes found c.in-Ok.ensures in
    let fit = c.spelled_calendars_fit.ensures.spans spans.outs spans.backs c.args.at c.args.bytes found c.in-Ok.ensures in
    no_cause found.book found.request spans c.in-Err.fault right two fit c.in-Err.ensures.cause
