-- What each reader's fault is as the refusal of a case. Want of memory refuses no case.
use Rattle.std.specs.Prelude.{◌≡◌, ⊤, ℕ, Option, Some, None, option_map}
use Rattle.case_text.specs.declared.faults.CaseFault.{CaseFault}
use Rattle.case_text.specs.declared.faults.CaseFault.TheVariants as form
use Rattle.certificate_text.specs.declared.faults.CertFault.{CertFault}
use Rattle.certificate_text.specs.declared.faults.CertFault.TheVariants as certificate
use Rattle.fare_filing.specs.declared.fault.FilingFault.{FilingFault}
use Rattle.fare_filing.specs.declared.fault.FilingFault.TheVariants as filing
use Rattle.request_text.specs.declared.fault.RequestFault.{RequestFault}
use Rattle.request_text.specs.declared.fault.RequestFault.TheVariants as request
use Rattle.fare_verdict.specs.declared.faults.TicketFault.{TicketFault}
use Rattle.fare_verdict.specs.declared.faults.TicketFault.TheVariants as ticket
use Rattle.rule_text.specs.declared.fault.RuleFault.{RuleFault}
use Rattle.rule_text.specs.declared.fault.RuleFault.TheVariants as rule
use Rattle.schedule_book.specs.declared.faults.SchedFault.{SchedFault}
use Rattle.schedule_book.specs.declared.faults.SchedFault.TheVariants as rows
use Rattle.whole_case.specs.declared.refusals.LoadFault.{LoadFault}
use Rattle.whole_case.specs.declared.refusals.LoadFault.TheVariants.{Refused, Mem}
use Rattle.whole_case.specs.declared.refusals.Reason.{Reason}
use Rattle.whole_case.specs.declared.refusals.Reason.TheVariants.{NoEnd, UnknownSection, Order, BadRow, TooMany, AfterEnd, PlaceTwice, UnknownPlace, SamePlace, BadPeriod, ArrivesBefore, Twice, Syntax, Shape, ActionShape, ActionRule, BadRequest, Ticket, Count}
use Rattle.whole_case.specs.declared.refusals.Refusal.{Refusal}
use Rattle.whole_case.specs.declared.refusals.RuleWhy.TheVariants.{Missing, Unknown, Range}

-- a reason at a line
abbrev pub refused_at : ℕ → Reason → Refusal
refused_at line reason = record { line = line; reason = reason }

abbrev pub of_form : CaseFault → Option Refusal
of_form (form.NoEnd line) = Some (refused_at line NoEnd)
of_form (form.UnknownSection line) = Some (refused_at line UnknownSection)
of_form (form.Order line) = Some (refused_at line Order)
of_form (form.BadRow line column) = Some (refused_at line (BadRow column))
of_form (form.TooMany line) = Some (refused_at line TooMany)
of_form (form.AfterEnd line) = Some (refused_at line AfterEnd)
of_form form.Mem = None

abbrev pub of_rows : SchedFault → Option Refusal
of_rows (rows.PlaceTwice line) = Some (refused_at line PlaceTwice)
of_rows (rows.UnknownPlace line) = Some (refused_at line UnknownPlace)
of_rows (rows.SamePlace line) = Some (refused_at line SamePlace)
of_rows (rows.BadPeriod line) = Some (refused_at line BadPeriod)
of_rows (rows.ArrivesBefore line) = Some (refused_at line ArrivesBefore)
of_rows (rows.Twice line) = Some (refused_at line Twice)
of_rows (rows.TooMany line) = Some (refused_at line TooMany)
of_rows rows.Mem = None

abbrev pub rule_reason : ℕ → RuleFault → Option Reason
rule_reason action rule.Missing = Some (ActionRule action Missing)
rule_reason action rule.Unknown = Some (ActionRule action Unknown)
rule_reason action rule.Range = Some (ActionRule action Range)
rule_reason action rule.Mem = None

abbrev pub filing_reason : FilingFault → Option Reason
filing_reason filing.Syntax = Some Syntax
filing_reason (filing.Shape action) = Some (ActionShape action)
filing_reason (filing.Rule action fault) = rule_reason action fault
filing_reason filing.Mem = None

abbrev pub request_reason : RequestFault → Option Reason
request_reason request.Syntax = Some Syntax
request_reason request.Shape = Some Shape
request_reason (request.BadRequest why) = Some (BadRequest why)
request_reason request.Mem = None

abbrev pub of_ticket : TicketFault → Option Refusal
of_ticket (ticket.Line line) = Some (refused_at line Ticket)

abbrev pub of_certificate : CertFault → Option Refusal
of_certificate (certificate.Syntax line) = Some (refused_at line Syntax)
of_certificate (certificate.Count line) = Some (refused_at line Count)
of_certificate certificate.Mem = None

-- the reason is at this line
abbrev pub at_line : ℕ → Option Reason → Option Refusal
at_line line reason = option_map (refused_at line) reason

-- what was told is this refusal, unless memory ran out
abbrev pub IsAs : LoadFault → Option Refusal → Type 0
IsAs (Refused refusal) spelled = spelled ≡ Some refusal
IsAs Mem spelled = ⊤
