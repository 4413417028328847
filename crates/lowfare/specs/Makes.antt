-- What each command makes of the bytes of its input, by the status that it ends with. `make` has no input.
use Rattle.std.specs.Prelude.{ℕ, List}
use Rattle.lowfare.specs.Calendars.{HasCalendar, TellsCalendar}
use Rattle.lowfare.specs.Cases.{ExceedsBudget, FitsBudget}
use Rattle.lowfare.specs.Checked.{Accepts, Fails, FailsCheck, MeetsChecks}
use Rattle.lowfare.specs.Made.{MakesCase, OwesCase}
use Rattle.lowfare.specs.Refusals.{HasRefusal, IsRefused}
use Rattle.lowfare.specs.Searches.{IsTooLarge, Searches}
use Rattle.lowfare.specs.Servings.{HasServing, TellsRun}
use Rattle.lowfare.specs.Verdicts.{HasTicket, TellsVerdict}
use Rattle.lowfare.specs.declared.status.Status.{Status}
use Rattle.lowfare.specs.declared.status.Status.TheVariants.{Done, Refused, TooLarge, No}
use Rattle.program_words.specs.declared.commands.Command.{Command}
use Rattle.program_words.specs.declared.commands.Command.TheVariants.{Search, Check, Make, Serve, Calendar, Verdict}
use Rattle.whole_case.specs.Cases.{calendar_case, check_case, search_case, verdict_case}
use Rattle.whole_case.specs.ServeCases.{serve_case}

-- the text that a command makes
abbrev pub Makes : Command → List ℕ → Status → List ℕ → Type 0
Makes (Search best budget at) bytes Done text = Searches best budget at bytes text
Makes (Search best budget at) bytes TooLarge text = IsTooLarge best budget at bytes text
Makes (Search best budget at) bytes Refused text = IsRefused (search_case best at bytes) text
Makes (Check best at) bytes Done text = Accepts best at bytes text
Makes (Check best at) bytes No text = Fails best at bytes text
Makes (Check best at) bytes Refused text = IsRefused (check_case best at bytes) text
Makes (Make seed size is_summary) bytes status text = MakesCase seed size is_summary status text
Makes (Serve best budget) bytes Done text = TellsRun best budget bytes text
Makes (Serve best budget) bytes Refused text = IsRefused (serve_case best bytes) text
Makes (Calendar outs backs budget at) bytes Done text = TellsCalendar outs backs budget at bytes text
Makes (Calendar outs backs budget at) bytes Refused text = IsRefused (calendar_case outs backs at bytes) text
Makes (Verdict at) bytes Done text = TellsVerdict at bytes text
Makes (Verdict at) bytes Refused text = IsRefused (verdict_case at bytes) text
Makes c bytes status text = ⊥

-- what the bytes are, where a command is to end with this status
abbrev pub Owes : Command → List ℕ → Status → Type 0
Owes (Search best budget at) bytes Done = FitsBudget best budget at bytes
Owes (Search best budget at) bytes TooLarge = ExceedsBudget best budget at bytes
Owes (Search best budget at) bytes Refused = HasRefusal (search_case best at bytes)
Owes (Check best at) bytes Done = MeetsChecks best at bytes
Owes (Check best at) bytes No = FailsCheck best at bytes
Owes (Check best at) bytes Refused = HasRefusal (check_case best at bytes)
Owes (Make seed size is_summary) bytes status = OwesCase seed size is_summary status
Owes (Serve best budget) bytes Done = HasServing best bytes
Owes (Serve best budget) bytes Refused = HasRefusal (serve_case best bytes)
Owes (Calendar outs backs budget at) bytes Done = HasCalendar outs backs at bytes
Owes (Calendar outs backs budget at) bytes Refused = HasRefusal (calendar_case outs backs at bytes)
Owes (Verdict at) bytes Done = HasTicket at bytes
Owes (Verdict at) bytes Refused = HasRefusal (verdict_case at bytes)
Owes c bytes status = ⊥

-- a status that a command ends with
abbrev pub IsEnd : Status → Type 0
IsEnd Done = Unit {0}
IsEnd Refused = Unit {0}
IsEnd TooLarge = Unit {0}
IsEnd No = Unit {0}
IsEnd status = ⊥
