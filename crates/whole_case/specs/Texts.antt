-- The text of a refusal: its line and its reason.
use Rattle.std.specs.Prelude.{ℕ, List, ◌++◌, codes, decimal}
use Rattle.fare_law.specs.declared.filings.BookWhy.{BookWhy}
use Rattle.fare_law.specs.declared.filings.BookWhy.TheVariants as book
use Rattle.fare_law.specs.declared.requests.Why.{Why}
use Rattle.fare_law.specs.declared.requests.Why.TheVariants as request
use Rattle.whole_case.specs.declared.refusals.Reason.{Reason}
use Rattle.whole_case.specs.declared.refusals.Reason.TheVariants.{NoEnd, UnknownSection, Order, BadRow, TooMany, AfterEnd, PlaceTwice, UnknownPlace, SamePlace, BadPeriod, ArrivesBefore, Twice, Syntax, Shape, ActionShape, ActionRule, ActionRefused, BadRequest, NotTwo, Span, Ticket, Script, Count, NoVersion}
use Rattle.whole_case.specs.declared.refusals.Refusal.{Refusal}
use Rattle.whole_case.specs.declared.refusals.RuleWhy.{RuleWhy}
use Rattle.whole_case.specs.declared.refusals.RuleWhy.TheVariants as rule

abbrev pub rule_text : RuleWhy → List ℕ
rule_text rule.Missing = codes "Missing"
rule_text rule.Unknown = codes "Unknown"
rule_text rule.Range = codes "Range"

abbrev pub book_text : BookWhy → List ℕ
book_text book.SamePlace = codes "SamePlace"
book_text book.OddRound = codes "OddRound"
book_text book.NoRule = codes "NoRule"
book_text book.RuleInUse = codes "RuleInUse"
book_text book.NoFare = codes "NoFare"
book_text book.Limit = codes "Limit"
book_text book.NoSeats = codes "NoSeats"

abbrev pub request_text : Why → List ℕ
request_text request.Slices = codes "Slices"
request_text request.Party = codes "Party"
request_text request.Best = codes "Best"
request_text request.Window = codes "Window"
request_text request.SamePlace = codes "SamePlace"
request_text request.UnknownPlace = codes "UnknownPlace"

-- an action by its number, and what is wrong with it
abbrev pub action_text : ℕ → List ℕ → List ℕ
action_text action why = codes "action " ++ (decimal action ++ (codes " " ++ why))

abbrev pub reason_text : Reason → List ℕ
reason_text NoEnd = codes "NoEnd"
reason_text UnknownSection = codes "UnknownSection"
reason_text Order = codes "Order"
reason_text (BadRow column) = codes "BadRow column " ++ decimal column
reason_text TooMany = codes "TooMany"
reason_text AfterEnd = codes "AfterEnd"
reason_text PlaceTwice = codes "PlaceTwice"
reason_text UnknownPlace = codes "UnknownPlace"
reason_text SamePlace = codes "SamePlace"
reason_text BadPeriod = codes "BadPeriod"
reason_text ArrivesBefore = codes "ArrivesBefore"
reason_text Twice = codes "Twice"
reason_text Syntax = codes "Syntax"
reason_text Shape = codes "Shape"
reason_text (ActionShape action) = action_text action (codes "Shape")
reason_text (ActionRule action why) = action_text action (codes "Rule " ++ rule_text why)
reason_text (ActionRefused action why) = action_text action (book_text why)
reason_text (BadRequest why) = codes "BadRequest " ++ request_text why
reason_text NotTwo = codes "NotTwo"
reason_text Span = codes "Span"
reason_text Ticket = codes "Ticket"
reason_text Script = codes "Script"
reason_text Count = codes "Count"
reason_text NoVersion = codes "NoVersion"

-- the line that is printed
abbrev pub refusal_text : Refusal → List ℕ
refusal_text refusal = codes "refused " ++ (decimal refusal.line ++ (codes " " ++ (reason_text refusal.reason ++ codes "\n")))
