-- The text of what came of a search.
use Rattle.std.specs.Prelude.{◌≡◌, ℕ, List, map, codes}
use Rattle.answer_text.specs.Answer.{AnswerText, IsRight}
use Rattle.fare_law.specs.Book.{Book}
use Rattle.fare_law.specs.Lists.{Each}
use Rattle.fare_law.specs.declared.requests.Request.{Request}
use Rattle.serve_desks.specs.declared.log.Body.{Body}
use Rattle.serve_desks.specs.declared.log.Body.TheVariants.{Tickets, TooLarge}

-- the text of the tickets' answer, or that the search is too large
abbrev pub BodyText : Book → Request → Body → List ℕ → Type 0
BodyText b q (Tickets tickets) text = AnswerText b q (map (λ t. t.ticket) tickets) text
BodyText b q TooLarge text = text ≡ codes "too large\n"

-- the tickets, if any, are lawful ones at their prices
abbrev pub IsRightBody : Book → Request → Body → Type 0
IsRightBody b q (Tickets tickets) = Each (IsRight b q) tickets
IsRightBody b q TooLarge = Unit {0}
