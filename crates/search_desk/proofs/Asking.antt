-- What is right for the ask of a number: for `DeskTeller::answer`.
use Rattle.std.proofs.Common.{◌≡◌, ◌-◌, ℕ, List, length, slice_get, Some, Result, Ok, Err, IfOk, OnOk, subst}
use Rattle.search_desk.specs.Outcomes.{AnswersAsk}
use Rattle.fare_law.specs.Book.{Book, Timetable}
use Rattle.fare_law.specs.Lists.{IsPrefix}
use Rattle.fare_law.specs.declared.filings.Filing.{Filing}
use Rattle.search_desk.specs.Desks.{Has}
use Rattle.serve_desks.specs.Terms.{IsRight}
use Rattle.serve_desks.specs.declared.log.Reply.{Reply}
use Rattle.serve_desks.specs.declared.workload.Ask.{Ask}

-- what a desk replied to the ask of a number is right over the timetable that it had
pub answered : {E : Type 0} (r : Result Reply E) (told : List Filing) (asks : List Ask) (request : ℕ) (ask : Ask) (before after : Book) → slice_get asks (request - 1) ≡ Some ask → after.timetable ≡ before.timetable
    → OnOk r (Has told after) → IfOk r (λ x. x.number ≡ length after.entries) → IfOk r (λ x. AnswersAsk ask after.timetable after.entries x.body)
    → IfOk r (λ x. (x.number ≡ length after.entries) × IsPrefix told after.entries × IsRight AnswersAsk (record { asks = asks; timetable = before.timetable }) request after.entries x.body)
answered (Ok x) told asks request ask before after found same has number outcome =
    (number, has.begins, (ask, found, subst (λ (t : Timetable). AnswersAsk ask t after.entries x.body) same outcome))
answered (Err fault) told asks request ask before after found same has number outcome = tt
