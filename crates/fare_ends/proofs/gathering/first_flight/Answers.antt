use Rattle.std.proofs.Common.{ap, get_or, option_copied, slice_get, sym, ◌∙◌}
use Rattle.fare_ends.proofs.Collected.{first_begins, first_unknown}
use Rattle.fare_ends.proofs.gathering.first_flight.Goals as goal

pub returns-in-Some-clause-some : goal.returns-in-Some-clause-some
returns-in-Some-clause-some c =
    let b = c.args.book.now in
    let ns = c.args.numbers.now in
    let n = get_or ns 0 0 in
    first_begins b ns c.in-Some.flight.now c.in-len1-up.len_at_least (ap (λ l. slice_get l n) (c.schedule_of.ensures.flights ∙ sym c.flights-all.ensures.flights) ∙ sym c.flight_of.ensures ∙ ap option_copied c.in-Some.is)

pub returns-in-None-clause-none : goal.returns-in-None-clause-none
returns-in-None-clause-none c = λ fs m some.
    let b = c.args.book.now in
    let ns = c.args.numbers.now in
    let n = get_or ns 0 0 in
    first_unknown b ns fs c.in-len1-up.len_at_least m (ap (λ l. slice_get l n) (c.schedule_of.ensures.flights ∙ sym c.flights-all.ensures.flights) ∙ sym c.flight_of.ensures ∙ ap option_copied c.in-None.is)
