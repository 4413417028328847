use Rattle.std.proofs.Common.{◌≡◌, ◌<◌, ◌-◌, ℕ, pos, w64, [], get_or, int_lt, arith, ap, sym, ◌∙◌}
use Rattle.std.proofs.lemmas.Int.{to_z-of_z}
use Rattle.fare_law.specs.declared.flights.Flight.{Flight}
use Rattle.law_lemmas.proofs.Tests.{untrue}
use Rattle.schedule_book.proofs.Lower.{instant_between}
use Rattle.schedule_book.proofs.times.stands_at.Goals as goal

some : (n : ℕ) → (n ≡ 0 → ⊥) → 0 < n
some n ne = omega (arith, ne)

abbrev no_flight : Flight
no_flight = record { carrier = record { 0 = [] }; number = 0; from = record { 0 = [] }; to = record { 0 = [] }; day = pos 0; minute = 0; dep = pos 0; arr = pos 0 }

pub returns-clause-point : goal.returns-clause-point
returns-clause-point c = λ t.
    let fs = c.args.flights.now in
    let plain = to_z-of_z w64 c.args.at c.ranges.at in
    let low = ap (int_lt (get_or fs (c.args.place - 1) no_flight).dep) (sym plain) ∙ sym c.is_before.ensures ∙ c.if-not-is_before.false in
    let high = ap (int_lt (get_or fs c.args.place no_flight).dep) (sym plain) ∙ sym c.is_before-2.ensures ∙ untrue c.is_before-2.result t in
    instant_between fs c.args.at c.args.place no_flight c.requires (some c.args.place c.if-place-eq0.false) c.if-flights-place.false low high
