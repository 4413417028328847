-- The sum over the legs of a key that is its home. Given on to the crates above.
use Rattle.std.proofs.Common.{◌≡◌, ℕ, ◌+◌, ◌*◌, ◌<◌, List, drop, get_or, length, ap, sym, arith}
use Rattle.std.proofs.lemmas.List.{at_drop_more}
use Rattle.fare_law.specs.declared.sheets.Leg.{Leg}
use Rattle.fare_component.specs.Homes.{flight_number, weighed}

-- one more leg
pub weighed_more : (legs : List Leg) (i times sum : ℕ) (leg : Leg) → i < length legs → leg ≡ get_or legs i leg → sum + weighed times (drop i legs) ≡ weighed 1 legs → (sum + times * flight_number leg.flight) + weighed (times + 1) (drop (i + 1) legs) ≡ weighed 1 legs
weighed_more legs i times sum leg less is h =
    let one : weighed times (drop i legs) ≡ times * flight_number (get_or legs i leg).flight + weighed (times + 1) (drop (i + 1) legs) = at_drop_more (weighed times) legs i leg less in
    let here : times * flight_number (get_or legs i leg).flight ≡ times * flight_number leg.flight = ap (λ l. times * flight_number l.flight) (sym is) in
    omega arith
