-- The order in which the names of rows are held.
use Rattle.std.specs.Prelude.{◌≡◌, ◌+◌, ◌*◌, ◌<◌, ℕ, List, length, slice_index}
use Rattle.std.specs.Cmp.{IsEquivalence, IsTotalOrder, eq_by_cmp_equiv, int_cmp_total, nat_cmp_total, on_total, then_total}
use Rattle.std.specs.Cmp.Lexicographic.{nat_list_cmp_total, options_total, slice_cmp}
use Rattle.std.specs.Option.{option_cmp}
use Rattle.std.specs.Ordering.{eq_by_cmp, int_cmp, nat_cmp, on, then_cmp}
use Rattle.std.specs.declared.cmp.Ordering.{Ordering}
use Rattle.fare_law.specs.declared.filings.SeatKey.{SeatKey}

-- so many bytes
abbrev pub AreBytes : ℕ → List ℕ → Type 0
AreBytes n letters = (length letters ≡ n) × ((i : ℕ) → slice_index letters i < 256)

-- a carrier and a flight number as one number
abbrev pub flight_code : SeatKey → ℕ
flight_code key = slice_index key.carrier.0 0 + 256 * slice_index key.carrier.0 1 + 65536 * key.number

-- an origin as a number
abbrev pub place_code : SeatKey → ℕ
place_code key = slice_index key.from.0 0 + 256 * slice_index key.from.0 1 + 65536 * slice_index key.from.0 2

-- by what the two numbers are made of: two letters, a flight number and three letters tie where the numbers do
abbrev pub compare_letters : SeatKey → SeatKey → Ordering
compare_letters = then_cmp (on (λ key. key.carrier.0) (slice_cmp nat_cmp)) (then_cmp (on (λ key. key.number) nat_cmp) (on (λ key. key.from.0) (slice_cmp nat_cmp)))

-- by the two numbers and the day, and by letters where these tie
abbrev pub compare_names : SeatKey → SeatKey → Ordering
compare_names = then_cmp (on flight_code nat_cmp) (then_cmp (on place_code nat_cmp) (then_cmp (on (λ key. key.day) (option_cmp int_cmp)) compare_letters))

-- ---- the laws of an order
pub names_total : IsTotalOrder compare_names
names_total =
    then_total (on_total flight_code nat_cmp_total)
    (then_total (on_total place_code nat_cmp_total)
    (then_total (on_total (λ key. key.day) (options_total int_cmp_total))
    (then_total (on_total (λ key. key.carrier.0) nat_list_cmp_total) (then_total (on_total (λ key. key.number) nat_cmp_total) (on_total (λ key. key.from.0) nat_list_cmp_total)))))

pub names_equal : IsEquivalence (eq_by_cmp compare_names)
names_equal = eq_by_cmp_equiv names_total
