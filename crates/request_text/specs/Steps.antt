-- The judgement of a request number by number, up to the first reason.
use Rattle.std.specs.Prelude.{ℕ, ℤ, pos, negsuc, Bool, nat_le, ◌&&◌, List, [], ◌∷◌, length, if◌then◌else◌, Option, Some, None, option_map, option_and_then, Result, Ok, Err, ok_or}
use Rattle.std.specs.List.{list_any}
use Rattle.fare_law.specs.Book.{same_place}
use Rattle.fare_law.specs.declared.requests.Request.{Request}
use Rattle.fare_law.specs.declared.requests.Slice.{Slice}
use Rattle.fare_law.specs.declared.requests.Why.{Why}
use Rattle.fare_law.specs.declared.requests.Why.TheVariants.{Slices, Party, Best, Window, SamePlace}
use Rattle.fare_law.specs.declared.limits.TheConstants.{MOST_PASSENGERS, MOST_SLICES, MOST_TICKETS, MOST_WINDOW_DAYS}
use Rattle.request_text.specs.declared.asked.Asked.{Asked}
use Rattle.request_text.specs.declared.asked.AskedSlice.{AskedSlice}

-- the number, if it lies from low to high
abbrev pub between : ℕ → ℕ → ℤ → Option ℕ
between low high (pos n) = if nat_le low n && nat_le n high then Some n else None
between low high (negsuc n) = None

-- the slice, if its window has 1 to `MOST_WINDOW_DAYS` days
abbrev pub windowed : AskedSlice → Option Slice
windowed s = option_map (λ days. record { from = s.from; to = s.to; first = s.first; days = days }) (between 1 MOST_WINDOW_DAYS s.days)

-- each slice, if each has such a window
abbrev pub each_windowed : List AskedSlice → Option (List Slice)
each_windowed [] = Some []
each_windowed (s ∷ ss) = option_and_then (λ x. option_map (λ xs. x ∷ xs) (each_windowed ss)) (windowed s)

abbrev pub stays : Slice → Bool
stays s = same_place s.from s.to

-- from one judgement to the next, up to the first reason
infixl 10 ◌>>=◌
abbrev pub ◌>>=◌ : {A B E : Type 0} → Result A E → (A → Result B E) → Result B E
(Ok a) >>= f = f a
(Err e) >>= f = Err e

-- the request that is asked for, or the first reason for which it is refused
unfoldable pub in_turn : Asked → Result Request Why
in_turn a = if nat_le 1 (length a.slices) && nat_le (length a.slices) MOST_SLICES then (do
  party ← ok_or (between 1 MOST_PASSENGERS a.terms.party) Party
  best ← ok_or (between 1 MOST_TICKETS a.terms.best) Best
  slices ← ok_or (each_windowed a.slices) Window
  if list_any stays slices then Err SamePlace
      else Ok (record { sale = a.terms.sale; party = party; best = best; slices = slices })) else Err Slices
