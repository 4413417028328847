-- A flight without a row has no seats in any class.
use Rattle.std.proofs.Common.{◌≡◌, ℕ, List, Option, Some, None, replicate, get_or, unwrap_or, refl}
use Rattle.fare_law.specs.Book.{or_else}
use Rattle.law_lemmas.proofs.Lists.{all_zero}

pub daily_seats : (daily : Option (List ℕ)) (class : ℕ) → ◌≡◌ {A = ℕ} (get_or (unwrap_or daily (replicate 32 0)) class 0) (get_or (or_else None daily) class 0)
daily_seats None class = all_zero 32 class
daily_seats (Some seats) class = refl
