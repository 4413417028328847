-- Texts of times.
use Rattle.std.proofs.Common.{◌≡◌, ◌<◌, ℕ, zero, suc, Some, refl, arith}
use Rattle.std.specs.Str.{IsAscii}
use Rattle.market_time.specs.Clock.{minute_spelled, time_text}
use Rattle.market_time.proofs.ClockLemmas.{minutes_written}

pub minute_again : (minute : ℕ) → minute < 1440 → minute_spelled (time_text minute) ≡ Some minute
minute_again minute h = (minutes_written (time_text minute) minute).1 (h, refl)

pub minute_is_ascii : (minute : ℕ) → minute < 1440 → IsAscii (time_text minute)
minute_is_ascii minute h zero = omega arith
minute_is_ascii minute h (suc zero) = omega arith
minute_is_ascii minute h (suc (suc zero)) = omega arith
minute_is_ascii minute h (suc (suc (suc zero))) = omega arith
minute_is_ascii minute h (suc (suc (suc (suc zero)))) = omega arith
minute_is_ascii minute h (suc (suc (suc (suc (suc i))))) = omega arith
