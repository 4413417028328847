-- The bits of weekdays.
use Rattle.std.proofs.Common.{◌≡◌, ◌<◌, ◌≤◌, ◌+◌, ◌-◌, ◌^◌, ℕ, suc, sym, arith, subst}
use Rattle.std.proofs.Math.Pow.{pow_mono}

-- the bit of a weekday, and what a weekday before it allows
pub day_bits : (before c : ℕ) → before + 48 < c → 2 ^ (c - 49) + 2 ^ before ≤ 2 ^ (c - 48)
day_bits before c h = go (c - 49) (c - 48) (omega (arith, h)) (omega (arith, h))
  where
    go : (j k : ℕ) → k ≡ suc j → before ≤ j → 2 ^ j + 2 ^ before ≤ 2 ^ k
    go j k e l = subst (λ k. 2 ^ j + 2 ^ before ≤ 2 ^ k) (sym e) (omega (arith, pow_mono {i = before} {j = j} l))
