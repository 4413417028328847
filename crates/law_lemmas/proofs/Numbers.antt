-- Numbers in order. Given on to the crates above.
use Rattle.std.proofs.Common.{arith, inl, inr, suc, zero, ℕ, ⊎_elim, ◌*◌, ◌+◌, ◌<◌, ◌≡◌, ◌≤◌, ◌⊎◌}
use Rattle.std.proofs.lemmas.Bool.{cases_lt}

pub suc_is : (i : ℕ) → suc i ≡ i + 1
suc_is i = omega arith

pub at_most_or : (m n : ℕ) → (m ≤ n) ⊎ (n < m)
at_most_or zero n = inl (omega arith)
at_most_or (suc m) zero = inr (omega arith)
at_most_or (suc m) (suc n) = elim (at_most_or m n) [ inl k ↦ inl (omega (arith, k)) | inr k ↦ inr (omega (arith, k)) ]

pub both_least : (m n : ℕ) → m ≤ n → n ≤ m → m ≡ n
both_least m n a b = omega arith

pub here_or_before : (m n : ℕ) → m < n + 1 → m < n ⊎ (m ≡ n)
here_or_before m n less = ⊎_elim (λ (h : m < n). inl h) (λ h. inr (omega arith)) (cases_lt m n)

pub le_itself : (n : ℕ) → n ≤ n
le_itself n = omega arith

pub le_on : (x y z : ℕ) → x ≤ y → y ≤ z → x ≤ z
le_on x y z h k = omega (arith, h, k)

pub less_less : (a b c : ℕ) → a < b → b < c → a < c
less_less a b c h k = omega arith

pub none_plus : (n : ℕ) → 0 + n ≡ n
none_plus n = omega arith

pub times_zero : (n : ℕ) → 0 * n ≡ 0
times_zero n = omega arith
