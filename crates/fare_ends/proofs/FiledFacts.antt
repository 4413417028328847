-- Where the groups of a carrier stand among others.
use Rattle.std.proofs.Common.{◌≡◌, ℕ, zero, suc, ◌+◌, ◌<◌, ◌≤◌, List, length, get_or, slice_get, Some, sym, ap, ◌∙◌, inl, inr, arith}
use Rattle.fare_groups.specs.declared.group.FareGroup.{FareGroup}
use Rattle.fare_law.specs.declared.names.Carrier.{Carrier}
use Rattle.law_lemmas.proofs.Lists.{got_within, read_got}
use Rattle.law_lemmas.proofs.Numbers.{here_or_before}
use Rattle.law_lemmas.proofs.Options.{some_one}

-- none of the first groups is of the carrier
abbrev pub NoneBefore : List FareGroup → Carrier → ℕ → Type 0
NoneBefore gs carrier n = (i : ℕ) (g : FareGroup) → i < n → slice_get gs i ≡ Some g → g.key.carrier ≡ carrier → ⊥

-- those of the first groups that are of the carrier stand before this place
abbrev pub PastBefore : List FareGroup → Carrier → ℕ → ℕ → Type 0
PastBefore gs carrier n past = (i : ℕ) (g : FareGroup) → i < n → slice_get gs i ≡ Some g → g.key.carrier ≡ carrier → i < past

module _ (gs : List FareGroup) (carrier : Carrier) where
  -- the group at this place is read
  read_is : (n : ℕ) (d x g : FareGroup) → n < length gs → x ≡ get_or gs n d → slice_get gs n ≡ Some g → x ≡ g
  read_is n d x g lt e got = some_one (slice_get gs n) x g (read_got gs n d x lt e) got

  pub none_more : (n : ℕ) (d x : FareGroup) → n < length gs → x ≡ get_or gs n d → (x.key.carrier ≡ carrier → ⊥) → NoneBefore gs carrier n → NoneBefore gs carrier (n + 1)
  none_more n d x lt e other h i g l got own = elim (here_or_before i n l) [
    | inl k ↦ h i g k got own
    | inr s ↦ other (ap (λ (y : FareGroup). y.key.carrier) (read_is n d x g lt e (ap (slice_get gs) (sym s) ∙ got)) ∙ own)
  ]

  pub none_at : (n i : ℕ) (g : FareGroup) → NoneBefore gs carrier n → slice_get gs i ≡ Some g → g.key.carrier ≡ carrier → n ≤ i
  none_at n i g h got own = not_lt n i (λ l. h i g l got own)
    where
      not_lt : (n i : ℕ) → (i < n → ⊥) → n ≤ i
      not_lt zero i h = omega arith
      not_lt (suc n) zero h = absurd (h (omega arith))
      not_lt (suc n) (suc i) h = let le = not_lt n i (λ l. h (omega (arith, l))) in omega (arith, le)

  pub past_other : (n past : ℕ) (d x : FareGroup) → n < length gs → x ≡ get_or gs n d → (x.key.carrier ≡ carrier → ⊥) → PastBefore gs carrier n past → PastBefore gs carrier (n + 1) past
  past_other n past d x lt e other h i g l got own = elim (here_or_before i n l) [
    | inl k ↦ h i g k got own
    | inr s ↦ absurd (other (ap (λ (y : FareGroup). y.key.carrier) (read_is n d x g lt e (ap (slice_get gs) (sym s) ∙ got)) ∙ own))
  ]

  pub past_all : (n past : ℕ) (i : ℕ) (g : FareGroup) → length gs ≤ n → PastBefore gs carrier n past → slice_get gs i ≡ Some g → g.key.carrier ≡ carrier → i < past
  past_all n past i g long h got own = let lt = got_within gs i g got in h i g (omega (arith, lt, long)) got own
