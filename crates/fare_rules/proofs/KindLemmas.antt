-- Sums of kinds: which kinds a sum has, the common kinds, and the kinds that category 10 lists. Given on to the crates above.
use Rattle.std.proofs.Common.{◌≡◌, ℕ, zero, suc, ◌+◌, ◌*◌, ◌<◌, ◌≤◌, ◌^◌, Bool, true, false, cond, ◌||◌, not, min, List, [], ◌∷◌, length, Option, Some, None, Contains, IfSome, sym, refl, ap, ◌∙◌, inl, inr, arith, bit_and, eqb, eq-eqb, eqb-true, get_or}
use Rattle.std.specs.Int.{bit_at}
use Rattle.std.specs.List.{list_any}
use Rattle.std.proofs.lemmas.Bool.{true≢false, or_cases}
use Rattle.std.proofs.lemmas.Bool.Decides.{nat_tests}
use Rattle.std.proofs.lemmas.Nat.Bits.{bit_at_and, bit_at-lt, and_pow}
use Rattle.fare_law.specs.declared.rules.CombineRule.{CombineRule}
use Rattle.fare_law.specs.declared.rules.UnitKind.{UnitKind}
use Rattle.fare_law.specs.declared.rules.UnitKind.TheVariants.{OneWay, RoundTrip, OpenJaw, Circle}
use Rattle.fare_law.specs.contracts.rules.UnitKindPartialEq.TheImpl as kinds
use Rattle.fare_law.specs.RuleLimits.{rank_of_kind}
use Rattle.fare_rules.specs.Demands.{has_kind, same_kind, lists_kind, kinds_of}
use Rattle.law_lemmas.proofs.Tests.{or_true}

abbrev KindsAre : ℕ → Bool → Bool → Bool → Bool → Type 0
KindsAre kinds a b c d =
    (has_kind kinds OneWay ≡ a) × (has_kind kinds RoundTrip ≡ b) × (has_kind kinds OpenJaw ≡ c) × (has_kind kinds Circle ≡ d)

kinds_are : (a b c d : Bool) → KindsAre (cond a 1 0 + cond b 2 0 + cond c 4 0 + cond d 8 0) a b c d
kinds_are true true true true = (refl, refl, refl, refl)
kinds_are true true true false = (refl, refl, refl, refl)
kinds_are true true false true = (refl, refl, refl, refl)
kinds_are true true false false = (refl, refl, refl, refl)
kinds_are true false true true = (refl, refl, refl, refl)
kinds_are true false true false = (refl, refl, refl, refl)
kinds_are true false false true = (refl, refl, refl, refl)
kinds_are true false false false = (refl, refl, refl, refl)
kinds_are false true true true = (refl, refl, refl, refl)
kinds_are false true true false = (refl, refl, refl, refl)
kinds_are false true false true = (refl, refl, refl, refl)
kinds_are false true false false = (refl, refl, refl, refl)
kinds_are false false true true = (refl, refl, refl, refl)
kinds_are false false true false = (refl, refl, refl, refl)
kinds_are false false false true = (refl, refl, refl, refl)
kinds_are false false false false = (refl, refl, refl, refl)

-- the sum has a kind exactly where it is listed
has_listed : (k : UnitKind) (c : CombineRule) → has_kind (kinds_of (Some c)) k ≡ lists_kind c.kinds k
has_listed OneWay c = (kinds_are (lists_kind c.kinds OneWay) _ _ _).0
has_listed RoundTrip c = (kinds_are (lists_kind c.kinds OneWay) _ _ _).1
has_listed OpenJaw c = (kinds_are (lists_kind c.kinds OneWay) _ _ _).2
has_listed Circle c = (kinds_are (lists_kind c.kinds OneWay) _ _ _).3

pub same_kind_is : (k l : UnitKind) → same_kind k l ≡ true → l ≡ k
same_kind_is OneWay OneWay h = refl
same_kind_is RoundTrip RoundTrip h = refl
same_kind_is OpenJaw OpenJaw h = refl
same_kind_is Circle Circle h = refl
same_kind_is OneWay RoundTrip h = cc
same_kind_is OneWay OpenJaw h = cc
same_kind_is OneWay Circle h = cc
same_kind_is RoundTrip OneWay h = cc
same_kind_is RoundTrip OpenJaw h = cc
same_kind_is RoundTrip Circle h = cc
same_kind_is OpenJaw OneWay h = cc
same_kind_is OpenJaw RoundTrip h = cc
same_kind_is OpenJaw Circle h = cc
same_kind_is Circle OneWay h = cc
same_kind_is Circle RoundTrip h = cc
same_kind_is Circle OpenJaw h = cc

pub same_kind_self : (k : UnitKind) → same_kind k k ≡ true
same_kind_self OneWay = refl
same_kind_self RoundTrip = refl
same_kind_self OpenJaw = refl
same_kind_self Circle = refl

contains_from : (k : UnitKind) (ks : List UnitKind) → lists_kind ks k ≡ true → Contains ks k
contains_from k [] h = absurd (true≢false (sym h))
contains_from k (l ∷ ks) h = elim (or_cases (same_kind k l) (lists_kind ks k) h) [
  | inl e ↦ (0, omega arith, same_kind_is k l e)
  | inr e ↦ let r = contains_from k ks e in (suc r.0, omega (arith, r.1), r.2)
]

contains_at : (k : UnitKind) (ks : List UnitKind) (i : ℕ) → i < length ks → get_or ks i k ≡ k → lists_kind ks k ≡ true
contains_at k [] i h e = absurd (omega arith)
contains_at k (l ∷ ks) zero h e = ap (λ m. same_kind k m || lists_kind ks k) e ∙ ap (λ b. b || lists_kind ks k) (same_kind_self k)
contains_at k (l ∷ ks) (suc i) h e = ap (λ b. same_kind k l || b) (contains_at k ks i (omega arith) e) ∙ or_true (same_kind k l)

pub kind_from : (c : Option CombineRule) (k : UnitKind) → has_kind (kinds_of c) k ≡ true → IfSome c (λ c. Contains c.kinds k)
kind_from None k h = tt
kind_from (Some c) k h = contains_from k c.kinds (sym (has_listed k c) ∙ h)

pub kind_to : (c : Option CombineRule) (k : UnitKind) → IfSome c (λ c. Contains c.kinds k) → has_kind (kinds_of c) k ≡ true
kind_to None OneWay h = refl
kind_to None RoundTrip h = refl
kind_to None OpenJaw h = refl
kind_to None Circle h = refl
kind_to (Some c) k h = has_listed k c ∙ contains_at k c.kinds h.0 h.1 h.2

pub common_parts : (a b : ℕ) (k : UnitKind) → has_kind (bit_and a b) k ≡ true → (has_kind a k ≡ true) × (has_kind b k ≡ true)
common_parts a b k h =
    let i = rank_of_kind k in
    let e : min (bit_at a i) (bit_at b i) ≡ 1 = sym (bit_at_and a b i) ∙ eqb-true (bit_at (bit_and a b) i) 1 h in
    (eq-eqb (bit_at a i) 1 (omega (arith, e, bit_at-lt a i, bit_at-lt b i)), eq-eqb (bit_at b i) 1 (omega (arith, e, bit_at-lt a i, bit_at-lt b i)))

pub common_holds : (a b : ℕ) (k : UnitKind) → has_kind a k ≡ true → has_kind b k ≡ true → has_kind (bit_and a b) k ≡ true
common_holds a b k h l =
    let i = rank_of_kind k in
    eq-eqb (bit_at (bit_and a b) i) 1 (bit_at_and a b i ∙ omega (arith, eqb-true (bit_at a i) 1 h, eqb-true (bit_at b i) 1 l))

-- a bit times a number above 0 is not 0 exactly where the bit is 1
bit_tells : (b p : ℕ) → b < 2 → 0 < p → not (eqb (b * p) 0) ≡ eqb b 1
bit_tells b p h k = grind (arith, nat_tests)

-- the test by a mask of one kind
pub masked : (kinds : ℕ) (k : UnitKind) → not (eqb (bit_and kinds (2 ^ rank_of_kind k)) 0) ≡ has_kind kinds k
masked kinds OneWay = ap (λ n. not (eqb n 0)) (and_pow kinds 0) ∙ bit_tells (bit_at kinds 0) 1 (bit_at-lt kinds 0) (omega arith)
masked kinds RoundTrip = ap (λ n. not (eqb n 0)) (and_pow kinds 1) ∙ bit_tells (bit_at kinds 1) 2 (bit_at-lt kinds 1) (omega arith)
masked kinds OpenJaw = ap (λ n. not (eqb n 0)) (and_pow kinds 2) ∙ bit_tells (bit_at kinds 2) 4 (bit_at-lt kinds 2) (omega arith)
masked kinds Circle = ap (λ n. not (eqb n 0)) (and_pow kinds 3) ∙ bit_tells (bit_at kinds 3) 8 (bit_at-lt kinds 3) (omega arith)

abbrev kinds_equal : UnitKind → UnitKind → Bool
kinds_equal k l = kinds.ghosts.eq k l

same_kind_tells : (k l : UnitKind) → kinds_equal l k ≡ same_kind k l
same_kind_tells OneWay OneWay = refl
same_kind_tells RoundTrip RoundTrip = refl
same_kind_tells OpenJaw OpenJaw = refl
same_kind_tells Circle Circle = refl
same_kind_tells OneWay RoundTrip = refl
same_kind_tells OneWay OpenJaw = refl
same_kind_tells OneWay Circle = refl
same_kind_tells RoundTrip OneWay = refl
same_kind_tells RoundTrip OpenJaw = refl
same_kind_tells RoundTrip Circle = refl
same_kind_tells OpenJaw OneWay = refl
same_kind_tells OpenJaw RoundTrip = refl
same_kind_tells OpenJaw Circle = refl
same_kind_tells Circle OneWay = refl
same_kind_tells Circle RoundTrip = refl
same_kind_tells Circle OpenJaw = refl

-- the answer of `contains`
pub listed_tells : (k : UnitKind) (ks : List UnitKind) → list_any (λ l. kinds.ghosts.eq l k) ks ≡ lists_kind ks k
listed_tells k [] = refl
listed_tells k (l ∷ ks) = ap (λ b. b || list_any (λ m. kinds.ghosts.eq m k) ks) (same_kind_tells k l) ∙ ap (λ b. same_kind k l || b) (listed_tells k ks)

pub kinds_within : (c : Option CombineRule) → kinds_of c ≤ 15
kinds_within None = omega arith
kinds_within (Some c) = below (lists_kind c.kinds OneWay) (lists_kind c.kinds RoundTrip) (lists_kind c.kinds OpenJaw) (lists_kind c.kinds Circle)
  where
    one : (b : Bool) (n : ℕ) → cond b n 0 ≤ n
    one true n = omega arith
    one false n = omega arith

    below : (a b c d : Bool) → cond a 1 0 + cond b 2 0 + cond c 4 0 + cond d 8 0 ≤ 15
    below a b c d = omega (arith, one a 1, one b 2, one c 4, one d 8)
