-- Bits of marks: places whose marks share no bit differ, for the calls that make marks and those that ask them.
use Rattle.std.proofs.Common.{◌≡◌, ◌≢◌, ◌⊎◌, ℕ, zero, suc, ◌*◌, ◌/◌, ◌%◌, ◌^◌, List, [], ◌∷◌, ◌++◌, length, slice_get, Some, bit_and, bit_or, IsBitSet, refl, sym, ap, subst, ◌∙◌, inl, inr, arith}
use Rattle.std.proofs.lemmas.Nat.{and_comm, and_mask, and_shr, bit_set_by_shift, or_shr, shl-shr}
use lib.Bits.{and_step, and_zero_r, or_step}
use Rattle.fare_law.specs.declared.flights.Flight.{Flight}
use Rattle.fare_law.specs.declared.names.Place.{Place}
use Rattle.fare_law.specs.Lists.{Each}
use Rattle.flight_paths.specs.declared.positions.Path.{Path}
use Rattle.flight_paths.specs.Marks.{AreMarks, HasBits, place_bit}
use Rattle.flight_paths.specs.Ways.{AreFlightsOf, arrivals_of}
use Rattle.law_lemmas.proofs.EachOne.{each_by, each_more}
use Rattle.law_lemmas.proofs.Options.{none_some, some_same}

-- a bit is the digit at its place
set_digit : (n k : ℕ) → IsBitSet n k → n / 2 ^ k % 2 ≡ 1
set_digit n k s = sym (and_mask (n / 2 ^ k) 1) ∙ (bit_set_by_shift n k).1 s

digit_set : (n k : ℕ) → n / 2 ^ k % 2 ≡ 1 → IsBitSet n k
digit_set n k e = (bit_set_by_shift n k).0 (and_mask (n / 2 ^ k) 1 ∙ e)

low_both : (x y : ℕ) → x % 2 ≡ 1 → y % 2 ≡ 1 → bit_and x y % 2 ≡ 1
low_both x y p q = omega (arith, and_step x y, p, q)

low_left : (x y : ℕ) → x % 2 ≡ 1 → bit_or x y % 2 ≡ 1
low_left x y p = omega (arith, or_step x y, p)

low_right : (x y : ℕ) → y % 2 ≡ 1 → bit_or x y % 2 ≡ 1
low_right x y q = omega (arith, or_step x y, q)

bit_left : (a b k : ℕ) → IsBitSet a k → IsBitSet (bit_or a b) k
bit_left a b k s = digit_set (bit_or a b) k (ap (λ x. x % 2) (or_shr a b k) ∙ low_left (a / 2 ^ k) (b / 2 ^ k) (set_digit a k s))

bit_right : (a b k : ℕ) → IsBitSet b k → IsBitSet (bit_or a b) k
bit_right a b k s = digit_set (bit_or a b) k (ap (λ x. x % 2) (or_shr a b k) ∙ low_right (a / 2 ^ k) (b / 2 ^ k) (set_digit b k s))

bit_alone : (k : ℕ) → IsBitSet (2 ^ k) k
bit_alone k =
    let once : 1 * 2 ^ k ≡ 2 ^ k = omega arith in
    let e : 2 ^ k / 2 ^ k ≡ 1 = ap (λ n. n / 2 ^ k) (sym once) ∙ shl-shr 1 k in
    digit_set (2 ^ k) k (ap (λ n. n % 2) e)

bits_clash : (a b k : ℕ) → IsBitSet a k → IsBitSet b k → bit_and a b ≡ 0 → ⊥
bits_clash a b k s t z =
    let both = digit_set (bit_and a b) k (ap (λ x. x % 2) (and_shr a b k) ∙ low_both (a / 2 ^ k) (b / 2 ^ k) (set_digit a k s) (set_digit b k t)) in
    subst (λ n. IsBitSet n k) z both (and_comm 0 (2 ^ k) ∙ and_zero_r (2 ^ k))

-- one place more
pub one_bit_more : (mark : ℕ) (ps : List Place) (p : Place) → HasBits mark ps → HasBits (bit_or mark (2 ^ place_bit p)) (ps ++ p ∷ [])
one_bit_more mark ps p h =
    each_more (λ q. IsBitSet (bit_or mark (2 ^ place_bit p)) (place_bit q)) ps p
    (each_by (λ q. IsBitSet mark (place_bit q)) (λ q. IsBitSet (bit_or mark (2 ^ place_bit p)) (place_bit q)) ps (λ q s. bit_left mark (2 ^ place_bit p) (place_bit q) s) h)
    (bit_right mark (2 ^ place_bit p) (place_bit p) (bit_alone (place_bit p)))

-- and one before them
pub first_bit_more : (mark : ℕ) (p : Place) (ps : List Place) → HasBits mark ps → HasBits (bit_or (2 ^ place_bit p) mark) (p ∷ ps)
first_bit_more mark p ps h = (
  bit_left (2 ^ place_bit p) mark (place_bit p) (bit_alone (place_bit p)),
  each_by (λ q. IsBitSet mark (place_bit q)) (λ q. IsBitSet (bit_or (2 ^ place_bit p) mark) (place_bit q)) ps (λ q s. bit_right (2 ^ place_bit p) mark (place_bit q) s) h,
)

-- places are apart whose marks share no bit
pub marks_apart : (a b : ℕ) (ps qs : List Place) → HasBits a ps → HasBits b qs → bit_and a b ≡ 0 → Each (λ q. Each (λ p. q ≢ p) ps) qs
marks_apart a b ps [] h k z = tt
marks_apart a b ps (q ∷ qs) h k z = (others ps h, marks_apart a b ps qs h k.1 z)
  where
    others : (xs : List Place) → HasBits a xs → Each (λ p. q ≢ p) xs
    others [] g = tt
    others (p ∷ xs) g = ((λ e. bits_clash a b (place_bit p) g.0 (subst (λ x. IsBitSet b (place_bit x)) e k.0) z), others xs g.1)

got_either : (ms : List ℕ) (m n x : ℕ) → slice_get (ms ++ m ∷ []) n ≡ Some x → (slice_get ms n ≡ Some x) ⊎ ((n ≡ length ms) × (x ≡ m))
got_either [] m zero x e = inr (refl, some_same x m (sym e))
got_either [] m (suc n) x e = absurd (none_some x e)
got_either (y ∷ ms) m zero x e = inl e
got_either (y ∷ ms) m (suc n) x e = elim (got_either ms m n x e) [ inl h ↦ inl h | inr r ↦ inr (ap suc r.0, r.1) ]

-- one tail more has its mark
pub marks_more : (flights : List Flight) (tails : List Path) (marks : List ℕ) (m : ℕ) (t : Path) → AreMarks flights tails marks → slice_get tails (length marks) ≡ Some t
    → ((fs : List Flight) → AreFlightsOf flights t.flights fs → HasBits m (arrivals_of fs)) → AreMarks flights tails (marks ++ m ∷ [])
marks_more flights tails marks m t h at bits = λ n mark tail fs got there known. elim (got_either marks m n mark got) [
  | inl g ↦ h n mark tail fs g there known
  | inr r ↦ subst (λ x. HasBits x (arrivals_of fs)) (sym r.1) (bits fs (subst (λ (p : Path). AreFlightsOf flights p.flights fs) (some_same tail t (sym there ∙ ap (slice_get tails) r.0 ∙ at)) known))
]
