-- Lists of numbers in order, and texts. Given on to the crates above.
use Rattle.std.proofs.Common.{Bool, List, [], ap₂, arith, bytes_eq, false, inl, inr, refl, suc, sym, true, zero, ℕ, ◌<◌, ◌||◌, ◌∙◌, ◌∷◌, ◌≡◌, ◌≢◌, ◌⊎◌}
use Rattle.fare_law.specs.Limits.{IsCapital}
use Rattle.fare_law.specs.Lists.{Each, Less}
use Rattle.fare_law.specs.Names.{IsCharacter}
use Rattle.law_lemmas.proofs.Tests.{both_true, not_true}
use Rattle.std.proofs.lemmas.Bool.{cases_order}
use Rattle.std.proofs.lemmas.Bool.Decides.{nat_tests}
use Rattle.std.proofs.lemmas.Cmp.{ranked}
use Rattle.std.proofs.lemmas.Slice.Eq.{bytes_eq-Decides}
use Rattle.std.proofs.lemmas.Str.{IsUtf8-from_ascii}
use Rattle.std.proofs.lemmas.Str.Parse.{IsNumeralModel, numerals_by_value, tells_digits}
use Rattle.std.specs.Char.{is_ascii_digit, is_ascii_uppercase}
use Rattle.std.specs.Cmp.Lexicographic.{slice_cmp}
use Rattle.std.specs.List.{list_all}
use Rattle.std.specs.Ordering.{MatchOrdering, nat_cmp, ordering_then}
use Rattle.std.specs.Str.{IsAscii, IsUtf8}
use Rattle.std.specs.Str.Parse.{AllDigits, digits_value}
use Rattle.std.specs.declared.cmp.Ordering.{Ordering}
use Rattle.std.specs.declared.cmp.Ordering.TheVariants.{Equal, Greater, Less as Lower}

pub characters_are_ascii : (cs : List ℕ) → Each IsCharacter cs → IsAscii cs
characters_are_ascii [] h i = omega arith
characters_are_ascii (c ∷ cs) h zero = grind arith
characters_are_ascii (c ∷ cs) h (suc i) = characters_are_ascii cs h.1 i

pub capitals_are_ascii : (cs : List ℕ) → Each IsCapital cs → IsAscii cs
capitals_are_ascii [] h i = omega arith
capitals_are_ascii (c ∷ cs) h zero = omega arith
capitals_are_ascii (c ∷ cs) h (suc i) = capitals_are_ascii cs h.1 i

pub ascii_is_utf8 : (bs : List ℕ) → IsAscii bs → IsUtf8 bs
ascii_is_utf8 = IsUtf8-from_ascii

pub bytes_differ : (xs ys : List ℕ) → xs ≢ ys → bytes_eq xs ys ≡ false
bytes_differ xs ys other = not_true (bytes_eq xs ys) (λ e. other ((bytes_eq-Decides xs ys).0 e))

pub capital_again : (c : ℕ) → IsCapital c → is_ascii_uppercase c ≡ true
capital_again c h = grind (arith, nat_tests)

pub capitals_again : (cs : List ℕ) → Each IsCapital cs → list_all is_ascii_uppercase cs ≡ true
capitals_again [] h = refl
capitals_again (c ∷ cs) h = rw (capital_again c h.0) (capitals_again cs h.1)

pub capitals_read : (cs : List ℕ) → list_all is_ascii_uppercase cs ≡ true → Each IsCapital cs
capitals_read [] e = tt
capitals_read (c ∷ cs) e = let h = both_true (is_ascii_uppercase c) (list_all is_ascii_uppercase cs) e in (capital c h.0, capitals_read cs h.1)
  where
    capital : (c : ℕ) → is_ascii_uppercase c ≡ true → IsCapital c
    capital c e = grind (arith, nat_tests)

pub character_read : (a b : Bool) (c : ℕ) → is_ascii_uppercase c ≡ a → is_ascii_digit c ≡ b → (a || b) ≡ true → IsCharacter c
character_read true b c e f h = inr (grind (arith, nat_tests))
character_read false true c e f h = inl (grind (arith, nat_tests))
character_read false false c e f h = absurd (cc)

pub decimal_model : IsNumeralModel (AllDigits 10) (digits_value 10)
decimal_model = numerals_by_value (AllDigits 10) tells_digits

pub less_never : (w : List ℕ) → Less w w → ⊥
less_never [] h = h
less_never (x ∷ w) (inl h) = omega arith
less_never (x ∷ w) (inr (e, h)) = less_never w h

pub less_total : (v w : List ℕ) → Less v w ⊎ ((v ≡ w) ⊎ Less w v)
less_total [] [] = inr (inl refl)
less_total [] (y ∷ w) = inl tt
less_total (x ∷ v) [] = inr (inr tt)
less_total (x ∷ v) (y ∷ w) = elim (cases_order x y) [
  | inr o ↦ elim o [ inl lt ↦ inl (inl lt) | inr gt ↦ inr (inr (inl gt)) ]
  | inl e ↦ elim (less_total v w) [
    | inl l ↦ inl (inr (e, l))
    | inr o ↦ elim o [ inl s ↦ inr (inl (ap₂ (λ a l. a ∷ l) e s)) | inr g ↦ inr (inr (inr (sym e, g))) ]
  ]
]

pub less_trans : (u v w : List ℕ) → Less u v → Less v w → Less u w
less_trans [] [] w h k = absurd h
less_trans [] (y ∷ v) [] h k = absurd k
less_trans [] (y ∷ v) (z ∷ w) h k = tt
less_trans (x ∷ u) [] w h k = absurd h
less_trans (x ∷ u) (y ∷ v) [] h k = absurd k
less_trans (x ∷ u) (y ∷ v) (z ∷ w) (inl h) (inl k) = inl (omega arith)
less_trans (x ∷ u) (y ∷ v) (z ∷ w) (inl h) (inr (e, k)) = inl (omega arith)
less_trans (x ∷ u) (y ∷ v) (z ∷ w) (inr (e, h)) (inl k) = inl (omega arith)
less_trans (x ∷ u) (y ∷ v) (z ∷ w) (inr (e, h)) (inr (f, k)) = inr (e ∙ f, less_trans u v w h k)

pub words_told : (v w : List ℕ) → MatchOrdering (slice_cmp nat_cmp v w) (Less v w) (v ≡ w) (Less w v)
words_told [] [] = refl
words_told [] (y ∷ w) = tt
words_told (x ∷ v) [] = tt
words_told (x ∷ v) (y ∷ w) = join (nat_cmp x y) (slice_cmp nat_cmp v w) (ranked x y (nat_cmp x y) refl) (words_told v w)
  where
    join : (o r : Ordering) → MatchOrdering o (x < y) (x ≡ y) (y < x) → MatchOrdering r (Less v w) (v ≡ w) (Less w v) → MatchOrdering (ordering_then o r) (Less (x ∷ v) (y ∷ w)) (x ∷ v ≡ y ∷ w) (Less (y ∷ w) (x ∷ v))
    join Lower r h k = inl h
    join Greater r h k = inl h
    join Equal Lower h k = inr (h, k)
    join Equal Equal h k = ap₂ (λ z zs. z ∷ zs) h k
    join Equal Greater h k = inr (sym h, k)
