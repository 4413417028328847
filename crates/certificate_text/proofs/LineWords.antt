-- The words of a certificate's lines are read as what they spell, and what is read is spelled so.
use Rattle.std.proofs.Common.{bytes_eq, ◌≡◌, ◌≢◌, ◌≤◌, ◌<◌, ◌^◌, ◌⊎◌, ◌↔◌, ◌&&◌, nat_le, inl, inr, ℕ, zero, suc, Bool, true, false, List, [], ◌∷◌, ◌++◌, length, Option, Some, None, option_map, if◌then◌else◌, refl, ap, sym, ◌∙◌, subst, arith}
use Rattle.std.specs.Fmt.{decimal}
use Rattle.std.specs.Int.{IsInRange}
use Rattle.std.specs.List.{list_all}
use Rattle.std.specs.Prelude.{IfSome}
use Rattle.std.proofs.lemmas.Bool.Decides.{nat_tests}
use Rattle.std.proofs.lemmas.Option.{cond_some, same_Some}
use Rattle.std.proofs.lemmas.Slice.Eq.{bytes_eq-Decides}
use Rattle.certificate_text.specs.LineReading.{after_label, number_spelled, bound_in, role_numbered, role_in}
use Rattle.certificate_text.specs.Lines.{number_line, bound_word, SpellsNumber}
use Rattle.certificate_text.proofs.WordLemmas.{label_again, label_read}
use Rattle.fare_law.specs.declared.moves.Role.{Role}
use Rattle.fare_law.specs.declared.moves.Role.TheVariants.{Alone, Opens, GoesOn, Closes}
use Rattle.fare_law.specs.declared.names.Basis.{Basis}
use Rattle.fare_law.specs.Lists.{Each}
use Rattle.fare_law.specs.Codes.{role_code}
use Rattle.fare_law.specs.Names.{IsBasis, IsCharacter}
use Rattle.name_text.specs.Names.{basis_of, is_character}
use Rattle.word_text.specs.Laws.{NumberTells, DigitsAre}
use Rattle.word_text.specs.Words.{IsFreeOf, number_in}
use Rattle.law_lemmas.proofs.Options.{from_step, option_mapped}
use Rattle.law_lemmas.proofs.Words.{bytes_differ}
use Rattle.name_text.proofs.NameLemmas.{characters}
use Rattle.residual_keys.proofs.WordFacts.{free_each}

-- what is known of numbers
pub record Numbers : Type 0 where
  pub number : NumberTells
  pub digits : DigitsAre

-- ---- names

pub digits_free : Numbers → (n : ℕ) → n < 2 ^ 64 → IsFreeOf 32 (decimal n)
digits_free k n small = free_each (IsInRange 48 57) 32 (λ b h e. omega (arith, h, e)) (decimal n) (k.digits n small)

pub no_space : (b : ℕ) → IsCharacter b → b ≢ 32
no_space b (inl h) e = omega (arith, h, e)
no_space b (inr h) e = omega (arith, h, e)

pub names_free : (cs : List ℕ) → Each IsCharacter cs → IsFreeOf 32 cs
names_free cs h = free_each IsCharacter 32 no_space cs h

pub basis_read : (w : List ℕ) (b : Basis) → basis_of w ≡ Some b → IsBasis b × (w ≡ b.0)
unfolding basis_of
basis_read w b e =
    let h = cond_some (nat_le 1 (length w) && nat_le (length w) 8 && list_all is_character w) (record { 0 = w }) b e in
    let t = split (nat_le 1 (length w)) (nat_le (length w) 8) (list_all is_character w) h.0 in
    let low : 1 ≤ length w = grind (arith, nat_tests, t.0) in
    let high : length w ≤ 8 = grind (arith, nat_tests, t.1) in
    subst (λ (q : Basis). IsBasis q × (w ≡ q.0)) h.1 ((low, high, characters w t.2), refl)
  where
    split : (a b c : Bool) → (a && b && c) ≡ true → (a ≡ true) × (b ≡ true) × (c ≡ true)
    split true true c e = (refl, refl, e)
    split true false c e = absurd (cc)
    split false b c e = absurd (cc)

-- ---- numbers after a name, bounds, roles

pub number_again : Numbers → (name : List ℕ) (n : ℕ) → n < 2 ^ 32 → number_spelled name (number_line name n) ≡ Some n
unfolding number_spelled
number_again k name n small =
    rw (label_again name (32 ∷ decimal n), label_again (32 ∷ []) (decimal n), k.number.again 4294967295 n (omega (arith, small)) (omega (arith, small))) refl

pub number_read : Numbers → (name line : List ℕ) (n : ℕ) → number_spelled name line ≡ Some n → SpellsNumber name line n
unfolding number_spelled
number_read k name line n e =
    from_step (after_label name line) _ n e (λ rest was_rest e.
    from_step (after_label (32 ∷ []) rest) _ n e (λ word was_word e.
    let r = k.number.read 4294967295 n word e in
    record { fits = omega (arith, r.0); written = label_read name line rest was_rest ∙ ap (λ t. name ++ t) (label_read (32 ∷ []) rest word was_word ∙ ap (λ t. 32 ∷ t) r.1) }))

pub number_exact : Numbers → (name line : List ℕ) (o : Option ℕ) → o ≡ number_spelled name line → (n : ℕ) → (o ≡ Some n) ↔ SpellsNumber name line n
number_exact k name line o is n = (
  λ e. number_read k name line n (sym is ∙ e),
  λ s. is ∙ ap (number_spelled name) s.written ∙ number_again k name n s.fits,
)

pub bound_again : Numbers → (b : Option ℕ) → IfSome b (λ n. n < 2 ^ 64) → bound_in (bound_word b) ≡ Some b
unfolding bound_in
bound_again k None h = refl
bound_again k (Some n) h =
    rw (
      bytes_differ (decimal n) (45 ∷ []) (λ e. let d = subst (Each (IsInRange 48 57)) e (k.digits n h) in omega (arith, d.0)),
      k.number.again 18446744073709551615 n (omega (arith, h)) h,
    ) refl

pub marked : {A : Type 0} (w mark : List ℕ) (x y : A) (o : Option A) (b : Bool) → bytes_eq w mark ≡ b → (if b then Some x else o) ≡ Some y → ((w ≡ mark) × (x ≡ y)) ⊎ (o ≡ Some y)
marked w mark x y o true is h = inl ((bytes_eq-Decides w mark).0 is, same_Some x y h)
marked w mark x y o false is h = inr h

pub bound_read : Numbers → (w : List ℕ) (b : Option ℕ) → bound_in w ≡ Some b → IfSome b (λ n. n < 2 ^ 64) × (w ≡ bound_word b)
unfolding bound_in
bound_read k w b e = elim (marked w (45 ∷ []) None b (option_map Some (number_in 18446744073709551615 w)) (bytes_eq w (45 ∷ [])) refl e) [
  | inl h ↦ subst (λ (u : Option ℕ). IfSome u (λ n. n < 2 ^ 64) × (w ≡ bound_word u)) h.1 (tt, h.0)
  | inr h ↦ let m = option_mapped Some (number_in 18446744073709551615 w) b h in
      let r = k.number.read 18446744073709551615 m.0 w m.1 in
      subst (λ (u : Option ℕ). IfSome u (λ n. n < 2 ^ 64) × (w ≡ bound_word u)) m.2 (omega (arith, r.0), r.1)
]

pub bound_free : Numbers → (b : Option ℕ) → IfSome b (λ n. n < 2 ^ 64) → IsFreeOf 32 (bound_word b)
bound_free k None h = (λ e. omega (arith, e), tt)
bound_free k (Some n) h = digits_free k n h

pub role_again : Numbers → (r : Role) → role_in (decimal (role_code r)) ≡ Some r
unfolding role_in
role_again k Alone = rw (k.number.again 3 0 (omega arith) (omega arith)) refl
role_again k Opens = rw (k.number.again 3 1 (omega arith) (omega arith)) refl
role_again k GoesOn = rw (k.number.again 3 2 (omega arith) (omega arith)) refl
role_again k Closes = rw (k.number.again 3 3 (omega arith) (omega arith)) refl

pub coded : (n : ℕ) → n ≤ 3 → n ≡ role_code (role_numbered n)
coded zero h = refl
coded (suc zero) h = refl
coded (suc (suc zero)) h = refl
coded (suc (suc (suc zero))) h = refl
coded (suc (suc (suc (suc n)))) h = absurd (omega (arith, h))

pub role_small : (r : Role) → role_code r < 2 ^ 64
role_small Alone = omega arith
role_small Opens = omega arith
role_small GoesOn = omega arith
role_small Closes = omega arith

pub role_read : Numbers → (w : List ℕ) (r : Role) → role_in w ≡ Some r → w ≡ decimal (role_code r)
unfolding role_in
role_read k w r e =
    let m = option_mapped role_numbered (number_in 3 w) r e in
    let n = k.number.read 3 m.0 w m.1 in
    n.1 ∙ ap decimal (coded m.0 n.0) ∙ ap (λ (x : Role). decimal (role_code x)) m.2
