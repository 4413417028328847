-- The words of a residual are read as its fields. Given on to the crates above.
use Rattle.std.proofs.Common.{bytes_eq, ◌==◌, ◌⊎◌, if◌then◌else◌, ◌≡◌, ◌<◌, ◌^◌, ◌&&◌, ℕ, ℤ, pos, negsuc, ◌≤ℤ◌, Bool, true, false, List, [], ◌∷◌, length, Option, Some, None, refl, arith, ap, subst, inl, inr, option_map}
use Rattle.std.specs.Char.{is_ascii_uppercase}
use Rattle.std.proofs.lemmas.Int.{ints}
use Rattle.std.specs.Fmt.{decimal, signed_decimal}
use Rattle.std.specs.Int.{IsInRange}
use Rattle.std.specs.List.{list_all}
use Rattle.std.specs.Prelude.{IfSome}
use Rattle.std.proofs.lemmas.Bool.Decides.{nat_tests}
use Rattle.std.proofs.lemmas.Option.{cond_some, same_Some}
use Rattle.std.proofs.lemmas.Slice.Eq.{bytes_eq-Decides}
use Rattle.fare_law.specs.declared.names.Carrier.{Carrier}
use Rattle.fare_law.specs.declared.names.Place.{Place}
use Rattle.fare_law.specs.Limits.{IsPlace}
use Rattle.fare_law.specs.Lists.{Each}
use Rattle.fare_law.specs.Names.{IsCarrier}
use Rattle.name_text.specs.Names.{place_of, carrier_of, is_character}
use Rattle.open_unit.specs.declared.marks.CarrierMark.{CarrierMark}
use Rattle.open_unit.specs.declared.marks.CarrierMark.TheVariants.{NotYet, One, Mixed}
use Rattle.open_unit.specs.declared.marks.RuleMark.{RuleMark}
use Rattle.open_unit.specs.declared.marks.RuleMark.TheVariants.{One as OneRule, Mixed as MixedRules}
use Rattle.fare_rules.specs.Ranges.{IsStoredDay}
use Rattle.residual_keys.specs.ResidualReading.{via_in, day_in, set_day_in, carriers_in, rules_in}
use Rattle.residual_keys.specs.ResidualText.{AreCarriers, AreRules, via_word, day_word, carriers_word, rules_word}
use Rattle.residual_keys.proofs.WordFacts.{Words}
use Rattle.word_text.specs.Words.{number_in}
use Rattle.law_lemmas.proofs.Options.{option_mapped}
use Rattle.law_lemmas.proofs.Tests.{both_true}
use Rattle.law_lemmas.proofs.Words.{bytes_differ, capitals_read}
use Rattle.name_text.proofs.NameLemmas.{characters}
use Rattle.name_text.proofs.TextLemmas.{carrier_again, place_again}

pub longer : (xs ys : List ℕ) → (length xs ≡ length ys → ⊥) → bytes_eq xs ys ≡ false
longer xs ys other = bytes_differ xs ys (λ e. other (ap length e))

pub via_again : (v : Option Place) → IfSome v IsPlace → via_in (via_word v) ≡ Some v
unfolding via_in
via_again None h = refl
via_again (Some p) h = rw (longer p.0 (45 ∷ []) (λ e. omega (arith, h.0, e)), place_again p h) refl

pub day_again : Words → (d : ℤ) → pos 0 ≤ℤ d → d ≤ℤ pos 100000 → day_in (signed_decimal d) ≡ Some d
unfolding day_in
day_again k (pos n) low high = rw (k.number.again 2147483647 n (omega (arith, ints)) (omega (arith, ints))) refl
day_again k (negsuc n) low high = absurd (omega (arith, ints))

-- a number's digits are no mark
no_mark : Words → (n c : ℕ) → n < 2 ^ 64 → c < 48 → bytes_eq (decimal n) (c ∷ []) ≡ false
no_mark k n c small low = bytes_differ (decimal n) (c ∷ []) (λ e. let h = subst (Each (IsInRange 48 57)) e (k.digits n small) in omega (arith, h.0, low))

pub set_day_again : Words → (d : Option ℤ) → IsStoredDay d → set_day_in (day_word d) ≡ Some d
unfolding set_day_in
set_day_again k None h = refl
set_day_again k (Some (pos n)) h = rw (no_mark k n 45 (omega (arith, ints)) (omega arith), day_again k (pos n) h.0 h.1) refl
set_day_again k (Some (negsuc n)) h = absurd (omega (arith, ints))

pub carriers_again : (m : CarrierMark) → AreCarriers m → carriers_in (carriers_word m) ≡ Some m
unfolding carriers_in
carriers_again NotYet h = refl
carriers_again (One c) h = rw (longer c.0 (45 ∷ []) (λ e. omega (arith, h.0, e)), longer c.0 (42 ∷ []) (λ e. omega (arith, h.0, e)), carrier_again c h) refl
carriers_again Mixed h = refl

pub rules_again : Words → (m : RuleMark) → AreRules m → rules_in (rules_word m) ≡ Some m
unfolding rules_in
rules_again k (OneRule n) h = rw (no_mark k n 42 (omega (arith, h)) (omega arith), k.number.again 65535 n (omega (arith, h)) (omega (arith, h))) refl
rules_again k MixedRules h = refl

-- Fields that are read are written so.

pub place_read : (w : List ℕ) (p : Place) → place_of w ≡ Some p → IsPlace p × (w ≡ p.0)
unfolding place_of
place_read w p e =
    let h = cond_some ((length w == 3) && list_all is_ascii_uppercase w) (record { 0 = w }) p e in
    let t = both_true (length w == 3) (list_all is_ascii_uppercase w) h.0 in
    let three : length w ≡ 3 = grind (arith, nat_tests, t.0) in
    subst (λ (q : Place). IsPlace q × (w ≡ q.0)) h.1 ((three, capitals_read w t.1), refl)

pub carrier_read : (w : List ℕ) (c : Carrier) → carrier_of w ≡ Some c → IsCarrier c × (w ≡ c.0)
unfolding carrier_of
carrier_read w c e =
    let h = cond_some ((length w == 2) && list_all is_character w) (record { 0 = w }) c e in
    let t = both_true (length w == 2) (list_all is_character w) h.0 in
    let two : length w ≡ 2 = grind (arith, nat_tests, t.0) in
    subst (λ (q : Carrier). IsCarrier q × (w ≡ q.0)) h.1 ((two, characters w t.1), refl)

-- a mark, or what else was read
pub marked : {A : Type 0} (w mark : List ℕ) (x y : A) (o : Option A) → (if bytes_eq w mark then Some x else o) ≡ Some y → ((w ≡ mark) × (x ≡ y)) ⊎ (o ≡ Some y)
marked w mark x y o e = go (bytes_eq w mark) refl e
  where
    go : (b : Bool) → bytes_eq w mark ≡ b → (if b then Some x else o) ≡ Some y → ((w ≡ mark) × (x ≡ y)) ⊎ (o ≡ Some y)
    go true is h = inl ((bytes_eq-Decides w mark).0 is, same_Some x y h)
    go false is h = inr h

pub via_read : (w : List ℕ) (v : Option Place) → via_in w ≡ Some v → IfSome v IsPlace × (w ≡ via_word v)
unfolding via_in
via_read w v e = elim (marked w (45 ∷ []) None v (option_map Some (place_of w)) e) [
  | inl h ↦ subst (λ (u : Option Place). IfSome u IsPlace × (w ≡ via_word u)) h.1 (tt, h.0)
  | inr h ↦ let m = option_mapped Some (place_of w) v h in subst (λ (u : Option Place). IfSome u IsPlace × (w ≡ via_word u)) m.2 (place_read w m.0 m.1)
]

pub day_read : Words → (w : List ℕ) (d : ℤ) → day_in w ≡ Some d → w ≡ signed_decimal d
unfolding day_in
day_read k w d e = let m = option_mapped pos (number_in 2147483647 w) d e in subst (λ (x : ℤ). w ≡ signed_decimal x) m.2 (k.number.read 2147483647 m.0 w m.1).1

pub set_day_read : Words → (w : List ℕ) (d : Option ℤ) → set_day_in w ≡ Some d → w ≡ day_word d
unfolding set_day_in
set_day_read k w d e = elim (marked w (45 ∷ []) None d (option_map Some (day_in w)) e) [
  | inl h ↦ subst (λ (u : Option ℤ). w ≡ day_word u) h.1 h.0
  | inr h ↦ let m = option_mapped Some (day_in w) d h in subst (λ (u : Option ℤ). w ≡ day_word u) m.2 (day_read k w m.0 m.1)
]

pub carriers_read : (w : List ℕ) (m : CarrierMark) → carriers_in w ≡ Some m → AreCarriers m × (w ≡ carriers_word m)
unfolding carriers_in
carriers_read w m e = elim (marked w (45 ∷ []) NotYet m (if bytes_eq w (42 ∷ []) then Some Mixed else option_map One (carrier_of w)) e) [
  | inl h ↦ subst (λ (u : CarrierMark). AreCarriers u × (w ≡ carriers_word u)) h.1 (tt, h.0)
  | inr h ↦ elim (marked w (42 ∷ []) Mixed m (option_map One (carrier_of w)) h) [
    | inl h ↦ subst (λ (u : CarrierMark). AreCarriers u × (w ≡ carriers_word u)) h.1 (tt, h.0)
    | inr h ↦ let x = option_mapped One (carrier_of w) m h in subst (λ (u : CarrierMark). AreCarriers u × (w ≡ carriers_word u)) x.2 (carrier_read w x.0 x.1)
  ]
]

pub rules_read : Words → (w : List ℕ) (m : RuleMark) → rules_in w ≡ Some m → AreRules m × (w ≡ rules_word m)
unfolding rules_in
rules_read k w m e = elim (marked w (42 ∷ []) MixedRules m (option_map OneRule (number_in 65535 w)) e) [
  | inl h ↦ subst (λ (u : RuleMark). AreRules u × (w ≡ rules_word u)) h.1 (tt, h.0)
  | inr h ↦ let x = option_mapped OneRule (number_in 65535 w) m h in
      let n = k.number.read 65535 x.0 w x.1 in subst (λ (u : RuleMark). AreRules u × (w ≡ rules_word u)) x.2 (omega (arith, n.0), n.1)
]
