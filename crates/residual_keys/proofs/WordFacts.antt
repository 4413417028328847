-- What is known of words, as the law functions of their crate give it, and the bytes of a residual's words. Given on to the crates above.
use Rattle.std.proofs.Common.{◌≢◌, ◌<◌, ◌^◌, ℕ, ℤ, pos, negsuc, ◌≤ℤ◌, List, [], ◌∷◌, ◌++◌, Option, Some, None, arith, inl, inr}
use Rattle.std.proofs.lemmas.Int.{ints}
use Rattle.std.specs.Fmt.{decimal, signed_decimal}
use Rattle.std.specs.Int.{IsInRange}
use Rattle.std.specs.List.{join_with_byte}
use Rattle.std.specs.Prelude.{IfSome}
use Rattle.fare_law.specs.declared.names.Carrier.{Carrier}
use Rattle.fare_law.specs.declared.names.Place.{Place}
use Rattle.fare_law.specs.Limits.{IsCapital, IsPlace}
use Rattle.fare_law.specs.Lists.{Each}
use Rattle.fare_law.specs.Names.{IsCarrier, IsCharacter}
use Rattle.open_unit.specs.declared.marks.CarrierMark.{CarrierMark}
use Rattle.open_unit.specs.declared.marks.CarrierMark.TheVariants.{NotYet, One, Mixed}
use Rattle.open_unit.specs.declared.marks.RuleMark.{RuleMark}
use Rattle.open_unit.specs.declared.marks.RuleMark.TheVariants.{One as OneRule, Mixed as MixedRules}
use Rattle.open_unit.specs.declared.units.OpenUnit.{OpenUnit}
use Rattle.open_unit.specs.Ranges.{UnitInRanges}
use Rattle.fare_rules.specs.Ranges.{IsDayWithin, IsStoredDay}
use Rattle.residual_keys.specs.ResidualText.{AreCarriers, AreRules, IsNamed, via_word, day_word, carriers_word, rules_word, unit_words, unit_text}
use Rattle.word_text.specs.Laws.{CutTells, NumberTells, DigitsAre}
use Rattle.word_text.specs.Words.{IsFreeOf}

pub record Words : Type 0 where
  pub cut : CutTells
  pub number : NumberTells
  pub digits : DigitsAre

-- no word has this byte
pub record Separates (c : ℕ) : Type 0 where
  pub digit : (b : ℕ) → IsInRange 48 57 b → b ≢ c
  pub capital : (b : ℕ) → IsCapital b → b ≢ c
  pub dash : ◌≢◌ {A = ℕ} 45 c
  pub star : ◌≢◌ {A = ℕ} 42 c

pub space : Separates 32
space = record { digit = λ b h e. omega (arith, h, e); capital = λ b h e. omega (arith, h, e); dash = λ e. omega (arith, e); star = λ e. omega (arith, e) }

pub slash : Separates 47
slash = record { digit = λ b h e. omega (arith, h, e); capital = λ b h e. omega (arith, h, e); dash = λ e. omega (arith, e); star = λ e. omega (arith, e) }

pub colon : Separates 58
colon = record { digit = λ b h e. omega (arith, h, e); capital = λ b h e. omega (arith, h, e); dash = λ e. omega (arith, e); star = λ e. omega (arith, e) }

pub angle : Separates 62
angle = record { digit = λ b h e. omega (arith, h, e); capital = λ b h e. omega (arith, h, e); dash = λ e. omega (arith, e); star = λ e. omega (arith, e) }

pub free_each : (P : ℕ → Type 0) (c : ℕ) → ((b : ℕ) → P b → b ≢ c) → (bs : List ℕ) → Each P bs → IsFreeOf c bs
free_each P c other [] h = tt
free_each P c other (b ∷ bs) h = (other b h.0, free_each P c other bs h.1)

pub free_joined : (c d : ℕ) → d ≢ c → (words : List (List ℕ)) → Each (IsFreeOf c) words → IsFreeOf c (join_with_byte d words)
free_joined c d other [] h = tt
free_joined c d other (w ∷ []) h = h.0
free_joined c d other (w ∷ v ∷ words) h = free_append c w (d ∷ join_with_byte d (v ∷ words)) h.0 (other, free_joined c d other (v ∷ words) h.1)
  where
    free_append : (c : ℕ) (xs ys : List ℕ) → IsFreeOf c xs → IsFreeOf c ys → IsFreeOf c (xs ++ ys)
    free_append c [] ys h k = k
    free_append c (x ∷ xs) ys h k = (h.0, free_append c xs ys h.1 k)

pub free_decimal : Words → (c : ℕ) → Separates c → (n : ℕ) → n < 2 ^ 64 → IsFreeOf c (decimal n)
free_decimal k c s n small = free_each (IsInRange 48 57) c s.digit (decimal n) (k.digits n small)

pub free_place : (c : ℕ) → Separates c → (p : Place) → IsPlace p → IsFreeOf c p.0
free_place c s p h = free_each IsCapital c s.capital p.0 h.1

free_carrier : (c : ℕ) → Separates c → (x : Carrier) → IsCarrier x → IsFreeOf c x.0
free_carrier c s x h = free_each IsCharacter c (character s) x.0 h.1
  where
    character : {c : ℕ} → Separates c → (b : ℕ) → IsCharacter b → b ≢ c
    character s b (inl h) = s.digit b h
    character s b (inr h) = s.capital b h

pub free_via : (c : ℕ) → Separates c → (v : Option Place) → IfSome v IsPlace → IsFreeOf c (via_word v)
free_via c s None h = (s.dash, tt)
free_via c s (Some p) h = free_place c s p h

pub free_signed : Words → (c : ℕ) → Separates c → (d : ℤ) → pos 0 ≤ℤ d → d ≤ℤ pos 100000 → IsFreeOf c (signed_decimal d)
free_signed k c s (pos n) low high = free_decimal k c s n (omega (arith, ints))
free_signed k c s (negsuc n) low high = absurd (omega (arith, ints))

pub free_day : Words → (c : ℕ) → Separates c → (d : Option ℤ) → IsStoredDay d → IsFreeOf c (day_word d)
free_day k c s None h = (s.dash, tt)
free_day k c s (Some d) h = free_signed k c s d h.0 h.1

pub free_carriers : (c : ℕ) → Separates c → (m : CarrierMark) → AreCarriers m → IsFreeOf c (carriers_word m)
free_carriers c s NotYet h = (s.dash, tt)
free_carriers c s (One x) h = free_carrier c s x h
free_carriers c s Mixed h = (s.star, tt)

pub free_rules : Words → (c : ℕ) → Separates c → (m : RuleMark) → AreRules m → IsFreeOf c (rules_word m)
free_rules k c s (OneRule n) h = free_decimal k c s n (omega (arith, h))
free_rules k c s MixedRules h = (s.star, tt)

pub first_within : (d : ℤ) → IsDayWithin (pos 99000) d → d ≤ℤ pos 100000
first_within d h = omega (arith, ints)

-- no text of a unit has a byte that neither its words nor its own separators have
pub free_unit : Words → (c : ℕ) → Separates c → ◌≢◌ {A = ℕ} 62 c → ◌≢◌ {A = ℕ} 58 c → (u : OpenUnit) → UnitInRanges u → IsNamed u → IsFreeOf c (unit_text u)
free_unit k c s one other u h n =
    let words : Each (IsFreeOf c) (unit_words u) = (
      free_place c s u.end n.end,
      (
        free_decimal k c s u.count (omega (arith, h.count)),
        (
          free_signed k c s u.first_day h.first.0 (first_within u.first_day h.first),
          (
            free_day k c s u.least h.least,
            (
              free_day k c s u.greatest h.greatest,
              (
                free_day k c s u.by h.by,
                (
                  free_decimal k c s u.kinds (omega (arith, h.kinds)),
                  (
                    free_decimal k c s u.partner (omega (arith, h.partner)),
                    (
                      free_carriers c s u.carrier n.carrier,
                      (free_rules k c s u.rule n.rule, tt),
                    ),
                  ),
                ),
              ),
            ),
          ),
        ),
      ),
    ) in
    free_joined c 62 one (u.origin.0 ∷ join_with_byte 58 (unit_words u) ∷ [])
    (free_place c s u.origin n.origin, (free_joined c 58 other (unit_words u) words, tt))
