-- No line of a certificate has a line feed. This file is given on to the crates above.
use Rattle.std.proofs.Common.{◌≡◌, ◌≢◌, ◌<◌, ◌^◌, ◌==◌, ℕ, true, not, List, [], ◌∷◌, ◌++◌, map, flat_map, Option, Some, None, refl, arith, inl, inr}
use Rattle.std.specs.Fmt.{decimal}
use Rattle.std.specs.List.{list_all}
use Rattle.std.specs.Prelude.{IfSome, codes}
use Rattle.std.proofs.lemmas.Bool.Decides.{nat_tests}
use Rattle.certificate.specs.declared.parts.CertAnswer.{CertAnswer}
use Rattle.certificate.specs.declared.parts.CertRow.{CertRow}
use Rattle.certificate_text.specs.Lines.{spaced, number_line, move_words, answer_line, bound_word, row_line, IsMove, IsAnswer, IsRow}
use Rattle.certificate_text.proofs.LineWords.{role_small}
use Rattle.fare_law.specs.declared.moves.Move.{Move}
use Rattle.fare_law.specs.Lists.{Each}
use Rattle.fare_law.specs.Codes.{role_code}
use Rattle.fare_law.specs.Names.{IsCharacter}
use Rattle.open_unit.specs.declared.units.OpenUnit.{OpenUnit}
use Rattle.open_unit.specs.Ranges.{UnitInRanges}
use Rattle.residual_keys.specs.declared.parts.TicketPart.{TicketPart}
use Rattle.residual_keys.specs.Kept.{PartKept}
use Rattle.residual_keys.specs.Residuals.{State}
use Rattle.residual_keys.specs.ResidualText.{AreCarriers, IsNamed, IsWritten, carriers_word, position_words, part_text, residual_text, residual_words, unit_text, units_text}
use Rattle.residual_keys.proofs.WordFacts.{Separates, Words, free_carriers, free_decimal, free_joined, free_place, free_unit, free_via, free_each}
use Rattle.word_text.specs.Words.{IsFreeOf}
use Rattle.law_lemmas.proofs.EachOne.{each_append}
use Rattle.law_lemmas.proofs.Tests.{both_true}

pub line_feed : Separates 10
line_feed = record { digit = λ b h e. omega (arith, h, e); capital = λ b h e. omega (arith, h, e); dash = λ e. omega (arith, e); star = λ e. omega (arith, e) }

-- ---- pieces of a line

pub free_more : (xs ys : List ℕ) → IsFreeOf 10 xs → IsFreeOf 10 ys → IsFreeOf 10 (xs ++ ys)
free_more [] ys h k = k
free_more (x ∷ xs) ys h k = (h.0, free_more xs ys h.1 k)

other_byte : (b : ℕ) → not (b == 10) ≡ true → b ≢ 10
other_byte b e = grind (arith, nat_tests)

-- bytes that are known
pub free_known : (xs : List ℕ) → list_all (λ b. not (b == 10)) xs ≡ true → IsFreeOf 10 xs
free_known [] e = tt
free_known (x ∷ xs) e = let h = both_true (not (x == 10)) (list_all (λ b. not (b == 10)) xs) e in (other_byte x h.0, free_known xs h.1)

pub free_spaced : (ws : List (List ℕ)) → Each (IsFreeOf 10) ws → IsFreeOf 10 (spaced ws)
free_spaced [] h = tt
free_spaced (w ∷ ws) h = (λ e. omega (arith, e), free_more w (spaced ws) h.0 (free_spaced ws h.1))

no_feed : (c : ℕ) → IsCharacter c → c ≢ 10
no_feed c (inl h) = line_feed.digit c h
no_feed c (inr h) = line_feed.capital c h

-- ---- lines

pub free_number : Words → (name : List ℕ) (n : ℕ) → IsFreeOf 10 name → n < 2 ^ 32 → IsFreeOf 10 (number_line name n)
free_number k name n h small = free_more name (32 ∷ decimal n) h (λ e. omega (arith, e), free_decimal k 10 line_feed n (omega (arith, small)))

free_flights : Words → (fs : List ℕ) → Each (λ f. f < 2 ^ 32) fs → Each (IsFreeOf 10) (map decimal fs)
free_flights k [] h = tt
free_flights k (f ∷ fs) h = (free_decimal k 10 line_feed f (omega (arith, h.0)), free_flights k fs h.1)

free_move : Words → (m : Move) → IsMove m → Each (IsFreeOf 10) (move_words m)
free_move k m h = (
  free_decimal k 10 line_feed _ (omega (arith, h.count)),
  each_append (IsFreeOf 10) (map decimal m.flights) _ (free_flights k m.flights h.flights)
      (free_each IsCharacter 10 no_feed m.carrier.0 h.carrier.1, (free_each IsCharacter 10 no_feed m.basis.0 h.basis.2, (free_decimal k 10 line_feed (role_code m.role) (role_small m.role), (free_decimal k 10 line_feed m.slot (omega (arith, h.slot)), tt)))),
)

free_moves : Words → (ms : List Move) → Each IsMove ms → Each (IsFreeOf 10) (flat_map move_words ms)
free_moves k [] h = tt
free_moves k (m ∷ ms) h = each_append (IsFreeOf 10) (move_words m) (flat_map move_words ms) (free_move k m h.0) (free_moves k ms h.1)

pub free_answer : Words → (a : CertAnswer) → IsAnswer a → IsFreeOf 10 (answer_line a)
free_answer k a h =
    free_more (codes "answer") (spaced (decimal a.price ∷ flat_map move_words a.moves)) (free_known (codes "answer") refl)
    (free_spaced (decimal a.price ∷ flat_map move_words a.moves) (free_decimal k 10 line_feed a.price h.price, free_moves k a.moves h.moves))

free_bound : Words → (b : Option ℕ) → IfSome b (λ n. n < 2 ^ 64) → IsFreeOf 10 (bound_word b)
free_bound k None h = (λ e. omega (arith, e), tt)
free_bound k (Some n) h = free_decimal k 10 line_feed n h

free_units : Words → (us : List OpenUnit) → Each UnitInRanges us → Each IsNamed us → IsFreeOf 10 (units_text us)
free_units k [] h n = (λ e. omega (arith, e), tt)
free_units k (u ∷ us) h n = free_joined 10 47 (λ e. omega (arith, e)) (map unit_text (u ∷ us)) (each (u ∷ us) h n)
  where
    each : (vs : List OpenUnit) → Each UnitInRanges vs → Each IsNamed vs → Each (IsFreeOf 10) (map unit_text vs)
    each [] h n = tt
    each (v ∷ vs) h n = (free_unit k 10 line_feed (λ e. omega (arith, e)) (λ e. omega (arith, e)) v h.0 n.0, each vs h.1 n.1)

free_part : Words → (t : TicketPart) → PartKept t → AreCarriers t.carrier → IsFreeOf 10 (part_text t)
free_part k t h carrier =
    free_joined 10 58 (λ e. omega (arith, e)) (decimal t.units ∷ decimal t.ends ∷ carriers_word t.carrier ∷ [])
    (free_decimal k 10 line_feed t.units (omega (arith, h.units)), (free_decimal k 10 line_feed t.ends (omega (arith, h.ends)), (free_carriers 10 line_feed t.carrier carrier, tt)))

free_residual : Words → (x : State) → IsWritten x → IsFreeOf 10 (residual_text x)
free_residual k x h =
    let at = h.at in
    let last : Each (IsFreeOf 10) (units_text x.units ∷ part_text x.part ∷ []) = (free_units k x.units h.kept.units h.units, (free_part k x.part h.kept.part h.carrier, tt)) in
    free_joined 10 32 (λ e. omega (arith, e)) (residual_words x)
    (each_append (IsFreeOf 10) (position_words x.at) (units_text x.units ∷ part_text x.part ∷ []) (
      free_decimal k 10 line_feed x.at.slice (omega (arith, at.slice)),
      (
        free_decimal k 10 line_feed x.at.leg (omega (arith, at.leg)),
        (
          free_place 10 line_feed x.at.place at.place,
          (
            free_via 10 line_feed x.at.via at.via,
            (free_decimal k 10 line_feed x.at.lo (omega (arith, at.lo)), (free_decimal k 10 line_feed x.at.hi (omega (arith, at.hi)), tt)),
          ),
        ),
      ),
    ) last)

pub free_row : Words → (r : CertRow) → IsRow r → IsFreeOf 10 (row_line r)
free_row k r h =
    free_more (codes "row ") (residual_text r.residual ++ 32 ∷ bound_word r.bound) (free_known (codes "row ") refl)
    (free_more (residual_text r.residual) (32 ∷ bound_word r.bound) (free_residual k r.residual h.residual) (λ e. omega (arith, e), free_bound k r.bound h.bound))
