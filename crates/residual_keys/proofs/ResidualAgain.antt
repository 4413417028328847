-- The text of a residual is read as its parts. Given on to the crates above.
use Rattle.std.proofs.Common.{bytes_eq, ◌≡◌, ◌≤◌, ℕ, List, [], ◌∷◌, ◌++◌, length, slice_get, Some, refl, arith, ap, sym, ◌∙◌, rules, length-append, append-nil, false}
use Rattle.std.specs.Fmt.{decimal, signed_decimal}
use Rattle.std.specs.List.{join_with_byte}
use Rattle.fare_law.specs.Lists.{Each}
use Rattle.flight_paths.specs.declared.positions.Position.{Position}
use Rattle.open_unit.specs.declared.units.OpenUnit.{OpenUnit}
use Rattle.residual_keys.specs.declared.parts.TicketPart.{TicketPart}
use Rattle.residual_keys.specs.declared.reading.Parts.{Parts}
use Rattle.open_unit.specs.Ranges.{UnitInRanges}
use Rattle.residual_keys.specs.Kept.{PartKept}
use Rattle.residual_keys.specs.ResidualReading.{position_in, opening_in, days_in, marks_in, unit_in, units_in, part_in, parts_in}
use Rattle.residual_keys.specs.ResidualText.{AreCarriers, IsNamed, IsPosition, IsWritten, via_word, day_word, carriers_word, rules_word, unit_words, unit_text, units_text, part_text, residual_text}
use Rattle.residual_keys.specs.Residuals.{State}
use Rattle.residual_keys.proofs.WordFacts.{Words, space, slash, colon, angle, free_decimal, free_place, free_via, free_signed, free_day, free_carriers, free_unit, free_joined, first_within}
use Rattle.word_text.specs.Laws.{LastCutTells}
use Rattle.word_text.specs.Words.{IsFreeOf}
use Rattle.residual_keys.proofs.WordsAgain.{longer, via_again, day_again, set_day_again, carriers_again, rules_again}
use Rattle.name_text.proofs.TextLemmas.{place_again}

pub position_again : Words → (a : Position) (rest : List ℕ) → IsPosition a
    → position_in (decimal a.slice ++ 32 ∷ (decimal a.leg ++ 32 ∷ (a.place.0 ++ 32 ∷ (via_word a.via ++ 32 ∷ (decimal a.lo ++ 32 ∷ (decimal a.hi ++ 32 ∷ rest)))))) ≡ Some (a, rest)
unfolding position_in
position_again k a rest h =
    let t5 = decimal a.hi ++ 32 ∷ rest in
    let t4 = decimal a.lo ++ 32 ∷ t5 in
    let t3 = via_word a.via ++ 32 ∷ t4 in
    let t2 = a.place.0 ++ 32 ∷ t3 in
    let t1 = decimal a.leg ++ 32 ∷ t2 in
    rw (
      k.cut.again 32 (decimal a.slice) t1 (free_decimal k 32 space a.slice (omega (arith, h.slice))),
      k.cut.again 32 (decimal a.leg) t2 (free_decimal k 32 space a.leg (omega (arith, h.leg))),
      k.cut.again 32 a.place.0 t3 (free_place 32 space a.place h.place),
      k.cut.again 32 (via_word a.via) t4 (free_via 32 space a.via h.via),
      k.cut.again 32 (decimal a.lo) t5 (free_decimal k 32 space a.lo (omega (arith, h.lo))),
      k.cut.again 32 (decimal a.hi) rest (free_decimal k 32 space a.hi (omega (arith, h.hi))),
      k.number.again 255 a.slice (omega (arith, h.slice)) (omega (arith, h.slice)),
      k.number.again 255 a.leg (omega (arith, h.leg)) (omega (arith, h.leg)),
      place_again a.place h.place,
      via_again a.via h.via,
      k.number.again 4294967295 a.lo (omega (arith, h.lo)) (omega (arith, h.lo)),
      k.number.again 4294967295 a.hi (omega (arith, h.hi)) (omega (arith, h.hi)),
    ) refl

unit_again : Words → (u : OpenUnit) → UnitInRanges u → IsNamed u → unit_in (unit_text u) ≡ Some u
unfolding opening_in days_in marks_in unit_in
unit_again k u h n =
    let t9 = rules_word u.rule in
    let t8 = carriers_word u.carrier ++ 58 ∷ t9 in
    let t7 = decimal u.partner ++ 58 ∷ t8 in
    let t6 = decimal u.kinds ++ 58 ∷ t7 in
    let t5 = day_word u.by ++ 58 ∷ t6 in
    let t4 = day_word u.greatest ++ 58 ∷ t5 in
    let t3 = day_word u.least ++ 58 ∷ t4 in
    let t2 = signed_decimal u.first_day ++ 58 ∷ t3 in
    let t1 = decimal u.count ++ 58 ∷ t2 in
    let t0 = u.end.0 ++ 58 ∷ t1 in
    rw (
      k.cut.again 62 u.origin.0 t0 (free_place 62 angle u.origin n.origin),
      k.cut.again 58 u.end.0 t1 (free_place 58 colon u.end n.end),
      k.cut.again 58 (decimal u.count) t2 (free_decimal k 58 colon u.count (omega (arith, h.count))),
      k.cut.again 58 (signed_decimal u.first_day) t3 (free_signed k 58 colon u.first_day h.first.0 (first_within u.first_day h.first)),
      place_again u.origin n.origin,
      place_again u.end n.end,
      k.number.again 255 u.count (omega (arith, h.count)) (omega (arith, h.count)),
      day_again k u.first_day h.first.0 (first_within u.first_day h.first),
      k.cut.again 58 (day_word u.least) t4 (free_day k 58 colon u.least h.least),
      k.cut.again 58 (day_word u.greatest) t5 (free_day k 58 colon u.greatest h.greatest),
      k.cut.again 58 (day_word u.by) t6 (free_day k 58 colon u.by h.by),
      set_day_again k u.least h.least,
      set_day_again k u.greatest h.greatest,
      set_day_again k u.by h.by,
      k.cut.again 58 (decimal u.kinds) t7 (free_decimal k 58 colon u.kinds (omega (arith, h.kinds))),
      k.cut.again 58 (decimal u.partner) t8 (free_decimal k 58 colon u.partner (omega (arith, h.partner))),
      k.cut.again 58 (carriers_word u.carrier) t9 (free_carriers 58 colon u.carrier n.carrier),
      k.number.again 255 u.kinds (omega (arith, h.kinds)) (omega (arith, h.kinds)),
      k.number.again 255 u.partner (omega (arith, h.partner)) (omega (arith, h.partner)),
      carriers_again u.carrier n.carrier,
      rules_again k u.rule n.rule,
    ) refl

-- a unit's text is longer than the mark of no unit
not_none : (u : OpenUnit) (more : List ℕ) → IsNamed u → bytes_eq (unit_text u ++ more) (45 ∷ []) ≡ false
not_none u more n = longer (unit_text u ++ more) (45 ∷ []) (λ e. omega (arith, n.origin.0, e, length_cut u.origin.0 62 (join_with_byte 58 (unit_words u)) more))
  where
    length_cut : (xs : List ℕ) (c : ℕ) (ys more : List ℕ) → length xs ≤ length ((xs ++ c ∷ ys) ++ more)
    length_cut xs c ys more = search (rules, length-append)

pub units_again : Words → (us : List OpenUnit) → length us ≤ 2 → Each UnitInRanges us → Each IsNamed us → units_in (units_text us) ≡ Some (slice_get us 0, slice_get us 1)
unfolding units_in
units_again k [] few h n = refl
units_again k (u ∷ []) few h n =
    rw (
      ap (λ t. bytes_eq t (45 ∷ [])) (sym (append-nil (unit_text u))) ∙ not_none u [] n.0,
      k.cut.none 47 (unit_text u) (free_unit k 47 slash (λ e. omega (arith, e)) (λ e. omega (arith, e)) u h.0 n.0),
      unit_again k u h.0 n.0,
    ) refl
units_again k (u ∷ v ∷ []) few h n =
    rw (
      not_none u (47 ∷ unit_text v) n.0,
      k.cut.again 47 (unit_text u) (unit_text v) (free_unit k 47 slash (λ e. omega (arith, e)) (λ e. omega (arith, e)) u h.0 n.0),
      unit_again k u h.0 n.0,
      unit_again k v h.1.0 n.1.0,
    ) refl
units_again k (u ∷ v ∷ w ∷ us) few h n = absurd (omega (arith, few))

pub part_again : Words → (t : TicketPart) → PartKept t → AreCarriers t.carrier → part_in (part_text t) ≡ Some t
unfolding part_in
part_again k t h n =
    let t1 = carriers_word t.carrier in
    let t0 = decimal t.ends ++ 58 ∷ t1 in
    rw (
      k.cut.again 58 (decimal t.units) t0 (free_decimal k 58 colon t.units (omega (arith, h.units))),
      k.cut.again 58 (decimal t.ends) t1 (free_decimal k 58 colon t.ends (omega (arith, h.ends))),
      k.number.again 255 t.units (omega (arith, h.units)) (omega (arith, h.units)),
      k.number.again 255 t.ends (omega (arith, h.ends)) (omega (arith, h.ends)),
      carriers_again t.carrier n,
    ) refl

abbrev pub parts_of : State → Parts
parts_of x = record { at = x.at; first = slice_get x.units 0; second = slice_get x.units 1; part = x.part }

-- a ticket part's text has no space
pub free_part : Words → (t : TicketPart) → PartKept t → AreCarriers t.carrier → IsFreeOf 32 (part_text t)
free_part k t h n =
    free_joined 32 58 (λ e. omega (arith, e)) (decimal t.units ∷ decimal t.ends ∷ carriers_word t.carrier ∷ [])
    (free_decimal k 32 space t.units (omega (arith, h.units)), (free_decimal k 32 space t.ends (omega (arith, h.ends)), (free_carriers 32 space t.carrier n, tt)))

pub parts_again : Words → LastCutTells → (x : State) → IsWritten x → parts_in (residual_text x) ≡ Some (parts_of x)
unfolding parts_in
parts_again k last x h =
    rw (
      position_again k x.at (units_text x.units ++ 32 ∷ part_text x.part) h.at,
      last.again 32 (units_text x.units) (part_text x.part) (free_part k x.part h.kept.part h.carrier),
      units_again k x.units h.kept.few h.kept.units h.units,
      part_again k x.part h.kept.part h.carrier,
    ) refl
