-- A text that is read is that of a residual. Given on to the crates above.
use Rattle.std.proofs.Common.{◌≡◌, ◌≤◌, ◌↔◌, ℕ, List, [], ◌∷◌, ◌++◌, length, slice_get, Option, Some, None, refl, arith, ap, sym, ◌∙◌, subst, inl, inr, option_and_then}
use Rattle.std.specs.Fmt.{decimal, signed_decimal}
use Rattle.std.specs.Prelude.{IfSome, IsSome}
use Rattle.std.proofs.lemmas.Option.{same_Some}
use Rattle.fare_law.specs.Limits.{IsPlace}
use Rattle.fare_law.specs.Lists.{Each}
use Rattle.fare_law.specs.declared.names.Place.{Place}
use Rattle.flight_paths.specs.declared.positions.Position.{Position}
use Rattle.name_text.specs.Names.{place_of}
use Rattle.open_unit.specs.declared.units.OpenUnit.{OpenUnit}
use Rattle.residual_keys.specs.declared.parts.TicketPart.{TicketPart}
use Rattle.residual_keys.specs.declared.reading.Opening.{Opening}
use Rattle.residual_keys.specs.declared.reading.Parts.{Parts}
use Rattle.residual_keys.specs.declared.reading.SetDays.{SetDays}
use Rattle.residual_keys.specs.declared.reading.UnitMarks.{UnitMarks}
use Rattle.open_unit.specs.Ranges.{UnitInRanges}
use Rattle.residual_keys.specs.Kept.{AreKept, IsResidual, open_units}
use Rattle.residual_keys.specs.ResidualReading.{via_in, day_in, set_day_in, carriers_in, rules_in, position_in, opening_in, days_in, marks_in, unit_in, units_parted, units_in, part_in, parts_in}
use Rattle.residual_keys.specs.ResidualText.{AreCarriers, AreRules, IsNamed, IsPosition, IsWritten, Spells, via_word, day_word, carriers_word, rules_word, unit_text, units_text, part_text, residual_text}
use Rattle.residual_keys.specs.Residuals.{State}
use Rattle.residual_keys.proofs.WordFacts.{Words}
use Rattle.residual_keys.proofs.WordsAgain.{marked, place_read, via_read, day_read, set_day_read, carriers_read, rules_read}
use Rattle.residual_keys.proofs.ResidualAgain.{free_part, part_again, parts_of, parts_again, position_again, units_again}
use Rattle.word_text.specs.Laws.{LastCutTells}
use Rattle.word_text.specs.Words.{IsFreeOf, cut_at, cut_last_at, number_in}
use Rattle.law_lemmas.proofs.Options.{from_step, option_mapped}

-- one step of a reading that came to its end
record Step {A B : Type 0} (o : Option A) (f : A → Option B) (b : B) : Type 0 where
  value : A
  was : o ≡ Some value
  next : f value ≡ Some b

step : {A B : Type 0} (o : Option A) (f : A → Option B) (b : B) → option_and_then f o ≡ Some b → Step o f b
step None f b e = absurd (cc)
step (Some x) f b e = record { value = x; was = refl; next = e }

abbrev position_text : Position → List ℕ → List ℕ
position_text a rest = decimal a.slice ++ 32 ∷ (decimal a.leg ++ 32 ∷ (a.place.0 ++ 32 ∷ (via_word a.via ++ 32 ∷ (decimal a.lo ++ 32 ∷ (decimal a.hi ++ 32 ∷ rest)))))

-- a cut text of these parts
joined : (c : ℕ) (text : List ℕ) (p : List ℕ × List ℕ) (w t : List ℕ) → (text ≡ p.0 ++ c ∷ p.1) × IsFreeOf c p.0 → p.0 ≡ w → p.1 ≡ t → text ≡ w ++ c ∷ t
joined c text p w t cut h k = cut.0 ∙ ap (λ x. x ++ c ∷ p.1) h ∙ ap (λ x. w ++ c ∷ x) k

abbrev SpellsAt : List ℕ → Position × List ℕ → Type 0
SpellsAt text p = IsPosition p.0 × (text ≡ position_text p.0 p.1)

position_whole : Words → (text : List ℕ) (p : Position × List ℕ) (a b c d f g : List ℕ × List ℕ) (slice leg : ℕ) (place : Place) (via : Option Place) (lo hi : ℕ)
    → cut_at 32 text ≡ Some a → cut_at 32 a.1 ≡ Some b → cut_at 32 b.1 ≡ Some c → cut_at 32 c.1 ≡ Some d → cut_at 32 d.1 ≡ Some f → cut_at 32 f.1 ≡ Some g
    → number_in 255 a.0 ≡ Some slice → number_in 255 b.0 ≡ Some leg → place_of c.0 ≡ Some place → via_in d.0 ≡ Some via → number_in 4294967295 f.0 ≡ Some lo → number_in 4294967295 g.0 ≡ Some hi
    → ◌≡◌ {A = Option (Position × List ℕ)} (Some (record { slice = slice; leg = leg; place = place; via = via; lo = lo; hi = hi }, g.1)) (Some p) → SpellsAt text p
position_whole k text p a b c d f g slice leg place via lo hi was_a was_b was_c was_d was_f was_g is_slice is_leg is_place is_via is_lo is_hi e =
    let at : Position = record { slice = slice; leg = leg; place = place; via = via; lo = lo; hi = hi } in
    let n1 = k.number.read 255 slice a.0 is_slice in
    let n2 = k.number.read 255 leg b.0 is_leg in
    let n3 = place_read c.0 place is_place in
    let n4 = via_read d.0 via is_via in
    let n5 = k.number.read 4294967295 lo f.0 is_lo in
    let n6 = k.number.read 4294967295 hi g.0 is_hi in
    let is : IsPosition at = record { slice = omega (arith, n1.0); leg = omega (arith, n2.0); place = n3.0; via = n4.0; lo = omega (arith, n5.0); hi = omega (arith, n6.0) } in
    let t6 : f.1 ≡ decimal hi ++ 32 ∷ g.1 = joined 32 f.1 g (decimal hi) g.1 (k.cut.read 32 f.1 g was_g) n6.1 refl in
    let t5 : d.1 ≡ decimal lo ++ 32 ∷ (decimal hi ++ 32 ∷ g.1) = joined 32 d.1 f (decimal lo) (decimal hi ++ 32 ∷ g.1) (k.cut.read 32 d.1 f was_f) n5.1 t6 in
    let t4 = joined 32 c.1 d (via_word via) (decimal lo ++ 32 ∷ (decimal hi ++ 32 ∷ g.1)) (k.cut.read 32 c.1 d was_d) n4.1 t5 in
    let t3 = joined 32 b.1 c place.0 (via_word via ++ 32 ∷ (decimal lo ++ 32 ∷ (decimal hi ++ 32 ∷ g.1))) (k.cut.read 32 b.1 c was_c) n3.1 t4 in
    let t2 = joined 32 a.1 b (decimal leg) (place.0 ++ 32 ∷ (via_word via ++ 32 ∷ (decimal lo ++ 32 ∷ (decimal hi ++ 32 ∷ g.1)))) (k.cut.read 32 a.1 b was_b) n2.1 t3 in
    let t1 = joined 32 text a (decimal slice) (decimal leg ++ 32 ∷ (place.0 ++ 32 ∷ (via_word via ++ 32 ∷ (decimal lo ++ 32 ∷ (decimal hi ++ 32 ∷ g.1))))) (k.cut.read 32 text a was_a) n1.1 t2 in
    subst (SpellsAt text) (same_Some (at, g.1) p e) (is, t1)

pub position_read : Words → (text : List ℕ) (p : Position × List ℕ) → position_in text ≡ Some p → SpellsAt text p
unfolding position_in
position_read k text p e =
    from_step (cut_at 32 text) _ p e (λ a was_a e.
    from_step (cut_at 32 a.1) _ p e (λ b was_b e.
    from_step (cut_at 32 b.1) _ p e (λ c was_c e.
    from_step (cut_at 32 c.1) _ p e (λ d was_d e.
    from_step (cut_at 32 d.1) _ p e (λ f was_f e.
    from_step (cut_at 32 f.1) _ p e (λ g was_g e.
    from_step (number_in 255 a.0) _ p e (λ slice is_slice e.
    from_step (number_in 255 b.0) _ p e (λ leg is_leg e.
    from_step (place_of c.0) _ p e (λ place is_place e.
    from_step (via_in d.0) _ p e (λ via is_via e.
    from_step (number_in 4294967295 f.0) _ p e (λ lo is_lo e.
    from_step (number_in 4294967295 g.0) _ p e (λ hi is_hi e.
    position_whole k text p a b c d f g slice leg place via lo hi was_a was_b was_c was_d was_f was_g is_slice is_leg is_place is_via is_lo is_hi e
    ))))))))))))

abbrev SpellsUnit : List ℕ → OpenUnit → Type 0
SpellsUnit text u = IsNamed u × (text ≡ unit_text u)

-- where a unit begins and how far it has come, as it is written before this rest
abbrev opening_text : Opening → List ℕ → List ℕ
opening_text o rest = o.origin.0 ++ 62 ∷ (o.end.0 ++ 58 ∷ (decimal o.count ++ 58 ∷ (signed_decimal o.first_day ++ 58 ∷ rest)))

abbrev SpellsOpening : List ℕ → Opening × List ℕ → Type 0
SpellsOpening text p = IsPlace p.0.origin × IsPlace p.0.end × (text ≡ opening_text p.0 p.1)

opening_read : Words → (text : List ℕ) (p : Opening × List ℕ) → opening_in text ≡ Some p → SpellsOpening text p
unfolding opening_in
opening_read k text p e =
    from_step (cut_at 62 text) _ p e (λ a was_a e.
    from_step (cut_at 58 a.1) _ p e (λ b was_b e.
    from_step (cut_at 58 b.1) _ p e (λ c was_c e.
    from_step (cut_at 58 c.1) _ p e (λ d was_d e.
    from_step (place_of a.0) _ p e (λ origin is_origin e.
    from_step (place_of b.0) _ p e (λ end is_end e.
    from_step (number_in 255 c.0) _ p e (λ count is_count e.
    from_step (day_in d.0) _ p e (λ first is_first e.
    let it : Opening = record { origin = origin; end = end; count = count; first_day = first } in
    let n1 = place_read a.0 origin is_origin in
    let n2 = place_read b.0 end is_end in
    let n3 = k.number.read 255 count c.0 is_count in
    let n4 = day_read k d.0 first is_first in
    let t4 = signed_decimal first ++ 58 ∷ d.1 in
    let is_t4 : c.1 ≡ t4 = joined 58 c.1 d (signed_decimal first) d.1 (k.cut.read 58 c.1 d was_d) n4 refl in
    let t3 = decimal count ++ 58 ∷ t4 in
    let is_t3 : b.1 ≡ t3 = joined 58 b.1 c (decimal count) t4 (k.cut.read 58 b.1 c was_c) n3.1 is_t4 in
    let t2 = end.0 ++ 58 ∷ t3 in
    let is_t2 : a.1 ≡ t2 = joined 58 a.1 b end.0 t3 (k.cut.read 58 a.1 b was_b) n2.1 is_t3 in
    let is_t1 : text ≡ origin.0 ++ 62 ∷ t2 = joined 62 text a origin.0 t2 (k.cut.read 62 text a was_a) n1.1 is_t2 in
    subst (SpellsOpening text) (same_Some (it, d.1) p e) (n1.0, n2.0, is_t1)
    ))))))))

abbrev days_text : SetDays → List ℕ → List ℕ
days_text d rest = day_word d.least ++ 58 ∷ (day_word d.greatest ++ 58 ∷ (day_word d.by ++ 58 ∷ rest))

days_read : Words → (text : List ℕ) (p : SetDays × List ℕ) → days_in text ≡ Some p → text ≡ days_text p.0 p.1
unfolding days_in
days_read k text p e =
    from_step (cut_at 58 text) _ p e (λ a was_a e.
    from_step (cut_at 58 a.1) _ p e (λ b was_b e.
    from_step (cut_at 58 b.1) _ p e (λ c was_c e.
    from_step (set_day_in a.0) _ p e (λ least is_least e.
    from_step (set_day_in b.0) _ p e (λ greatest is_greatest e.
    from_step (set_day_in c.0) _ p e (λ by is_by e.
    let it : SetDays = record { least = least; greatest = greatest; by = by } in
    let t3 = day_word by ++ 58 ∷ c.1 in
    let is_t3 : b.1 ≡ t3 = joined 58 b.1 c (day_word by) c.1 (k.cut.read 58 b.1 c was_c) (set_day_read k c.0 by is_by) refl in
    let t2 = day_word greatest ++ 58 ∷ t3 in
    let is_t2 : a.1 ≡ t2 = joined 58 a.1 b (day_word greatest) t3 (k.cut.read 58 a.1 b was_b) (set_day_read k b.0 greatest is_greatest) is_t3 in
    let is_t1 : text ≡ day_word least ++ 58 ∷ t2 = joined 58 text a (day_word least) t2 (k.cut.read 58 text a was_a) (set_day_read k a.0 least is_least) is_t2 in
    subst (λ (q : SetDays × List ℕ). text ≡ days_text q.0 q.1) (same_Some (it, c.1) p e) is_t1
    ))))))

abbrev marks_text : UnitMarks → List ℕ
marks_text m = decimal m.kinds ++ 58 ∷ (decimal m.partner ++ 58 ∷ (carriers_word m.carrier ++ 58 ∷ rules_word m.rule))

abbrev SpellsMarks : List ℕ → UnitMarks → Type 0
SpellsMarks text m = AreCarriers m.carrier × AreRules m.rule × (text ≡ marks_text m)

marks_read : Words → (text : List ℕ) (m : UnitMarks) → marks_in text ≡ Some m → SpellsMarks text m
unfolding marks_in
marks_read k text m e =
    from_step (cut_at 58 text) _ m e (λ a was_a e.
    from_step (cut_at 58 a.1) _ m e (λ b was_b e.
    from_step (cut_at 58 b.1) _ m e (λ c was_c e.
    from_step (number_in 255 a.0) _ m e (λ kinds is_kinds e.
    from_step (number_in 255 b.0) _ m e (λ partner is_partner e.
    from_step (carriers_in c.0) _ m e (λ carrier is_carrier e.
    from_step (rules_in c.1) _ m e (λ rule is_rule e.
    let it : UnitMarks = record { kinds = kinds; partner = partner; carrier = carrier; rule = rule } in
    let n1 = k.number.read 255 kinds a.0 is_kinds in
    let n2 = k.number.read 255 partner b.0 is_partner in
    let n3 = carriers_read c.0 carrier is_carrier in
    let n4 = rules_read k c.1 rule is_rule in
    let t3 = carriers_word carrier ++ 58 ∷ rules_word rule in
    let is_t3 : b.1 ≡ t3 = joined 58 b.1 c (carriers_word carrier) (rules_word rule) (k.cut.read 58 b.1 c was_c) n3.1 n4.1 in
    let t2 = decimal partner ++ 58 ∷ t3 in
    let is_t2 : a.1 ≡ t2 = joined 58 a.1 b (decimal partner) t3 (k.cut.read 58 a.1 b was_b) n2.1 is_t3 in
    let is_t1 : text ≡ decimal kinds ++ 58 ∷ t2 = joined 58 text a (decimal kinds) t2 (k.cut.read 58 text a was_a) n1.1 is_t2 in
    subst (SpellsMarks text) (same_Some it m e) (n3.0, n4.0, is_t1)
    )))))))

unit_read : Words → (text : List ℕ) (u : OpenUnit) → unit_in text ≡ Some u → SpellsUnit text u
unfolding unit_in
unit_read k text u e =
    from_step (opening_in text) _ u e (λ opening is_opening e.
    from_step (days_in opening.1) _ u e (λ days is_days e.
    from_step (marks_in days.1) _ u e (λ marks is_marks e.
    let it : OpenUnit = record {
      origin = opening.0.origin;
      end = opening.0.end;
      count = opening.0.count;
      first_day = opening.0.first_day;
      least = days.0.least;
      greatest = days.0.greatest;
      by = days.0.by;
      kinds = marks.kinds;
      partner = marks.partner;
      carrier = marks.carrier;
      rule = marks.rule;
    } in
    let n1 = opening_read k text opening is_opening in
    let n3 = marks_read k days.1 marks is_marks in
    let is : IsNamed it = record { origin = n1.0; end = n1.1; carrier = n3.0; rule = n3.1 } in
    let written : text ≡ unit_text it = n1.2 ∙ ap (opening_text opening.0) (days_read k opening.1 days is_days ∙ ap (days_text days.0) n3.2) in
    subst (SpellsUnit text) (same_Some it u e) (is, written)
    )))

-- open units whose names are well formed
abbrev AreNamed : Option OpenUnit → Option OpenUnit → Type 0
AreNamed first second = IfSome first IsNamed × IfSome second IsNamed

abbrev SpellUnits : List ℕ → Option OpenUnit × Option OpenUnit → Type 0
SpellUnits text p = AreNamed p.0 p.1 × (text ≡ units_text (open_units p.0 p.1))

parted_read : Words → (text : List ℕ) (o : Option (List ℕ × List ℕ)) (p : Option OpenUnit × Option OpenUnit) → cut_at 47 text ≡ o → units_parted text o ≡ Some p → SpellUnits text p
parted_read k text None p was e =
    let m = option_mapped (λ (u : OpenUnit). (Some u, None)) (unit_in text) p e in
    let r = unit_read k text m.0 m.1 in
    subst (SpellUnits text) m.2 ((r.0, tt), r.1)
parted_read k text (Some q) p was e =
    let first = step (unit_in q.0) _ p e in
    let second = step (unit_in q.1) _ p first.next in
    let same : (Some first.value, Some second.value) ≡ p = same_Some (Some first.value, Some second.value) p second.next in
    let one = unit_read k q.0 first.value first.was in
    let other = unit_read k q.1 second.value second.was in
    let cut = (k.cut.read 47 text q was).0 in
    let written : text ≡ unit_text first.value ++ 47 ∷ unit_text second.value = cut ∙ ap (λ t. t ++ 47 ∷ q.1) one.1 ∙ ap (λ t. unit_text first.value ++ 47 ∷ t) other.1 in
    subst (SpellUnits text) same ((one.0, other.0), written)

units_read : Words → (text : List ℕ) (p : Option OpenUnit × Option OpenUnit) → units_in text ≡ Some p → SpellUnits text p
unfolding units_in
units_read k text p e = elim (marked text (45 ∷ []) (None, None) p (units_parted text (cut_at 47 text)) e) [
  | inl h ↦ subst (SpellUnits text) h.1 ((tt, tt), h.0)
  | inr h ↦ parted_read k text (cut_at 47 text) p refl h
]

part_read : Words → (text : List ℕ) (t : TicketPart) → part_in text ≡ Some t → AreCarriers t.carrier × (text ≡ part_text t)
unfolding part_in
part_read k text t e =
    let a = step (cut_at 58 text) _ t e in
    let b = step (cut_at 58 a.value.1) _ t a.next in
    let units = step (number_in 255 a.value.0) _ t b.next in
    let ends = step (number_in 255 b.value.0) _ t units.next in
    let carrier = step (carriers_in b.value.1) _ t ends.next in
    let it : TicketPart = record { units = units.value; ends = ends.value; carrier = carrier.value } in
    let same : it ≡ t = same_Some it t carrier.next in
    let cut1 = (k.cut.read 58 text a.value a.was).0 in
    let cut2 = (k.cut.read 58 a.value.1 b.value b.was).0 in
    let n1 = (k.number.read 255 units.value a.value.0 units.was).1 in
    let n2 = (k.number.read 255 ends.value b.value.0 ends.was).1 in
    let n3 = carriers_read b.value.1 carrier.value carrier.was in
    let written : text ≡ part_text it = cc in
    subst (λ (s : TicketPart). AreCarriers s.carrier × (text ≡ part_text s)) same (n3.0, written)

-- the residual that the parts make
abbrev made : Parts → State
made p = record { at = p.at; units = open_units p.first p.second; part = p.part }

record SpellParts (text : List ℕ) (p : Parts) : Type 0 where
  at : IsPosition p.at
  units : AreNamed p.first p.second
  carrier : AreCarriers p.part.carrier
  written : text ≡ residual_text (made p)

parts_read : Words → LastCutTells → (text : List ℕ) (p : Parts) → parts_in text ≡ Some p → SpellParts text p
unfolding parts_in
parts_read k last text p e =
    let at = step (position_in text) _ p e in
    let rest = step (cut_last_at 32 at.value.1) _ p at.next in
    let units = step (units_in rest.value.0) _ p rest.next in
    let part = step (part_in rest.value.1) _ p units.next in
    let it : Parts = record { at = at.value.0; first = units.value.0; second = units.value.1; part = part.value } in
    let same : it ≡ p = same_Some it p part.next in
    let n1 = position_read k text at.value at.was in
    let cut = (last.read 32 at.value.1 rest.value rest.was).0 in
    let n2 = units_read k rest.value.0 units.value units.was in
    let n3 = part_read k rest.value.1 part.value part.was in
    let tail : at.value.1 ≡ units_text (open_units units.value.0 units.value.1) ++ 32 ∷ part_text part.value = cut ∙ ap (λ t. t ++ 32 ∷ rest.value.1) n2.1 ∙ ap (λ t. units_text (open_units units.value.0 units.value.1) ++ 32 ∷ t) n3.1 in
    subst (SpellParts text) same (record { at = n1.0; units = n2.0; carrier = n3.0; written = n1.1 ∙ ap (position_text at.value.0) tail })

-- What is read

kept_is : (p : Parts) → AreKept p.first p.second p.part → IsResidual (made p)
kept_is p h = go p.first p.second h.turn h.first h.second
  where
    go : (first second : Option OpenUnit) → (first ≡ None → second ≡ None) → IfSome first UnitInRanges → IfSome second UnitInRanges → IsResidual (record { at = p.at; units = open_units first second; part = p.part })
    go None second turn one other = record { few = omega arith; units = tt; part = h.part }
    go (Some u) None turn one other = record { few = omega arith; units = (one, tt); part = h.part }
    go (Some u) (Some v) turn one other = record { few = omega arith; units = (one, (other, tt)); part = h.part }

named_are : (first second : Option OpenUnit) → (first ≡ None → second ≡ None) → AreNamed first second → Each IsNamed (open_units first second)
named_are None second turn n = tt
named_are (Some u) None turn n = (n.0, tt)
named_are (Some u) (Some v) turn n = (n.0, (n.1, tt))

spells : Words → LastCutTells → (text : List ℕ) (p : Parts) → parts_in text ≡ Some p → AreKept p.first p.second p.part → Spells text (made p)
spells k last text p e h =
    let r = parts_read k last text p e in
    record { is = record { kept = kept_is p h; at = r.at; units = named_are p.first p.second h.turn r.units; carrier = r.carrier }; written = r.written }

-- the parts of a residual make it again, and are kept
made_again : (x : State) → IsResidual x → (made (parts_of x) ≡ x) × AreKept (slice_get x.units 0) (slice_get x.units 1) x.part
made_again x h = go x.units h.few h.units
  where
    go : (us : List OpenUnit) → length us ≤ 2 → Each UnitInRanges us
        → (◌≡◌ {A = State} (record { at = x.at; units = open_units (slice_get us 0) (slice_get us 1); part = x.part }) (record { at = x.at; units = us; part = x.part })) × AreKept (slice_get us 0) (slice_get us 1) x.part
    go [] few each = (refl, record { turn = λ e. refl; first = tt; second = tt; part = h.part })
    go (u ∷ []) few each = (refl, record { turn = λ e. refl; first = each.0; second = tt; part = h.part })
    go (u ∷ v ∷ []) few each = (refl, record { turn = λ e. absurd (cc); first = each.0; second = each.1.0; part = h.part })
    go (u ∷ v ∷ w ∷ us) few each = absurd (omega (arith, few))

-- what the text of a residual is read as, part by part
pub record Told (text : List ℕ) (x : State) : Type 0 where
  pub rest : List ℕ
  pub words : List ℕ × List ℕ
  pub at : position_in text ≡ Some (x.at, rest)
  pub cut : cut_last_at 32 rest ≡ Some words
  pub units : units_in words.0 ≡ Some (slice_get x.units 0, slice_get x.units 1)
  pub part : part_in words.1 ≡ Some x.part
  pub kept : AreKept (slice_get x.units 0) (slice_get x.units 1) x.part

pub told : Words → LastCutTells → (text : List ℕ) (x : State) → Spells text x → Told text x
told k last text x s =
    let h = s.is in
    let tail = units_text x.units ++ 32 ∷ part_text x.part in
    record {
      rest = tail;
      words = (units_text x.units, part_text x.part);
      at = ap position_in s.written ∙ position_again k x.at tail h.at;
      cut = last.again 32 (units_text x.units) (part_text x.part) (free_part k x.part h.kept.part h.carrier);
      units = units_again k x.units h.kept.few h.kept.units h.units;
      part = part_again k x.part h.kept.part h.carrier;
      kept = (made_again x h.kept).1;
    }

-- parts that are read one after another, and make a residual, spell it
pub spelled : Words → LastCutTells → (text : List ℕ) (at : Position × List ℕ) (words : List ℕ × List ℕ) (units : Option OpenUnit × Option OpenUnit) (part : TicketPart)
    → position_in text ≡ Some at → cut_last_at 32 at.1 ≡ Some words → units_in words.0 ≡ Some units → part_in words.1 ≡ Some part → AreKept units.0 units.1 part
    → Spells text (record { at = at.0; units = open_units units.0 units.1; part = part })
unfolding parts_in
spelled k last text at words units part was_at was_cut was_units was_part kept =
    let it : Parts = record { at = at.0; first = units.0; second = units.1; part = part } in
    let read : parts_in text ≡ Some it = rw (was_at, was_cut, was_units, was_part) refl in
    spells k last text it read kept

pub read_none : Words → LastCutTells → (text : List ℕ) → None ≡ parts_in text → (x : State) → (None ≡ Some x) ↔ Spells text x
read_none k last text none x = (
  λ e. absurd (cc),
  λ s.
      let again : parts_in text ≡ Some (parts_of x) = ap parts_in s.written ∙ parts_again k last x s.is in
      absurd (cc),
)

pub read_exact : Words → LastCutTells → (text : List ℕ) (p : Parts) (o : Option State) → Some p ≡ parts_in text → (IsSome o ↔ AreKept p.first p.second p.part) → IfSome o (λ r. r ≡ made p)
    → (x : State) → (o ≡ Some x) ↔ Spells text x
read_exact k last text p o was decides is x = (forward o decides is, back o decides is)
  where
    forward : (o : Option State) → (IsSome o ↔ AreKept p.first p.second p.part) → IfSome o (λ r. r ≡ made p) → o ≡ Some x → Spells text x
    forward None decides is e = absurd (cc)
    forward (Some r) decides is e =
        let same : made p ≡ x = sym is ∙ same_Some r x e in
        subst (Spells text) same (spells k last text p (sym was) (decides.0 refl))

    back : (o : Option State) → (IsSome o ↔ AreKept p.first p.second p.part) → IfSome o (λ r. r ≡ made p) → Spells text x → o ≡ Some x
    back o decides is s =
        let again : parts_in text ≡ Some (parts_of x) = ap parts_in s.written ∙ parts_again k last x s.is in
        let same : parts_of x ≡ p = same_Some (parts_of x) p (sym again ∙ sym was) in
        let whole = made_again x s.is.kept in
        let kept : AreKept p.first p.second p.part = subst (λ (q : Parts). AreKept q.first q.second q.part) same whole.1 in
        found o is (decides.1 kept) (sym (ap made same) ∙ whole.0)
      where
        found : (o : Option State) → IfSome o (λ r. r ≡ made p) → IsSome o → made p ≡ x → o ≡ Some x
        found None is some e = absurd (cc)
        found (Some r) is some e = ap Some (is ∙ e)

-- texts of two residuals differ
pub one_text : Words → LastCutTells → (x y : State) → IsWritten x → IsWritten y → residual_text x ≡ residual_text y → x ≡ y
one_text k last x y h g e =
    let same : parts_of x ≡ parts_of y = same_Some (parts_of x) (parts_of y) (sym (parts_again k last x h) ∙ ap parts_in e ∙ parts_again k last y g) in
    sym (made_again x h.kept).0 ∙ ap made same ∙ (made_again y g.kept).0
