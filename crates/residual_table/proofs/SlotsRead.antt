-- The slots of the open units that a text spells.
use Rattle.std.proofs.Common.{◌≡◌, ◌∙◌, ℕ, true, false, List, Option, Some, None, IfSome, bytes_eq, option_map, refl, sym, ap, subst}
use Rattle.std.specs.Prelude.{codes}
use Rattle.std.proofs.lemmas.Option.{same_Some}
use Rattle.law_lemmas.proofs.Options.{from_step, option_mapped, some_none}
use Rattle.open_unit.specs.declared.units.OpenUnit.{OpenUnit}
use Rattle.open_unit.specs.Ranges.{UnitInRanges}
use Rattle.residual_keys.specs.ResidualReading.{unit_in, units_in, units_parted}
use Rattle.residual_table.specs.KeyReading.{HasSlots, HasUnit, NoUnit, NoUnits}
use Rattle.residual_table.specs.Keys.{Tables}
use Rattle.word_text.specs.Words.{cut_at}

-- the mark that no unit is open
pub no_slots : (t : Tables) (text : List ℕ) → bytes_eq text (codes "-") ≡ true → HasSlots t text 0 0
unfolding units_in
no_slots t text e = record { one = None; other = None; spelled = rw e refl; turn = λ h. refl; one_slot = refl; other_slot = refl }

module _ (text : List ℕ) (e : bytes_eq text (codes "-") ≡ false) where
  parted : (o : Option (List ℕ × List ℕ)) → cut_at 47 text ≡ o → units_in text ≡ units_parted text o
  unfolding units_in
  parted o was = rw (e, was) refl

  pub one_slot : (t : Tables) (slot : ℕ) → cut_at 47 text ≡ None → HasUnit t text slot → HasSlots t text slot 0
  one_slot t slot was h = record {
    one = Some h.unit;
    other = None;
    spelled = parted None was ∙ ap (option_map (λ u. (Some u, None))) h.spelled;
    turn = λ i. refl;
    one_slot = h.number;
    other_slot = refl;
  }

  pub two_slots : (t : Tables) (word other : List ℕ) (first second : ℕ) → cut_at 47 text ≡ Some (word, other) → HasUnit t word first → HasUnit t other second → HasSlots t text first second
  two_slots t word other first second was h k = record {
    one = Some h.unit;
    other = Some k.unit;
    spelled = parted (Some (word, other)) was ∙ rw (h.spelled, k.spelled) refl;
    turn = λ i. absurd (some_none h.unit i);
    one_slot = h.number;
    other_slot = k.number;
  }

  ranges : (o : Option OpenUnit) (u : OpenUnit) → Some u ≡ o → IfSome o UnitInRanges → UnitInRanges u
  ranges o u same h = subst (λ z. IfSome z UnitInRanges) (sym same) h

  pub no_one : cut_at 47 text ≡ None → NoUnit text → NoUnits text
  no_one was none one other spelled in_one in_other =
      let m = option_mapped (λ (u : OpenUnit). (Some u, None)) (unit_in text) (one, other) (sym (parted None was) ∙ spelled) in
      none m.0 m.1 (ranges one m.0 (ap (λ p. p.0) m.2) in_one)

  module _ (word rest : List ℕ) (was : cut_at 47 text ≡ Some (word, rest)) (one other : Option OpenUnit) (spelled : units_in text ≡ Some (one, other)) where
    both : (u : OpenUnit) × (v : OpenUnit) × (unit_in word ≡ Some u) × (unit_in rest ≡ Some v) × (Some u ≡ one) × (Some v ≡ other)
    both =
        from_step (unit_in word) _ (one, other) (sym (parted (Some (word, rest)) was) ∙ spelled) (λ u was_u e.
        from_step (unit_in rest) _ (one, other) e (λ v was_v e.
        let same = same_Some (Some u, Some v) (one, other) e in
        (u, v, was_u, was_v, ap (λ p. p.0) same, ap (λ p. p.1) same)))

  pub no_first : (word rest : List ℕ) → cut_at 47 text ≡ Some (word, rest) → NoUnit word → NoUnits text
  no_first word rest was none one other spelled in_one in_other =
      let b = both word rest was one other spelled in
      none b.0 b.2 (ranges one b.0 b.4 in_one)

  pub no_second : (word rest : List ℕ) → cut_at 47 text ≡ Some (word, rest) → NoUnit rest → NoUnits text
  no_second word rest was none one other spelled in_one in_other =
      let b = both word rest was one other spelled in
      none b.1 b.3 (ranges other b.1 b.5 in_other)
