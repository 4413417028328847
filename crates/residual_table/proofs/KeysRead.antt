-- Keys of residuals that are read: none where the text is that of none, else one that stands for it.
use Rattle.std.proofs.Common.{◌≡◌, ◌∙◌, ℕ, List, Option, Some, None, IfSome, slice_get, refl, sym, ap}
use Rattle.std.proofs.lemmas.Option.{same_Some}
use Rattle.fare_law.specs.Lists.{Each}
use Rattle.flight_paths.specs.declared.positions.Position.{Position}
use Rattle.law_lemmas.proofs.EachOne.{each_got}
use Rattle.open_unit.specs.declared.units.OpenUnit.{OpenUnit}
use Rattle.open_unit.specs.Ranges.{UnitInRanges}
use Rattle.residual_keys.specs.declared.parts.TicketPart.{TicketPart}
use Rattle.residual_keys.specs.Kept.{AreKept, open_units}
use Rattle.residual_keys.specs.ResidualReading.{position_in, units_in}
use Rattle.residual_keys.specs.ResidualText.{Spells}
use Rattle.residual_keys.specs.Residuals.{State}
use Rattle.residual_keys.proofs.ResidualRead.{Told, spelled, told}
use Rattle.residual_keys.proofs.WordFacts.{Words}
use Rattle.residual_table.specs.KeyReading.{HasPart, HasPosition, HasSlots, NoPart, NoUnits}
use Rattle.residual_table.specs.Keys.{AreTables, IsSlot, StandsFor, Tables}
use Rattle.residual_table.proofs.KeyFacts.{units_back}
use Rattle.word_text.specs.Laws.{LastCutTells}
use Rattle.word_text.specs.Words.{cut_last_at}

slot_kept : (us : List OpenUnit) (n : ℕ) (o : Option OpenUnit) → Each UnitInRanges us → IsSlot us n o → IfSome o UnitInRanges
slot_kept us n None h i = tt
slot_kept us n (Some u) h i = each_got UnitInRanges us i.0 u h i.2

module _ (k : Words) (last : LastCutTells) (text : List ℕ) where
  pub no_position : position_in text ≡ None → (x : State) → Spells text x → ⊥
  no_position none x s =
      let at = (told k last text x s).at in
      absurd (cc)

  module _ (t : Tables) (n : ℕ) (rest : List ℕ) (p : HasPosition t text n rest) where
    rest_is : (x : State) (o : Told text x) → rest ≡ o.rest
    rest_is x o = ap (λ (q : Position × List ℕ). q.1) (same_Some (p.at, rest) (x.at, o.rest) (sym p.spelled ∙ o.at))

    pub no_part : NoPart rest → (x : State) → Spells text x → ⊥
    no_part none x s =
        let o = told k last text x s in
        none o.words x.part (ap (cut_last_at 32) (rest_is x o) ∙ o.cut) o.part o.kept.part

    pub no_units : (before : List ℕ) (part : TicketPart) → HasPart rest before part → NoUnits before → (x : State) → Spells text x → ⊥
    no_units before part h none x s =
        let o = told k last text x s in
        let words = same_Some (before, h.word) o.words (sym h.cut ∙ (ap (cut_last_at 32) (rest_is x o) ∙ o.cut)) in
        none (slice_get x.units 0) (slice_get x.units 1) (ap (λ (q : List ℕ × List ℕ). units_in q.0) words ∙ o.units) o.kept.first o.kept.second

    pub key_stands : (before : List ℕ) (part : TicketPart) (first second : ℕ) → HasPart rest before part → HasSlots t before first second → AreTables t
        → (x : State) × Spells text x × StandsFor t (record { position = n; first = first; second = second; part = part }) x
    key_stands before part first second h s tables =
        let kept : AreKept s.one s.other part = record {
          turn = s.turn;
          first = slot_kept t.units first s.one tables.units_kept s.one_slot;
          second = slot_kept t.units second s.other tables.units_kept s.other_slot;
          part = h.kept;
        } in
        let x : State = record { at = p.at; units = open_units s.one s.other; part = part } in (
          x,
          spelled k last text (p.at, rest) (before, h.word) (s.one, s.other) part p.spelled h.cut s.spelled h.spelled kept,
          record { at = p.number; units = units_back t.units first second s.one s.other s.one_slot s.other_slot s.turn; part = refl; kept = h.kept },
        )
