-- What is known of texts stays so while tables grow.
use Rattle.std.proofs.Common.{ℕ, List, Option, Some, None, IfSome}
use Rattle.fare_law.specs.Lists.{Each}
use Rattle.law_lemmas.proofs.EachOne.{each_weaker}
use Rattle.residual_table.specs.declared.known.KnownPosition.{KnownPosition}
use Rattle.residual_table.specs.declared.known.KnownUnit.{KnownUnit}
use Rattle.residual_table.specs.KeyReading.{HasPosition, HasUnit, IsKnownPosition, IsKnownUnit}
use Rattle.residual_table.specs.Keys.{Grows, Tables}
use Rattle.residual_table.proofs.KeyFacts.{slot_keeps}

module _ (old new : Tables) (g : Grows old new) where
  pub position_stays : (text : List ℕ) (n : ℕ) (rest : List ℕ) → HasPosition old text n rest → HasPosition new text n rest
  position_stays text n rest h = record { at = h.at; spelled = h.spelled; number = g.positions n h.at h.number }

  pub unit_stays : (text : List ℕ) (slot : ℕ) → HasUnit old text slot → HasUnit new text slot
  unit_stays text slot h = record { unit = h.unit; spelled = h.spelled; number = slot_keeps old.units new.units slot (Some h.unit) g.units h.number }

  pub position_known : (o : Option KnownPosition) → IfSome o (IsKnownPosition old) → IfSome o (IsKnownPosition new)
  position_known None h = tt
  position_known (Some k) h = λ rest. position_stays _ k.number rest (h rest)

  pub units_known : (ks : List KnownUnit) → Each (IsKnownUnit old) ks → Each (IsKnownUnit new) ks
  units_known ks h = each_weaker (IsKnownUnit old) (IsKnownUnit new) (λ k u. unit_stays k.text.items k.slot u) ks h

  pub both_known : (o : Option KnownPosition) (ks : List KnownUnit) → IfSome o (IsKnownPosition old) × Each (IsKnownUnit old) ks → IfSome o (IsKnownPosition new) × Each (IsKnownUnit new) ks
  both_known o ks h = (position_known o h.0, units_known ks h.1)
