-- Values that are read as a rule or a part of one.
use Rattle.std.specs.Prelude.{◌≡◌, ◌≤◌, ℕ, false, Result, Ok}
use Rattle.serde_json.specs.Data.{Data, depth}
use Rattle.serde_json.specs.Written.{has_float}
use Rattle.rule_text.specs.declared.fault.RuleFault.{RuleFault}

-- the value is read as this, has no float, and nests in so many levels
pub record Spells {A : Type 0} (levels : ℕ) (form : Data → Result A RuleFault) (part : A) (d : Data) : Type 0 where
  pub again : form d ≡ Ok part
  pub no_float : has_float d ≡ false
  pub nests : depth d ≤ levels
