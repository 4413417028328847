-- What a rule says of paths, as far as it was asked.
use Rattle.std.specs.Prelude.{◌≡◌, ◌⊎◌, ℕ, List, length, Option, None, Some, slice_get}
use Rattle.joint_paths.specs.declared.rule_charges.Charged.{Charged}
use Rattle.joint_paths.specs.declared.rule_charges.Charged.TheVariants.{NotAsked, Refused, Permitted}
use Rattle.joint_paths.specs.declared.rule_charges.RuleCharges.{RuleCharges}

-- what stands there is said: None where the path is refused, else its charges
abbrev pub IsSaid : (Option ℕ → Type 0) → Charged → Type 0
IsSaid says NotAsked = Unit {0}
IsSaid says Refused = says None
IsSaid says (Permitted charges) = says (Some charges)

-- Of the rule in hand, by its number, there is something for each of so many paths, and that is what it says of the path at this place, as far as it was asked.
abbrev pub AreSaid : (ℕ → ℕ → Option ℕ → Type 0) → ℕ → RuleCharges → Type 0
AreSaid says count known = (rule : ℕ) → known.rule ≡ Some rule → (length known.of.items ≡ count) × ((at : ℕ) (c : Charged) → slice_get known.of.items at ≡ Some c → IsSaid (says rule at) c)

-- what is said of a path, by its charges
abbrev pub charged_of : Option ℕ → Charged
charged_of None = Refused
charged_of (Some charges) = Permitted charges

-- what was said stays, but for the path at this place, of which these charges are said
pub record PutsCharged (at : ℕ) (charges : Option ℕ) (old new : List Charged) : Type 0 where
  pub many : length new ≡ length old
  pub each : (n : ℕ) (c : Charged) → slice_get new n ≡ Some c → (slice_get old n ≡ Some c) ⊎ ((n ≡ at) × (c ≡ charged_of charges))
