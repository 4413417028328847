-- The rules of a search by numbers.
use Rattle.std.specs.Prelude.{◌≡◌, ℕ, true, List, None, Some, slice_get}
use Rattle.fare_ends.specs.declared.rule_numbers.KnownRule.{KnownRule}
use Rattle.fare_law.specs.declared.names.Carrier.{Carrier}
use Rattle.fare_law.specs.declared.rules.Rule.{Rule}
use Rattle.fare_law.specs.Book.{Book, live_rule}
use Rattle.fare_law.specs.Lists.{Each}

-- A rule tests no flights and adds no charges.
pub record TestsNothing (rule : Rule) : Type 0 where
  pub cat2 : rule.cat2 ≡ None
  pub cat4 : rule.cat4 ≡ None
  pub cat8 : rule.cat8 ≡ None
  pub cat9 : rule.cat9 ≡ None
  pub cat12 : rule.cat12 ≡ None

-- where a rule is called free, it tests nothing
abbrev pub IsFreeRightly : KnownRule → Type 0
IsFreeRightly r = r.is_free ≡ true → TestsNothing r.rule

-- The rule is the live one of its carrier and number, and where it is called free, it tests nothing.
pub record IsKnownRule (b : Book) (r : KnownRule) : Type 0 where
  pub live : live_rule b r.carrier r.number ≡ Some r.rule
  pub free : IsFreeRightly r

abbrev pub AreKnownRules : Book → List KnownRule → Type 0
AreKnownRules b rules = Each (IsKnownRule b) rules

-- the rule of a carrier and a number stands at this place
pub record RuleStands (rules : List KnownRule) (carrier : Carrier) (number : ℕ) (at : ℕ) : Type 0 where
  pub rule : KnownRule
  pub stands : slice_get rules at ≡ Some rule
  pub carrier_is : rule.carrier ≡ carrier
  pub number_is : rule.number ≡ number
