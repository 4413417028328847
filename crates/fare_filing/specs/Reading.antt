-- The filing that a text spells, or its first fault. Actions are numbered from 1; action 0 is the outer object.
use Rattle.std.specs.Prelude.{◌≡◌, ℕ, suc, nat_le, List, [], ◌∷◌, if◌then◌else◌, Result, Ok, Err, ok_or, codes, ⊤}
use Rattle.serde_json.specs.Data.{Data, Items, no_items, item}
use Rattle.serde_json.specs.Find.{get}
use Rattle.fare_law.specs.declared.filings.Action.{Action}
use Rattle.fare_law.specs.declared.filings.Action.TheVariants.{PutRule}
use Rattle.fare_law.specs.declared.filings.Filing.{Filing}
use Rattle.json_form.specs.Members.{has_members, items_at, carrier_at}
use Rattle.json_form.specs.Spelled.{spelled}
use Rattle.rule_text.specs.Members.{item_count}
use Rattle.rule_text.specs.Rules.{rule_of}
use Rattle.rule_text.specs.declared.fault.RuleFault.{RuleFault}
use Rattle.fare_filing.specs.declared.fault.FilingFault.{FilingFault}
use Rattle.fare_filing.specs.declared.fault.FilingFault.TheVariants.{Syntax, Shape, Rule, Mem}
use Rattle.fare_filing.specs.Actions.{if_there, plain_action, rule_number}
use Rattle.fare_law.specs.declared.limits.TheConstants.{MOST_ACTIONS}

-- from one part to the next, up to the first fault
infixl 10 ◌>>=◌
abbrev pub ◌>>=◌ : {A B : Type 0} → Result A FilingFault → (A → Result B FilingFault) → Result B FilingFault
(Ok a) >>= f = f a
(Err fault) >>= f = Err fault

-- a fault of the rule that the action of this number puts
abbrev pub in_action : {A : Type 0} → ℕ → Result A RuleFault → Result A FilingFault
in_action action (Ok a) = Ok a
in_action action (Err fault) = Err (Rule action fault)

-- the action that puts a rule: what names the rule is judged before the rule
abbrev pub put_rule : ℕ → Data → Result Action FilingFault
put_rule action d = do
  carrier ← ok_or (carrier_at (codes "carrier") d) (Shape action)
  number ← ok_or (rule_number d) (Shape action)
  rule ← in_action action (rule_of d)
  Ok (PutRule carrier number rule)

-- the action of this number: an object of one member, which is one of the six
abbrev pub action_spelled : ℕ → Data → Result Action FilingFault
action_spelled action d =
    if has_members 1 d then if_there (get (codes "put_rule") d) (put_rule action) (ok_or (plain_action d) (Shape action))
    else Err (Shape action)

-- one action before the others
abbrev pub then_rest : Result Action FilingFault → Result (List Action) FilingFault → Result (List Action) FilingFault
then_rest (Ok a) (Ok actions) = Ok (a ∷ actions)
then_rest (Ok a) (Err fault) = Err fault
then_rest (Err fault) rest = Err fault

-- the actions from this number on, up to the first fault
abbrev pub actions_from : ℕ → Items → Result (List Action) FilingFault
actions_from action no_items = Ok []
actions_from action (item d ds) = then_rest (action_spelled action d) (actions_from (suc action) ds)

-- at most `MOST_ACTIONS` actions, which is judged before any of them
abbrev pub few_actions : Items → Result (List Action) FilingFault
few_actions items = if nat_le (item_count items) MOST_ACTIONS then actions_from 1 items else Err (Shape 0)

-- of a JSON value: an object of one member, the list of the actions
unfoldable pub filing_spelled : Data → Result Filing FilingFault
filing_spelled d = if has_members 1 d then (do
  items ← ok_or (items_at (codes "actions") d) (Shape 0)
  actions ← few_actions items
  Ok (record { actions = actions })) else Err (Shape 0)

-- of bytes: the filing, if they are a JSON text
abbrev pub filing_of : List ℕ → Result Filing FilingFault
filing_of bytes = ok_or (spelled bytes) Syntax >>= filing_spelled

-- what was returned is what is told, unless memory ran out
abbrev pub Tells : {A : Type 0} → Result A FilingFault → Result A FilingFault → Type 0
Tells (Ok a) told = told ≡ Ok a
Tells (Err Mem) told = ⊤
Tells (Err Syntax) told = told ≡ Err Syntax
Tells (Err (Shape action)) told = told ≡ Err (Shape action)
Tells (Err (Rule action fault)) told = told ≡ Err (Rule action fault)
