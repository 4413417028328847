-- Values that were written for the actions so far.
use Rattle.std.proofs.Common.{◌≡◌, ◌<◌, ◌≤◌, ◌+◌, ℕ, zero, suc, List, [], ◌∷◌, ◌++◌, length, take, get_or, arith, subst}
use Rattle.std.proofs.lemmas.List.{take_all, take_more}
use Rattle.serde_json.specs.Data.{Data}
use Rattle.serde_json.specs.View.{view, items_view}
use Rattle.serde_json.specs.declared.value.Value.{Value}
use Rattle.fare_law.specs.Lists.{Each}
use Rattle.fare_law.specs.FilingLimits.{IsAction}
use Rattle.fare_law.specs.declared.filings.Action.{Action}
use Rattle.fare_filing.specs.Text.{Wraps, WritesAction, WritesActions, sole}

-- an object of one member wraps the value of the member
pub wraps : (name : List ℕ) (form : Data → Type 0) (inner d : Data) → d ≡ sole name inner → form inner → Wraps name form d
wraps name form inner d e h = record { inner = inner; formed = h; written = e }

grows : (actions : List Action) (vs : List Value) (a : Action) (v : Value) → WritesActions actions (items_view vs) → WritesAction a (view v) → WritesActions (actions ++ a ∷ []) (items_view (vs ++ v ∷ []))
grows [] [] a v h w = (w, tt)
grows [] (x ∷ vs) a v h w = absurd h
grows (b ∷ actions) [] a v h w = absurd h
grows (b ∷ actions) (x ∷ vs) a v h w = (h.0, grows actions vs a v h.1 w)

pub values_grow : (actions : List Action) (vs : List Value) (i : ℕ) (d : Action) (v : Value) → i < length actions → WritesActions (take i actions) (items_view vs) → WritesAction (get_or actions i d) (view v)
    → WritesActions (take (i + 1) actions) (items_view (vs ++ v ∷ []))
values_grow actions vs i d v l h w = rw (take_more actions i d l) (grows (take i actions) vs (get_or actions i d) v h w)

pub values_whole : (actions : List Action) (vs : List Value) (i : ℕ) → length actions ≤ i → WritesActions (take i actions) (items_view vs) → WritesActions actions (items_view vs)
values_whole actions vs i l h = subst (λ (xs : List Action). WritesActions xs (items_view vs)) (take_all i actions l) h

-- what each action has, the one at this place has
pub action_at : (actions : List Action) (i : ℕ) (d : Action) → i < length actions → Each IsAction actions → IsAction (get_or actions i d)
action_at [] i d l h = absurd (omega arith)
action_at (a ∷ actions) zero d l h = h.0
action_at (a ∷ actions) (suc i) d l h = action_at actions i d (omega arith) h.1

pub ruleset value_steps = (values_grow, values_whole, action_at)
