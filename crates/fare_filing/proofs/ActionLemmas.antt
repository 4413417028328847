-- Actions that were read, and those that are left.
use Rattle.std.proofs.Common.{◌≡◌, ◌<◌, ◌≤◌, ◌+◌, ℕ, suc, List, [], ◌∷◌, ◌++◌, length, drop, get_or, refl, ap, sym, ◌∙◌, subst, Result, Ok, Err, append_assoc, append-nil, drop-cons, add-one}
use Rattle.std.proofs.lemmas.List.{drop_all}
use Rattle.serde_json.specs.View.{view, items_view}
use Rattle.serde_json.specs.declared.value.Value.{Value}
use Rattle.fare_law.specs.declared.filings.Action.{Action}
use Rattle.fare_filing.specs.declared.fault.FilingFault.{FilingFault}
use Rattle.fare_filing.specs.declared.fault.FilingFault.TheVariants.{Syntax, Shape, Rule, Mem}
use Rattle.fare_filing.specs.Reading.{Tells, action_spelled, actions_from, few_actions, then_rest}
use Rattle.fare_law.specs.declared.limits.TheConstants.{MOST_ACTIONS}
use Rattle.law_lemmas.proofs.EachOne.{each_more}
use Rattle.law_lemmas.proofs.Tests.{le_false, le_true}
use Rattle.rule_text.proofs.ItemLemmas.{count_items}

-- actions that stand before the others
abbrev pub after : List Action → Result (List Action) FilingFault → Result (List Action) FilingFault
after front (Ok rest) = Ok (front ++ rest)
after front (Err fault) = Err fault

pub after_none : (r : Result (List Action) FilingFault) → after [] r ≡ r
after_none (Ok xs) = refl
after_none (Err fault) = refl

after_push : (front : List Action) (a : Action) (r : Result (List Action) FilingFault) → after (front ++ a ∷ []) r ≡ after front (then_rest (Ok a) r)
after_push front a (Ok xs) = ap Ok (append_assoc front (a ∷ []) xs)
after_push front a (Err fault) = refl

-- what is left from a place on, with the number of its first action
abbrev pub left : List Value → ℕ → Result (List Action) FilingFault
left vs i = actions_from (suc i) (items_view (drop i vs))

left_is : (vs : List Value) (i : ℕ) (d : Value) → i < length vs → left vs i ≡ then_rest (action_spelled (suc i) (view (get_or vs i d))) (left vs (suc i))
left_is vs i d l = rw (drop-cons vs i d l) refl

pub actions_more : (front : List Action) (a : Action) (vs : List Value) (i n : ℕ) (v : Value) → i < length vs → v ≡ get_or vs i v → n ≡ i + 1 → action_spelled n (view v) ≡ Ok a
    → after front (left vs i) ≡ left vs 0 → after (front ++ a ∷ []) (left vs (i + 1)) ≡ left vs 0
actions_more front a vs i n d l item at e h =
    let one = subst (λ (x : Value). action_spelled (suc i) (view x) ≡ Ok a) item (subst (λ (k : ℕ). action_spelled k (view d) ≡ Ok a) (at ∙ add-one i) e) in
    subst (λ k. after (front ++ a ∷ []) (left vs k) ≡ left vs 0) (sym (add-one i))
    (after_push front a (left vs (suc i)) ∙ ap (after front) (ap (λ r. then_rest r (left vs (suc i))) (sym one) ∙ sym (left_is vs i d l)) ∙ h)

actions_bad : (front : List Action) (fault : FilingFault) (vs : List Value) (i n : ℕ) (d : Value) → i < length vs → n ≡ i + 1 → action_spelled n (view (get_or vs i d)) ≡ Err fault
    → after front (left vs i) ≡ left vs 0 → left vs 0 ≡ Err fault
actions_bad front fault vs i n d l at e h =
    let one = subst (λ k. action_spelled k (view (get_or vs i d)) ≡ Err fault) (at ∙ add-one i) e in
    sym h ∙ ap (after front) (left_is vs i d l ∙ ap (λ r. then_rest r (left vs (suc i))) one)

-- a fault of one action, or want of memory, is what is told
pub actions_stop : (front : List Action) (fault : FilingFault) (vs : List Value) (i n : ℕ) (d : Value) → i < length vs → n ≡ i + 1 → Tells {A = Action} (Err fault) (action_spelled n (view (get_or vs i d)))
    → after front (left vs i) ≡ left vs 0 → Tells {A = List Action} (Err fault) (left vs 0)
actions_stop front Mem vs i n d l at e h = tt
actions_stop front Syntax vs i n d l at e h = actions_bad front Syntax vs i n d l at e h
actions_stop front (Shape action) vs i n d l at e h = actions_bad front (Shape action) vs i n d l at e h
actions_stop front (Rule action fault) vs i n d l at e h = actions_bad front (Rule action fault) vs i n d l at e h

pub actions_all : (front : List Action) (vs : List Value) (i : ℕ) → length vs ≤ i → after front (left vs i) ≡ left vs 0 → left vs 0 ≡ Ok front
actions_all front vs i l h = sym h ∙ ap (λ ys. after front (actions_from (suc i) (items_view ys))) (drop_all i vs l) ∙ ap Ok (append-nil front)

pub ruleset action_steps = (after_none, actions_more, actions_stop, actions_all, each_more)

-- what is told as it is
pub told_is : {A : Type 0} (r told : Result A FilingFault) → told ≡ r → Tells r told
told_is (Ok a) told e = e
told_is (Err Mem) told e = tt
told_is (Err Syntax) told e = e
told_is (Err (Shape action)) told e = e
told_is (Err (Rule action fault)) told e = e

-- how many actions there are

pub count_few : (vs : List Value) → length vs ≤ MOST_ACTIONS → few_actions (items_view vs) ≡ actions_from 1 (items_view vs)
count_few vs few = rw (count_items vs, le_true (length vs) MOST_ACTIONS few) refl

pub count_many : (vs : List Value) → MOST_ACTIONS < length vs → few_actions (items_view vs) ≡ Err (Shape 0)
count_many vs many = rw (count_items vs, le_false (length vs) MOST_ACTIONS many) refl

pub ruleset count_steps = (count_few, count_many)
