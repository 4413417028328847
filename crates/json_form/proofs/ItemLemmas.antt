-- Items that were read, and those that are left.
use Rattle.std.proofs.Common.{◌≡◌, ◌≢◌, ◌<◌, ◌≤◌, ◌+◌, ℕ, List, [], ◌∷◌, ◌++◌, length, drop, get_or, refl, ap, sym, ◌∙◌, Option, Some, None, append_assoc, append-nil, drop-cons, add-one, option_map, option_and_then, arith}
use Rattle.std.proofs.lemmas.List.{drop_all}
use Rattle.serde_json.specs.Data.{Data}
use Rattle.serde_json.specs.View.{view, items_view}
use Rattle.serde_json.specs.declared.value.Value.{Value}
use Rattle.json_form.specs.Items.{each_item, only_item}
use Rattle.law_lemmas.proofs.EachOne.{each_more}

-- items that stand before the others
abbrev pub after : {A : Type 0} → List A → Option (List A) → Option (List A)
after front rest = option_map (λ xs. front ++ xs) rest

pub after_none : {A : Type 0} (r : Option (List A)) → after [] r ≡ r
after_none (Some xs) = refl
after_none None = refl

after_push : {A : Type 0} (front : List A) (a : A) (r : Option (List A)) → after (front ++ a ∷ []) r ≡ after front (option_map (λ xs. a ∷ xs) r)
after_push front a (Some xs) = ap Some (append_assoc front (a ∷ []) xs)
after_push front a None = refl

module _ {A : Type 0} (f : Data → Option A) where
  rest_is : (vs : List Value) (i : ℕ) (d : Value) → i < length vs
      → each_item f (items_view (drop i vs)) ≡ option_and_then (λ a. option_map (λ xs. a ∷ xs) (each_item f (items_view (drop (i + 1) vs)))) (f (view (get_or vs i d)))
  rest_is vs i d l = rw (drop-cons vs i d l, add-one) refl

  pub items_more : (front : List A) (a : A) (vs : List Value) (i : ℕ) (d : Value) → i < length vs → f (view (get_or vs i d)) ≡ Some a
      → after front (each_item f (items_view (drop i vs))) ≡ each_item f (items_view vs)
      → after (front ++ a ∷ []) (each_item f (items_view (drop (i + 1) vs))) ≡ each_item f (items_view vs)
  items_more front a vs i d l e h =
      after_push front a (each_item f (items_view (drop (i + 1) vs)))
      ∙ ap (after front) (ap (λ o. option_and_then (λ b. option_map (λ xs. b ∷ xs) (each_item f (items_view (drop (i + 1) vs)))) o) (sym e) ∙ sym (rest_is vs i d l)) ∙ h

  pub items_bad : (front : List A) (vs : List Value) (i : ℕ) (d : Value) → i < length vs → f (view (get_or vs i d)) ≡ None
      → after front (each_item f (items_view (drop i vs))) ≡ each_item f (items_view vs) → None ≡ each_item f (items_view vs)
  items_bad front vs i d l e h =
      sym (ap (after front) (rest_is vs i d l ∙ ap (λ o. option_and_then (λ b. option_map (λ xs. b ∷ xs) (each_item f (items_view (drop (i + 1) vs)))) o) e)) ∙ h

  pub items_all : (front : List A) (vs : List Value) (i : ℕ) → length vs ≤ i → after front (each_item f (items_view (drop i vs))) ≡ each_item f (items_view vs) → Some front ≡ each_item f (items_view vs)
  items_all front vs i l h = sym (ap (λ ys. after front (each_item f (items_view ys))) (drop_all i vs l) ∙ ap Some (append-nil front)) ∙ h

pub ruleset item_steps = (after_none, items_more, items_bad, items_all, each_more)

-- the only item of a list of one, and none of a list of another length

pub only_of_one : (vs : List Value) (d : Value) → length vs ≡ 1 → Some (view (get_or vs 0 d)) ≡ only_item (items_view vs)
only_of_one [] d one = absurd (omega arith)
only_of_one (v ∷ []) d one = refl
only_of_one (v ∷ w ∷ vs) d one = absurd (omega arith)

pub only_of_others : (vs : List Value) → length vs ≢ 1 → None ≡ only_item (items_view vs)
only_of_others [] other = refl
only_of_others (v ∷ []) other = absurd (other refl)
only_of_others (v ∷ w ∷ vs) other = refl

pub ruleset only_item_cases = (only_of_one, only_of_others)
