-- Items that were read, and those that are left. Given on to the crates above.
use Rattle.std.proofs.Common.{◌≡◌, ◌<◌, ◌≤◌, ◌+◌, ℕ, suc, take, subst, List, [], ◌∷◌, ◌++◌, length, drop, get_or, refl, ap, sym, ◌∙◌, Result, Ok, Err, IsErr, IsErrAnd, append_assoc, append-nil, length-append, drop-cons, add-one}
use Rattle.std.proofs.lemmas.List.{drop_all, take_all, take_more}
use Rattle.fare_law.specs.Lists.{Each}
use Rattle.serde_json.specs.Data.{Data}
use Rattle.serde_json.specs.View.{view, items_view}
use Rattle.serde_json.specs.declared.value.Value.{Value}
use Rattle.rule_text.specs.Members.{each_of, items_of, then_rest, item_count}
use Rattle.rule_text.specs.Written.{WritesEach}
use Rattle.rule_text.specs.declared.fault.RuleFault.{RuleFault}
use Rattle.rule_text.specs.declared.fault.RuleFault.TheVariants.{Range}
use Rattle.law_lemmas.proofs.EachOne.{each_more, holds_at}
use Rattle.law_lemmas.proofs.Tests.{le_false, le_true}

pub count_items : (vs : List Value) → item_count (items_view vs) ≡ length vs
count_items [] = refl
count_items (v ∷ vs) = ap suc (count_items vs)

-- a fault that a call gave, handed on by `?`
told_on : {A : Type 0} (r : Result A RuleFault) (fault : RuleFault) → IsErr r × IsErrAnd r (λ e. e ≡ fault) → r ≡ Err fault
told_on (Ok a) fault h = absurd h.1
told_on (Err e) fault h = ap Err h.1

-- items that stand before the others
abbrev pub after : {A : Type 0} → List A → Result (List A) RuleFault → Result (List A) RuleFault
after front (Ok rest) = Ok (front ++ rest)
after front (Err fault) = Err fault

pub after_none : {A : Type 0} (r : Result (List A) RuleFault) → after [] r ≡ r
after_none (Ok xs) = refl
after_none (Err fault) = refl

after_push : {A : Type 0} (front : List A) (a : A) (r : Result (List A) RuleFault) → after (front ++ a ∷ []) r ≡ after front (then_rest (Ok a) r)
after_push front a (Ok xs) = ap Ok (append_assoc front (a ∷ []) xs)
after_push front a (Err fault) = refl

module _ {A : Type 0} (f : Data → Result A RuleFault) where
  rest_is : (vs : List Value) (i : ℕ) (d : Value) → i < length vs
      → each_of f (items_view (drop i vs)) ≡ then_rest (f (view (get_or vs i d))) (each_of f (items_view (drop (i + 1) vs)))
  rest_is vs i d l = rw (drop-cons vs i d l, add-one) refl

  items_more : (front : List A) (a : A) (vs : List Value) (i : ℕ) (d : Value) → i < length vs → f (view (get_or vs i d)) ≡ Ok a
      → after front (each_of f (items_view (drop i vs))) ≡ each_of f (items_view vs)
      → after (front ++ a ∷ []) (each_of f (items_view (drop (i + 1) vs))) ≡ each_of f (items_view vs)
  items_more front a vs i d l e h =
      after_push front a (each_of f (items_view (drop (i + 1) vs)))
      ∙ ap (after front) (ap (λ r. then_rest r (each_of f (items_view (drop (i + 1) vs)))) (sym e) ∙ sym (rest_is vs i d l)) ∙ h

  items_bad : (front : List A) (fault : RuleFault) (vs : List Value) (i : ℕ) (d : Value) → i < length vs → f (view (get_or vs i d)) ≡ Err fault
      → after front (each_of f (items_view (drop i vs))) ≡ each_of f (items_view vs) → Err fault ≡ each_of f (items_view vs)
  items_bad front fault vs i d l e h =
      sym (ap (after front) (rest_is vs i d l ∙ ap (λ r. then_rest r (each_of f (items_view (drop (i + 1) vs)))) e)) ∙ h

  pub items_all : (front : List A) (vs : List Value) (i : ℕ) → length vs ≤ i → after front (each_of f (items_view (drop i vs))) ≡ each_of f (items_view vs) → Ok front ≡ each_of f (items_view vs)
  items_all front vs i l h = sym (ap (λ ys. after front (each_of f (items_view ys))) (drop_all i vs l) ∙ ap Ok (append-nil front)) ∙ h

  -- the item at a place was read, and added to those before it
  pub item_read : (front new : List A) (a : A) (vs : List Value) (i : ℕ) (d v : Value) → i < length vs → v ≡ get_or vs i d → Ok a ≡ f (view v) → new ≡ front ++ a ∷ []
      → after front (each_of f (items_view (drop i vs))) ≡ each_of f (items_view vs)
      → after new (each_of f (items_view (drop (i + 1) vs))) ≡ each_of f (items_view vs)
  item_read front new a vs i d v l at e is h =
      ap (λ xs. after xs (each_of f (items_view (drop (i + 1) vs)))) is ∙ items_more front a vs i d l (ap (λ w. f (view w)) (sym at) ∙ sym e) h

  -- the item at a place has a fault, which `?` hands on
  pub item_wrong : (front : List A) (fault : RuleFault) (r : Result (List A) RuleFault) (vs : List Value) (i : ℕ) (d v : Value) → i < length vs → v ≡ get_or vs i d → Err fault ≡ f (view v)
      → IsErr r × IsErrAnd r (λ e. e ≡ fault) → after front (each_of f (items_view (drop i vs))) ≡ each_of f (items_view vs) → r ≡ each_of f (items_view vs)
  item_wrong front fault r vs i d v l at e told h = told_on r fault told ∙ items_bad front fault vs i d l (ap (λ w. f (view w)) (sym at) ∙ sym e) h

  pub each_read : (P : A → Type 0) (front new : List A) (a : A) → new ≡ front ++ a ∷ [] → Each P front → P a → Each P new
  each_read P front new a is h p = subst (Each P) (sym is) (each_more P front a h p)

  pub one_more : (front new : List A) (a : A) (n : ℕ) → new ≡ front ++ a ∷ [] → length front ≡ n → length new ≡ n + 1
  one_more front new a n is h = ap length is ∙ length-append front (a ∷ []) ∙ ap (λ m. m + 1) h

-- lists of a length that is allowed, and the others

module _ {A : Type 0} (f : Data → Result A RuleFault) where
  pub count_right : (most : ℕ) (vs : List Value) → 1 ≤ length vs → length vs ≤ most → each_of f (items_view vs) ≡ items_of most f (items_view vs)
  count_right most vs low high =
      rw (count_items vs, le_true 1 (length vs) low, le_true (length vs) most high) refl

  pub count_none : (most : ℕ) (vs : List Value) → length vs < 1 → Err Range ≡ items_of most f (items_view vs)
  count_none most vs low = rw (count_items vs, le_false 1 (length vs) low) refl

  pub count_many : (most : ℕ) (vs : List Value) → 1 ≤ length vs → most < length vs → Err Range ≡ items_of most f (items_view vs)
  count_many most vs low high =
      rw (count_items vs, le_true 1 (length vs) low, le_false (length vs) most high) refl

pub ruleset count_steps = (count_right, count_none, count_many)

-- values that were written for the items so far

module _ {A : Type 0} (Writes : A → Data → Type 0) where
  grows : (xs : List A) (vs : List Value) (x : A) (v : Value) → WritesEach Writes xs (items_view vs) → Writes x (view v) → WritesEach Writes (xs ++ x ∷ []) (items_view (vs ++ v ∷ []))
  grows [] [] x v h w = (w, tt)
  grows [] (u ∷ vs) x v h w = absurd h
  grows (y ∷ xs) [] x v h w = absurd h
  grows (y ∷ xs) (u ∷ vs) x v h w = (h.0, grows xs vs x v h.1 w)

  pub values_grow : (xs : List A) (vs : List Value) (i : ℕ) (d : A) (v : Value) → i < length xs
      → WritesEach Writes (take i xs) (items_view vs) → Writes (get_or xs i d) (view v) → WritesEach Writes (take (i + 1) xs) (items_view (vs ++ v ∷ []))
  values_grow xs vs i d v l h w = rw (take_more xs i d l) (grows (take i xs) vs (get_or xs i d) v h w)

  pub values_whole : (xs : List A) (vs : List Value) (i : ℕ) → length xs ≤ i → WritesEach Writes (take i xs) (items_view vs) → WritesEach Writes xs (items_view vs)
  values_whole xs vs i l h = subst (λ ys. WritesEach Writes ys (items_view vs)) (take_all i xs l) h

pub ruleset value_steps = (values_grow, values_whole, holds_at)
