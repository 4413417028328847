-- What the last action on a key leaves.
use Rattle.std.proofs.Common.{◌≡◌, ◌==◌, ℕ, Bool, true, false, cond, List, [], ◌∷◌, Option, Some, None, find, reverse, option_and_then, refl, sym, subst}
use Rattle.std.specs.List.{flat_map}
use Rattle.std.proofs.lemmas.List.{reverse-append}
use Rattle.fare_law.specs.declared.fares.Fare.{Fare}
use Rattle.fare_law.specs.declared.fares.FareKey.{FareKey}
use Rattle.fare_law.specs.declared.filings.Action.{Action}
use Rattle.fare_law.specs.declared.filings.Action.TheVariants.{PutFare, DropFare, PutRule, DropRule, PutSeats, DropSeats}
use Rattle.fare_law.specs.declared.filings.Filing.{Filing}
use Rattle.fare_law.specs.declared.names.Carrier.{Carrier}
use Rattle.fare_law.specs.declared.rules.Rule.{Rule}
use Rattle.fare_law.specs.Book.{Book, actions, fare_put, free_rule, last_that, live_fare, live_rule, names_fare, names_rule, rule_put}
use Rattle.fare_law.specs.FilingLimits.{IsAction, IsFiling}
use Rattle.fare_law.specs.Limits.{IsFare}
use Rattle.fare_law.specs.Lists.{Each}
use Rattle.fare_law.specs.RuleLimits.{IsRule}
use Rattle.fare_book.proofs.SameKeys.{same_fares_tell}
use Rattle.law_lemmas.proofs.EachOne.{each_append}

each_reverse : {X : Type 0} (P : X → Type 0) (xs : List X) → Each P xs → Each P (reverse xs)
each_reverse P [] e = tt
each_reverse P (x ∷ xs) e = subst (Each P) (sym (reverse-append (x ∷ []) xs)) (each_append P (reverse xs) (x ∷ []) (each_reverse P xs e.1) (e.0, tt))

each_found : {X : Type 0} (P : X → Type 0) (test : X → Bool) (xs : List X) (x : X) → find test xs ≡ Some x → Each P xs → P x × (test x ≡ true)
each_found P test [] x e h = absurd (cc)
each_found P test (y ∷ ys) x e h = by (λ s. each_found P test ys x s h.1) (test y) refl e
  where
    one : Some y ≡ Some x → y ≡ x
    one s = cc

    by : (find test ys ≡ Some x → P x × (test x ≡ true)) → (b : Bool) → test y ≡ b → cond b (Some y) (find test ys) ≡ Some x → P x × (test x ≡ true)
    by rest true t s = (subst P (one s) h.0, subst (λ z. test z ≡ true) (one s) t)
    by rest false t s = rest s

-- ---- each action of a book whose filings are within their limits
each_action : (entries : List Filing) → Each IsFiling entries → Each IsAction (flat_map (λ f. f.actions) entries)
each_action [] e = tt
each_action (f ∷ fs) e = each_append IsAction f.actions (flat_map (λ f. f.actions) fs) e.0.each (each_action fs e.1)

all_actions : (b : Book) → Each IsFiling b.entries → Each IsAction (reverse (actions b))
all_actions b e = each_reverse IsAction (actions b) (each_action b.entries e)

fare_told : (key : FareKey) (o : Option Action) (fare : Fare) → option_and_then fare_put o ≡ Some fare → o ≡ Some (PutFare fare)
fare_told key None fare e = absurd (cc)
fare_told key (Some (PutFare f)) fare e = cc
fare_told key (Some (DropFare k)) fare e = absurd (cc)
fare_told key (Some (PutRule c n r)) fare e = absurd (cc)
fare_told key (Some (DropRule c n)) fare e = absurd (cc)
fare_told key (Some (PutSeats k s)) fare e = absurd (cc)
fare_told key (Some (DropSeats k)) fare e = absurd (cc)

rule_told : (o : Option Action) (rule : Rule) → option_and_then rule_put o ≡ Some rule → (c : Carrier) × (n : ℕ) × (o ≡ Some (PutRule c n rule))
rule_told None rule e = absurd (cc)
rule_told (Some (PutFare f)) rule e = absurd (cc)
rule_told (Some (DropFare k)) rule e = absurd (cc)
rule_told (Some (PutRule c n r)) rule e = (c, n, cc)
rule_told (Some (DropRule c n)) rule e = absurd (cc)
rule_told (Some (PutSeats k s)) rule e = absurd (cc)
rule_told (Some (DropSeats k)) rule e = absurd (cc)

-- a live fare has the key that it is found by
pub live_key : (b : Book) (key : FareKey) (fare : Fare) → live_fare b key ≡ Some fare → key ≡ fare.key
unfolding live_fare
live_key b key fare e =
    let put : last_that (names_fare key) b ≡ Some (PutFare fare) = fare_told key _ fare e in
    (same_fares_tell key fare.key).0 (each_found (λ a. Unit {0}) (names_fare key) (reverse (actions b)) (PutFare fare) put (each_any (reverse (actions b)))).1
  where
    each_any : (xs : List Action) → Each (λ a. Unit {0}) xs
    each_any [] = tt
    each_any (x ∷ xs) = (tt, each_any xs)

-- a live fare is within its limits
pub live_fare_limits : (b : Book) (key : FareKey) (fare : Fare) → Each IsFiling b.entries → live_fare b key ≡ Some fare → IsFare fare
unfolding live_fare
live_fare_limits b key fare h e =
    let put : last_that (names_fare key) b ≡ Some (PutFare fare) = fare_told key _ fare e in
    (each_found IsAction (names_fare key) (reverse (actions b)) (PutFare fare) put (all_actions b h)).0

no_limits : IsRule free_rule
no_limits = record { cat2 = tt; cat3 = tt; cat4 = tt; cat5 = tt; cat6 = tt; cat7 = tt; cat8 = tt; cat9 = tt; cat10 = tt; cat12 = tt; cat14 = tt }

-- a live rule is within its limits
pub live_rule_limits : (b : Book) (carrier : Carrier) (number : ℕ) (rule : Rule) → Each IsFiling b.entries → live_rule b carrier number ≡ Some rule → IsRule rule
unfolding live_rule
live_rule_limits b carrier number rule h e = by (number == 0) e
  where
    one : Some free_rule ≡ Some rule → free_rule ≡ rule
    one s = cc

    put : option_and_then rule_put (last_that (names_rule carrier number) b) ≡ Some rule → IsRule rule
    put s = let told = rule_told (last_that (names_rule carrier number) b) rule s in
        (each_found IsAction (names_rule carrier number) (reverse (actions b)) (PutRule told.0 told.1 rule) told.2 (all_actions b h)).0.2

    by : (z : Bool) → cond z (Some free_rule) (option_and_then rule_put (last_that (names_rule carrier number) b)) ≡ Some rule → IsRule rule
    by true s = subst IsRule (one s) no_limits
    by false s = put s
