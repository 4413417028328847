-- A book without filings takes the filing of a made case: its actions put rules, and fares of rules that are live by then.
use Rattle.std.proofs.Common.{◌≡◌, ◌≢◌, ◌⊎◌, ◌≤◌, ◌+◌, ◌∙◌, ℕ, zero, suc, Bool, true, false, cond, List, [], ◌∷◌, ◌++◌, length, length-append, map, reverse, find, append-nil, Option, Some, None, IsSome, option_and_then, append_assoc, eqb, ne_eqb, ◌&&◌, refl, sym, ap, ap₂, subst, inl, inr, arith}
use Rattle.std.proofs.lemmas.List.{length-map, length-reverse, reverse-append}
use Rattle.fare_book.proofs.Counting.{count_none, most_more}
use Rattle.fare_book.proofs.SameKeys.{same_carriers_tell, same_fares_tell}
use Rattle.fare_book.specs.Counts.{AtMost}
use Rattle.fare_law.specs.declared.fares.Fare.{Fare}
use Rattle.fare_law.specs.declared.fares.FareKey.{FareKey}
use Rattle.fare_law.specs.declared.filings.Action.{Action}
use Rattle.fare_law.specs.declared.filings.Action.TheVariants.{DropFare, DropRule, DropSeats, PutFare, PutRule, PutSeats}
use Rattle.fare_law.specs.declared.filings.BookWhy.{BookWhy}
use Rattle.fare_law.specs.declared.filings.BookWhy.TheVariants.{Limit, NoFare, NoRule, NoSeats, OddRound, RuleInUse, SamePlace}
use Rattle.fare_law.specs.declared.names.Carrier.{Carrier}
use Rattle.fare_law.specs.declared.rules.Rule.{Rule}
use Rattle.fare_law.specs.Book.{Book, Timetable, actions, fare_put, free_rule, live_fare, live_rule, names_fare, names_rule, rule_put, same_carrier}
use Rattle.fare_law.specs.Faults.{Fault, Why, filed}
use Rattle.fare_law.specs.Lists.{Each, HasMany, IsIn}
use Rattle.law_lemmas.proofs.EachOne.{each_in, each_weaker}
use Rattle.law_lemmas.proofs.Lists.{head_same, no_middle, tail_same}
use Rattle.law_lemmas.proofs.Tests.{both_true}
use borrow.Author.Tests.{eqb-true}
use Rattle.case_maker.specs.Filings.{IsMadeFare}
use Rattle.case_maker.specs.Sections.{mx}
use Rattle.case_maker.proofs.FilingRead.{all_actions, rule_actions}
use Rattle.case_maker.proofs.RulesRead.{march, return, season, weekend}

-- ---- at most as many different things as a list has

listed : {K : Type 0} (ks : List K) → AtMost (length ks) (λ q. IsIn q ks)
listed [] = (count_none (λ q. IsIn q []) (λ q i. i)).most
listed (k ∷ ks) = subst (λ n. AtMost n (λ q. IsIn q (k ∷ ks))) {x = length ks + 1} {y = length (k ∷ ks)} (omega arith) (most_more (λ q. IsIn q ks) (λ q. IsIn q (k ∷ ks)) k (length ks) (λ q i. i) (listed ks))

-- ---- what is found

found_in : {X : Type 0} (test : X → Bool) (xs : List X) (x : X) → find test xs ≡ Some x → IsIn x xs × (test x ≡ true)
found_in test [] x e = absurd (cc)
found_in test (y ∷ ys) x e = by (λ s. found_in test ys x s) (test y) refl e
  where
    by : (find test ys ≡ Some x → IsIn x ys × (test x ≡ true)) → (b : Bool) → test y ≡ b → cond b (Some y) (find test ys) ≡ Some x → IsIn x (y ∷ ys) × (test x ≡ true)
    by rest true t e = let same : y ≡ x = cc in (inl (sym same), subst (λ z. test z ≡ true) same t)
    by rest false t e = let h = rest e in (inr h.0, h.1)

mapped_in : {X Y : Type 0} (g : X → Y) (x : X) (xs : List X) → IsIn x xs → IsIn (g x) (map g xs)
mapped_in g x [] i = absurd i
mapped_in g x (y ∷ ys) (inl e) = inl (ap g e)
mapped_in g x (y ∷ ys) (inr i) = inr (mapped_in g x ys i)

-- what the list names of each of its elements
named_most : {X K : Type 0} (g : X → K) (P : K → Type 0) (xs : List X) → ((k : K) → P k → IsIn k (map g (reverse xs))) → (n : ℕ) → HasMany n P → n ≤ length xs
named_most g P xs among n (ks, l, d, e) =
    let many = listed (map g (reverse xs)) n (ks, l, d, each_weaker P (λ q. IsIn q (map g (reverse xs))) among ks e) in
    omega (arith, many, length-map (reverse xs) g, length-reverse xs)

-- ---- what is live after some actions

abbrev no_key : FareKey
no_key = record { carrier = mx; from = record { 0 = [] }; to = record { 0 = [] }; basis = record { 0 = [] } }

abbrev key_of : Action → FareKey
key_of (PutFare fare) = fare.key
key_of (DropFare key) = key
key_of (PutRule c n r) = no_key
key_of (DropRule c n) = no_key
key_of (PutSeats k s) = no_key
key_of (DropSeats k) = no_key

abbrev rule_of : Action → Carrier × ℕ
rule_of (PutFare fare) = (mx, 0)
rule_of (DropFare key) = (mx, 0)
rule_of (PutRule c n r) = (c, n)
rule_of (DropRule c n) = (c, n)
rule_of (PutSeats k s) = (mx, 0)
rule_of (DropSeats k) = (mx, 0)

live_key : (b : Book) (key : FareKey) → IsSome (live_fare b key) → IsIn key (map key_of (reverse (actions b)))
unfolding live_fare
live_key b key some = by (find (names_fare key) (reverse (actions b))) refl some
  where
    named : (a : Action) → names_fare key a ≡ true → IsSome (fare_put a) → key ≡ key_of a
    named (PutFare fare) t s = (same_fares_tell key fare.key).0 t
    named (DropFare other) t s = absurd (cc)
    named (PutRule c n r) t s = absurd (cc)
    named (DropRule c n) t s = absurd (cc)
    named (PutSeats k z) t s = absurd (cc)
    named (DropSeats k) t s = absurd (cc)

    by : (o : Option Action) → find (names_fare key) (reverse (actions b)) ≡ o → IsSome (option_and_then fare_put o) → IsIn key (map key_of (reverse (actions b)))
    by None e s = absurd (cc)
    by (Some a) e s =
        let h = found_in (names_fare key) (reverse (actions b)) a e in
        subst (λ k. IsIn k (map key_of (reverse (actions b)))) (sym (named a h.1 s)) (mapped_in key_of a (reverse (actions b)) h.0)

live_rule_name : (b : Book) (k : Carrier × ℕ) → (k.1 ≢ 0) × IsSome (live_rule b k.0 k.1) → IsIn k (map rule_of (reverse (actions b)))
unfolding live_rule
live_rule_name b (c, n) (other, some) = by (find (names_rule c n) (reverse (actions b))) refl (subst (λ t. IsSome (cond t (Some free_rule) (option_and_then rule_put (find (names_rule c n) (reverse (actions b)))))) (ne_eqb n 0 other) some)
  where
    pair_is : (d : Carrier) (m : ℕ) → (same_carrier c d && eqb n m) ≡ true → ◌≡◌ {A = Carrier × ℕ} (c, n) (d, m)
    pair_is d m t = let h = both_true (same_carrier c d) (eqb n m) t in ap₂ (λ x y. (x, y)) ((same_carriers_tell c d).0 h.0) (eqb-true n m h.1)

    named : (a : Action) → names_rule c n a ≡ true → IsSome (rule_put a) → ◌≡◌ {A = Carrier × ℕ} (c, n) (rule_of a)
    named (PutFare fare) t s = absurd (cc)
    named (DropFare other) t s = absurd (cc)
    named (PutRule d m r) t s = pair_is d m t
    named (DropRule d m) t s = absurd (cc)
    named (PutSeats k z) t s = absurd (cc)
    named (DropSeats k) t s = absurd (cc)

    by : (o : Option Action) → find (names_rule c n) (reverse (actions b)) ≡ o → IsSome (option_and_then rule_put o) → IsIn (c, n) (map rule_of (reverse (actions b)))
    by None e s = absurd (cc)
    by (Some a) e s =
        let h = found_in (names_rule c n) (reverse (actions b)) a e in
        subst (λ k. IsIn k (map rule_of (reverse (actions b)))) (sym (named a h.1 s)) (mapped_in rule_of a (reverse (actions b)) h.0)

-- ---- the rules that fares need

-- actions that put fares name no rule
no_rule : (n : ℕ) (fares : List Fare) (others : List Action) → find (names_rule mx n) (reverse (map PutFare fares) ++ others) ≡ find (names_rule mx n) others
no_rule n [] others = refl
no_rule n (fare ∷ fares) others =
    ap (λ xs. find (names_rule mx n) (xs ++ others)) (reverse-append (PutFare fare ∷ []) (map PutFare fares))
    ∙ ap (find (names_rule mx n)) (append_assoc (reverse (map PutFare fares)) (PutFare fare ∷ []) others) ∙ no_rule n fares (PutFare fare ∷ others)

abbrev opened : Timetable → List Action → Book
opened timetable before = filed (record { timetable = timetable; entries = [] }) before

rule_there : (timetable : Timetable) (fares : List Fare) (n : ℕ) → n ≤ 4 → live_rule (opened timetable (rule_actions ++ map PutFare fares)) mx n ≡ None → ⊥
unfolding live_rule
rule_there timetable fares n h e = by n h (subst (λ o. cond (eqb n 0) (Some free_rule) (option_and_then rule_put o) ≡ None) found e)
  where
    found : find (names_rule mx n) (reverse ((rule_actions ++ map PutFare fares) ++ [])) ≡ find (names_rule mx n) (reverse rule_actions)
    found = ap (λ xs. find (names_rule mx n) (reverse xs)) (append-nil (rule_actions ++ map PutFare fares)) ∙ ap (find (names_rule mx n)) (reverse-append rule_actions (map PutFare fares)) ∙ no_rule n fares (reverse rule_actions)

    by : (k : ℕ) → k ≤ 4 → cond (eqb k 0) (Some free_rule) (option_and_then rule_put (find (names_rule mx k) (reverse rule_actions))) ≡ None → ⊥
    by zero l z = absurd (cc)
    by (suc zero) l z = absurd (cc)
    by (suc (suc zero)) l z = absurd (cc)
    by (suc (suc (suc zero))) l z = absurd (cc)
    by (suc (suc (suc (suc zero)))) l z = absurd (cc)
    by (suc (suc (suc (suc (suc k))))) l z = absurd (omega (arith, l))

-- ---- each action has no fault

-- what is before an action
record Before (fares : List Fare) (before : List Action) (action : Action) : Type 0 where
  put : List Fare
  fare : Fare
  among : IsIn fare fares
  before_is : before ≡ rule_actions ++ map PutFare put
  action_is : action ≡ PutFare fare

fares_split : (fares : List Fare) (before after : List Action) (action : Action) → map PutFare fares ≡ before ++ action ∷ after → (put : List Fare) × (fare : Fare) × IsIn fare fares × (before ≡ map PutFare put) × (action ≡ PutFare fare)
fares_split [] before after action e = absurd (no_middle before action after e)
fares_split (f ∷ fares) [] after action e = ([], f, inl refl, refl, sym (head_same (PutFare f) action (map PutFare fares) after e))
fares_split (f ∷ fares) (b ∷ before) after action e =
    let h = fares_split fares before after action (tail_same (PutFare f) b (map PutFare fares) (before ++ action ∷ after) e) in
    (f ∷ h.0, h.1, inr h.2, ap₂ (λ x xs. x ∷ xs) (sym (head_same (PutFare f) b (map PutFare fares) (before ++ action ∷ after) e)) h.3, h.4)

-- an action of the filing puts a rule, or a fare after the four rules
whole_split : (fares : List Fare) (before after : List Action) (action : Action) → all_actions fares ≡ before ++ action ∷ after → ((n : ℕ) × (rule : Rule) × (action ≡ PutRule mx n rule)) ⊎ Before fares before action
whole_split fares [] after action e = inl (1, weekend, sym (head_same _ action _ after e))
whole_split fares (b1 ∷ []) after action e = inl (2, season, sym (head_same _ action _ after (tail_same _ b1 _ _ e)))
whole_split fares (b1 ∷ b2 ∷ []) after action e = inl (3, return, sym (head_same _ action _ after (tail_same _ b2 _ _ (tail_same _ b1 _ _ e))))
whole_split fares (b1 ∷ b2 ∷ b3 ∷ []) after action e = inl (4, march, sym (head_same _ action _ after (tail_same _ b3 _ _ (tail_same _ b2 _ _ (tail_same _ b1 _ _ e)))))
whole_split fares (b1 ∷ b2 ∷ b3 ∷ b4 ∷ before) after action e =
    let e1 = tail_same _ b1 _ _ e in
    let e2 = tail_same _ b2 _ _ e1 in
    let e3 = tail_same _ b3 _ _ e2 in
    let h = fares_split fares before after action (tail_same _ b4 _ _ e3) in
    inr (record {
      put = h.0;
      fare = h.1;
      among = h.2;
      before_is =
          ap₂ (λ x xs. x ∷ xs) (sym (head_same _ b1 _ _ e)) (ap₂ (λ x xs. x ∷ xs) (sym (head_same _ b2 _ _ e1)) (ap₂ (λ x xs. x ∷ xs) (sym (head_same _ b3 _ _ e2)) (ap₂ (λ x xs. x ∷ xs) (sym (head_same _ b4 _ _ e3)) h.3)));
      action_is = h.4;
    })

module _ (timetable : Timetable) (fares : List Fare) (few : length fares ≤ 401) (each : Each IsMadeFare fares) where
  -- no more is live than there are actions
  few_before : (before after : List Action) (action : Action) → all_actions fares ≡ before ++ action ∷ after → length (before ++ []) ≤ 405
  few_before before after action e = omega (arith, few, ap length e, length-append before (action ∷ after), length-append before [], length-append rule_actions (map PutFare fares), length-map fares PutFare)

  rule_right : (before after : List Action) (n : ℕ) (rule : Rule) (why : BookWhy) → length (before ++ []) ≤ 405 → Why (opened timetable before) (PutRule mx n rule) why → ⊥
  rule_right before after n rule SamePlace l w = w
  rule_right before after n rule OddRound l w = w
  rule_right before after n rule NoRule l w = w
  rule_right before after n rule RuleInUse l w = w
  rule_right before after n rule NoFare l w = w
  rule_right before after n rule NoSeats l w = w
  rule_right before after n rule Limit l (none, many) =
      omega (arith, l, named_most rule_of (λ (k : Carrier × ℕ). (k.1 ≢ 0) × IsSome (live_rule (opened timetable before) k.0 k.1)) (actions (opened timetable before)) (live_rule_name (opened timetable before)) 2000 many)

  fare_right : (put : List Fare) (fare : Fare) (why : BookWhy) → IsMadeFare fare → length ((rule_actions ++ map PutFare put) ++ []) ≤ 405 → Why (opened timetable (rule_actions ++ map PutFare put)) (PutFare fare) why → ⊥
  fare_right put fare SamePlace h l w = h.apart w
  fare_right put fare OddRound h l (kind, odd) = omega (arith, h.even, odd)
  fare_right put fare NoRule h l w = rule_there timetable put fare.rule h.rule (subst (λ c. live_rule (opened timetable (rule_actions ++ map PutFare put)) c fare.rule ≡ None) h.carrier w)
  fare_right put fare RuleInUse h l w = w
  fare_right put fare NoFare h l w = w
  fare_right put fare NoSeats h l w = w
  fare_right put fare Limit h l (none, many) =
      omega (arith, l, named_most key_of (λ key. IsSome (live_fare (opened timetable (rule_actions ++ map PutFare put)) key)) (actions (opened timetable (rule_actions ++ map PutFare put))) (live_key (opened timetable (rule_actions ++ map PutFare put))) 20000 many)

  action_right : (before after : List Action) (action : Action) (why : BookWhy) → all_actions fares ≡ before ++ action ∷ after → Why (opened timetable before) action why → ⊥
  action_right before after action why e w = elim (whole_split fares before after action e) [
    | inl (n, rule, is) ↦ rule_right before after n rule why (few_before before after action e) (subst (λ a. Why (opened timetable before) a why) is w)
    | inr b ↦
        fare_right b.put b.fare why (each_in IsMadeFare fares b.fare each b.among) (subst (λ xs. length (xs ++ []) ≤ 405) b.before_is (few_before before after action e))
        (subst (λ a. Why (opened timetable (rule_actions ++ map PutFare b.put)) a why) b.action_is (subst (λ xs. Why (opened timetable xs) action why) b.before_is w))
  ]

  -- the filing has no fault
  pub filing_right : (at : ℕ) (why : BookWhy) → Fault (record { timetable = timetable; entries = [] }) (record { actions = all_actions fares }) at why → ⊥
  filing_right at why (inl (none, limit, many)) = omega (arith, many)
  filing_right at why (inr (some, (before, action, after, e, is, has, right))) = action_right before after action why e has.0
