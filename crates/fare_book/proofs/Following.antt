-- What is live after one action more.
use Rattle.std.proofs.Common.{◌≡◌, ◌==◌, ◌&&◌, ℕ, Bool, true, false, cond, List, [], ◌∷◌, ◌++◌, Option, Some, None, find, reverse, option_and_then, refl, sym, ap, ◌∙◌}
use Rattle.std.specs.List.{flat_map}
use Rattle.std.proofs.lemmas.List.{reverse-append}
use Rattle.fare_law.specs.declared.fares.Fare.{Fare}
use Rattle.fare_law.specs.declared.fares.FareKey.{FareKey}
use Rattle.fare_law.specs.declared.filings.Action.{Action}
use Rattle.fare_law.specs.declared.filings.Action.TheVariants.{PutFare, DropFare, PutRule, DropRule, PutSeats, DropSeats}
use Rattle.fare_law.specs.declared.filings.Filing.{Filing}
use Rattle.fare_law.specs.declared.filings.SeatKey.{SeatKey}
use Rattle.fare_law.specs.declared.names.Carrier.{Carrier}
use Rattle.fare_law.specs.declared.rules.Rule.{Rule}
use Rattle.fare_law.specs.Book.{Book, actions, fare_put, free_rule, last_that, live_fare, live_rule, live_seats, names_fare, names_rule, names_seats, row_seats, rule_put, same_carrier, same_key, same_seat_key, seats_after, seats_left}
use Rattle.fare_law.specs.Faults.{filed}
use Rattle.fare_book.specs.Drafts.{Follows}

-- ---- the last action that passes a test
last_follows : (b next : Book) (a : Action) (test : Action → Bool) → Follows b a next → last_that test next ≡ cond (test a) (Some a) (last_that test b)
last_follows b next a test f = ap (find test) (ap reverse f.actions_are ∙ reverse-append (actions b) (a ∷ []))

module _ {V : Type 0} (put : Action → Option V) where
  and_then_cond : (t : Bool) (a : Action) (o : Option Action) → option_and_then put (cond t (Some a) o) ≡ cond t (put a) (option_and_then put o)
  and_then_cond true a o = refl
  and_then_cond false a o = refl

-- ---- fares
fare_after : (b next : Book) (a : Action) → Follows b a next → (key : FareKey) → live_fare next key ≡ cond (names_fare key a) (fare_put a) (live_fare b key)
unfolding live_fare
fare_after b next a f key = ap (option_and_then fare_put) (last_follows b next a (names_fare key) f) ∙ and_then_cond fare_put (names_fare key a) a (last_that (names_fare key) b)

pub fare_put_after : (b next : Book) (fare : Fare) → Follows b (PutFare fare) next → (key : FareKey) → live_fare next key ≡ cond (same_key key fare.key) (Some fare) (live_fare b key)
fare_put_after b next fare f key = fare_after b next (PutFare fare) f key

pub fare_dropped_after : (b next : Book) (k : FareKey) → Follows b (DropFare k) next → (key : FareKey) → live_fare next key ≡ cond (same_key key k) None (live_fare b key)
fare_dropped_after b next k f key = fare_after b next (DropFare k) f key

pub fares_stay : (b next : Book) (a : Action) → ((key : FareKey) → names_fare key a ≡ false) → Follows b a next → live_fare next ≡ live_fare b
fares_stay b next a n f = λ i key. (fare_after b next a f key ∙ ap (λ t. cond t (fare_put a) (live_fare b key)) (n key)) i

-- ---- rules
rule_step : (z t : Bool) (r o p : Option Rule) → cond z r (cond t o p) ≡ cond (cond z false t) o (cond z r p)
rule_step true t r o p = refl
rule_step false true r o p = refl
rule_step false false r o p = refl

rule_after : (b next : Book) (a : Action) → Follows b a next → (c : Carrier) (n : ℕ) → live_rule next c n ≡ cond (cond (n == 0) false (names_rule c n a)) (rule_put a) (live_rule b c n)
unfolding live_rule
rule_after b next a f c n =
    ap (λ o. cond (n == 0) (Some free_rule) o) (ap (option_and_then rule_put) (last_follows b next a (names_rule c n) f) ∙ and_then_cond rule_put (names_rule c n a) a (last_that (names_rule c n) b))
    ∙ rule_step (n == 0) (names_rule c n a) (Some free_rule) (rule_put a) (option_and_then rule_put (last_that (names_rule c n) b))

pub rule_put_after : (b next : Book) (k : Carrier) (m : ℕ) (rule : Rule) → Follows b (PutRule k m rule) next → (c : Carrier) (n : ℕ) → live_rule next c n ≡ cond (cond (n == 0) false (same_carrier c k && (n == m))) (Some rule) (live_rule b c n)
rule_put_after b next k m rule f c n = rule_after b next (PutRule k m rule) f c n

pub rule_dropped_after : (b next : Book) (k : Carrier) (m : ℕ) → Follows b (DropRule k m) next → (c : Carrier) (n : ℕ) → live_rule next c n ≡ cond (cond (n == 0) false (same_carrier c k && (n == m))) None (live_rule b c n)
rule_dropped_after b next k m f c n = rule_after b next (DropRule k m) f c n

never : (z : Bool) → cond z false false ≡ false
never true = refl
never false = refl

pub rules_stay : (b next : Book) (a : Action) → ((c : Carrier) (n : ℕ) → names_rule c n a ≡ false) → Follows b a next → live_rule next ≡ live_rule b
rules_stay b next a h f = λ i c n. (rule_after b next a f c n ∙ ap (λ t. cond (cond (n == 0) false t) (rule_put a) (live_rule b c n)) (h c n) ∙ ap (λ t. cond t (rule_put a) (live_rule b c n)) (never (n == 0))) i

pub rule_free : (b : Book) (c : Carrier) → live_rule b c 0 ≡ Some free_rule
unfolding live_rule
rule_free b c = refl

-- ---- seats
seats_step : (b next : Book) (key : SeatKey) (t : Bool) (a : Action) (o : Option Action) → next.timetable ≡ b.timetable → seats_after next key (cond t (Some a) o) ≡ cond t (seats_left a) (seats_after b key o)
seats_step b next key true a o e = refl
seats_step b next key false a None e = ap (λ t. row_seats (record { timetable = t; entries = [] }) key) e
seats_step b next key false a (Some x) e = refl

seats_follow : (b next : Book) (a : Action) → Follows b a next → (key : SeatKey) → live_seats next key ≡ cond (names_seats key a) (seats_left a) (live_seats b key)
seats_follow b next a f key = ap (seats_after next key) (last_follows b next a (names_seats key) f) ∙ seats_step b next key (names_seats key a) a (last_that (names_seats key) b) f.timetable

pub seats_put_after : (b next : Book) (k : SeatKey) (seats : List ℕ) → Follows b (PutSeats k seats) next → (key : SeatKey) → live_seats next key ≡ cond (same_seat_key key k) (Some seats) (live_seats b key)
seats_put_after b next k seats f key = seats_follow b next (PutSeats k seats) f key

pub seats_dropped_after : (b next : Book) (k : SeatKey) → Follows b (DropSeats k) next → (key : SeatKey) → live_seats next key ≡ cond (same_seat_key key k) None (live_seats b key)
seats_dropped_after b next k f key = seats_follow b next (DropSeats k) f key

pub seats_stay : (b next : Book) (a : Action) → ((key : SeatKey) → names_seats key a ≡ false) → Follows b a next → live_seats next ≡ live_seats b
seats_stay b next a n f = λ i key. (seats_follow b next a f key ∙ ap (λ t. cond t (seats_left a) (live_seats b key)) (n key)) i

-- ---- a filing so far
actions_more : (entries : List Filing) (f : Filing) → flat_map (λ f. f.actions) (entries ++ f ∷ []) ≡ flat_map (λ f. f.actions) entries ++ f.actions
actions_more [] f = nothing_more f.actions
  where
    nothing_more : {X : Type 0} (xs : List X) → xs ++ [] ≡ xs
    nothing_more [] = refl
    nothing_more (x ∷ xs) = ap (λ ys. x ∷ ys) (nothing_more xs)
actions_more (e ∷ es) f = ap (λ xs. e.actions ++ xs) (actions_more es f) ∙ sym (joined e.actions (flat_map (λ f. f.actions) es) f.actions)
  where
    joined : {X : Type 0} (xs ys zs : List X) → (xs ++ ys) ++ zs ≡ xs ++ (ys ++ zs)
    joined [] ys zs = refl
    joined (x ∷ xs) ys zs = ap (λ ws. x ∷ ws) (joined xs ys zs)

pub filed_actions : (b : Book) (before : List Action) → actions (filed b before) ≡ actions b ++ before
filed_actions b before = actions_more b.entries (record { actions = before })

pub filed_follows : (b : Book) (before : List Action) (a : Action) → Follows (filed b before) a (filed b (before ++ a ∷ []))
filed_follows b before a = record {
  timetable = refl;
  actions_are = filed_actions b (before ++ a ∷ []) ∙ sym (joined (actions b) before (a ∷ [])) ∙ ap (λ xs. xs ++ a ∷ []) (sym (filed_actions b before));
}
  where
    joined : {X : Type 0} (xs ys zs : List X) → (xs ++ ys) ++ zs ≡ xs ++ (ys ++ zs)
    joined [] ys zs = refl
    joined (x ∷ xs) ys zs = ap (λ ws. x ∷ ws) (joined xs ys zs)

-- books of one timetable and the same actions have the same live
module _ (b next : Book) (t : next.timetable ≡ b.timetable) (same : actions next ≡ actions b) where
  pub same_fares : live_fare next ≡ live_fare b
  unfolding live_fare
  same_fares = λ i key. option_and_then fare_put (find (names_fare key) (reverse (same i)))

  pub same_rules : live_rule next ≡ live_rule b
  unfolding live_rule
  same_rules = λ i c n. cond (n == 0) (Some free_rule) (option_and_then rule_put (find (names_rule c n) (reverse (same i))))

  pub same_seats : live_seats next ≡ live_seats b
  same_seats = λ i key. seats_after (record { timetable = t i; entries = [] }) key (find (names_seats key) (reverse (same i)))
