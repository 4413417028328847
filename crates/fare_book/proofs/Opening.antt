-- What a book has before any filing.
use Rattle.std.proofs.Common.{◌≡◌, ◌≢◌, ◌⊎◌, ◌==◌, ℕ, Bool, true, false, cond, List, [], ◌∷◌, ◌++◌, length, Option, Some, None, IsSome, is_some, map, find, option_map, refl, sym, ap, subst, inl, inr, arith}
use Rattle.std.specs.Arc.{arc_value}
use Rattle.std.specs.declared.sync.Arc.{Arc}
use Rattle.fare_book.specs.declared.keys.Market.{Market}
use Rattle.fare_book.specs.declared.keys.RuleKey.{RuleKey}
use Rattle.fare_law.specs.Sheets.{Sheet}
use Rattle.fare_law.specs.declared.filings.Filing.{Filing}
use Rattle.fare_law.specs.declared.filings.SeatKey.{SeatKey}
use Rattle.fare_law.specs.declared.fares.FareKey.{FareKey}
use Rattle.fare_law.specs.declared.names.Carrier.{Carrier}
use Rattle.fare_law.specs.declared.rows.SeatRow.{SeatRow}
use Rattle.fare_law.specs.declared.rules.Rule.{Rule}
use Rattle.fare_law.specs.Book.{Book, Timetable, live_fare, live_rule, live_seats, row_key, same_seat_key}
use Rattle.fare_law.specs.Faults.{Legal}
use Rattle.seat_classes.specs.Given.{rows_have}
use Rattle.fare_book.specs.Counts.{AtMost}
use Rattle.fare_book.specs.Keeping.{IsLive, IsLiveRule, Keeps, Names}
use Rattle.fare_book.specs.Seating.{SeatsRows}
use Rattle.std.proofs.lemmas.Bool.{false_from_ne_true}
use Rattle.std.proofs.lemmas.Bool.Decides.{Decides-eqb}
use Rattle.fare_book.proofs.Counting.{count_none, most_more}
use Rattle.law_lemmas.proofs.Names.{same_seats_tell}

-- the book of a timetable with no filing
abbrev pub opening : Timetable → Book
opening t = record { timetable = t; entries = [] }

pub no_fare : (t : Timetable) (key : FareKey) → live_fare (opening t) key ≡ None
unfolding live_fare
no_fare t key = refl

no_rule_at : (n : ℕ) → n ≢ 0 → (r : Rule) → cond (n == 0) (Some r) None ≡ None
no_rule_at n h r = ap (λ b. cond b (Some r) None) (false_from_ne_true (n == 0) (λ t. h ((Decides-eqb n 0).0 t)))

pub no_rule : (t : Timetable) (carrier : Carrier) (n : ℕ) → n ≢ 0 → live_rule (opening t) carrier n ≡ None
unfolding live_rule
no_rule t carrier n h = no_rule_at n h _

pub rows_live : (t : Timetable) (key : SeatKey) → live_seats (opening t) key ≡ rows_have t.seats key
rows_live t key = refl

few_rows : (rows : List SeatRow) → AtMost (length rows) (λ key. IsSome (rows_have rows key))
few_rows [] = (count_none (λ (key : SeatKey). false ≡ true) (λ q e. absurd (cc))).most
few_rows (r ∷ rows) = λ m many. omega (arith, most_more (λ key. IsSome (rows_have rows key)) (λ key. IsSome (rows_have (r ∷ rows) key)) (row_key r) (length rows) is_one (few_rows rows) m many)
  where
    by : (q : SeatKey) (b : Bool) → same_seat_key q (row_key r) ≡ b → IsSome (option_map (λ (s : SeatRow). s.seats) (cond b (Some r) (find (λ s. same_seat_key q (row_key s)) rows))) → (q ≡ row_key r) ⊎ IsSome (rows_have rows q)
    by q true t h = inl ((same_seats_tell q (row_key r)).0 t)
    by q false t h = inr h

    is_one : (q : SeatKey) → IsSome (rows_have (r ∷ rows) q) → (q ≡ row_key r) ⊎ IsSome (rows_have rows q)
    is_one q h = by q (same_seat_key q (row_key r)) refl h

no_history : (t : Timetable) → Legal t []
no_history t before filing after e at why f = absurd (clash before e)
  where
    clash : (before : List Filing) → [] ≡ before ++ filing ∷ after → ⊥
    clash [] e = cc
    clash (x ∷ xs) e = cc

-- of nothing, some is nothing
not_some : {A : Type 0} (o : Option A) → o ≡ None → IsSome o → ⊥
not_some None e s = cc
not_some (Some x) e s = cc

pub opening_keeps : {Z : Type 0} (t : Timetable) (held : List (SeatKey × List ℕ)) → SeatsRows t.seats held → Keeps {Z = Z} (opening t) [] [] [] 0 0 held
opening_keeps t held s = record {
  history = record { filings = tt; legal = no_history t; few = omega arith };
  sheets_are = λ m key f o. no_fare t key;
  rules_are = λ k h. sym (no_rule t k.carrier k.number h);
  counted = record {
    fares = count_none (IsLive (opening t)) (λ q h. not_some _ (no_fare t q) h);
    few_fares = omega arith;
    rules = count_none (IsLiveRule (opening t)) (λ q h. not_some _ (no_rule t q.0 q.1 h.0) h.1);
    few_rules = omega arith;
    seats = λ m many. omega (arith, s.few, few_rows t.seats m many);
    uses = λ k. count_none (Names (opening t) k) (λ q n. not_some _ (no_fare t q) (ap (λ o. is_some o) n.1));
    stand = λ key fare l. absurd (not_some _ (no_fare t key) (ap (λ o. is_some o) l));
  };
  seats_are = s.each;
}

pub opening_holds : {Z : Type 0} (t : Timetable) (entries : List (Arc Filing Z)) (sheets : List (Market × Arc Sheet Z)) (rules : List (RuleKey × Rule)) (uses : List (RuleKey × ℕ)) (given held : List (SeatKey × List ℕ))
    → SeatsRows t.seats given → given ≡ held → entries ≡ [] → sheets ≡ [] → rules ≡ [] → uses ≡ []
    → Keeps (record { timetable = t; entries = map arc_value entries }) sheets rules uses 0 0 held
opening_holds {Z = Z} t entries sheets rules uses given held s g e sh r u = subst (λ es. Keeps {Z = Z} (record { timetable = t; entries = map arc_value es }) sheets rules uses 0 0 held) (sym e)
    (subst (λ es. Keeps {Z = Z} (opening t) es rules uses 0 0 held) (sym sh) (subst (λ es. Keeps {Z = Z} (opening t) [] es uses 0 0 held) (sym r) (subst (λ es. Keeps {Z = Z} (opening t) [] [] es 0 0 held) (sym u) (opening_keeps t held (subst (SeatsRows t.seats) g s)))))
