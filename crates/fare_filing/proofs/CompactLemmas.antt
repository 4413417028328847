-- The compact text of an action that puts a fare or seats: it is read again as the action.
use Rattle.std.proofs.Common.{◌≡◌, ◌<◌, ◌≤◌, ◌+◌, ◌^◌, ℕ, Bool, true, false, List, [], ◌∷◌, ◌++◌, codes, decimal, refl, sym, ap, ◌∙◌, arith, append_assoc}
use Rattle.json.specs.Print.{escape, escape_byte}
use Rattle.json.proofs.Printed.Decimals.{IsNumber-decimal}
use Rattle.json.proofs.Printed.Strings.{escape_byte_plain}
use Rattle.serde_json.proofs.Numbers.{number_of-decimal}
use Rattle.serde_json.specs.Data.{Data, null, boolean, number, string, array, object, Members, no_members, member}
use Rattle.serde_json.specs.Written.{comma_if, compact_text, members_text}
use Rattle.fare_law.specs.Limits.{IsCapital, IsFare, IsSeatKey}
use Rattle.fare_law.specs.Lists.{Each}
use Rattle.fare_law.specs.Names.{IsCharacter}
use Rattle.fare_law.specs.declared.fares.Fare.{Fare}
use Rattle.fare_law.specs.declared.fares.FareKind.{FareKind}
use Rattle.fare_law.specs.declared.fares.FareKind.TheVariants.{O, R, S}
use Rattle.fare_law.specs.declared.filings.Action.TheVariants.{PutFare, PutSeats}
use Rattle.fare_law.specs.declared.filings.SeatKey.{SeatKey}
use Rattle.name_text.specs.Again.{NamesReadAgain}
use Rattle.fare_filing.specs.Compact.{Begins, IsPlain, ReadsBack, SeatsAction, fare_action, seats_action}
use Rattle.fare_filing.specs.Text.{fare_data, kind_text, seats_data, sole}
use Rattle.fare_filing.proofs.AgainLemmas.{fare_again}
use Rattle.law_lemmas.proofs.Tests.{le_true}

-- plain bytes are written as they are

escape_plain : (s : List ℕ) → Each IsPlain s → escape s ≡ s
escape_plain [] h = refl
escape_plain (c ∷ s) h = rw (escape_byte_plain c (h.0).no_quote (h.0).no_backslash (h.0).no_control) (ap (λ xs. c ∷ xs) (escape_plain s h.1))

plain_capitals : (cs : List ℕ) → Each IsCapital cs → Each IsPlain cs
plain_capitals [] h = tt
plain_capitals (c ∷ cs) h = (record { no_control = omega arith; no_quote = λ e. omega arith; no_backslash = λ e. omega arith }, plain_capitals cs h.1)

plain_character : (c : ℕ) → IsCharacter c → IsPlain c
plain_character c h = record { no_control = grind arith; no_quote = λ e. grind arith; no_backslash = λ e. grind arith }

plain_characters : (cs : List ℕ) → Each IsCharacter cs → Each IsPlain cs
plain_characters [] h = tt
plain_characters (c ∷ cs) h = (plain_character c h.0, plain_characters cs h.1)

escape_letter : (class : ℕ) → class ≤ 25 → escape ((65 + class) ∷ []) ≡ (65 + class) ∷ []
escape_letter class h = escape_plain ((65 + class) ∷ []) (record { no_control = omega arith; no_quote = λ e. omega arith; no_backslash = λ e. omega arith }, tt)

escape_kind : (kind : FareKind) → escape (kind_text kind) ≡ kind_text kind
unfolding escape_byte
escape_kind O = refl
escape_kind R = refl
escape_kind S = refl

-- compact text and what follows, grouped to the right

abbrev mutual
  onward : Data → List ℕ → List ℕ
  onward null r = compact_text null ++ r
  onward (boolean b) r = compact_text (boolean b) ++ r
  onward (number n) r = compact_text (number n) ++ r
  onward (string s) r = 34 ∷ (escape s ++ 34 ∷ r)
  onward (array ds) r = compact_text (array ds) ++ r
  onward (object ms) r = 123 ∷ members_onward false ms r

  members_onward : Bool → Members → List ℕ → List ℕ
  members_onward later no_members r = 125 ∷ r
  members_onward later (member k d ms) r = comma_if later ++ (34 ∷ (escape k ++ 34 ∷ 58 ∷ onward d (members_onward true ms r)))

regroup : (e x r : List ℕ) → ((e ++ 34 ∷ []) ++ 58 ∷ x) ++ r ≡ e ++ 34 ∷ 58 ∷ (x ++ r)
regroup e x r = append_assoc (e ++ 34 ∷ []) (58 ∷ x) r ∙ append_assoc e (34 ∷ []) (58 ∷ (x ++ r))

later_by : (x m r y w : List ℕ) → m ++ r ≡ y → x ++ y ≡ w → (x ++ m) ++ r ≡ w
later_by x m r y w e f = append_assoc x m r ∙ ap (λ xs. x ++ xs) e ∙ f

mutual
  onward_is : (d : Data) (r : List ℕ) → compact_text d ++ r ≡ onward d r
  onward_is null r = refl
  onward_is (boolean b) r = refl
  onward_is (number n) r = refl
  onward_is (string s) r = ap (λ xs. 34 ∷ xs) (append_assoc (escape s) (34 ∷ []) r)
  onward_is (array ds) r = refl
  onward_is (object ms) r = ap (λ xs. 123 ∷ xs) (members_onward_is false ms r)

  members_onward_is : (later : Bool) (ms : Members) (r : List ℕ) → members_text later ms ++ r ≡ members_onward later ms r
  members_onward_is later no_members r = refl
  members_onward_is true (member k d ms) r = ap (λ xs. 44 ∷ 34 ∷ xs) (regroup (escape k) (compact_text d ++ members_text true ms) r ∙ ap (λ xs. escape k ++ 34 ∷ 58 ∷ xs) (later_by (compact_text d) (members_text true ms) r (members_onward true ms r) (onward d (members_onward true ms r)) (members_onward_is true ms r) (onward_is d (members_onward true ms r))))
  members_onward_is false (member k d ms) r = ap (λ xs. 34 ∷ xs) (regroup (escape k) (compact_text d ++ members_text true ms) r ∙ ap (λ xs. escape k ++ 34 ∷ 58 ∷ xs) (later_by (compact_text d) (members_text true ms) r (members_onward true ms r) (onward d (members_onward true ms r)) (members_onward_is true ms r) (onward_is d (members_onward true ms r))))

-- an action that puts a fare

abbrev fare_json : Fare → Data
fare_json fare = sole (codes "put_fare") (fare_data fare)

fare_compact : (fare : Fare) (rest : List ℕ) → IsFare fare → fare_action fare rest ≡ compact_text (fare_json fare) ++ rest
unfolding escape_byte
fare_compact fare rest h =
    sym (onward_is (fare_json fare) rest ∙ rw (
      escape_plain fare.key.basis.0 (plain_characters fare.key.basis.0 h.key.basis.2),
      escape_plain fare.key.carrier.0 (plain_characters fare.key.carrier.0 h.key.carrier.1),
      escape_letter fare.class h.class,
      escape_plain fare.key.from.0 (plain_capitals fare.key.from.0 h.key.from.1),
      escape_kind fare.kind,
      escape_plain fare.key.to.0 (plain_capitals fare.key.to.0 h.key.to.1),
    ) refl)

fare_back : (fare : Fare) → IsFare fare → ReadsBack (fare_json fare)
fare_back fare h =
    let low : fare.amount < 2 ^ 64 = (let m = h.amount in omega arith) in
    let small : fare.rule < 2 ^ 64 = (let m = h.rule in omega arith) in
    record {
      numbers = ((IsNumber-decimal fare.amount low, (tt, (tt, (tt, (tt, (tt, (IsNumber-decimal fare.rule small, (tt, tt)))))))), tt);
      again = rw (number_of-decimal fare.amount low, number_of-decimal fare.rule small) refl;
      nests = omega arith;
    }

-- its parts one after another
pub fare_chain : (fare : Fare) (t0 t1 t2 t3 t4 t5 t6 t7 t8 rest : List ℕ)
    → t0 ≡ codes "{\"put_fare\":{\"amount\":" ++ (decimal fare.amount ++ t1)
    → t1 ≡ codes ",\"basis\":\"" ++ (fare.key.basis.0 ++ t2)
    → t2 ≡ codes "\",\"carrier\":\"" ++ (fare.key.carrier.0 ++ t3)
    → t3 ≡ codes "\",\"class\":\"" ++ ((65 + fare.class) ∷ t4)
    → t4 ≡ codes "\",\"from\":\"" ++ (fare.key.from.0 ++ t5)
    → t5 ≡ codes "\",\"kind\":\"" ++ (kind_text fare.kind ++ t6)
    → t6 ≡ codes "\",\"rule\":" ++ (decimal fare.rule ++ t7)
    → t7 ≡ codes ",\"to\":\"" ++ (fare.key.to.0 ++ t8)
    → t8 ≡ codes "\"}}" ++ rest
    → t0 ≡ fare_action fare rest
fare_chain fare t0 t1 t2 t3 t4 t5 t6 t7 t8 rest e0 e1 e2 e3 e4 e5 e6 e7 e8 =
    e0 ∙ ap (λ xs. codes "{\"put_fare\":{\"amount\":" ++ (decimal fare.amount ++ xs))
    (e1 ∙ ap (λ xs. codes ",\"basis\":\"" ++ (fare.key.basis.0 ++ xs))
    (e2 ∙ ap (λ xs. codes "\",\"carrier\":\"" ++ (fare.key.carrier.0 ++ xs))
    (e3 ∙ ap (λ xs. codes "\",\"class\":\"" ++ ((65 + fare.class) ∷ xs))
    (e4 ∙ ap (λ xs. codes "\",\"from\":\"" ++ (fare.key.from.0 ++ xs))
    (e5 ∙ ap (λ xs. codes "\",\"kind\":\"" ++ (kind_text fare.kind ++ xs))
    (e6 ∙ ap (λ xs. codes "\",\"rule\":" ++ (decimal fare.rule ++ xs))
    (e7 ∙ ap (λ xs. codes ",\"to\":\"" ++ (fare.key.to.0 ++ xs)) e8)))))))

pub fare_begins : (names : NamesReadAgain) (fare : Fare) (text rest : List ℕ) → IsFare fare → text ≡ fare_action fare rest → Begins text (PutFare fare) rest
fare_begins names fare text rest h e = record {
  json = fare_json fare;
  spells = record { back = fare_back fare h; spelled = λ n. rw (fare_again names fare h) refl };
  text_is = e ∙ fare_compact fare rest h;
}

-- an action that puts seats

abbrev seats_json : SeatKey → (date seats : List ℕ) → Data
seats_json key date seats = sole (codes "put_seats") (seats_data key date seats)

seats_compact : (key : SeatKey) (date seats rest : List ℕ) → IsSeatKey key → Each IsPlain date → Each IsPlain seats
    → seats_action key date seats rest ≡ compact_text (seats_json key date seats) ++ rest
unfolding escape_byte
seats_compact key date seats rest h d s =
    sym (onward_is (seats_json key date seats) rest ∙ rw (
      escape_plain key.carrier.0 (plain_characters key.carrier.0 h.carrier.1),
      escape_plain date d,
      escape_plain key.from.0 (plain_capitals key.from.0 h.from.1),
      escape_plain seats s,
    ) refl)

seats_back : (key : SeatKey) (date seats : List ℕ) → IsSeatKey key → ReadsBack (seats_json key date seats)
seats_back key date seats h =
    let low : key.number < 2 ^ 64 = (let m = h.number.1 in omega arith) in
    record {
      numbers = ((tt, (tt, (tt, (IsNumber-decimal key.number low, (tt, tt))))), tt);
      again = rw (number_of-decimal key.number low) refl;
      nests = omega arith;
    }

pub seats_begin : (names : NamesReadAgain) (key : SeatKey) (seats text rest : List ℕ) → IsSeatKey key → SeatsAction text key seats rest → Begins text (PutSeats key seats) rest
seats_begin names key seats text rest h r = record {
  json = seats_json key r.date r.seats_text;
  spells = record {
    back = seats_back key r.date r.seats_text h;
    spelled = λ n. rw (names.carriers key.carrier h.carrier, le_true 1 key.number h.number.0, le_true key.number 9999 h.number.1, names.places key.from h.from, r.day, r.seats_are) refl;
  };
  text_is = r.text_is ∙ seats_compact key r.date r.seats_text rest h r.plain_date r.plain_seats;
}
