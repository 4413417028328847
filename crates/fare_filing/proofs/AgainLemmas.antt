-- A filing within its limits that was written is read again as itself.
use Rattle.std.proofs.Common.{◌≡◌, ℕ, suc, List, [], ◌∷◌, length, Some, Ok, codes, ok_or, refl, arith, sym, subst, ap, ◌∙◌}
use Rattle.std.specs.Str.{IsUtf8}
use Rattle.std.proofs.lemmas.Str.{is_utf8-from_IsUtf8}
use Rattle.serde_json.proofs.Views.{get_member-put, get_member-put_other}
use Rattle.serde_json.specs.Data.{Data, Items, no_items, item, Members, object, number, unsigned, string, put}
use Rattle.serde_json.specs.Find.{get_member}
use Rattle.serde_json.specs.Read.{read}
use Rattle.fare_law.specs.FilingLimits.{IsAction, IsFiling, IsRuleNumber}
use Rattle.fare_law.specs.Limits.{AreSeats, IsFare, IsFareKey, IsSeatKey}
use Rattle.fare_law.specs.Lists.{Each}
use Rattle.fare_law.specs.RuleLimits.{IsRule}
use Rattle.fare_law.specs.Names.{IsCarrier}
use Rattle.fare_law.specs.declared.fares.Fare.{Fare}
use Rattle.fare_law.specs.declared.fares.FareKey.{FareKey}
use Rattle.fare_law.specs.declared.fares.FareKind.{FareKind}
use Rattle.fare_law.specs.declared.fares.FareKind.TheVariants.{O, R, S}
use Rattle.fare_law.specs.declared.filings.Action.{Action}
use Rattle.fare_law.specs.declared.filings.Action.TheVariants.{PutFare, DropFare, PutRule, DropRule, PutSeats, DropSeats}
use Rattle.fare_law.specs.declared.filings.Filing.{Filing}
use Rattle.fare_law.specs.declared.filings.SeatKey.{SeatKey}
use Rattle.fare_law.specs.declared.names.Carrier.{Carrier}
use Rattle.fare_law.specs.declared.rules.Rule.{Rule}
use Rattle.json_form.specs.Fares.{fare_key, fare_spelled, kind_of}
use Rattle.json_form.specs.Spelled.{spelled}
use Rattle.name_text.specs.Again.{NamesReadAgain}
use Rattle.name_text.specs.Seats.{seat_day_of}
use Rattle.rule_text.specs.Members.{item_count}
use Rattle.rule_text.specs.Rules.{rule_of}
use Rattle.rule_text.proofs.SpelledLemmas.{rule_spelled}
use Rattle.fare_filing.specs.Actions.{drop_rule, drop_seats, put_seats}
use Rattle.fare_filing.specs.declared.fault.FilingFault.TheVariants.{Shape}
use Rattle.fare_filing.specs.Reading.{action_spelled, actions_from, filing_of, filing_spelled, put_rule}
use Rattle.fare_filing.specs.Text.{WritesAction, WritesActions, WritesFiling, WritesRule, fare_data, key_data, kind_text, rule_name_data, seat_key_data, seats_data, seats_text}
use Rattle.fare_law.specs.declared.limits.TheConstants.{MOST_ACTIONS}
use Rattle.fare_filing.proofs.SeatLemmas.{seats_again}
use Rattle.law_lemmas.proofs.Tests.{le_true}

-- a carrier and a number beside the categories change nothing in the rule
abbrev pub StandAside : Type 0
StandAside = (carrier n : Data) (ms : Members) → rule_of (object (put (codes "carrier") carrier (put (codes "rule") n ms))) ≡ rule_of (object ms)

kind_again : (kind : FareKind) → kind_of (kind_text kind) ≡ Some kind
kind_again O = refl
kind_again R = refl
kind_again S = refl

module _ (names : NamesReadAgain) where
  key_again : (key : FareKey) → IsFareKey key → fare_key (key_data key) ≡ Some key
  key_again key h =
      rw (names.carriers key.carrier h.carrier, names.places key.from h.from, names.places key.to h.to, names.bases key.basis h.basis) refl

  pub fare_again : (fare : Fare) → IsFare fare → fare_spelled (fare_data fare) ≡ Some fare
  unfolding fare_spelled
  fare_again fare h =
      rw (
        names.carriers fare.key.carrier h.key.carrier,
        names.places fare.key.from h.key.from,
        names.places fare.key.to h.key.to,
        names.bases fare.key.basis h.key.basis,
        names.classes fare.class h.class,
        kind_again fare.kind,
        le_true 0 fare.amount (omega arith),
        le_true fare.amount 1000000000 h.amount,
        le_true 0 fare.rule (omega arith),
        le_true fare.rule 9999 h.rule,
      ) refl

  rule_name_again : (carrier : Carrier) (n : ℕ) → IsCarrier carrier → IsRuleNumber n → drop_rule (rule_name_data carrier n) ≡ Some (DropRule carrier n)
  rule_name_again carrier n c h = rw (names.carriers carrier c, le_true 1 n h.0, le_true n 9999 h.1) refl

  seat_key_again : (key : SeatKey) (date : List ℕ) → IsSeatKey key → seat_day_of date ≡ Some key.day → drop_seats (seat_key_data key date) ≡ Some (DropSeats key)
  seat_key_again key date h day =
      rw (names.carriers key.carrier h.carrier, le_true 1 key.number h.number.0, le_true key.number 9999 h.number.1, names.places key.from h.from, day) refl

  seat_row_again : (key : SeatKey) (seats date : List ℕ) → IsSeatKey key → AreSeats seats → seat_day_of date ≡ Some key.day
      → put_seats (seats_data key date (seats_text seats)) ≡ Some (PutSeats key seats)
  seat_row_again key seats date h many day =
      rw (
        names.carriers key.carrier h.carrier,
        le_true 1 key.number h.number.0,
        le_true key.number 9999 h.number.1,
        names.places key.from h.from,
        day,
        seats_again seats many,
      ) refl

  carrier_there : (carrier n : Data) (ms : Members) → get_member (codes "carrier") (put (codes "carrier") carrier (put (codes "rule") n ms)) ≡ Some carrier
  carrier_there carrier n ms = get_member-put (codes "carrier") carrier (put (codes "rule") n ms)

  number_there : (carrier n : Data) (ms : Members) → get_member (codes "rule") (put (codes "carrier") carrier (put (codes "rule") n ms)) ≡ Some n
  number_there carrier n ms =
      get_member-put_other (codes "rule") (codes "carrier") carrier (put (codes "rule") n ms) (λ e. omega (arith, ap length e))
      ∙ get_member-put (codes "rule") n ms

  named_rule_again : StandAside → (action : ℕ) (carrier : Carrier) (n : ℕ) (rule : Rule) (d : Data) → IsCarrier carrier → IsRuleNumber n → IsRule rule → WritesRule carrier n rule d → put_rule action d ≡ Ok (PutRule carrier n rule)
  named_rule_again aside action carrier n rule d c h r w =
      let name = string carrier.0 in
      let number_is = number (unsigned n) in
      subst (λ (x : Data). put_rule action x ≡ Ok (PutRule carrier n rule)) (sym w.written)
      (rw (
        carrier_there name number_is w.members,
        names.carriers carrier c,
        number_there name number_is w.members,
        le_true 1 n h.0,
        le_true n 9999 h.1,
        aside name number_is w.members,
        (rule_spelled rule w.members w.rule_is r).again,
      ) refl)

  pub action_again : StandAside → (a : Action) (n : ℕ) (d : Data) → IsAction a → WritesAction a d → action_spelled n d ≡ Ok a
  action_again aside (PutFare fare) n d h e =
      subst (λ (x : Data). action_spelled n x ≡ Ok (PutFare fare)) (sym e) (rw (fare_again fare h) refl)
  action_again aside (DropFare key) n d h e =
      subst (λ (x : Data). action_spelled n x ≡ Ok (DropFare key)) (sym e) (rw (key_again key h) refl)
  action_again aside (PutRule carrier rule_no rule) n d h w =
      subst (λ (x : Data). action_spelled n x ≡ Ok (PutRule carrier rule_no rule)) (sym w.written)
      (named_rule_again aside n carrier rule_no rule w.inner h.0 h.1 h.2 w.formed)
  action_again aside (DropRule carrier rule_no) n d h e =
      subst (λ (x : Data). action_spelled n x ≡ Ok (DropRule carrier rule_no)) (sym e) (rw (rule_name_again carrier rule_no h.0 h.1) refl)
  action_again aside (PutSeats key seats) n d h w =
      subst (λ (x : Data). action_spelled n x ≡ Ok (PutSeats key seats)) (sym w.written)
      (subst (λ (x : Data). ok_or (put_seats x) (Shape n) ≡ Ok (PutSeats key seats)) (sym w.formed.written)
      (rw (seat_row_again key seats w.formed.date h.0 h.1 w.formed.day) refl))
  action_again aside (DropSeats key) n d h w =
      subst (λ (x : Data). action_spelled n x ≡ Ok (DropSeats key)) (sym w.written)
      (subst (λ (x : Data). ok_or (drop_seats x) (Shape n) ≡ Ok (DropSeats key)) (sym w.formed.written)
      (rw (seat_key_again key w.formed.date h w.formed.day) refl))

  actions_again : StandAside → (actions : List Action) (ds : Items) (n : ℕ) → Each IsAction actions → WritesActions actions ds → actions_from n ds ≡ Ok actions
  actions_again aside [] no_items n h w = refl
  actions_again aside [] (item d ds) n h w = absurd w
  actions_again aside (a ∷ actions) no_items n h w = absurd w
  actions_again aside (a ∷ actions) (item d ds) n h w = rw (action_again aside a n d h.0 w.0, actions_again aside actions ds (suc n) h.1 w.1) refl

count_again : (actions : List Action) (ds : Items) → WritesActions actions ds → item_count ds ≡ length actions
count_again [] no_items w = refl
count_again [] (item d ds) w = absurd w
count_again (a ∷ actions) no_items w = absurd w
count_again (a ∷ actions) (item d ds) w = ap suc (count_again actions ds w.1)

filing_again : NamesReadAgain → StandAside → (filing : Filing) (d : Data) → IsFiling filing → WritesFiling filing d → filing_spelled d ≡ Ok filing
unfolding filing_spelled
filing_again names aside filing d h w =
    subst (λ (x : Data). filing_spelled x ≡ Ok filing) (sym w.written)
    (rw (
      count_again filing.actions w.items w.actions,
      le_true (length filing.actions) MOST_ACTIONS h.few,
      actions_again names aside filing.actions w.items 1 h.each w.actions,
    ) refl)

pub spelled_again : (text : List ℕ) (d : Data) → IsUtf8 text → read text ≡ Some d → spelled text ≡ Some d
unfolding spelled
spelled_again text d utf8 e = rw (is_utf8-from_IsUtf8 text utf8, e) refl

-- text that reads as such JSON is read as the filing
pub text_again : NamesReadAgain → StandAside → (filing : Filing) (d : Data) (text : List ℕ) → IsFiling filing → WritesFiling filing d → IsUtf8 text → read text ≡ Some d → filing_of text ≡ Ok filing
text_again names aside filing d text h w utf8 e = rw (spelled_again text d utf8 e) (filing_again names aside filing d h w)
