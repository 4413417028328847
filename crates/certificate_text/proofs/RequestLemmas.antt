-- The text of a request is one, and read as it.
use Rattle.std.proofs.Common.{◌≡◌, ◌↔◌, ℕ, ℤ, List, [], ◌∷◌, Option, Some, None, Ok, refl, ap, ap₂, sym, ◌∙◌, subst}
use Rattle.std.specs.Prelude.{codes}
use Rattle.std.proofs.lemmas.Option.{same_Some}
use Rattle.serde_json.specs.Data.{Data, Items, no_items, item, array}
use Rattle.serde_json.specs.Written.{compact_text}
use Rattle.certificate_text.specs.Faults.{SpellsRequest}
use Rattle.certificate_text.specs.LineReading.{after_label}
use Rattle.certificate_text.proofs.WordLemmas.{label_again, label_read}
use Rattle.fare_law.specs.declared.requests.Request.{Request}
use Rattle.fare_law.specs.declared.requests.Slice.{Slice}
use Rattle.fare_law.specs.Limits.{IsRequest}
use Rattle.market_time.specs.Dates.{day_spelled}
use Rattle.request_text.specs.declared.fault.RequestFault.{RequestFault}
use Rattle.request_text.specs.Reading.{request_of}
use Rattle.request_text.specs.Text.{request_members, slice_members, WritesSlices, WritesRequest, Writes}
use Rattle.law_lemmas.proofs.Options.{ok_same}

abbrev pub OneDate : Type 0
OneDate = (one other : List ℕ) (day : ℤ) → day_spelled one ≡ Some day → day_spelled other ≡ Some day → one ≡ other

same_slices : OneDate → (ss : List Slice) (ds es : Items) → WritesSlices ss ds → WritesSlices ss es → ds ≡ es
same_slices k [] no_items no_items h g = refl
same_slices k [] (item d ds) es h g = absurd h
same_slices k [] no_items (item e es) h g = absurd g
same_slices k (s ∷ ss) no_items es h g = absurd h
same_slices k (s ∷ ss) (item d ds) no_items h g = absurd g
same_slices k (s ∷ ss) (item d ds) (item e es) h g =
    let one : d ≡ e = h.0.written ∙ ap (λ t. slice_members s.days t s.from.0 s.to.0) (k h.0.date g.0.date s.first h.0.day g.0.day) ∙ sym g.0.written in
    ap₂ item one (same_slices k ss ds es h.1 g.1)

one_written : OneDate → (q : Request) (d e : Data) → WritesRequest q d → WritesRequest q e → d ≡ e
one_written k q d e h g =
    h.written ∙ ap₂ (λ t items. request_members q.best q.party t (array items)) (k h.date g.date q.sale h.day g.day) (same_slices k q.slices h.items g.items h.slices g.slices) ∙ sym g.written

one_text : OneDate → (q : Request) (t u : List ℕ) → Writes q t → Writes q u → t ≡ u
one_text k q t u h g = h.compact ∙ ap compact_text (one_written k q h.json g.json h.request g.request) ∙ sym g.compact

spelled_text : (line : List ℕ) (q : Request) (s : SpellsRequest line q) → after_label (codes "request ") line ≡ Some s.text
spelled_text line q s = ap (after_label (codes "request ")) s.written ∙ label_again (codes "request ") s.text

abbrev pub RequestIs : List ℕ → Option Request → Type 0
RequestIs line o = (q : Request) → (o ≡ Some q) ↔ SpellsRequest line q

none_is : (line : List ℕ) → ((q : Request) → SpellsRequest line q → ⊥) → RequestIs line None
none_is line none q = (λ e. absurd (cc), λ s. absurd (none q s))

pub no_label : (line : List ℕ) → after_label (codes "request ") line ≡ None → RequestIs line None
no_label line e = none_is line (λ q s. let h = spelled_text line q s in absurd (cc))

read_as : (line text : List ℕ) → after_label (codes "request ") line ≡ Some text → (q : Request) (s : SpellsRequest line q) → (s.text ≡ text) × (request_of text ≡ Ok q)
read_as line text e q s =
    let same : s.text ≡ text = same_Some s.text text (sym (spelled_text line q s) ∙ e) in
    (same, sym (ap request_of same) ∙ s.request.read)

pub no_request : (line text : List ℕ) → after_label (codes "request ") line ≡ Some text → ((q : Request) → request_of text ≡ Ok q → ⊥) → RequestIs line None
no_request line text e none = none_is line (λ q s. none q (read_as line text e q s).1)

pub other_text : OneDate → (line text written : List ℕ) (request : Request) → after_label (codes "request ") line ≡ Some text → request_of text ≡ Ok request → Writes request written
    → (written ≡ text → ⊥) → RequestIs line None
other_text k line text written request e read writes other = none_is line (λ q s.
    let h = read_as line text e q s in
    let same : q ≡ request = ok_same {E = RequestFault} q request (sym h.1 ∙ read) in
    let compact : Writes request text = subst (λ (x : Request). Writes x text) same (subst (Writes q) h.0 s.request.compact) in
    other (one_text k request written text writes compact))

pub whole_request : (line text written : List ℕ) (request : Request) → after_label (codes "request ") line ≡ Some text → request_of text ≡ Ok request → IsRequest request → Writes request written
    → written ≡ text → RequestIs line (Some request)
whole_request line text written request e read is writes same q = (
  λ h.
      let one : request ≡ q = same_Some request q h in
      subst (SpellsRequest line) one (record {
        text = text;
        is = is;
        request = record { compact = subst (Writes request) same writes; read = read };
        written = label_read (codes "request ") line text e;
      }),
  λ s. ap Some (ok_same {E = RequestFault} request q (sym read ∙ (read_as line text e q s).1)),
)
