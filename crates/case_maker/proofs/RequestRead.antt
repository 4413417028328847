-- The line of a made case's request is read as a request, which no reason refuses where its two places are known.
use Rattle.std.proofs.Common.{◌≡◌, ◌≤◌, ◌∙◌, ℕ, ℤ, pos, List, [], ◌∷◌, codes, append-nil, slice_index, Some, Ok, refl, sym, ap, arith}
use Rattle.std.specs.Fmt.{digits}
use Rattle.std.specs.Int.{IsInRange}
use Rattle.jiff_core.proofs.SignedLemmas.{signed_arith}
use Rattle.jiff_core.specs.Calendar.{days_from_civil, days_in_month}
use Rattle.json.specs.Lex.{tokens}
use Rattle.json.specs.Json as json
use Rattle.json.specs.Print.{escape_byte}
use Rattle.json.specs.Tree.{HasNumbers, depth as json_depth, json_tokens}
use Rattle.json.proofs.Printed.Decimals.{IsNumber-decimal}
use Rattle.json.proofs.Printed.Tokens.{tokens-print}
use Rattle.json.proofs.Printed.Trees.{ArePrintable-json_tokens, value-json_tokens}
use Rattle.serde_json.proofs.Numbers.{number_of-decimal}
use Rattle.serde_json.proofs.Texts.{print-outline}
use Rattle.serde_json.specs.Data.{Data, Items, array, item, no_items}
use Rattle.serde_json.specs.Read.{max_depth, of_json, read}
use Rattle.serde_json.specs.Written.{compact_text, outline}
use Rattle.fare_law.specs.declared.requests.Request.{Request}
use Rattle.fare_law.specs.declared.requests.Slice.{Slice}
use Rattle.fare_law.specs.Limits.{IsPlace, IsRequest, IsSlice}
use Rattle.law_lemmas.proofs.Words.{ascii_is_utf8}
use Rattle.market_time.specs.Dates.{IsInCentury, day_spelled}
use Rattle.market_time.proofs.CenturyLemmas.{IsInCentury-date}
use Rattle.request_text.specs.Reading.{request_of}
use Rattle.request_text.specs.Text.{WritesRequest, request_members, slice_members}
use Rattle.request_text.proofs.AgainLemmas.{text_again}
use Rattle.case_maker.specs.Names.{away, back_date, home, out_date}
use Rattle.case_maker.specs.Sections.{request_line}
use Rattle.case_maker.proofs.FilingBytes.{known_bytes}
use Rattle.case_maker.proofs.FilingRead.{is_ascii}
use Rattle.case_maker.proofs.LegsNamed.{back_day, out_day}

abbrev sale_date : List ℕ
sale_date = codes "2031-02-01"

abbrev slice_of : List ℕ → List ℕ → ℤ → Slice
slice_of from to day = record { from = record { 0 = from }; to = record { 0 = to }; first = day; days = 1 }

-- the request that a made case asks
abbrev pub made_request : Request
made_request = record {
  sale = days_from_civil (pos 2031) 2 1;
  party = 2;
  best = 10;
  slices = slice_of home away (days_from_civil (pos 2031) 3 3) ∷ slice_of away home (days_from_civil (pos 2031) 3 10) ∷ [];
}

abbrev slices_data : Items
slices_data = item (slice_members 1 out_date home away) (item (slice_members 1 back_date away home) no_items)

abbrev request_data : Data
request_data = request_members 10 2 sale_date (array slices_data)

request_text : request_line ≡ compact_text request_data
unfolding escape_byte digits
request_text = refl

sale_day : day_spelled sale_date ≡ Some (days_from_civil (pos 2031) 2 1)
unfolding day_spelled
sale_day = refl

request_written : WritesRequest made_request request_data
request_written = record {
  date = sale_date;
  items = slices_data;
  day = sale_day;
  slices = (record { date = out_date; day = out_day; written = refl }, (record { date = back_date; day = back_day; written = refl }, tt));
  written = refl;
}

-- ---- within the limits

pub century : (m d : ℕ) → IsInRange 1 12 m → IsInRange 1 (days_in_month (pos 2031) m) d → IsInCentury (days_from_civil (pos 2031) m d)
century m d month day = IsInCentury-date (pos 2031) m d (omega (arith, signed_arith)) (omega (arith, signed_arith)) ((omega (arith, signed_arith), omega (arith, signed_arith)), month, day)

home_place : IsPlace (record { 0 = home })
home_place = (refl, ((omega arith, omega arith), ((omega arith, omega arith), ((omega arith, omega arith), tt))))

away_place : IsPlace (record { 0 = away })
away_place = (refl, ((omega arith, omega arith), ((omega arith, omega arith), ((omega arith, omega arith), tt))))

is_slice : (s : Slice) → IsPlace s.from → IsPlace s.to → IsInCentury s.first → s.days ≡ 1 → IsSlice s
is_slice s f t day one = record { from = f; to = t; first = (day.0, day.1); days = (omega (arith, one), omega (arith, one)) }

pub request_within : IsRequest made_request
request_within =
    let sale = century 2 1 (omega arith, omega arith) (omega arith, omega arith) in record {
      sale = (sale.0, sale.1);
      party = (omega arith, omega arith);
      best = (omega arith, omega arith);
      count = (omega arith, omega arith);
      windows = (
        is_slice (slice_of home away (days_from_civil (pos 2031) 3 3)) home_place away_place (century 3 3 (omega arith, omega arith) (omega arith, omega arith)) refl,
        (is_slice (slice_of away home (days_from_civil (pos 2031) 3 10)) away_place home_place (century 3 10 (omega arith, omega arith) (omega arith, omega arith)) refl, tt),
      );
      departs = ((λ e. omega (arith, ap (λ p. slice_index p.0 0) e)), ((λ e. omega (arith, ap (λ p. slice_index p.0 0) e)), tt));
    }

-- ---- read again

request_back : HasNumbers (outline request_data) × (of_json (outline request_data) ≡ Some request_data) × (json_depth (outline request_data) ≤ max_depth)
request_back = (
  (IsNumber-decimal 10 (omega arith), (IsNumber-decimal 2 (omega arith), (tt, (((IsNumber-decimal 1 (omega arith), (tt, (tt, (tt, tt)))), ((IsNumber-decimal 1 (omega arith), (tt, (tt, (tt, tt)))), tt)), tt)))),
  rw (number_of-decimal 10 (omega arith), number_of-decimal 2 (omega arith), number_of-decimal 1 (omega arith)) refl,
  omega arith,
)

-- compact text that is read back is read as its value
read_compact : (d : Data) (text : List ℕ) → HasNumbers (outline d) → of_json (outline d) ≡ Some d → json_depth (outline d) ≤ max_depth → text ≡ compact_text d → read text ≡ Some d
read_compact d text numbers again nests e =
    let told : tokens text ≡ json_tokens (outline d) = ap tokens (e ∙ sym (print-outline d)) ∙ tokens-print (json_tokens (outline d)) (ArePrintable-json_tokens (outline d) numbers) in
    let whole : json.value max_depth (tokens text) ≡ Some (outline d, []) = ap (json.value max_depth) (told ∙ sym (append-nil (json_tokens (outline d)))) ∙ value-json_tokens (outline d) max_depth [] nests in
    rw whole again

pub request_read : request_of request_line ≡ Ok made_request
request_read =
    text_again made_request request_data request_line request_within request_written (ascii_is_utf8 request_line (is_ascii request_line (known_bytes request_line refl)))
    (read_compact request_data request_line request_back.0 request_back.1 request_back.2 request_text)
