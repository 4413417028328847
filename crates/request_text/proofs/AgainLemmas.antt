-- A request within its limits that was written is read again as itself.
use Rattle.std.proofs.Common.{◌≡◌, ◌≤◌, ℕ, max, pos, false, ◌||◌, List, [], ◌∷◌, map, Some, Ok, refl, arith, sym, subst, ap, ◌∙◌}
use Rattle.std.specs.Str.{IsUtf8}
use Rattle.std.proofs.lemmas.Str.{is_utf8-from_IsUtf8}
use Rattle.serde_json.specs.Data.{Data, Items, no_items, item, depth, items_depth}
use Rattle.serde_json.specs.Read.{read, max_depth}
use Rattle.serde_json.specs.Written.{has_float, items_have_float}
use Rattle.fare_law.specs.Lists.{Each}
use Rattle.fare_law.specs.declared.requests.Request.{Request}
use Rattle.fare_law.specs.declared.requests.Slice.{Slice}
use Rattle.json_form.specs.Items.{each_item}
use Rattle.json_form.specs.Spelled.{spelled}
use Rattle.request_text.specs.declared.asked.Asked.{Asked}
use Rattle.request_text.specs.declared.asked.AskedSlice.{AskedSlice}
use Rattle.request_text.specs.Form.{asked, slice_form}
use Rattle.fare_law.specs.Requests.{judged_alone}
use Rattle.fare_law.proofs.Judged.{within_judged}
use Rattle.request_text.specs.Limits.{allowed, or_refused, request_asked, slice_asked}
use Rattle.fare_law.specs.Limits.{IsSlice, IsRequest}
use Rattle.request_text.specs.Reading.{request_of, request_spelled}
use Rattle.request_text.specs.Text.{WritesSlice, WritesSlices, WritesRequest}
use Rattle.name_text.proofs.TextLemmas.{place_again}

-- a slice and a request as they are asked for

abbrev as_asked : Slice → AskedSlice
as_asked s = record { from = s.from; to = s.to; first = s.first; days = pos s.days }

abbrev all_asked : Request → Asked
all_asked q = record { terms = record { sale = q.sale; party = pos q.party; best = pos q.best }; slices = map as_asked q.slices }

slice_again : (s : Slice) (d : Data) → IsSlice s → WritesSlice s d → slice_form d ≡ Some (as_asked s)
slice_again s d h w =
    let P = λ (x : Data). slice_form x ≡ Some (as_asked s) in
    subst P (sym w.written) (rw (place_again s.from h.from, place_again s.to h.to, w.day) refl)

slices_again : (ss : List Slice) (ds : Items) → Each IsSlice ss → WritesSlices ss ds → each_item slice_form ds ≡ Some (map as_asked ss)
slices_again [] no_items h w = refl
slices_again [] (item d ds) h w = absurd w
slices_again (s ∷ ss) no_items h w = absurd w
slices_again (s ∷ ss) (item d ds) h w = rw (slice_again s d h.0 w.0, slices_again ss ds h.1 w.1) refl

asked_again : (q : Request) (d : Data) → IsRequest q → WritesRequest q d → asked d ≡ Some (all_asked q)
unfolding asked
asked_again q d h w =
    let P = λ (x : Data). asked x ≡ Some (all_asked q) in
    subst P (sym w.written) (rw (w.day, slices_again q.slices w.items h.windows w.slices) refl)

slices_are : (ss : List Slice) → map slice_asked (map as_asked ss) ≡ ss
slices_are [] = refl
slices_are (s ∷ ss) = ap (λ xs. s ∷ xs) (slices_are ss)

asked_is : (q : Request) → request_asked (all_asked q) ≡ q
asked_is q = ap {B = Request} (λ ss. record q { slices = ss }) (slices_are q.slices)

allowed_again : (q : Request) → IsRequest q → allowed (all_asked q) ≡ Ok q
unfolding allowed
allowed_again q h = ap (λ x. or_refused x (judged_alone x)) (asked_is q) ∙ ap (or_refused q) (within_judged q h)

request_again : (q : Request) (d : Data) → IsRequest q → WritesRequest q d → request_spelled d ≡ Ok q
request_again q d h w = rw (asked_again q d h w, allowed_again q h) refl

spelled_again : (text : List ℕ) (d : Data) → IsUtf8 text → read text ≡ Some d → spelled text ≡ Some d
unfolding spelled
spelled_again text d utf8 e = rw (is_utf8-from_IsUtf8 text utf8, e) refl

-- text that reads as such JSON is read as the request
pub text_again : (q : Request) (d : Data) (text : List ℕ) → IsRequest q → WritesRequest q d → IsUtf8 text → read text ≡ Some d → request_of text ≡ Ok q
text_again q d text h w utf8 e = rw (spelled_again text d utf8 e) (request_again q d h w)

-- such JSON has no float, and two levels below its own

floats_in_slices : (ss : List Slice) (ds : Items) → WritesSlices ss ds → items_have_float ds ≡ false
floats_in_slices [] no_items w = refl
floats_in_slices [] (item d ds) w = absurd w
floats_in_slices (s ∷ ss) no_items w = absurd w
floats_in_slices (s ∷ ss) (item d ds) w =
    let P = λ (x : Data). (has_float x || items_have_float ds) ≡ false in subst P (sym w.0.written) (floats_in_slices ss ds w.1)

pub no_float : (q : Request) (d : Data) → WritesRequest q d → has_float d ≡ false
no_float q d w =
    let P = λ (x : Data). has_float x ≡ false in subst P (sym w.written) (rw (floats_in_slices q.slices w.items w.slices) refl)

depth_of_slices : (ss : List Slice) (ds : Items) → WritesSlices ss ds → items_depth ds ≤ 1
depth_of_slices [] no_items w = omega arith
depth_of_slices [] (item d ds) w = absurd w
depth_of_slices (s ∷ ss) no_items w = absurd w
depth_of_slices (s ∷ ss) (item d ds) w =
    let P = λ (x : Data). max (depth x) (items_depth ds) ≤ 1 in
    subst P (sym w.0.written) (let h = depth_of_slices ss ds w.1 in omega arith)

pub shallow : (q : Request) (d : Data) → WritesRequest q d → depth d ≤ max_depth
shallow q d w =
    let P = λ (x : Data). depth x ≤ max_depth in
    subst P (sym w.written) (let h = depth_of_slices q.slices w.items w.slices in omega arith)
