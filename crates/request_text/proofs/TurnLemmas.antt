-- The judgement number by number is that of the law.
use Rattle.std.proofs.Common.{◌≡◌, ◌≤◌, ◌≤ℤ◌, ℕ, ℤ, pos, negsuc, nat_le, int_le, Bool, true, false, not, ◌&&◌, ◌||◌, List, [], ◌∷◌, length, map, refl, ap, sym, ◌∙◌, Option, Some, None, option_map, option_and_then, Result, Ok, Err, ok_or, if◌then◌else◌, arith}
use Rattle.std.proofs.lemmas.Bool.{and_from}
use Rattle.std.proofs.lemmas.Bool.Decides.{nat_tests}
use Rattle.std.proofs.lemmas.Int.{ints}
use Rattle.std.proofs.lemmas.List.{length-map}
use Rattle.std.specs.List.{list_all, list_any}
use Rattle.fare_law.specs.declared.requests.Request.{Request}
use Rattle.fare_law.specs.declared.requests.Slice.{Slice}
use Rattle.fare_law.specs.declared.requests.Why.{Why}
use Rattle.fare_law.specs.declared.requests.Why.TheVariants.{Slices, Party, Best, Window, SamePlace}
use Rattle.fare_law.specs.Lists.{Each}
use Rattle.fare_law.specs.Requests.{departs, has_window, in_century, judged_alone, required, within}
use Rattle.fare_law.specs.declared.limits.TheConstants.{MOST_PASSENGERS, MOST_SLICES, MOST_TICKETS, MOST_WINDOW_DAYS}
use Rattle.market_time.specs.Dates.{IsInCentury}
use Rattle.request_text.specs.declared.asked.Asked.{Asked}
use Rattle.request_text.specs.declared.asked.AskedSlice.{AskedSlice}
use Rattle.request_text.specs.Form.{IsAsked, IsAskedSlice}
use Rattle.request_text.specs.Limits.{allowed, counted, or_refused, request_asked, slice_asked}
use Rattle.request_text.specs.Steps.{◌>>=◌, between, each_windowed, in_turn, stays, windowed}

-- a value where the test holds
abbrev pub held : {A : Type 0} → Bool → A → Option A
held true a = Some a
held false a = None

le_int_le : (x y : ℤ) → x ≤ℤ y → int_le x y ≡ true
le_int_le x y h = grind (arith, ints)

above : (low : ℕ) → 1 ≤ low → nat_le low 0 ≡ false
above low h = grind (arith, nat_tests)

dated : (d : ℤ) → IsInCentury d → in_century d ≡ true
dated d h = and_from _ _ (le_int_le _ _ h.0) (le_int_le _ _ h.1)

if_held : {A : Type 0} (b : Bool) (a : A) → (if b then Some a else None) ≡ held b a
if_held true a = refl
if_held false a = refl

between_is : (low high : ℕ) (z : ℤ) → 1 ≤ low → between low high z ≡ held (within low high (counted z)) (counted z)
between_is low high (pos n) h = if_held (within low high n) n
between_is low high (negsuc n) h = sym (ap (λ b. held (b && nat_le 0 high) 0) (above low h))

windowed_is : (s : AskedSlice) → IsAskedSlice s → windowed s ≡ held (has_window (slice_asked s)) (slice_asked s)
windowed_is s h =
    ap (option_map (λ days. record { from = s.from; to = s.to; first = s.first; days = days })) (between_is 1 MOST_WINDOW_DAYS s.days (omega arith))
    ∙ by (within 1 MOST_WINDOW_DAYS (counted s.days)) ∙ sym (ap (λ b. held (b && within 1 MOST_WINDOW_DAYS (counted s.days)) (slice_asked s)) (dated s.first h.first))
  where
    by : (b : Bool) → option_map (λ days. record { from = s.from; to = s.to; first = s.first; days = days }) (held b (counted s.days)) ≡ held b (slice_asked s)
    by true = refl
    by false = refl

each_is : (ss : List AskedSlice) → Each IsAskedSlice ss → each_windowed ss ≡ held (list_all has_window (map slice_asked ss)) (map slice_asked ss)
each_is [] h = refl
each_is (s ∷ ss) h =
    ap (option_and_then (λ x. option_map (λ xs. x ∷ xs) (each_windowed ss))) (windowed_is s h.0)
    ∙ ap (λ o. option_and_then (λ x. option_map (λ xs. x ∷ xs) o) (held (has_window (slice_asked s)) (slice_asked s))) (each_is ss h.1)
    ∙ by (has_window (slice_asked s)) (list_all has_window (map slice_asked ss))
  where
    by : (a b : Bool) → option_and_then (λ x. option_map (λ xs. x ∷ xs) (held b (map slice_asked ss))) (held a (slice_asked s)) ≡ held (a && b) (slice_asked s ∷ map slice_asked ss)
    by true true = refl
    by true false = refl
    by false b = refl

some_stay : (ss : List Slice) → list_any stays ss ≡ not (list_all departs ss)
some_stay [] = refl
some_stay (s ∷ ss) = ap (λ b. stays s || b) (some_stay ss) ∙ by (stays s) (list_all departs ss)
  where
    by : (a b : Bool) → (a || not b) ≡ not (not a && b)
    by true b = refl
    by false b = refl

-- the steps over their answers
abbrev turned : Bool → Option ℕ → Option ℕ → Option (List Slice) → ℤ → Result Request Why
turned count party best slices sale = if count then (do
  p ← ok_or party Party
  b ← ok_or best Best
  ss ← ok_or slices Window
  if list_any stays ss then Err SamePlace
      else Ok (record { sale = sale; party = p; best = b; slices = ss })) else Err Slices

-- what is left once all but the places are judged
abbrev placed : Request → Option Why
placed q = required (list_all departs q.slices) SamePlace None

last : (q : Request) → (if list_any stays q.slices then Err SamePlace else Ok q) ≡ or_refused q (placed q)
last q = ap (λ t. if t then Err SamePlace else Ok q) (some_stay q.slices) ∙ by (list_all departs q.slices)
  where
    by : (b : Bool) → ◌≡◌ {A = Result Request Why} (if not b then Err SamePlace else Ok q) (or_refused q (required b SamePlace None))
    by true = refl
    by false = refl

turned_is : (c p b w : Bool) (q : Request) → in_century q.sale ≡ true
    → turned c (held p q.party) (held b q.best) (held w q.slices) q.sale ≡ or_refused q (required c Slices (required p Party (required b Best (required (in_century q.sale && w) Window (placed q)))))
turned_is false p b w q s = refl
turned_is true false b w q s = refl
turned_is true true false w q s = refl
turned_is true true true false q s = sym (ap (λ t. or_refused q (required (t && false) Window (placed q))) s)
turned_is true true true true q s = last q ∙ sym (ap (λ t. or_refused q (required (t && true) Window (placed q))) s)

steps_are : (a : Asked) → IsAsked a → in_turn a ≡ or_refused (request_asked a) (judged_alone (request_asked a))
unfolding in_turn
steps_are a h =
    let q = request_asked a in
    let c = within 1 MOST_SLICES (length a.slices) in
    let p = held (within 1 MOST_PASSENGERS q.party) q.party in
    let b = held (within 1 MOST_TICKETS q.best) q.best in
    ap (λ o. turned c o (between 1 MOST_TICKETS a.terms.best) (each_windowed a.slices) q.sale) (between_is 1 MOST_PASSENGERS a.terms.party (omega arith))
    ∙ ap (λ o. turned c p o (each_windowed a.slices) q.sale) (between_is 1 MOST_TICKETS a.terms.best (omega arith))
    ∙ ap (λ o. turned c p b o q.sale) (each_is a.slices h.slices)
    ∙ turned_is c (within 1 MOST_PASSENGERS q.party) (within 1 MOST_TICKETS q.best) (list_all has_window q.slices) q (dated q.sale h.sale)
    ∙ ap (λ n. or_refused q (required (within 1 MOST_SLICES n) Slices (required (within 1 MOST_PASSENGERS q.party) Party (required (within 1 MOST_TICKETS q.best) Best (required (in_century q.sale && list_all has_window q.slices) Window (placed q))))))
    (sym (length-map a.slices slice_asked))

pub turn_is : (a : Asked) → IsAsked a → in_turn a ≡ allowed a
unfolding allowed
turn_is a h = steps_are a h
