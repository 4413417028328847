-- The compact text of a request has no line feed. This file is given on to the crates above.
use Rattle.std.proofs.Common.{◌≡◌, ◌≢◌, ◌<◌, ◌^◌, ◌/◌, ◌%◌, ◌==◌, ◌||◌, ◌+◌, ℕ, Bool, true, false, cond, nat_lt, List, [], ◌∷◌, ◌++◌, refl, sym, subst, arith}
use Rattle.std.specs.Char.{digit_char}
use Rattle.std.proofs.lemmas.Bool.Decides.{nat_tests}
use Rattle.json.specs.Print.{escape_letter, escape_byte, escape, quoted}
use Rattle.serde_json.specs.Data.{unsigned, negative, float, Data, null, boolean, number, string, array, object, Items, no_items, item, Members, no_members, member}
use Rattle.serde_json.specs.Written.{comma_if, compact_text, items_text, members_text}
use Rattle.certificate_text.proofs.LineFeeds.{free_known, free_more, line_feed}
use Rattle.fare_law.specs.declared.requests.Request.{Request}
use Rattle.fare_law.specs.declared.requests.Slice.{Slice}
use Rattle.fare_law.specs.Limits.{IsRequest, IsSlice}
use Rattle.fare_law.specs.Lists.{Each}
use Rattle.request_text.specs.Text.{WritesSlices, Writes}
use Rattle.residual_keys.proofs.WordFacts.{Words, free_decimal}
use Rattle.word_text.specs.Words.{IsFreeOf}

-- ---- strings

letter_other : (x : ℕ) → escape_letter x ≢ 10
letter_other x = letter ((x == 34) || (x == 92)) (x == 8) (x == 12) (x == 10) (x == 13) (x == 9) (λ e f. grind (arith, nat_tests))
  where
    letter : (quote back form feed return tab : Bool) → (quote ≡ true → x ≢ 10) → cond quote x (cond back 98 (cond form 102 (cond feed 110 (cond return 114 (cond tab 116 0))))) ≢ 10
    letter true back form feed return tab other e = other refl e
    letter false true form feed return tab other e = omega (arith, e)
    letter false false true feed return tab other e = omega (arith, e)
    letter false false false true return tab other e = omega (arith, e)
    letter false false false false true tab other e = omega (arith, e)
    letter false false false false false true other e = omega (arith, e)
    letter false false false false false false other e = omega (arith, e)

digit_other : (d : ℕ) → digit_char d ≢ 10
digit_other d = digit (nat_lt d 10)
  where
    digit : (low : Bool) → cond low (48 + d) (87 + d) ≢ 10
    digit true e = omega (arith, e)
    digit false e = omega (arith, e)

escape_free : (x : ℕ) → IsFreeOf 10 (escape_byte x)
unfolding escape_byte
escape_free x = bytes (nat_lt 0 (escape_letter x)) (nat_lt x 32) (λ e f. grind (arith, nat_tests))
  where
    bytes : (short low : Bool) → (low ≡ false → x ≢ 10)
        → IsFreeOf 10 (cond short (92 ∷ escape_letter x ∷ []) (cond low (92 ∷ 117 ∷ 48 ∷ 48 ∷ digit_char (x / 16) ∷ digit_char (x % 16) ∷ []) (x ∷ [])))
    bytes true low other = (λ e. omega (arith, e), (letter_other x, tt))
    bytes false true other =
        (λ e. omega (arith, e), (λ e. omega (arith, e), (λ e. omega (arith, e), (λ e. omega (arith, e), (digit_other (x / 16), (digit_other (x % 16), tt))))))
    bytes false false other = (other refl, tt)

escaped_free : (s : List ℕ) → IsFreeOf 10 (escape s)
escaped_free [] = tt
escaped_free (x ∷ s) = free_more (escape_byte x) (escape s) (escape_free x) (escaped_free s)

quoted_free : (s : List ℕ) → IsFreeOf 10 (quoted s)
quoted_free s = (λ e. omega (arith, e), free_more (escape s) (34 ∷ []) (escaped_free s) (λ e. omega (arith, e), tt))

comma_free : (later : Bool) → IsFreeOf 10 (comma_if later)
comma_free true = (λ e. omega (arith, e), tt)
comma_free false = tt

-- ---- values whose numbers are small and not negative

abbrev mutual
  IsSmall : Data → Type 0
  IsSmall null = Unit {0}
  IsSmall (boolean b) = Unit {0}
  IsSmall (number (unsigned n)) = n < 2 ^ 64
  IsSmall (number (negative z)) = ⊥
  IsSmall (number (float x)) = ⊥
  IsSmall (string s) = Unit {0}
  IsSmall (array ds) = AreSmall ds
  IsSmall (object ms) = HaveSmall ms

  AreSmall : Items → Type 0
  AreSmall no_items = Unit {0}
  AreSmall (item d ds) = IsSmall d × AreSmall ds

  HaveSmall : Members → Type 0
  HaveSmall no_members = Unit {0}
  HaveSmall (member k d ms) = IsSmall d × HaveSmall ms

mutual
  data_free : Words → (d : Data) → IsSmall d → IsFreeOf 10 (compact_text d)
  data_free k null h = free_known (110 ∷ 117 ∷ 108 ∷ 108 ∷ []) refl
  data_free k (boolean true) h = free_known (116 ∷ 114 ∷ 117 ∷ 101 ∷ []) refl
  data_free k (boolean false) h = free_known (102 ∷ 97 ∷ 108 ∷ 115 ∷ 101 ∷ []) refl
  data_free k (number (unsigned n)) h = free_decimal k 10 line_feed n h
  data_free k (number (negative z)) h = absurd h
  data_free k (number (float x)) h = absurd h
  data_free k (string s) h = quoted_free s
  data_free k (array ds) h = (λ e. omega (arith, e), items_free k false ds h)
  data_free k (object ms) h = (λ e. omega (arith, e), members_free k false ms h)

  items_free : Words → (later : Bool) (ds : Items) → AreSmall ds → IsFreeOf 10 (items_text later ds)
  items_free k later no_items h = (λ e. omega (arith, e), tt)
  items_free k later (item d ds) h =
      free_more (comma_if later) (compact_text d ++ items_text true ds) (comma_free later) (free_more (compact_text d) (items_text true ds) (data_free k d h.0) (items_free k true ds h.1))

  members_free : Words → (later : Bool) (ms : Members) → HaveSmall ms → IsFreeOf 10 (members_text later ms)
  members_free k later no_members h = (λ e. omega (arith, e), tt)
  members_free k later (member l d ms) h =
      free_more (comma_if later) (quoted l ++ 58 ∷ (compact_text d ++ members_text true ms)) (comma_free later)
      (free_more (quoted l) (58 ∷ (compact_text d ++ members_text true ms)) (quoted_free l)
      (λ e. omega (arith, e), free_more (compact_text d) (members_text true ms) (data_free k d h.0) (members_free k true ms h.1)))

-- ---- requests

slices_small : (ss : List Slice) (ds : Items) → Each IsSlice ss → WritesSlices ss ds → AreSmall ds
slices_small [] no_items h w = tt
slices_small [] (item d ds) h w = absurd w
slices_small (s ∷ ss) no_items h w = absurd w
slices_small (s ∷ ss) (item d ds) h w =
    let small : s.days < 2 ^ 64 = omega (arith, h.0.days) in
    (subst IsSmall (sym w.0.written) (small, (tt, (tt, (tt, tt)))), slices_small ss ds h.1 w.1)

pub request_free : Words → (q : Request) (text : List ℕ) → IsRequest q → Writes q text → IsFreeOf 10 text
request_free k q text h w =
    let best : q.best < 2 ^ 64 = omega (arith, h.best) in
    let party : q.party < 2 ^ 64 = omega (arith, h.party) in
    let small : IsSmall w.json = subst IsSmall (sym w.request.written) (best, (party, (tt, (slices_small q.slices w.request.items h.windows w.request.slices, tt)))) in
    subst (IsFreeOf 10) (sym w.compact) (data_free k w.json small)
