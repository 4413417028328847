-- The times and offsets that texts spell are those that they write: what the laws on them need. This file is given on to the crates above.
use Rattle.std.proofs.Common.{◌≡◌, ◌↔◌, ◌⊎◌, inl, inr, ℕ, ◌+◌, ◌*◌, ◌-◌, ◌/◌, ◌%◌, ◌<◌, ◌≤◌, ◌==◌, ◌&&◌, ◌||◌, nat_lt, nat_le, Bool, true, refl, sym, arith, ℤ, pos, neg_ℤ, List, [], ◌∷◌, slice_index, Some, length, if◌then◌else◌, ap, ◌∙◌}
use Rattle.std.proofs.lemmas.Bool.Decides.{nat_tests}
use Rattle.market_time.proofs.DigitLemmas.{let_through, is_number, at_most, digits_in_range, three_hold, four_hold}
use Rattle.market_time.specs.Digits.{has_two_digits, two_digits}
use Rattle.market_time.specs.Clock.{has_clock_form, clock_minutes, minute_spelled, offset_spelled, time_text, WritesMinute, WritesOffset}

-- five bytes of the form HH:MM are the text of the minutes that they come to
time_text-form : (a b c d e : ℕ) → has_clock_form (a ∷ b ∷ c ∷ d ∷ e ∷ []) 0 ≡ true → a ∷ b ∷ c ∷ d ∷ e ∷ [] ≡ time_text (clock_minutes (a ∷ b ∷ c ∷ d ∷ e ∷ []) 0)
time_text-form a b c d e form =
    let text = a ∷ b ∷ c ∷ d ∷ e ∷ [] in
    let tests = four_hold (has_two_digits text 0) (c == 58) (has_two_digits text 3) (nat_lt (two_digits text 3) 60) form in
    let hours = digits_in_range a b tests.0 in
    let minutes = digits_in_range d e tests.2 in
    let below : 10 * (d - 48) + (e - 48) < 60 = grind (arith, nat_tests) in
    let total = 60 * (10 * (a - 48) + (b - 48)) + (10 * (d - 48) + (e - 48)) in
    let ea : a ≡ 48 + total / 60 / 10 = omega arith in
    let eb : b ≡ 48 + total / 60 % 10 = omega arith in
    let colon : c ≡ 58 = is_number c 58 tests.1 in
    let ed : d ≡ 48 + total % 60 / 10 = omega arith in
    let ee : e ≡ 48 + total % 60 % 10 = omega arith in
    cc

form_of_digits : (a b c d : ℕ) → a ≤ 9 → b ≤ 9 → c ≤ 9 → d ≤ 9 → 10 * c + d < 60 → has_clock_form ((48 + a) ∷ (48 + b) ∷ 58 ∷ (48 + c) ∷ (48 + d) ∷ []) 0 ≡ true
form_of_digits a b c d la lb lc ld below = grind (arith, nat_tests)

-- a time's text has the form, and comes to its minutes
time_text-reads : (minutes : ℕ) → minutes < 6000 → (has_clock_form (time_text minutes) 0 ≡ true) × (clock_minutes (time_text minutes) 0 ≡ minutes) × (two_digits (time_text minutes) 0 ≡ minutes / 60)
time_text-reads minutes below =
    (form_of_digits (minutes / 60 / 10) (minutes / 60 % 10) (minutes % 60 / 10) (minutes % 60 % 10) (omega arith) (omega arith) (omega arith) (omega arith) (omega arith), omega arith, omega arith)

-- ---- times

writes_minute : (text : List ℕ) (minute : ℕ) → minute_spelled text ≡ Some minute → WritesMinute text minute
unfolding minute_spelled
writes_minute (a ∷ b ∷ c ∷ d ∷ e ∷ []) minute h =
    let text = a ∷ b ∷ c ∷ d ∷ e ∷ [] in
    let read = let_through ((length text == 5) && has_clock_form text 0 && nat_lt (two_digits text 0) 24) (clock_minutes text 0) minute h in
    let tests = three_hold (length text == 5) (has_clock_form text 0) (nat_lt (two_digits text 0) 24) read.0 in
    let parts = four_hold (has_two_digits text 0) (c == 58) (has_two_digits text 3) (nat_lt (two_digits text 3) 60) tests.1 in
    let hours : two_digits text 0 < 24 = grind (arith, nat_tests) in
    let minutes : two_digits text 3 < 60 = grind (arith, nat_tests) in
    (omega arith, time_text-form a b c d e tests.1 ∙ ap time_text (sym read.1))
writes_minute text minute h =
    let read = let_through ((length text == 5) && has_clock_form text 0 && nat_lt (two_digits text 0) 24) (clock_minutes text 0) minute h in
    let tests = three_hold (length text == 5) (has_clock_form text 0) (nat_lt (two_digits text 0) 24) read.0 in
    absurd (omega (arith, is_number (length text) 5 tests.0))

minute_read : (text : List ℕ) (minute : ℕ) → WritesMinute text minute → minute_spelled text ≡ Some minute
unfolding minute_spelled
minute_read text minute w =
    let reads = time_text-reads minute (omega arith) in
    let early : nat_lt (two_digits (time_text minute) 0) 24 ≡ true = grind (arith, nat_tests) in
    rw w.1 (rw (reads.0, early, reads.1))

pub minutes_written : (text : List ℕ) (minute : ℕ) → (minute_spelled text ≡ Some minute) ↔ WritesMinute text minute
minutes_written text minute = (writes_minute text minute, minute_read text minute)

-- ---- offsets

-- the test of an offset's text, and the offset that it then spells
abbrev passes : List ℕ → Bool
passes text =
    (length text == 6) && ((slice_index text 0 == 43) || (slice_index text 0 == 45))
    && has_clock_form text 1 && nat_le (clock_minutes text 1) (14 * 60)

abbrev signed_minutes : List ℕ → ℤ
signed_minutes text = if slice_index text 0 == 45 then neg_ℤ (pos (clock_minutes text 1)) else pos (clock_minutes text 1)

-- a sign is one of the two, and turns the minutes accordingly
sign_cases : (s : ℕ) (x y : ℤ) → ((s == 43) || (s == 45)) ≡ true → ((s ≡ 43) × ((if s == 45 then x else y) ≡ y)) ⊎ ((s ≡ 45) × ((if s == 45 then x else y) ≡ x))
sign_cases s x y h = grind (arith, nat_tests)

writes_offset : (text : List ℕ) (offset : ℤ) → offset_spelled text ≡ Some offset → WritesOffset text offset
unfolding offset_spelled
writes_offset (s ∷ a ∷ b ∷ c ∷ d ∷ e ∷ []) offset h =
    let text = s ∷ a ∷ b ∷ c ∷ d ∷ e ∷ [] in
    let minutes = clock_minutes text 1 in
    let read = let_through (passes text) (signed_minutes text) offset h in
    let tests = four_hold (length text == 6) ((s == 43) || (s == 45)) (has_clock_form text 1) (nat_le minutes (14 * 60)) read.0 in
    let written = time_text-form a b c d e tests.2 in
    record {
      minutes = minutes;
      within = at_most minutes 840 tests.3;
      signed = elim (sign_cases s (neg_ℤ (pos minutes)) (pos minutes) tests.1) [
        | inl p ↦ inl (ap (λ n. n ∷ a ∷ b ∷ c ∷ d ∷ e ∷ []) p.0 ∙ ap (λ xs. 43 ∷ xs) written, read.1 ∙ p.1)
        | inr p ↦ inr (ap (λ n. n ∷ a ∷ b ∷ c ∷ d ∷ e ∷ []) p.0 ∙ ap (λ xs. 45 ∷ xs) written, read.1 ∙ p.1)
      ];
    }
writes_offset text offset h =
    let read = let_through (passes text) (signed_minutes text) offset h in
    let tests = four_hold (length text == 6) ((slice_index text 0 == 43) || (slice_index text 0 == 45)) (has_clock_form text 1) (nat_le (clock_minutes text 1) (14 * 60)) read.0 in
    absurd (omega (arith, is_number (length text) 6 tests.0))

offset_plus : (minutes : ℕ) → minutes ≤ 840 → offset_spelled (43 ∷ time_text minutes) ≡ Some (pos minutes)
unfolding offset_spelled
offset_plus minutes below =
    let reads = time_text-reads minutes (omega arith) in
    let early : nat_le minutes 840 ≡ true = grind (arith, nat_tests) in
    rw (reads.0, reads.1, early) refl

offset_minus : (minutes : ℕ) → minutes ≤ 840 → offset_spelled (45 ∷ time_text minutes) ≡ Some (neg_ℤ (pos minutes))
unfolding offset_spelled
offset_minus minutes below =
    let reads = time_text-reads minutes (omega arith) in
    let early : nat_le minutes 840 ≡ true = grind (arith, nat_tests) in
    rw (reads.0, reads.1, early) refl

offset_read : (text : List ℕ) (offset : ℤ) → WritesOffset text offset → offset_spelled text ≡ Some offset
offset_read text offset w =
    elim w.signed [
      | inl p ↦ ap offset_spelled p.0 ∙ offset_plus w.minutes w.within ∙ ap Some (sym p.1)
      | inr p ↦ ap offset_spelled p.0 ∙ offset_minus w.minutes w.within ∙ ap Some (sym p.1)
    ]

pub offsets_written : (text : List ℕ) (offset : ℤ) → (offset_spelled text ≡ Some offset) ↔ WritesOffset text offset
offsets_written text offset = (writes_offset text offset, offset_read text offset)
