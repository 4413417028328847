-- The number that digits write, from a least one to a greatest one.
use Rattle.std.proofs.Common.{◌≡◌, ◌<◌, ◌≤◌, ◌^◌, ℕ, List, [], ◌++◌, ap, sym, ◌∙◌, arith, Option, None, Some, MatchOption}
use Rattle.std.specs.Fmt.{decimal}
use Rattle.std.proofs.lemmas.List.{append_cancel_left}
use Rattle.std.proofs.lemmas.Fmt.{decimal_injective}
use Rattle.script_text.specs.Numbers.{IsNumberAfter, IsNoNumberAfter}
use Rattle.word_text.specs.Laws.{NumberTells}
use Rattle.word_text.specs.Words.{number_in}

-- what is read up to the greatest number, and isn't below the least
pub is_number : NumberTells → (low high n : ℕ) (text : List ℕ) → number_in high text ≡ Some n → low ≤ n → IsNumberAfter [] low high text n
is_number k low high n text e l = let r = k.read high n text e in record { range = (l, r.0); written = r.1 }

-- what is below the least
pub too_low : NumberTells → (low high m : ℕ) (text : List ℕ) → high < 2 ^ 32 → number_in high text ≡ Some m → m < low → IsNoNumberAfter [] low high text
too_low k low high m text small e l n h =
    let r = k.read high m text e in
    let same : m ≡ n = decimal_injective m n (omega (arith, small, r.0)) (omega (arith, small, h.range)) (sym r.1 ∙ h.written) in
    omega (arith, same, l, h.range)

-- where nothing is read, no number has such digits
pub no_number : NumberTells → (low high : ℕ) (text : List ℕ) → high < 2 ^ 32 → number_in high text ≡ None → IsNoNumberAfter [] low high text
no_number k low high text small e n h =
    let again = k.again high n (omega (arith, h.range)) (omega (arith, small, h.range)) in
    let read : number_in high text ≡ Some n = ap (number_in high) h.written ∙ again in
    absurd (cc)

-- a text has one number after the label
pub one_number : (label text : List ℕ) (least most low high m n : ℕ) → most < 2 ^ 32 → high < 2 ^ 32 → IsNumberAfter label least most text m → IsNumberAfter label low high text n → m ≡ n
one_number label text least most low high m n k l h g =
    decimal_injective m n (omega (arith, k, h.range)) (omega (arith, l, g.range)) (append_cancel_left label (decimal m) (decimal n) (sym h.written ∙ g.written))

-- what stands after the label says what the text says
pub labelled : (label text rest : List ℕ) (low high : ℕ) (o : Option ℕ) → text ≡ label ++ rest → MatchOption o (IsNoNumberAfter [] low high rest) (IsNumberAfter [] low high rest) → MatchOption o (IsNoNumberAfter label low high text) (IsNumberAfter label low high text)
labelled label text rest low high None e h = λ n k. h n (record { range = k.range; written = append_cancel_left label rest (decimal n) (sym e ∙ k.written) })
labelled label text rest low high (Some n) e h = record { range = h.range; written = e ∙ ap (λ t. label ++ t) h.written }

pub ruleset number_steps = (is_number, too_low, no_number)
