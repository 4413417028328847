-- Pieces of a text: one that it begins with, a name up to a quote, a number.
use Rattle.std.proofs.Common.{◌≡◌, ◌≢◌, ◌<◌, ◌≤◌, ◌+◌, ◌-◌, ◌*◌, ◌/◌, ◌%◌, ◌^◌, ℕ, zero, suc, Bool, true, ◌&&◌, eqb, List, [], ◌∷◌, ◌++◌, length, take, drop, get_or, decimal, sym, ap, ap₂, subst, ◌∙◌, arith, bytes_eq, append_assoc, take-append-drop}
use Rattle.std.proofs.lemmas.Fmt.{decimal_digit, decimal_step}
use Rattle.std.proofs.lemmas.List.{take_all, take_more, take_more_same}
use borrow.Author.Tests.{eqb-true}
use Rattle.fare_law.specs.Lists.{Each}
use Rattle.fare_filing.specs.Compact.{Cuts, IsPlain}
use Rattle.law_lemmas.proofs.EachOne.{each_more}
use Rattle.law_lemmas.proofs.Tests.{both_true}

-- the bytes up to a place, and one more
pub plain_more : (text : List ℕ) (i byte : ℕ) → i < length text → byte ≡ get_or text i byte → IsPlain byte → Each IsPlain (take i text) → Each IsPlain (take (i + 1) text)
plain_more text i byte l e p h = rw (take_more text i byte l) (each_more IsPlain (take i text) (get_or text i byte) h (subst IsPlain e p))

pub cut_there : (text : List ℕ) (i : ℕ) → Each IsPlain (take i text) → Cuts text (take i text) (drop i text)
cut_there text i h = record { plain = h; parts = sym (take-append-drop i text) }

-- numbers

quotient : (n d : ℕ) → d ≤ 9 → (10 * n + d) / 10 ≡ n
quotient n d h = omega arith

remainder : (n d : ℕ) → d ≤ 9 → (10 * n + d) % 10 ≡ d
remainder n d h = omega arith

-- a digit more
pub decimal_more : (n d : ℕ) (rest more : List ℕ) → 1 ≤ n → n ≤ 999999999 → d ≤ 9 → rest ≡ (48 + d) ∷ more → decimal n ++ rest ≡ decimal (10 * n + d) ++ more
decimal_more n d rest more some low few e =
    let step : decimal (10 * n + d) ≡ decimal n ++ (48 + d) ∷ [] =
    decimal_step (10 * n + d) (omega arith) (omega arith) ∙ ap₂ (λ q r. decimal q ++ (48 + r) ∷ []) (quotient n d few) (remainder n d few) in
    ap (λ xs. decimal n ++ xs) e ∙ sym (ap (λ xs. xs ++ more) step ∙ append_assoc (decimal n) ((48 + d) ∷ []) more)

pub digits_more : (first text : List ℕ) (n d : ℕ) (rest more : List ℕ) → 1 ≤ n → n ≤ 999999999 → d ≤ 9 → rest ≡ (48 + d) ∷ more → first ++ text ≡ decimal n ++ rest → first ++ text ≡ decimal (10 * n + d) ++ more
digits_more first text n d rest more some low few e before = before ∙ decimal_more n d rest more some low few e

pub decimal_one : (d : ℕ) (text rest : List ℕ) → d ≤ 9 → text ≡ (48 + d) ∷ rest → text ≡ decimal d ++ rest
decimal_one d text rest h e = e ∙ sym (ap (λ xs. xs ++ rest) (decimal_digit d (omega arith)))

pub number_whole : (d n : ℕ) (text rest last : List ℕ) → d ≤ 9 → text ≡ (48 + d) ∷ rest → decimal d ++ rest ≡ decimal n ++ last → text ≡ decimal n ++ last
number_whole d n text rest last h e more = decimal_one d text rest h e ∙ more

pub ruleset digit_steps = (digits_more)

pub ruleset number_steps = (decimal_one, number_whole)

pub ruleset name_steps = (plain_more, cut_there)

-- two texts that are the same up to a place, and one byte further
pub same_more : (front piece : List ℕ) (i : ℕ) (same : Bool) (d : ℕ) → i < length piece → length front ≡ length piece
    → (same ≡ true → take i front ≡ take i piece) → (same && eqb (get_or front i d) (get_or piece i d)) ≡ true → take (i + 1) front ≡ take (i + 1) piece
same_more front piece i same d l long before h = let p = both_true same (eqb (get_or front i d) (get_or piece i d)) h in
    take_more_same front piece i d (omega (arith, l, long)) l (before p.0) (eqb-true (get_or front i d) (get_or piece i d) p.1)

pub same_all : (front piece : List ℕ) (i : ℕ) (same : Bool) → length piece ≤ i → length front ≡ length piece
    → (same ≡ true → take i front ≡ take i piece) → same ≡ true → front ≡ piece
same_all front piece i same l long before h = sym (take_all i front (omega (arith, l, long))) ∙ before h ∙ take_all i piece l

pub ruleset same_steps = (same_more, same_all)

pub ruleset piece_steps = (take-append-drop)
