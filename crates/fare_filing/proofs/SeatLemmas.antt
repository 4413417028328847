-- The text of seats by class: what is written so far, and that it is read again as the seats.
use Rattle.std.proofs.Common.{◌≡◌, ◌<◌, ◌≤◌, ◌+◌, ◌-◌, ℕ, zero, suc, Bool, true, false, List, [], ◌∷◌, ◌++◌, length, drop, get_or, set, replicate, Some, refl, ap, sym, ◌∙◌, subst, arith, drop-cons, add-one, append_assoc, append-nil, eqb, eq-eqb, ne_eqb, if◌then◌else◌}
use Rattle.std.specs.Char.{is_ascii_digit, is_ascii_uppercase}
use Rattle.std.specs.Str.{IsAscii}
use Rattle.std.proofs.lemmas.Bool.{eqb-true}
use Rattle.std.proofs.lemmas.Bool.Decides.{nat_tests}
use Rattle.std.proofs.lemmas.List.{drop_all}
use Rattle.fare_law.specs.Limits.{AreSeats}
use Rattle.fare_law.specs.Lists.{Each}
use Rattle.name_text.specs.Seats.{names_class, seats_in, seats_of}
use Rattle.fare_filing.specs.Text.{pairs_from, or_none, seats_text}

-- the pairs from a class on

skip : (letter n : ℕ) (ns : List ℕ) → ◌≡◌ {A = ℕ} n 0 → pairs_from letter (n ∷ ns) ≡ pairs_from (suc letter) ns
skip letter n ns e = rw (eq-eqb n 0 e) refl

pair : (letter n : ℕ) (ns : List ℕ) → (◌≡◌ {A = ℕ} n 0 → ⊥) → pairs_from letter (n ∷ ns) ≡ letter ∷ (48 + n) ∷ pairs_from (suc letter) ns
pair letter n ns h = rw (ne_eqb n 0 h) refl

two_more : (text rest : List ℕ) (a b : ℕ) → ((text ++ a ∷ []) ++ b ∷ []) ++ rest ≡ text ++ (a ∷ b ∷ rest)
two_more text rest a b = append_assoc (text ++ a ∷ []) (b ∷ []) rest ∙ append_assoc text (a ∷ []) (b ∷ rest)

next : (i : ℕ) → suc (65 + i) ≡ 65 + suc i
next i = omega arith

-- what is still to be written from a class on
abbrev pub left : List ℕ → ℕ → List ℕ
left seats i = pairs_from (65 + i) (drop i seats)

left_at : (seats : List ℕ) (i : ℕ) → i < length seats → left seats i ≡ pairs_from (65 + i) (get_or seats i 0 ∷ drop (suc i) seats)
left_at seats i l = ap (pairs_from (65 + i)) (drop-cons seats i 0 l)

-- what follows a class is what is to be written from the next one on
left_next : (seats : List ℕ) (i : ℕ) → pairs_from (suc (65 + i)) (drop (suc i) seats) ≡ left seats (suc i)
left_next seats i = ap (λ m. pairs_from m (drop (suc i) seats)) (next i)

pub pair_none : (text seats : List ℕ) (i : ℕ) → i < length seats → ◌≡◌ {A = ℕ} (get_or seats i 0) 0 → text ++ left seats i ≡ pairs_from 65 seats → text ++ left seats (i + 1) ≡ pairs_from 65 seats
pair_none text seats i l none e =
    subst (λ k. text ++ left seats k ≡ pairs_from 65 seats) (sym (add-one i))
    (ap (λ ps. text ++ ps) (sym (left_at seats i l ∙ skip (65 + i) (get_or seats i 0) (drop (suc i) seats) none ∙ left_next seats i)) ∙ e)

pub pair_more : (text seats : List ℕ) (i : ℕ) → i < length seats → (◌≡◌ {A = ℕ} (get_or seats i 0) 0 → ⊥) → text ++ left seats i ≡ pairs_from 65 seats
    → (((text ++ (65 + i) ∷ []) ++ (48 + get_or seats i 0) ∷ []) ++ left seats (i + 1)) ≡ pairs_from 65 seats
pair_more text seats i l some e =
    subst (λ k. (((text ++ (65 + i) ∷ []) ++ (48 + get_or seats i 0) ∷ []) ++ left seats k) ≡ pairs_from 65 seats) (sym (add-one i))
    (two_more text (left seats (suc i)) (65 + i) (48 + get_or seats i 0)
    ∙ ap (λ ps. text ++ ps) (sym (left_at seats i l ∙ pair (65 + i) (get_or seats i 0) (drop (suc i) seats) some
    ∙ ap (λ ps. (65 + i) ∷ (48 + get_or seats i 0) ∷ ps) (left_next seats i))) ∙ e)

pub pair_all : (text seats : List ℕ) (i : ℕ) → length seats ≤ i → text ++ left seats i ≡ pairs_from 65 seats → text ≡ pairs_from 65 seats
pair_all text seats i l e =
    sym (ap (λ ns. text ++ pairs_from (65 + i) ns) (drop_all i seats l) ∙ append-nil text) ∙ e

few_at : (seats : List ℕ) (i : ℕ) → Each (λ n. n ≤ 9) seats → get_or seats i 0 ≤ 9
few_at [] i h = omega arith
few_at (n ∷ ns) zero h = h.0
few_at (n ∷ ns) (suc i) h = few_at ns i h.1

pub few_seats : (seats : List ℕ) (i : ℕ) → AreSeats seats → get_or seats i 0 ≤ 9
few_seats seats i h = few_at seats i h.few

pub ruleset pair_steps = (pair_none, pair_more, pair_all, few_seats)

-- A0 where there is no pair

pub none_written : (text seats : List ℕ) → text ≡ pairs_from 65 seats → length text ≡ 0 → (text ++ 65 ∷ []) ++ 48 ∷ [] ≡ seats_text seats
none_written [] seats e l = ap or_none e
none_written (c ∷ text) seats e l = absurd (omega arith)

pub some_written : (text seats : List ℕ) → text ≡ pairs_from 65 seats → (length text ≡ 0 → ⊥) → text ≡ seats_text seats
some_written [] seats e l = absurd (l refl)
some_written (c ∷ text) seats e l = ap or_none e

pub ruleset text_steps = (none_written, some_written)

-- the text is ASCII

ascii_more : (c : ℕ) (cs : List ℕ) → c < 128 → IsAscii cs → IsAscii (c ∷ cs)
ascii_more c cs l h zero = l
ascii_more c cs l h (suc i) = h i

ascii_none : IsAscii []
ascii_none i = omega arith

ascii_pair : (b : Bool) (letter n : ℕ) (rest : List ℕ) → letter < 128 → n ≤ 9 → IsAscii rest → IsAscii (if b then rest else letter ∷ (48 + n) ∷ rest)
ascii_pair true letter n rest l m h = h
ascii_pair false letter n rest l m h = ascii_more letter ((48 + n) ∷ rest) l (ascii_more (48 + n) rest (omega arith) h)

ascii_pairs : (letter : ℕ) (ns : List ℕ) → letter + length ns ≤ 128 → Each (λ n. n ≤ 9) ns → IsAscii (pairs_from letter ns)
ascii_pairs letter [] l h = ascii_none
ascii_pairs letter (n ∷ ns) l h =
    ascii_pair (eqb n 0) letter n (pairs_from (suc letter) ns) (omega arith) h.0 (ascii_pairs (suc letter) ns (omega arith) h.1)

or_ascii : (ps : List ℕ) → IsAscii ps → IsAscii (or_none ps)
or_ascii [] h = ascii_more 65 (48 ∷ []) (omega arith) (ascii_more 48 [] (omega arith) ascii_none)
or_ascii (c ∷ ps) h = h

pub seats_text_is_ascii : (seats : List ℕ) → AreSeats seats → IsAscii (seats_text seats)
seats_text_is_ascii seats h = or_ascii (pairs_from 65 seats) (ascii_pairs 65 seats (let e = h.many in omega arith) h.few)

-- the text is read again as the seats

named_in : (b : Bool) (letter m n : ℕ) (rest : List ℕ) → letter < m → names_class letter rest ≡ false → names_class letter (if b then rest else m ∷ (48 + n) ∷ rest) ≡ false
named_in true letter m n rest l h = h
named_in false letter m n rest l h = rw (ne_eqb m letter (λ e. omega (arith, e, l))) h

-- no later pair names an earlier letter
named_later : (letter m : ℕ) (ns : List ℕ) → letter < m → names_class letter (pairs_from m ns) ≡ false
named_later letter m [] l = refl
named_later letter m (n ∷ ns) l =
    named_in (eqb n 0) letter m n (pairs_from (suc m) ns) l (named_later letter (suc m) ns (omega arith))

zeros_more : (k n : ℕ) (ns : List ℕ) → ◌≡◌ {A = ℕ} n 0 → replicate {A = ℕ} (suc k) 0 ++ ns ≡ replicate k 0 ++ n ∷ ns
zeros_more zero n ns e = ap (λ m. m ∷ ns) (sym e)
zeros_more (suc k) n ns e = ap (λ ms. 0 ∷ ms) (zeros_more k n ns e)

set_there : (k n : ℕ) (ns : List ℕ) → set (replicate {A = ℕ} (suc k) 0 ++ ns) k n ≡ replicate k 0 ++ n ∷ ns
set_there zero n ns = refl
set_there (suc k) n ns = ap (λ ms. 0 ∷ ms) (set_there k n ns)

back : (a k : ℕ) → (a + k) - a ≡ k
back a k = omega arith

set_back : (k n : ℕ) (ns : List ℕ) → set (replicate {A = ℕ} (suc k) 0 ++ ns) ((65 + k) - 65) ((48 + n) - 48) ≡ replicate k 0 ++ n ∷ ns
set_back k n ns =
    ap (λ i. set (replicate {A = ℕ} (suc k) 0 ++ ns) i ((48 + n) - 48)) (back 65 k)
    ∙ ap (λ m. set (replicate {A = ℕ} (suc k) 0 ++ ns) k m) (back 48 n) ∙ set_there k n ns

upper : (k : ℕ) → k ≤ 25 → is_ascii_uppercase (65 + k) ≡ true
upper k l = grind (arith, nat_tests)

digit : (n : ℕ) → n ≤ 9 → is_ascii_digit (48 + n) ≡ true
digit n l = grind (arith, nat_tests)

read_one : (b : Bool) (k n : ℕ) (ns rest : List ℕ) → eqb n 0 ≡ b → (b ≡ false → k ≤ 25) → n ≤ 9 → names_class (65 + k) rest ≡ false
    → seats_in rest ≡ Some (replicate (suc k) 0 ++ ns) → seats_in (if b then rest else (65 + k) ∷ (48 + n) ∷ rest) ≡ Some (replicate k 0 ++ n ∷ ns)
read_one true k n ns rest e l m named h = h ∙ ap Some (zeros_more k n ns (eqb-true n 0 e))
read_one false k n ns rest e l m named h = rw (upper k (l refl), digit n m, named, h) (ap Some (set_back k n ns))

not_zero : (n : ℕ) → eqb n 0 ≡ false → ◌≡◌ {A = ℕ} n 0 → ⊥
not_zero n e z = let t = eq-eqb n 0 z in absurd (cc)

named_class : (k n : ℕ) → (26 ≤ k → ◌≡◌ {A = ℕ} n 0) → eqb n 0 ≡ false → k ≤ 25
named_class k n none e = let h = not_zero n e in grind (arith, nat_tests)

read_from : (k : ℕ) (ns : List ℕ) → k + length ns ≡ 32 → Each (λ n. n ≤ 9) ns → ((i : ℕ) → 26 ≤ k + i → ◌≡◌ {A = ℕ} (get_or ns i 0) 0)
    → seats_in (pairs_from (65 + k) ns) ≡ Some (replicate k 0 ++ ns)
read_from k [] len few none =
    let e : k ≡ 32 = omega arith in
    subst (λ (j : ℕ). Some (replicate {A = ℕ} 32 0) ≡ Some (replicate j 0 ++ [])) (sym e) refl
read_from k (n ∷ ns) len few none =
    read_one (eqb n 0) k n ns (pairs_from (suc (65 + k)) ns) refl (named_class k n (λ l. none 0 (omega arith))) few.0
    (named_later (65 + k) (suc (65 + k)) ns (omega arith))
    (subst (λ (m : ℕ). seats_in (pairs_from m ns) ≡ Some (replicate {A = ℕ} (suc k) 0 ++ ns)) (sym (next k))
    (read_from (suc k) ns (omega arith) few.1 (λ i l. none (suc i) (omega arith))))

or_again : (ps seats : List ℕ) → seats_in ps ≡ Some seats → seats_of (or_none ps) ≡ Some seats
or_again [] seats h = h
or_again (c ∷ ps) seats h = rw (ne_eqb (suc (length ps)) 0 (λ e. omega (arith, e))) h

pub seats_again : (seats : List ℕ) → AreSeats seats → seats_of (seats_text seats) ≡ Some seats
seats_again seats h = or_again (pairs_from 65 seats) seats (read_from 0 seats (let e = h.many in omega arith) h.few (λ i l. h.none i (omega (arith, l))))
