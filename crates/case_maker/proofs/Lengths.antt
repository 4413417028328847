-- How long what is made is at most.
use Rattle.std.proofs.Common.{◌≡◌, ◌≤◌, ◌<◌, ◌+◌, ◌*◌, ◌^◌, ◌%◌, ℕ, zero, suc, List, [], ◌∷◌, ◌++◌, length, length-append, refl, sym, ap, subst, arith}
use Rattle.std.proofs.lemmas.Nat.{mod_below}
use Rattle.std.proofs.Math.Nat.{suc-mul}
use Rattle.std.specs.List.{concat, join_with_byte}
use Rattle.fare_law.specs.Lists.{Matched}
use Rattle.case_maker.specs.Drawing.{Making, after, drawing, drawn_below, each_below, going_on, said, ◌before◌}
use Rattle.case_maker.specs.Tables.{row}

-- a text is at most so long
abbrev pub Fits : List ℕ → ℕ → Type 0
Fits text n = length text ≤ n

-- whatever the number before, what is made is at most so long
abbrev pub AtMost : ℕ → Making → Type 0
AtMost n make = (x : ℕ) → Fits (make x).text n

-- the room of pieces that are at most so long, with a byte after each
abbrev pub room : List ℕ → ℕ
room [] = 0
room (n ∷ ns) = suc (n + room ns)

pub is_long : (text : List ℕ) (n : ℕ) → length text ≡ n → Fits text n
is_long text n e = omega (arith, e)

joined_fits : (pieces : List (List ℕ)) (ns : List ℕ) → Matched Fits pieces ns → Fits (join_with_byte 44 pieces) (room ns)
joined_fits [] [] h = omega (arith)
joined_fits [] (n ∷ ns) h = absurd h
joined_fits (p ∷ pieces) [] h = absurd h
joined_fits (p ∷ []) (n ∷ ns) h = omega (arith, h.0)
joined_fits (p ∷ r ∷ pieces) (n ∷ ns) h =
    let rest = joined_fits (r ∷ pieces) ns h.1 in
    omega (arith, h.0, rest, length-append p (44 ∷ join_with_byte 44 (r ∷ pieces)))

pub concat_fits : (pieces : List (List ℕ)) (ns : List ℕ) → Matched Fits pieces ns → Fits (concat pieces) (room ns)
concat_fits [] [] h = omega (arith)
concat_fits [] (n ∷ ns) h = absurd h
concat_fits (p ∷ pieces) [] h = absurd h
concat_fits (p ∷ pieces) (n ∷ ns) h =
    let rest = concat_fits pieces ns h.1 in
    omega (arith, h.0, rest, length-append p (concat pieces))

pub row_fits : (columns : List (List ℕ)) (ns : List ℕ) → Matched Fits columns ns → AtMost (suc (room ns)) (row columns)
row_fits columns ns h x =
    let joined = joined_fits columns ns h in
    omega (arith, joined, length-append (join_with_byte 44 columns) (10 ∷ []))

pub then_fits : (m n : ℕ) (one other : Making) → AtMost m one → AtMost n other → AtMost (m + n) (one before other)
unfolding going_on ◌before◌
then_fits m n one other first second x =
    omega (arith, first x, second (one x).last, length-append (one x).text (other (one x).last).text)

pub drawn_fits : (below n : ℕ) (make : ℕ → Making) → 0 < below → ((k : ℕ) → k < below → AtMost n (make k)) → AtMost n (drawing below make)
drawn_fits below n make some each x = each (drawn_below below (after x)) (mod_below _ below some) (after x)

pub each_fits : (count n : ℕ) (make : ℕ → Making) → ((i : ℕ) → i < count → AtMost n (make i)) → AtMost (count * n) (each_below count make)
unfolding each_below
each_fits zero n make each x = omega (arith)
each_fits (suc count) n make each x =
    let front = each_fits count n make (λ i h. each i (omega (arith, h))) in
    let last = each count (omega (arith)) in
    let both = then_fits (count * n) n (each_below count make) (make count) front last x in
    subst (λ k. Fits ((each_below count make before make count) x).text k) (sym (suc-mul count n)) both
