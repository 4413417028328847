-- The lines of bytes that are put together, and of a text that is made of lines, with their numbers.
use Rattle.std.proofs.Common.{◌≡◌, ◌≢◌, ◌<◌, ◌+◌, ◌-◌, ℕ, zero, suc, List, [], ◌∷◌, ◌++◌, length, map, flat_map, take, Bool, true, false, cond, eqb, refl, ap, ◌∙◌, append_assoc, arith}
use Rattle.std.specs.List.{onto_first, slice_index, slice_split}
use Rattle.std.specs.Str.Lines.{lines, lines_of_parts, strip_carriage_return}
use Rattle.std.proofs.lemmas.Bool.{ne_eqb}
use Rattle.std.proofs.lemmas.List.Splits.{length-slice_split, slice_split-cons_no}
use Rattle.case_text.specs.Lines.{numbered}
use Rattle.fare_law.specs.declared.rows.TextLine.{TextLine}
use Rattle.fare_law.specs.Lists.{Each, OnLast}

abbrev parts_of : List ℕ → List (List ℕ)
parts_of bytes = slice_split (λ b. eqb b 10) bytes

some_part : (bytes : List ℕ) → 0 < length (parts_of bytes)
some_part bytes = omega (arith, length-slice_split (λ b. eqb b 10) bytes)

onto_front : (x : ℕ) (ps qs : List (List ℕ)) → 0 < length ps → onto_first x (ps ++ qs) ≡ onto_first x ps ++ qs
onto_front x [] qs some = absurd (omega (arith, some))
onto_front x (p ∷ ps) qs some = refl

-- the parts of two texts with a line feed between them
parts_joined : (xs ys : List ℕ) → parts_of (xs ++ 10 ∷ ys) ≡ parts_of xs ++ parts_of ys
parts_joined [] ys = refl
parts_joined (x ∷ xs) ys = ap (λ ps. cond (eqb x 10) ([] ∷ ps) (onto_first x ps)) (parts_joined xs ys) ∙ by (eqb x 10)
  where
    by : (b : Bool) → cond b ([] ∷ (parts_of xs ++ parts_of ys)) (onto_first x (parts_of xs ++ parts_of ys)) ≡ cond b ([] ∷ parts_of xs) (onto_first x (parts_of xs)) ++ parts_of ys
    by true = refl
    by false = onto_front x (parts_of xs) (parts_of ys) (some_part xs)

lines_joined : (ps qs : List (List ℕ)) → 0 < length qs → lines_of_parts (ps ++ qs) ≡ map strip_carriage_return ps ++ lines_of_parts qs
lines_joined [] qs some = refl
lines_joined (p ∷ []) [] some = absurd (omega (arith, some))
lines_joined (p ∷ []) (q ∷ qs) some = refl
lines_joined (p ∷ r ∷ ps) qs some = ap (λ ls. strip_carriage_return p ∷ ls) (lines_joined (r ∷ ps) qs some)

-- the lines of a text that a line feed ends
abbrev pub front_lines : List ℕ → List (List ℕ)
front_lines front = map strip_carriage_return (parts_of front)

-- the lines before a line feed and those after it
pub lines_after : (front rest : List ℕ) → lines (front ++ 10 ∷ rest) ≡ front_lines front ++ lines rest
lines_after front rest = ap lines_of_parts (parts_joined front rest) ∙ lines_joined (parts_of front) (parts_of rest) (some_part rest)

-- ---- lines that are read as they were written

-- no line feed, and a last byte that isn't CR
pub record IsRead (line : List ℕ) : Type 0 where
  pub free : Each (λ b. b ≢ 10) line
  pub last : OnLast (λ b. b ≢ 13) line

one_part : (line : List ℕ) → Each (λ b. b ≢ 10) line → parts_of line ≡ line ∷ []
one_part [] free = refl
one_part (x ∷ xs) free = slice_split-cons_no (λ b. eqb b 10) x xs (ne_eqb x 10 free.0) ∙ ap (onto_first x) (one_part xs free.1)

last_at : (P : ℕ → Type 0) (xs : List ℕ) (n : ℕ) → OnLast P xs → suc n ≡ length xs → P (slice_index xs n)
last_at P [] n h e = absurd h
last_at P (x ∷ []) zero h e = h
last_at P (x ∷ []) (suc n) h e = absurd (omega (arith, e))
last_at P (x ∷ y ∷ ys) zero h e = absurd (omega (arith, e))
last_at P (x ∷ y ∷ ys) (suc n) h e = last_at P (y ∷ ys) n h (omega (arith, e))

some_last : (P : ℕ → Type 0) (xs : List ℕ) → OnLast P xs → 0 < length xs
some_last P [] h = absurd h
some_last P (x ∷ xs) h = omega arith

kept : (line : List ℕ) → OnLast (λ b. b ≢ 13) line → strip_carriage_return line ≡ line
kept line h =
    let some = some_last (λ b. b ≢ 13) line h in
    let other = last_at (λ b. b ≢ 13) line (length line - 1) h (omega (arith, some)) in
    ap (λ t. cond t (take (length line - 1) line) line) (ne_eqb (slice_index line (length line - 1)) 13 other)

line_read : (line rest : List ℕ) → IsRead line → lines (line ++ 10 ∷ rest) ≡ line ∷ lines rest
line_read line rest h = lines_after line rest ∙ ap (λ ps. map strip_carriage_return ps ++ lines rest) (one_part line h.free) ∙ ap (λ l. l ∷ lines rest) (kept line h.last)

-- the lines of a text that is made of lines, before further bytes
pub lines_read : (ls : List (List ℕ)) (rest : List ℕ) → Each IsRead ls → lines (flat_map (λ line. line ++ 10 ∷ []) ls ++ rest) ≡ ls ++ lines rest
lines_read [] rest h = refl
lines_read (l ∷ ls) rest h =
    let more = flat_map (λ (line : List ℕ). line ++ 10 ∷ []) ls in
    ap lines (append_assoc (l ++ 10 ∷ []) more rest ∙ append_assoc l (10 ∷ []) (more ++ rest)) ∙ line_read l (more ++ rest) h.0 ∙ ap (λ xs. l ∷ xs) (lines_read ls rest h.1)

-- ---- numbers of lines

pub numbered_more : (n : ℕ) (xs ys : List (List ℕ)) → numbered n (xs ++ ys) ≡ numbered n xs ++ numbered (n + length xs) ys
numbered_more n [] ys = ap (λ k. numbered k ys) (let h : n ≡ n + length {A = List ℕ} [] = omega arith in h)
numbered_more n (x ∷ xs) ys =
    let e : numbered (n + 1) (xs ++ ys) ≡ numbered (n + 1) xs ++ numbered (n + length (x ∷ xs)) ys =
    numbered_more (n + 1) xs ys ∙ ap (λ k. numbered (n + 1) xs ++ numbered k ys) (let h : n + 1 + length xs ≡ n + length (x ∷ xs) = omega arith in h) in
    ap (λ ls. cond (eqb (length x) 0) ls (record { line = n; bytes = x } ∷ ls)) e ∙ by (eqb (length x) 0)
  where
    rest : List TextLine
    rest = numbered (n + length (x ∷ xs)) ys

    by : (b : Bool) → cond b (numbered (n + 1) xs ++ rest) (record { line = n; bytes = x } ∷ (numbered (n + 1) xs ++ rest)) ≡ cond b (numbered (n + 1) xs) (record { line = n; bytes = x } ∷ numbered (n + 1) xs) ++ rest
    by true = refl
    by false = refl

-- a line that isn't empty has its number
pub numbered_first : (n : ℕ) (x : List ℕ) (xs : List (List ℕ)) → 0 < length x → numbered n (x ∷ xs) ≡ record { line = n; bytes = x } ∷ numbered (n + 1) xs
numbered_first n x xs some = ap (λ b. cond b (numbered (n + 1) xs) (record { line = n; bytes = x } ∷ numbered (n + 1) xs)) (ne_eqb (length x) 0 (λ e. omega (arith, e, some)))

-- the bytes of numbered lines of which none is empty
pub numbered_bytes : (n : ℕ) (ls : List (List ℕ)) → Each IsRead ls → map (λ (l : TextLine). l.bytes) (numbered n ls) ≡ ls
numbered_bytes n [] h = refl
numbered_bytes n (x ∷ xs) h =
    ap (λ ls. map (λ (l : TextLine). l.bytes) ls) (numbered_first n x xs (some_last (λ b. b ≢ 13) x h.0.last)) ∙ ap (λ ls. x ∷ ls) (numbered_bytes (n + 1) xs h.1)

-- what holds of each line holds of its bytes when it is numbered
pub numbered_each : (P : List ℕ → Type 0) (n : ℕ) (ls : List (List ℕ)) → Each P ls → Each (λ (l : TextLine). P l.bytes) (numbered n ls)
numbered_each P n [] h = tt
numbered_each P n (x ∷ xs) h = by (eqb (length x) 0) (numbered_each P (n + 1) xs h.1)
  where
    by : (b : Bool) → Each (λ (l : TextLine). P l.bytes) (numbered (n + 1) xs) → Each (λ (l : TextLine). P l.bytes) (cond b (numbered (n + 1) xs) (record { line = n; bytes = x } ∷ numbered (n + 1) xs))
    by true more = more
    by false more = (h.0, more)
