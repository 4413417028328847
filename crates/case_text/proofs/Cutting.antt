-- Lines that were cut, and the text that is left.
use Rattle.std.proofs.Common.{◌≡◌, ◌≢◌, ◌<◌, ◌≤◌, ◌+◌, ℕ, zero, suc, List, [], ◌∷◌, ◌++◌, length, take, drop, slice_index, map, refl, ap, sym, ◌∙◌, append_assoc, append-nil, add-one, arith, Bor, Bool, eqb, true, false, cond, eq-eqb, ne_eqb}
use borrow.Author.Tests.{eqb-true}
use Rattle.std.proofs.lemmas.List.Splits.{length-slice_split, slice_split-cons_no, slice_split-cons_yes}
use Rattle.std.specs.List.{slice_split, onto_first}
use Rattle.std.specs.Str.Lines.{lines, lines_of_parts, strip_carriage_return}
use Rattle.case_text.specs.declared.lines.Line.{Line}
use Rattle.case_text.specs.Lines.{numbered, shown, text_lines}

abbrev is_newline : ℕ → Bool
is_newline b = eqb b 10

abbrev parts_of : List ℕ → List (List ℕ)
parts_of text = slice_split is_newline text

-- a part before others is a line
part_first : (x : List ℕ) (parts : List (List ℕ)) → 0 < length parts → lines_of_parts (x ∷ parts) ≡ strip_carriage_return x ∷ lines_of_parts parts
part_first x [] l = absurd (omega (arith, l))
part_first x (p ∷ ps) l = refl

-- a text is cut at its first newline
cut_there : (text : List ℕ) (at : ℕ) → at < length text → ((k : ℕ) → k < at → slice_index text k ≢ 10) → slice_index text at ≡ 10 → parts_of text ≡ take at text ∷ parts_of (drop (suc at) text)
cut_there [] at l clean stop = absurd (omega (arith, l))
cut_there (c ∷ cs) zero l clean stop = slice_split-cons_yes is_newline c cs (eq-eqb c 10 stop)
cut_there (c ∷ cs) (suc at) l clean stop =
    slice_split-cons_no is_newline c cs (ne_eqb c 10 (clean 0 (omega arith)))
    ∙ ap (onto_first c) (cut_there cs at (omega (arith, l)) (λ k m. clean (suc k) (omega (arith, m))) stop)

-- a text without a newline is one part
cut_nowhere : (text : List ℕ) → ((k : ℕ) → k < length text → slice_index text k ≢ 10) → parts_of text ≡ text ∷ []
cut_nowhere [] clean = refl
cut_nowhere (c ∷ cs) clean =
    slice_split-cons_no is_newline c cs (ne_eqb c 10 (clean 0 (omega arith)))
    ∙ ap (onto_first c) (cut_nowhere cs (λ k m. clean (suc k) (omega (arith, m))))

-- the line before the first newline, and those after it
pub line_before : (text : List ℕ) (at : ℕ) → at < length text → ((k : ℕ) → k < at → slice_index text k ≢ 10) → slice_index text at ≡ 10
    → lines text ≡ strip_carriage_return (take at text) ∷ lines (drop (at + 1) text)
line_before text at l clean stop =
    ap lines_of_parts (cut_there text at l clean stop)
    ∙ part_first (take at text) (parts_of (drop (suc at) text)) (omega (arith, length-slice_split is_newline (drop (suc at) text)))
    ∙ ap (λ k. strip_carriage_return (take at text) ∷ lines (drop k text)) (sym (add-one at))

-- the only line
pub line_whole : (text : List ℕ) (at : ℕ) → length text ≤ at → 0 < length text → ((k : ℕ) → k < at → slice_index text k ≢ 10) → lines text ≡ text ∷ lines []
line_whole text at l some clean =
    ap lines_of_parts (cut_nowhere text (λ k m. clean k (omega (arith, m, l))))
    ∙ ap (λ t. cond t [] (text ∷ [])) (ne_eqb (length text) 0 (λ e. omega (arith, some, e)))

map_end : (out : List Line) (line : Line) → map shown (out ++ line ∷ []) ≡ map shown out ++ shown line ∷ []
map_end [] line = refl
map_end (x ∷ out) line = ap (λ xs. shown x ∷ xs) (map_end out line)

-- the first line, but for an empty one, before others
numbered_here : (n : ℕ) (rest line more : List ℕ) → lines rest ≡ line ∷ lines more → numbered n (lines rest) ≡ cond (eqb (length line) 0) (numbered (n + 1) (lines more)) (record { line = n; bytes = line } ∷ numbered (n + 1) (lines more))
numbered_here n rest line more e = ap (numbered n) e

pub line_some : (out : List Line) (n : ℕ) (bytes rest more : List ℕ) (b : Bor (List ℕ)) → lines rest ≡ b.now ∷ lines more → eqb (length b.now) 0 ≡ false
    → map shown out ++ numbered n (lines rest) ≡ text_lines bytes
    → map shown (out ++ record { line = n; bytes = b } ∷ []) ++ numbered (n + 1) (lines more) ≡ text_lines bytes
line_some out n bytes rest more b e some h =
    let later = numbered (n + 1) (lines more) in
    let line : Line = record { line = n; bytes = b } in
    ap (λ xs. xs ++ later) (map_end out line)
    ∙ append_assoc (map shown out) (shown line ∷ []) later
    ∙ ap (λ xs. map shown out ++ xs) (sym (ap (λ t. cond t later (shown line ∷ later)) some) ∙ sym (numbered_here n rest b.now more e))
    ∙ h

pub line_none : (out : List Line) (n : ℕ) (bytes rest more : List ℕ) (b : Bor (List ℕ)) → lines rest ≡ b.now ∷ lines more → eqb (length b.now) 0 ≡ true
    → map shown out ++ numbered n (lines rest) ≡ text_lines bytes
    → map shown out ++ numbered (n + 1) (lines more) ≡ text_lines bytes
line_none out n bytes rest more b e none h =
    let later = numbered (n + 1) (lines more) in
    ap (λ xs. map shown out ++ xs) (sym (ap (λ t. cond t later (record { line = n; bytes = b.now } ∷ later)) none) ∙ sym (numbered_here n rest b.now more e))
    ∙ h

empty_is : (rest : List ℕ) → eqb (length rest) 0 ≡ true → rest ≡ []
empty_is [] h = refl
empty_is (x ∷ xs) h = absurd (omega (arith, eqb-true (length (x ∷ xs)) 0 h))

pub lines_all : (out : List Line) (n : ℕ) (bytes rest : List ℕ) → eqb (length rest) 0 ≡ true
    → map shown out ++ numbered n (lines rest) ≡ text_lines bytes → map shown out ≡ text_lines bytes
lines_all out n bytes rest none h = sym (append-nil (map shown out)) ∙ ap (λ t. map shown out ++ numbered n (lines t)) (sym (empty_is rest none)) ∙ h

pub count_all : (n : ℕ) (bytes rest : List ℕ) → eqb (length rest) 0 ≡ true → n + length (lines rest) ≡ length (lines bytes) + 1 → n ≡ length (lines bytes) + 1
count_all n bytes rest none h = omega (arith, h, ap (λ t. length (lines t)) (empty_is rest none))

pub count_more : (n : ℕ) (bytes rest line more : List ℕ) → lines rest ≡ line ∷ lines more → n + length (lines rest) ≡ length (lines bytes) + 1 → (n + 1) + length (lines more) ≡ length (lines bytes) + 1
count_more n bytes rest line more e h = omega (arith, h, ap length e)

pub ruleset line_steps = (line_some, line_none, lines_all, count_all, count_more)
