-- The text of rows, line by line, and the reader that has it before it.
use Rattle.std.proofs.Common.{◌≡◌, ◌<◌, ◌≤◌, ◌+◌, ℕ, List, [], ◌∷◌, ◌++◌, length, drop, get_or, map, refl, ap, sym, ◌∙◌, append_assoc, append-nil, add-one, arith, Option, None, option_map, drop-cons, Bool, true, false, cond, not, ◌&&◌, eqb, ne_eqb, subst, rules}
use borrow.Author.Tests.{tests}
use Rattle.std.specs.List.{list_all}
use Rattle.std.proofs.lemmas.List.{drop_all}
use Rattle.csv.specs.Reading.{buffered_of, has_failed, pending_of, source_of, strip_bom}
use Rattle.csv.specs.declared.reader.Reader.{Reader}
use Rattle.fare_law.specs.declared.rows.TextLine.{TextLine}
use Rattle.case_text.specs.declared.lines.Line.{Line}
use Rattle.case_text.specs.Lines.{shown}
use Rattle.case_text.specs.Cut.{plain_byte, plain_line}
use Rattle.case_text.specs.Readers.{Awaits, Follows, is_row, row_text}
use Rattle.law_lemmas.proofs.Tests.{both_true}

-- the rows' text from a place on
abbrev pub text_from : ℕ → List Line → List ℕ
text_from i lines = row_text (map shown (drop i lines))

here : (lines : List Line) (i : ℕ) (d : Line) → i < length lines → drop i lines ≡ get_or lines i d ∷ drop (i + 1) lines
here lines i d l = rw (drop-cons lines i d l, add-one) refl

text_here : (lines : List Line) (i : ℕ) (d : Line) (b : Bool) → i < length lines → is_row (get_or lines i d).bytes.now ≡ b
    → text_from i lines ≡ cond b ((get_or lines i d).bytes.now ++ 10 ∷ text_from (i + 1) lines) []
text_here lines i d b l e =
    ap (λ ls. row_text (map shown ls)) (here lines i d l)
    ∙ ap (λ b. cond b ((get_or lines i d).bytes.now ++ 10 ∷ text_from (i + 1) lines) []) e

pub text_more : (text : List ℕ) (lines : List Line) (i : ℕ) (d : Line) → i < length lines → is_row (get_or lines i d).bytes.now ≡ true
    → text ++ text_from i lines ≡ row_text (map shown lines)
    → ((text ++ (get_or lines i d).bytes.now) ++ 10 ∷ []) ++ text_from (i + 1) lines ≡ row_text (map shown lines)
text_more text lines i d l e h =
    let line = (get_or lines i d).bytes.now in
    append_assoc (text ++ line) (10 ∷ []) (text_from (i + 1) lines)
    ∙ append_assoc text line (10 ∷ text_from (i + 1) lines)
    ∙ ap (λ more. text ++ more) (sym (text_here lines i d true l e))
    ∙ h

pub text_stop : (text : List ℕ) (lines : List Line) (i : ℕ) (d : Line) → i < length lines → is_row (get_or lines i d).bytes.now ≡ false
    → text ++ text_from i lines ≡ row_text (map shown lines) → text ≡ row_text (map shown lines)
text_stop text lines i d l e h = sym (append-nil text) ∙ ap (λ more. text ++ more) (sym (text_here lines i d false l e)) ∙ h

pub text_all : (text : List ℕ) (lines : List Line) (i : ℕ) → length lines ≤ i
    → text ++ text_from i lines ≡ row_text (map shown lines) → text ≡ row_text (map shown lines)
text_all text lines i l h = sym (append-nil text) ∙ ap (λ ls. text ++ row_text (map shown ls)) (sym (drop_all i lines l)) ∙ h

pub ruleset text_steps = (text_more, text_stop, text_all)

-- past the start of a text a reader reads from what it has
pub source_after : {R : Type 0} (rem : R → Option (List ℕ)) (s : Reader R) → s.bom_checked ≡ true → source_of rem s ≡ pending_of (rem s.rdr) s
source_after rem s h =
    ap (λ b. cond (has_failed s) None (cond (not b && eqb s.at 0 && eqb s.filled 0) (option_map strip_bom (rem s.rdr)) (buffered_of (rem s.rdr) s))) h

-- the lines from a place on are the line there and those after it
pub follows_here : {R : Type 0} (rem : R → Option (List ℕ)) (in_step : Bool) (reader : Reader R) (lines : List Line) (i : ℕ) (d : Line) → i < length lines
    → Follows rem in_step reader (map shown (drop i lines)) → Follows rem in_step reader (shown (get_or lines i d) ∷ map shown (drop (i + 1) lines))
follows_here rem in_step reader lines i d l h = λ t. subst (λ ls. Awaits rem reader (row_text (map shown ls))) (here lines i d l) (h t)

low : (c : ℕ) → plain_byte c ≡ true → c < 128
low c h = search (rules, tests)

first_plain : (c : ℕ) (cs : List ℕ) → is_row (c ∷ cs) ≡ true → c < 128
first_plain c cs h = low c (both_true (plain_byte c) (list_all plain_byte cs) (both_true (not (eqb (length (c ∷ cs)) 0)) (plain_line (c ∷ cs)) h).1).0

no_mark_first : (c : ℕ) (xs : List ℕ) → c < 128 → strip_bom (c ∷ xs) ≡ c ∷ xs
unfolding strip_bom
no_mark_first c [] l = refl
no_mark_first c (a ∷ []) l = refl
no_mark_first c (a ∷ b ∷ xs) l = let e : eqb c 239 ≡ false = ne_eqb c 239 (λ h. omega (arith, l, h)) in rw e refl

no_mark_none : strip_bom [] ≡ []
unfolding strip_bom
no_mark_none = refl

-- the rows' text has no byte order mark
pub no_mark : (lines : List TextLine) → strip_bom (row_text lines) ≡ row_text lines
no_mark [] = no_mark_none
no_mark (l ∷ ls) = go l.bytes (is_row l.bytes) refl
  where
    go : (line : List ℕ) (b : Bool) → is_row line ≡ b → strip_bom (cond b (line ++ 10 ∷ row_text ls) []) ≡ cond b (line ++ 10 ∷ row_text ls) []
    go line false e = no_mark_none
    go [] true e = no_mark_first 10 (row_text ls) (omega arith)
    go (c ∷ cs) true e = no_mark_first c (cs ++ 10 ∷ row_text ls) (first_plain c cs e)
