-- Lines of cells that are added one after another: for `push_calendar`.
use Rattle.std.proofs.Common.{◌≡◌, ◌<◌, ◌≤◌, ◌+◌, ◌∙◌, ℕ, List, [], ◌∷◌, ◌++◌, length, take, get_or, refl, ap, sym, subst, add-one, take-suc, append_assoc, append-nil, codes, Some}
use Rattle.std.specs.List.{concat}
use Rattle.std.proofs.lemmas.List.{take_all}
use Rattle.std.proofs.lemmas.List.Folds.{concat-append}
use Rattle.answer_text.specs.Lines.{Adds, line}
use Rattle.fare_calendar.specs.declared.cell.Cell.{Cell}
use Rattle.fare_calendar.specs.declared.spans.Spans.{Spans}
use Rattle.fare_calendar.specs.CalendarText.{CalendarText, CellLine, spans_line, value_words}
use Rattle.fare_law.specs.Lists.{Matched}
use Rattle.market_time.specs.Dates.{day_spelled}
use Rattle.law_lemmas.proofs.Pairs.{matched_more}

-- the lines of these cells were added
pub record AddedLines (cells : List Cell) (old new : List ℕ) : Type 0 where
  pub lines : List (List ℕ)
  pub each : Matched CellLine cells lines
  pub whole : new ≡ old ++ concat lines

pub no_line : (old : List ℕ) → AddedLines [] old old
no_line old = record { lines = []; each = tt; whole = sym (append-nil old) }

pub one_line : (cells : List Cell) (at : ℕ) (c d : Cell) (old mid new : List ℕ) → at < length cells → c ≡ get_or cells at d → AddedLines (take at cells) old mid
    → Adds (CellLine c) mid new → AddedLines (take (at + 1) cells) old new
one_line cells at c d old mid new lt e so_far more =
    let front : take (at + 1) cells ≡ take at cells ++ c ∷ [] = ap (λ n. take n cells) (add-one at) ∙ take-suc cells at d lt ∙ ap (λ y. take at cells ++ y ∷ []) (sym e) in
    let joined : concat (so_far.lines ++ more.added ∷ []) ≡ concat so_far.lines ++ more.added =
    concat-append so_far.lines (more.added ∷ []) ∙ ap (λ t. concat so_far.lines ++ t) (append-nil more.added) in
    record {
      lines = so_far.lines ++ more.added ∷ [];
      each = subst (λ cs. Matched CellLine cs (so_far.lines ++ more.added ∷ [])) (sym front) (matched_more CellLine (take at cells) so_far.lines c more.added so_far.each more.is);
      whole = more.whole ∙ ap (λ t. t ++ more.added) so_far.whole ∙ append_assoc old (concat so_far.lines) more.added ∙ ap (λ t. old ++ t) (sym joined);
    }

pub all_lines : (cells : List Cell) (at : ℕ) (old new : List ℕ) → length cells ≤ at → AddedLines (take at cells) old new → AddedLines cells old new
all_lines cells at old new le h = subst (λ cs. AddedLines cs old new) (take_all at cells le) h

pub whole_calendar : (spans : Spans) (cells : List Cell) (old mid new : List ℕ) → mid ≡ old ++ spans_line spans → AddedLines cells mid new → Adds (CalendarText spans cells) old new
whole_calendar spans cells old mid new e h = record {
  added = spans_line spans ++ concat h.lines;
  is = record { lines = h.lines; each = h.each; written = refl };
  whole = h.whole ∙ ap (λ t. t ++ concat h.lines) e ∙ append_assoc old (spans_line spans) (concat h.lines);
}

-- pieces that were added one after another, as the words of a line
words_of : (old name one two three end : List ℕ) → ((((old ++ name) ++ one) ++ two) ++ three) ++ end ≡ old ++ (name ++ ((one ++ (two ++ (three ++ []))) ++ end))
words_of old name one two three end =
    let inner : (one ++ (two ++ (three ++ []))) ++ end ≡ one ++ (two ++ (three ++ end)) =
    append_assoc one (two ++ (three ++ [])) end
    ∙ ap (λ t. one ++ t) (append_assoc two (three ++ []) end ∙ ap (λ t. two ++ (t ++ end)) (append-nil three)) in
    append_assoc (((old ++ name) ++ one) ++ two) three end
    ∙ append_assoc ((old ++ name) ++ one) two (three ++ end)
    ∙ append_assoc (old ++ name) one (two ++ (three ++ end))
    ∙ append_assoc old name (one ++ (two ++ (three ++ end)))
    ∙ ap (λ t. old ++ (name ++ t)) (sym inner)

pub cell_line : (c : Cell) (out back old a b d e new : List ℕ) → day_spelled out ≡ Some c.out → day_spelled back ≡ Some c.back
    → a ≡ old ++ codes "cell" → b ≡ a ++ 32 ∷ out → d ≡ b ++ 32 ∷ back → e ≡ d ++ 32 ∷ value_words c.value → new ≡ e ++ 10 ∷ [] → Adds (CellLine c) old new
cell_line c out back old a b d e new spells_out spells_back h i j k l = record {
  added = line (codes "cell") (out ∷ back ∷ value_words c.value ∷ []);
  is = record { out = out; back = back; spells_out = spells_out; spells_back = spells_back; written = refl };
  whole =
      l ∙ ap (λ t. t ++ 10 ∷ []) (k ∙ ap (λ t. t ++ 32 ∷ value_words c.value) (j ∙ ap (λ t. t ++ 32 ∷ back) (i ∙ ap (λ t. t ++ 32 ∷ out) h)))
      ∙ words_of old (codes "cell") (32 ∷ out) (32 ∷ back) (32 ∷ value_words c.value) (10 ∷ []);
}
