-- The searches of a script, found line by line: for `searches_of`.
use Rattle.std.proofs.Common.{◌≡◌, ◌<◌, ◌≤◌, ◌+◌, ◌∙◌, ℕ, List, [], ◌++◌, length, drop, get_or, ap, sym, append_assoc, append-nil}
use Rattle.std.proofs.lemmas.List.{at_drop_all, at_drop_more}
use Rattle.script_text.specs.declared.lines.ScriptLine.{ScriptLine}
use Rattle.serving.specs.Replies.{search_of, searches_from}
use Rattle.serving.specs.declared.searches.SearchLine.{SearchLine}

-- one line more
pub search_more : (lines : List ScriptLine) (at : ℕ) (said d : ScriptLine) (found after all : List SearchLine) → at < length lines → said ≡ get_or lines at d → after ≡ found ++ search_of (at + 1) said
    → found ++ searches_from (at + 1) (drop at lines) ≡ all → after ++ searches_from (at + 1 + 1) (drop (at + 1) lines) ≡ all
search_more lines at said d found after all less is added so_far =
    let rest = searches_from (at + 1 + 1) (drop (at + 1) lines) in
    let here : searches_from (at + 1) (drop at lines) ≡ search_of (at + 1) (get_or lines at d) ++ rest = at_drop_more (searches_from (at + 1)) lines at d less in
    ap (λ xs. xs ++ rest) added ∙ append_assoc found (search_of (at + 1) said) rest ∙ ap (λ (l : ScriptLine). found ++ (search_of (at + 1) l ++ rest)) is ∙ ap (λ xs. found ++ xs) (sym here) ∙ so_far

-- all of them
pub searches_all : (lines : List ScriptLine) (at : ℕ) (found all : List SearchLine) → length lines ≤ at → found ++ searches_from (at + 1) (drop at lines) ≡ all → found ≡ all
searches_all lines at found all past so_far =
    let none : searches_from (at + 1) (drop at lines) ≡ [] = at_drop_all (searches_from (at + 1)) lines at past in
    sym (append-nil found) ∙ ap (λ xs. found ++ xs) (sym none) ∙ so_far
