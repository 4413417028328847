-- Lines that were read, and those that are left.
use Rattle.std.proofs.Common.{◌≡◌, ◌<◌, ◌≤◌, ◌+◌, ℕ, List, [], ◌∷◌, ◌++◌, length, take, drop, get_or, refl, sym, ◌∙◌, ap, subst, drop-cons, add-one}
use Rattle.std.proofs.lemmas.List.{take_all, take_more, take-append-drop}
use Rattle.fare_law.specs.Lists.{Each}
use Rattle.fare_law.specs.declared.rows.TextLine.{TextLine}
use Rattle.script_text.specs.declared.lines.Counts.{Counts}
use Rattle.script_text.specs.declared.lines.ScriptLine.{ScriptLine}
use Rattle.script_text.specs.Script.{IsWithin, Spells, SpellsNone, SpellsEach, FirstBad}

grows : (c : Counts) (xs : List TextLine) (ss : List ScriptLine) (x : TextLine) (s : ScriptLine) → SpellsEach c xs ss → Spells c x.bytes s → SpellsEach c (xs ++ x ∷ []) (ss ++ s ∷ [])
grows c [] [] x s h k = (k, tt)
grows c [] (t ∷ ss) x s h k = absurd h
grows c (y ∷ xs) [] x s h k = absurd h
grows c (y ∷ xs) (t ∷ ss) x s h k = (h.0, grows c xs ss x s h.1 k)

pub lines_more : (c : Counts) (lines : List TextLine) (ss : List ScriptLine) (i : ℕ) (d : TextLine) (s : ScriptLine) → i < length lines → SpellsEach c (take i lines) ss → Spells c (get_or lines i d).bytes s → SpellsEach c (take (i + 1) lines) (ss ++ s ∷ [])
lines_more c lines ss i d s l h k = rw (take_more lines i d l) (grows c (take i lines) ss (get_or lines i d) s h k)

cut : (lines : List TextLine) (i : ℕ) (d : TextLine) → i < length lines → lines ≡ take i lines ++ get_or lines i d ∷ drop (i + 1) lines
cut lines i d l =
    let rest : drop i lines ≡ get_or lines i d ∷ drop (i + 1) lines = rw (drop-cons lines i d l, add-one) refl in
    sym (take-append-drop i lines) ∙ ap (λ xs. take i lines ++ xs) rest

pub lines_bad : (c : Counts) (lines : List TextLine) (ss : List ScriptLine) (i : ℕ) (d : TextLine) → i < length lines → SpellsEach c (take i lines) ss → SpellsNone c (get_or lines i d).bytes → FirstBad c lines (get_or lines i d).line
lines_bad c lines ss i d l h none = record { before = take i lines; bad = get_or lines i d; rest = drop (i + 1) lines; ss = ss; order = cut lines i d l; good = h; none = none; here = refl }

pub lines_all : (c : Counts) (lines : List TextLine) (ss : List ScriptLine) (i : ℕ) → length lines ≤ i → SpellsEach c (take i lines) ss → SpellsEach c lines ss
lines_all c lines ss i l h = subst (λ (xs : List TextLine). SpellsEach c xs ss) (take_all i lines l) h

-- what is spelled is within the counts
pub each_within : (c : Counts) (lines : List TextLine) (ss : List ScriptLine) → SpellsEach c lines ss → Each (IsWithin c) ss
each_within c [] [] h = tt
each_within c [] (s ∷ ss) h = absurd h
each_within c (x ∷ xs) [] h = absurd h
each_within c (x ∷ xs) (s ∷ ss) h = (h.0.within, each_within c xs ss h.1)

pub ruleset line_steps = (lines_more, lines_bad, lines_all)
