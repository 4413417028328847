-- Slices whose windows were judged, and those that are left.
use Rattle.std.proofs.Common.{◌≡◌, ◌<◌, ◌≤◌, ◌+◌, ℕ, false, List, [], ◌∷◌, ◌++◌, length, drop, get_or, refl, ap, sym, ◌∙◌, Option, Some, None, append_assoc, append-nil, drop-cons, add-one, option_map, option_and_then}
use Rattle.std.proofs.lemmas.List.{drop_all}
use Rattle.fare_law.specs.declared.requests.Slice.{Slice}
use Rattle.request_text.specs.declared.asked.AskedSlice.{AskedSlice}
use Rattle.std.specs.List.{list_any}
use Rattle.std.proofs.lemmas.Slice.Eq.{bytes_eq-Decides}
use Rattle.fare_law.specs.Lists.{Each}
use Rattle.request_text.specs.Form.{IsAskedSlice}
use Rattle.request_text.specs.Steps.{windowed, each_windowed, stays}
use Rattle.fare_law.specs.Limits.{IsSlice, EndsDiffer}
use Rattle.law_lemmas.proofs.EachOne.{each_more, holds_at}
use Rattle.law_lemmas.proofs.Tests.{neither}

-- slices that stand before the others
abbrev pub after : List Slice → Option (List Slice) → Option (List Slice)
after front rest = option_map (λ xs. front ++ xs) rest

pub after_none : (r : Option (List Slice)) → after [] r ≡ r
after_none (Some xs) = refl
after_none None = refl

after_push : (front : List Slice) (a : Slice) (r : Option (List Slice)) → after (front ++ a ∷ []) r ≡ after front (option_map (λ xs. a ∷ xs) r)
after_push front a (Some xs) = ap Some (append_assoc front (a ∷ []) xs)
after_push front a None = refl

rest_is : (ss : List AskedSlice) (i : ℕ) (d : AskedSlice) → i < length ss
    → each_windowed (drop i ss) ≡ option_and_then (λ a. option_map (λ xs. a ∷ xs) (each_windowed (drop (i + 1) ss))) (windowed (get_or ss i d))
rest_is ss i d l = rw (drop-cons ss i d l, add-one) refl

pub windows_more : (front : List Slice) (a : Slice) (ss : List AskedSlice) (i : ℕ) (d : AskedSlice) → i < length ss → windowed (get_or ss i d) ≡ Some a
    → after front (each_windowed (drop i ss)) ≡ each_windowed ss
    → after (front ++ a ∷ []) (each_windowed (drop (i + 1) ss)) ≡ each_windowed ss
windows_more front a ss i d l e h =
    after_push front a (each_windowed (drop (i + 1) ss))
    ∙ ap (after front) (ap (λ o. option_and_then (λ b. option_map (λ xs. b ∷ xs) (each_windowed (drop (i + 1) ss))) o) (sym e) ∙ sym (rest_is ss i d l)) ∙ h

pub windows_bad : (front : List Slice) (ss : List AskedSlice) (i : ℕ) (d : AskedSlice) → i < length ss → windowed (get_or ss i d) ≡ None
    → after front (each_windowed (drop i ss)) ≡ each_windowed ss → None ≡ each_windowed ss
windows_bad front ss i d l e h =
    sym (ap (after front) (rest_is ss i d l ∙ ap (λ o. option_and_then (λ b. option_map (λ xs. b ∷ xs) (each_windowed (drop (i + 1) ss))) o) e)) ∙ h

pub windows_all : (front : List Slice) (ss : List AskedSlice) (i : ℕ) → length ss ≤ i → after front (each_windowed (drop i ss)) ≡ each_windowed ss → Some front ≡ each_windowed ss
windows_all front ss i l h = sym (ap (λ ys. after front (each_windowed ys)) (drop_all i ss l) ∙ ap Some (append-nil front)) ∙ h

-- what each slice has, the one at this place has
pub asked_at : (ss : List AskedSlice) (i : ℕ) (d : AskedSlice) → i < length ss → Each IsAskedSlice ss → IsAskedSlice (get_or ss i d)
asked_at = holds_at IsAskedSlice

-- one more slice with a window
pub windows_grow : (front : List Slice) (s : Slice) → Each IsSlice front → IsSlice s → Each IsSlice (front ++ s ∷ [])
windows_grow = each_more IsSlice

pub ruleset window_steps = (after_none, windows_more, windows_bad, windows_all, asked_at, windows_grow)

departs : (s : Slice) → stays s ≡ false → EndsDiffer s
departs s e same = let t = (bytes_eq-Decides s.from.0 s.to.0).1 (ap (λ p. p.0) same) in absurd (cc)

-- where no slice stays, each departs
pub all_depart : (ss : List Slice) → list_any stays ss ≡ false → Each EndsDiffer ss
all_depart [] e = tt
all_depart (s ∷ ss) e = let h = neither (stays s) (list_any stays ss) e in (departs s h.0, all_depart ss h.1)
