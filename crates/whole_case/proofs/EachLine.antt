-- What a stage gives of lines one after another: up to a line, and on from there. For the later filings and the requests of a serving run.
use Rattle.std.proofs.Common.{◌≡◌, ◌≤◌, ◌<◌, ◌+◌, ℕ, suc, List, [], ◌∷◌, ◌++◌, length, drop, get_or, Result, Ok, Err, refl, sym, ap, subst, ◌∙◌, append_assoc, append-nil, inl, inr}
use Rattle.std.proofs.lemmas.List.{drop_all, drop_more}
use Rattle.fare_law.specs.Lists.{Each}
use Rattle.whole_case.specs.declared.refusals.LoadFault.{LoadFault}
use Rattle.whole_case.specs.declared.refusals.LoadFault.TheVariants.{Refused, Mem}
use Rattle.whole_case.specs.declared.refusals.Refusal.{Refusal}
use Rattle.whole_case.specs.ServeCases.{each_of}
use Rattle.whole_case.specs.Stages.{Reads, Stage}
use Rattle.law_lemmas.proofs.Options.{ok_same}

-- with what was given before in front
abbrev pub in_front : {A : Type 0} → List A → Result (List A) Refusal → Result (List A) Refusal
in_front front (Ok rest) = Ok (front ++ rest)
in_front front (Err refusal) = Err refusal

-- what the lines from a place on come to, all lines come to, with what was given before in front
abbrev pub LeadsOn : {X A : Type 0} → (X → Stage A) → List X → List A → ℕ → Type 0
LeadsOn {X} {A} stage xs front i = (outcome : Result (List A) Refusal) → each_of stage (drop i xs) outcome → each_of stage xs (in_front front outcome)

module _ {X A : Type 0} (stage : X → Stage A) (xs : List X) where
  pub each_start : LeadsOn stage xs [] 0
  each_start (Ok rest) h = h
  each_start (Err refusal) h = h

  here : (i : ℕ) (x : X) → i < length xs → x ≡ get_or xs i x → drop i xs ≡ x ∷ drop (i + 1) xs
  here i x less is = drop_more xs i x less ∙ ap (λ (y : X). y ∷ drop (i + 1) xs) (sym is)

  pub each_more : (front after : List A) (i : ℕ) (x : X) (a : A) → i < length xs → x ≡ get_or xs i x → stage x (Ok a) → after ≡ front ++ a ∷ [] → LeadsOn stage xs front i → LeadsOn stage xs after (i + 1)
  each_more front after i x a less is given added h (Ok rest) r =
      let whole = h (Ok (a ∷ rest)) (subst (λ (ys : List X). each_of stage ys (Ok (a ∷ rest))) (sym (here i x less is)) (a, given, (rest, r, refl))) in
      subst (λ (vs : List A). each_of stage xs (Ok vs)) (sym (ap (λ (vs : List A). vs ++ rest) added ∙ append_assoc front (a ∷ []) rest)) whole
  each_more front after i x a less is given added h (Err refusal) r =
      h (Err refusal) (subst (λ (ys : List X). each_of stage ys (Err refusal)) (sym (here i x less is)) (inr (a, given, inl r)))

  pub each_stops : (front : List A) (i : ℕ) (x : X) (fault : LoadFault) → i < length xs → x ≡ get_or xs i x → Reads {A = A} (Err fault) (stage x) → LeadsOn stage xs front i → Reads {A = List A} (Err fault) (each_of stage xs)
  each_stops front i x (Refused refusal) less is stops h =
      h (Err refusal) (subst (λ (ys : List X). each_of stage ys (Err refusal)) (sym (here i x less is)) (inl stops))
  each_stops front i x Mem less is stops h = tt

  pub each_end : (front : List A) (i : ℕ) → length xs ≤ i → LeadsOn stage xs front i → each_of stage xs (Ok front)
  each_end front i past h =
      subst (λ (vs : List A). each_of stage xs (Ok vs)) (append-nil front) (h (Ok []) (subst (λ (ys : List X). each_of stage ys (Ok [])) (sym (drop_all i xs past)) refl))

-- one thing is given of each line
pub each_counted : {X A : Type 0} (stage : X → Stage A) (xs : List X) (vs : List A) → each_of stage xs (Ok vs) → length vs ≡ length xs
each_counted stage [] vs h = ap length (ok_same vs [] h)
each_counted stage (x ∷ xs) vs (first, given, (others, rest, e)) = ap length (ok_same vs (first ∷ others) e) ∙ ap suc (each_counted stage xs others rest)

-- what holds of whatever the stage gives holds of each that it gave
pub each_such : {X A : Type 0} (stage : X → Stage A) (P : A → Type 0) → ((x : X) (a : A) → stage x (Ok a) → P a) → (xs : List X) (vs : List A) → each_of stage xs (Ok vs) → Each P vs
each_such stage P such [] vs h = subst (Each P) (sym (ok_same vs [] h)) tt
each_such {X} {A} stage P such (x ∷ xs) vs (first, given, (others, rest, e)) = subst (λ (bs : List A). Each P bs) (sym (ok_same vs (first ∷ others) e)) (such x first given, each_such stage P such xs others rest)

-- one more in a list of which each is such
pub such_more : {A : Type 0} (P : A → Type 0) (front after : List A) (a : A) → Each P front → P a → after ≡ front ++ a ∷ [] → Each P after
such_more {A} P front after a all here added = subst (λ (vs : List A). Each P vs) (sym added) (joined front all)
  where
    joined : (vs : List A) → Each P vs → Each P (vs ++ a ∷ [])
    joined [] h = (here, tt)
    joined (b ∷ bs) h = (h.0, joined bs h.1)
