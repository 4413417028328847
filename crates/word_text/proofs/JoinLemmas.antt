-- Words that are joined one after another.
use Rattle.std.proofs.Common.{drop, get_or, ◌-◌, arith, ◌≡◌, ◌≤◌, ℕ, List, [], ◌∷◌, ◌++◌, length, map, take, append_assoc, append-nil, flat_map, ap, sym, ◌∙◌, Bor}
use Rattle.std.proofs.lemmas.List.{take_all}
use Rattle.std.specs.List.{join_with_byte}

-- the words after the first, each after a separator
abbrev pub spaced : ℕ → List (Bor (List ℕ)) → List ℕ
spaced c words = flat_map (λ word. c ∷ word.now) words

joined_is : (c : ℕ) (first : List ℕ) (rest : List (Bor (List ℕ))) → join_with_byte c (first ∷ map (λ w. w.now) rest) ≡ first ++ spaced c rest
joined_is c first [] = sym (append-nil first)
joined_is c first (x ∷ rest) = ap (λ t. first ++ c ∷ t) (joined_is c x.now rest)

-- where no word is left, the words were joined
pub joined_whole : (c : ℕ) (old before text : List ℕ) (words : List (Bor (List ℕ))) (none : Bor (List ℕ)) (n : ℕ) → 1 ≤ length words
    → length (take (length words - 1) (drop 1 words)) ≤ n → before ≡ old ++ (get_or words 0 none).now
    → text ≡ before ++ spaced c (take n (take (length words - 1) (drop 1 words))) → text ≡ old ++ join_with_byte c (map (λ w. w.now) words)
joined_whole c old before text [] none n some all first so_far = absurd (omega arith)
joined_whole c old before text (word ∷ words) none n some all first so_far =
    let rest : take (length (word ∷ words) - 1) words ≡ words = take_all (length (word ∷ words) - 1) words (omega arith) in
    let each : take n (take (length (word ∷ words) - 1) words) ≡ words = take_all n (take (length (word ∷ words) - 1) words) all ∙ rest in
    so_far ∙ ap (λ t. t ++ spaced c (take n (take (length (word ∷ words) - 1) words))) first
    ∙ append_assoc old word.now (spaced c (take n (take (length (word ∷ words) - 1) words)))
    ∙ ap (λ ws. old ++ (word.now ++ spaced c ws)) each
    ∙ ap (λ t. old ++ t) (sym (joined_is c word.now words))
