use Rattle.std.proofs.Common.{◌≡◌, ◌≤◌, ℕ, List, [], ◌∷◌, ◌++◌, length, map, take, append_assoc, flat_map, ap, sym, ◌∙◌, arith, Bor}
use Rattle.std.proofs.lemmas.List.{take_all}
use Rattle.std.proofs.lemmas.List.Folds.{flat_map-map}
use Rattle.answer_text.specs.Lines.{line}
use Rattle.answer_text.proofs.lines.push_line.Goals as goal

abbrev spaced : List (Bor (List ℕ)) → List ℕ
spaced words = flat_map (λ word. 32 ∷ word.now) words

whole_line : (old name : List ℕ) (words : List (Bor (List ℕ))) (n : ℕ) (before after : List ℕ) → length words ≤ n
    → before ≡ old ++ (name ++ spaced (take n words)) → after ≡ before ++ 10 ∷ [] → after ≡ old ++ line name (map (λ w. w.now) words)
whole_line old name words n before after all so_far last =
    let words_are : spaced (take n words) ≡ flat_map (λ word. 32 ∷ word) (map (λ w. w.now) words) =
    ap spaced (take_all n words all) ∙ sym (flat_map-map (λ word. 32 ∷ word) (λ w. w.now) words) in
    last ∙ ap (λ t. t ++ 10 ∷ []) so_far ∙ append_assoc old (name ++ spaced (take n words)) (10 ∷ [])
    ∙ ap (λ t. old ++ t) (append_assoc name (spaced (take n words)) (10 ∷ []))
    ∙ ap (λ t. old ++ (name ++ (t ++ 10 ∷ []))) words_are

pub returns : goal.returns
returns c = whole_line c.args.text.now.items c.args.name.now c.args.words.now c.loop-word.word-index c.loop-word.text.items c.push-2.new.self.items (omega arith) c.loop-word.invariant c.in_ok-push-2.ensures.items
