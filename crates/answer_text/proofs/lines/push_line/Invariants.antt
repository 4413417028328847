use Rattle.std.proofs.Common.{◌≡◌, ◌++◌, ◌∷◌, take, flat_map}
use Rattle.answer_text.proofs.lines.push_line.Given as goal

-- the name and the words so far have been added
abbrev pub invariant-loop-word : goal.invariant-loop-word
invariant-loop-word l = l.text.items ≡ l.fn.text.items ++ (l.name ++ flat_map (λ word. 32 ∷ word.now) (take l.word-index l.words))
