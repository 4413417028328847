use Rattle.std.proofs.Common.{◌≡◌, map, string_bytes, take}
use Rattle.shop_book.proofs.handles.runs.each_word.Given as goal

-- the words so far have bytes of their own
abbrev pub invariant-loop-word : goal.invariant-loop-word
invariant-loop-word l = map string_bytes l.each.items ≡ map (λ line. line.now) (take l.word-index l.word-items)
