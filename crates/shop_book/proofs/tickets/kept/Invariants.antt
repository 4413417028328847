use Rattle.std.proofs.Common.{◌≡◌, map, take}
use Rattle.case_text.specs.Lines.{shown}
use Rattle.shop_book.proofs.tickets.kept.Given as goal

-- the lines so far have been kept
abbrev pub invariant-loop-line : goal.invariant-loop-line
invariant-loop-line l = l.kept ≡ map shown (take l.line-index l.lines)
