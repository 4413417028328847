use Rattle.std.proofs.Common.{◌≡◌, ◌+◌, ◌++◌, drop}
use Rattle.serving.specs.Replies.{searches_from}
use Rattle.serving.proofs.listing.searches_of.Given as goal

-- with the searches of the lines that are left they are all
abbrev pub invariant-loop-at : goal.invariant-loop-at
invariant-loop-at l = l.searches ++ searches_from (l.at + 1) (drop l.at l.lines) ≡ searches_from 1 l.lines
