use Rattle.std.proofs.Common.{take}
use Rattle.fare_law.specs.Lists.{Each}
use Rattle.fare_filing.specs.Compact.{IsPlain}
use Rattle.fare_filing.proofs.pieces.until_quote.Given as goal

abbrev pub invariant-loop-i : goal.invariant-loop-i
invariant-loop-i l = Each IsPlain (take l.i l.text)
