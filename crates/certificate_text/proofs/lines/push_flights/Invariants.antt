use Rattle.std.proofs.Common.{◌≡◌, ◌++◌, take, map}
use Rattle.std.specs.Fmt.{decimal}
use Rattle.certificate_text.specs.Lines.{spaced}
use Rattle.certificate_text.proofs.lines.push_flights.Given as goal

-- the flights so far have been added
abbrev pub invariant-loop-flight : goal.invariant-loop-flight
invariant-loop-flight l = l.text.items ≡ l.fn.text.items ++ spaced (map decimal (take l.flight-index l.flights))
