use Rattle.std.proofs.Common.{◌≡◌, map, take}
use Rattle.fare_law.specs.Sheets.{first_minute}
use Rattle.fare_law.proofs.market.opening_minutes.Given as goal

abbrev pub invariant-loop-row : goal.invariant-loop-row
invariant-loop-row l = l.minutes ≡ map first_minute (take l.row-index l.rows)
