use Rattle.std.proofs.Common.{◌≡◌, map, take}
use Rattle.fare_law.specs.Sheets.{last_minute}
use Rattle.fare_law.proofs.market.closing_minutes.Given as goal

abbrev pub invariant-loop-row : goal.invariant-loop-row
invariant-loop-row l = l.minutes ≡ map last_minute (take l.row-index l.rows)
