use Rattle.std.proofs.Common.{take}
use Rattle.asked_keys.proofs.OfferedFacts.{NoneOfAll}
use Rattle.asked_keys.proofs.offered.may_be_offered.Given as goal

abbrev pub invariant-loop-group : goal.invariant-loop-group
invariant-loop-group l = NoneOfAll l.market.sheet.value.rows l.way.legs (take l.group-index l.group-items)
