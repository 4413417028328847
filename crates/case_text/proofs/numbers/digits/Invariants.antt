use Rattle.std.proofs.Common.{◌≡◌, ◌<◌, ◌^◌}
use Rattle.case_text.specs.Numbers.{read_on}
use Rattle.case_text.proofs.Digits.{from_place}
use Rattle.case_text.proofs.numbers.digits.Given as goal

abbrev pub invariant-loop-i : goal.invariant-loop-i
invariant-loop-i l = record { small : l.number < 10 ^ l.i; rest : from_place l.number l.i l.text ≡ read_on 0 l.text }
