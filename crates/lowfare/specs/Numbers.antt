-- The numbers of the statuses.
use Rattle.std.specs.Prelude.{ℕ}
use Rattle.lowfare.specs.declared.status.Status.{Status}
use Rattle.lowfare.specs.declared.status.Status.TheVariants.{Done, Refused, Usage, ReadFault, WriteFault, OutOfMemory, TooLarge, No, TooLong}

abbrev pub number_of : Status → ℕ
number_of Done = 0
number_of Refused = 1
number_of Usage = 2
number_of ReadFault = 3
number_of WriteFault = 4
number_of OutOfMemory = 5
number_of TooLarge = 6
number_of No = 7
number_of TooLong = 8
