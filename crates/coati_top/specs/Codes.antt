-- What the program ends with.
use Rattle.std.specs.Prelude.{ℕ}
use Rattle.coati_top.specs.declared.status.Status.{Status}
use Rattle.coati_top.specs.declared.status.Status.TheVariants.{Ok, Usage, ReadFault, WriteFault, TooLarge, Refused, BadTrace, Differs, OutOfMemory}

abbrev pub code_of : Status → ℕ
code_of Ok = 0
code_of Usage = 2
code_of ReadFault = 3
code_of WriteFault = 4
code_of TooLarge = 5
code_of Refused = 6
code_of BadTrace = 7
code_of Differs = 8
code_of OutOfMemory = 9
