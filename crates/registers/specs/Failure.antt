-- The status bit and the response of each failure.
use Rattle.std.specs.Prelude.{ℕ}
use Rattle.settings.specs.declared.settings.Flag.{Flag}
use Rattle.settings.specs.declared.settings.Flag.TheVariants as flags
use Rattle.registers.specs.declared.reply.Failure.{Failure}
use Rattle.registers.specs.declared.reply.Failure.TheVariants.{InvalidCommand, NotAvailable, WrongLength, OutOfRange}

abbrev pub flag : Failure → Flag
flag InvalidCommand = flags.InvalidCommand
flag NotAvailable = flags.NotAvailable
flag WrongLength = flags.WrongLength
flag OutOfRange = flags.OutOfRange

abbrev pub code : Failure → ℕ
code InvalidCommand = 0x03
code NotAvailable = 0x04
code WrongLength = 0x05
code OutOfRange = 0x07
