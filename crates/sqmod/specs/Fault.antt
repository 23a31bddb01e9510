-- How the program ends.
use Rattle.std.specs.Prelude.{ℕ}
use Rattle.sqmod.specs.declared.fault.Fault.{Fault}
use Rattle.sqmod.specs.declared.fault.Fault.TheVariants.{Unread, Refused, Output, NoMemory}

-- The exit status: 1 if a file is not read or the output failed, 2 if a text is refused, 3 if memory runs
-- out.
abbrev pub status_of : Fault → ℕ
status_of (Unread source) = 1
status_of (Refused source refusal) = 2
status_of Output = 1
status_of (NoMemory items) = 3
