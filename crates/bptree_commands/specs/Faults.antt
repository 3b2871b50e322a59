-- The exit status and the message of a program that ended early.
use Rattle.std.specs.Prelude.{ℕ, List, codes}
use Rattle.bptree_commands.specs.declared.error.ServeError.{ServeError}
use Rattle.bptree_commands.specs.declared.error.ServeError.TheVariants.{Io, OutOfMemory}

-- The exit status for an error.
abbrev pub status_of : ServeError → ℕ
status_of Io = 1
status_of OutOfMemory = 3

-- The message of an error.
abbrev pub fault_text : ServeError → List ℕ
fault_text Io = codes "i/o fault"
fault_text OutOfMemory = codes "out of memory"
