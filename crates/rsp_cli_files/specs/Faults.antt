-- With which faults the program ends when a file can't be read or written.
use Rattle.std.specs.Prelude.{◌≡◌, ℕ, List, Option, Result, Err}
use Rattle.rsp_cli_files.specs.declared.fault.Fault.{Fault}
use Rattle.rsp_cli_files.specs.declared.fault.Fault.TheVariants.{CannotRead, CannotWrite, OutOfMemory}
use Rattle.rsp_cli_files.specs.declared.files.FileFault.{FileFault}
use Rattle.rsp_cli_files.specs.declared.files.FileFault.TheVariants as file_faults
use Rattle.rsp_cli_files.specs.Files.{Holds}

-- the file with this name can't be read, or there was no memory for it
abbrev pub IsReadFault : List ℕ → Option (Result (List ℕ) FileFault) → Fault → Type 0
IsReadFault name held (CannotRead named reason) = (named.now ≡ name) × Holds held (Err (file_faults.Refused reason))
IsReadFault name held OutOfMemory = Unit {0}
IsReadFault name held fault = ⊥

-- the file with this name can't be written, or there was no memory for it
abbrev pub IsWriteFault : List ℕ → Fault → Type 0
IsWriteFault name (CannotWrite named reason) = named.now ≡ name
IsWriteFault name OutOfMemory = Unit {0}
IsWriteFault name fault = ⊥
