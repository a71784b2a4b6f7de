-- Files in memory.
use Rattle.std.specs.Prelude.{ℕ, List, codes, Bool, true, false, Option, None, Some, Result, Ok, Err, if◌then◌else◌}
use Rattle.std.specs.Str.{bytes_eq}
use Rattle.rsp_cli_files.specs.declared.files.FileFault.{FileFault}
use Rattle.rsp_cli_files.specs.declared.files.FileFault.TheVariants.{Refused}
use Rattle.std_io.specs.declared.io.kind.ErrorKind.TheVariants.{NotFound}

-- whether a file was written by this name
abbrev pub is_saved : Option (List ℕ) → List ℕ → Bool
is_saved None name = false
is_saved (Some saved) name = bytes_eq saved name

-- a file may be written by this name: there is room for one
abbrev pub may_save : Option (List ℕ) → List ℕ → Bool
may_save None name = true
may_save (Some saved) name = bytes_eq saved name

-- what a file holds that wasn't written: one with the name `image` can be read, unless each read ends with a fault
abbrev pub image_file : Option FileFault → List ℕ → List ℕ → Result (List ℕ) FileFault
image_file None image name = if bytes_eq name (codes "image") then Ok image else Err (Refused NotFound)
image_file (Some fault) image name = Err fault

-- what a file holds: the bytes that were written by its name, if any were
abbrev pub file_of : Option (List ℕ) → List ℕ → Option FileFault → List ℕ → List ℕ → Result (List ℕ) FileFault
file_of saved_name saved fault image name = if is_saved saved_name name then Ok saved else image_file fault image name
