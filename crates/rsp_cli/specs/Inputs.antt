-- What a run begins with: its script, and the contents of RDRAM.
use Rattle.std.specs.Prelude.{◌≡◌, ◌⊎◌, ℕ, List, length, replicate, Option, Result}
use Rattle.rsp_memory.specs.Image.{IsImageLength}
use Rattle.rsp_script_io.specs.Feeds.{script_limit}
use Rattle.rsp_cli_files.specs.declared.fault.Fault.{Fault}
use Rattle.rsp_cli_files.specs.declared.fault.Fault.TheVariants.{ScriptTooLong, ImageSize}
use Rattle.rsp_cli_files.specs.declared.files.FileFault.{FileFault}
use Rattle.rsp_cli_files.specs.Faults.{IsReadFault}
use Rattle.rsp_cli_files.specs.Files.{IfHeld, IsLonger}

-- so many zeros
unfoldable pub zeros : ℕ → List ℕ
zeros n = replicate n 0

-- the contents of RDRAM if no file is named: 4 MB of zeros
abbrev pub default_image : List ℕ
default_image = zeros 4194304

-- the file has a number of bytes that no image has, if the store tells it
abbrev pub IsNoImage : Option (Result (List ℕ) FileFault) → Type 0
IsNoImage held = IfHeld held (λ bytes. ¬ IsImageLength (length bytes))

-- why a script's file is refused: it has too many bytes, or can't be read
abbrev pub IsScriptFault : List ℕ → Option (Result (List ℕ) FileFault) → Fault → Type 0
IsScriptFault name held fault = ((fault ≡ ScriptTooLong) × IsLonger held script_limit) ⊎ IsReadFault name held fault

-- the file has a number of bytes that no image has, and the fault names it
abbrev pub IsSizeFault : List ℕ → Option (Result (List ℕ) FileFault) → Fault → Type 0
IsSizeFault name held (ImageSize size) = (size.name.now ≡ name) × IsNoImage held
IsSizeFault name held fault = ⊥

-- why the file of an image is refused: no image has so many bytes, or it can't be read
abbrev pub IsImageFault : List ℕ → Option (Result (List ℕ) FileFault) → Fault → Type 0
IsImageFault name held fault = IsSizeFault name held fault ⊎ IsReadFault name held fault
