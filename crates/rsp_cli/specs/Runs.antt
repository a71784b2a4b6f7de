-- What a run leaves: replies, the file that it saves, and the fault with which it ends.
use Rattle.std.specs.Io.KnownBytes.{Appends}
use Rattle.std.specs.Prelude.{◌≡◌, ◌<◌, ◌⊎◌, ℕ, List, length, Bool, IsTrue, Option, None, Some, IfSome, MatchOption, Result, Ok, Err, option_map}
use Rattle.rsp_script_io.specs.Feeds.{script_limit}
use Rattle.rsp_cli_args.specs.declared.Request.{Request}
use Rattle.rsp_cli_args.specs.declared.Request.TheVariants.{Run}
use Rattle.rsp_cli_args.specs.declared.RunFiles.{RunFiles}
use Rattle.rsp_cli_files.specs.declared.fault.Fault.{Fault}
use Rattle.rsp_cli_files.specs.declared.fault.Fault.TheVariants.{CannotWrite, OutOfMemory, RunRead, RunWrite, ScriptTooLong, RunOutOfMemory, Replies}
use Rattle.rsp_cli_files.specs.declared.files.FileFault.{FileFault}
use Rattle.rsp_cli_files.specs.Files.{IsSavedAs, SameFiles}
use Rattle.rsp_cli.specs.Faults.{NotedFaults, IsRefusal}
use Rattle.rsp_cli.specs.Inputs.{default_image, IsScriptFault, IsImageFault}

-- the bytes of a file, if the store tells them
abbrev pub told_bytes : Option (Result (List ℕ) FileFault) → Option (List ℕ)
told_bytes None = None
told_bytes (Some (Ok bytes)) = Some bytes
told_bytes (Some (Err fault)) = None

-- the bytes of the file with this name, if one is named; else what there is without it
abbrev pub bytes_or : Option (List ℕ) → (List ℕ → Option (Result (List ℕ) FileFault)) → Option (List ℕ) → Option (List ℕ)
bytes_or None content without = without
bytes_or (Some name) content without = told_bytes (content name)

-- the script of a run, if it is known: the bytes of its file, or what standard input has left
abbrev pub script_of : RunFiles → (List ℕ → Option (Result (List ℕ) FileFault)) → Option (List ℕ) → Option (List ℕ)
script_of asked content input = bytes_or (option_map (λ name. name.now) asked.script) content input

-- the contents of RDRAM before a run, if they are known: the bytes of their file, or zeros
abbrev pub image_of : RunFiles → (List ℕ → Option (Result (List ℕ) FileFault)) → Option (List ℕ)
image_of asked content = bytes_or (option_map (λ name. name.now) asked.rdram) content (Some default_image)

-- the file with this name holds the image after a save, and each other name leads to what it led to, or to the image; without a name all do
abbrev pub IsSaved : Option (List ℕ) → (List ℕ → Option (Result (List ℕ) FileFault)) → (List ℕ → Option (Result (List ℕ) FileFault)) → List ℕ → Type 0
IsSaved None before after image = SameFiles before after
IsSaved (Some name) before after image = IsSavedAs name before after image

-- the file can't be the script of a run, as the store tells: it has too many bytes, or can't be read
abbrev pub IsUnfit : Option (Result (List ℕ) FileFault) → Type 0
IsUnfit None = ⊥
IsUnfit (Some (Ok bytes)) = script_limit < length bytes
IsUnfit (Some (Err fault)) = Unit {0}

-- P of the script and of the contents of RDRAM before it, if both are known
abbrev pub IfKnown : Option (List ℕ) → Option (List ℕ) → (List ℕ → List ℕ → Type 0) → Type 0
IfKnown script image P = IfSome script (λ s. IfSome image (λ i. P s i))

-- What a run leaves that ended well, if its script and the contents of RDRAM before it are known: the writer's bytes have grown by the
-- replies that the definitions give, and the saved file holds the image that they give.
abbrev pub IsAnswered : (out image_after : List ℕ → List ℕ → List ℕ) → RunFiles → (before after : List ℕ → Option (Result (List ℕ) FileFault)) → (input old new : Option (List ℕ)) → Type 0
IsAnswered out image_after asked before after input old new = IfKnown (script_of asked before input) (image_of asked before) (λ script image.
    Appends old new (out script image) × IsSaved (option_map (λ name. name.now) asked.save) before after (image_after script image))

-- a fault with which a run may end once it has begun: the run ended early, or its image wasn't saved to the file with this name
abbrev pub IsRunFault : Option (List ℕ) → Fault → Type 0
IsRunFault saved RunRead = Unit {0}
IsRunFault saved RunWrite = Unit {0}
IsRunFault saved ScriptTooLong = Unit {0}
IsRunFault saved RunOutOfMemory = Unit {0}
IsRunFault saved (CannotWrite name reason) = saved ≡ Some name.now
IsRunFault saved OutOfMemory = Unit {0}
IsRunFault saved fault = ⊥

-- a strict run may end so after its image was saved: replies are faults, or there was no memory for the text of the first of them
abbrev pub IsLate : Fault → Type 0
IsLate (Replies count line first) = 0 < count
IsLate OutOfMemory = Unit {0}
IsLate fault = ⊥

-- no file has changed after a run that ended with this fault, unless a strict run was refused after its image was saved
abbrev pub LeavesFiles : Bool → (before after : List ℕ → Option (Result (List ℕ) FileFault)) → Fault → Type 0
LeavesFiles is_strict before after fault = (IsTrue is_strict × IsLate fault) ⊎ SameFiles before after

-- a fault of a run with these files, strict or not
abbrev pub IsFaultOver : Option (List ℕ) → Bool → Fault → Type 0
IsFaultOver saved is_strict fault = IsRunFault saved fault ⊎ (IsTrue is_strict × IsLate fault)

-- why a run doesn't begin: its script, or the contents of RDRAM before it
abbrev pub IsInputFault : Option (List ℕ) → Option (List ℕ) → (List ℕ → Option (Result (List ℕ) FileFault)) → Fault → Type 0
IsInputFault script rdram content fault = MatchOption script ⊥ (λ name. IsScriptFault name (content name) fault)
    ⊎ MatchOption rdram (fault ≡ OutOfMemory) (λ name. IsImageFault name (content name) fault)

-- why a run fails whose script is in the file with this name, or the input: it doesn't begin, it ends early, its image isn't saved, or it is
-- strict and has faults among its replies
abbrev pub IsRequestFault : Option (List ℕ) → RunFiles → (List ℕ → Option (Result (List ℕ) FileFault)) → Fault → Type 0
IsRequestFault script asked content fault = IsInputFault script (option_map (λ name. name.now) asked.rdram) content fault
    ⊎ IsFaultOver (option_map (λ name. name.now) asked.save) asked.is_strict fault

-- why a strict run fails: it fails as every run may, or replies are faults
abbrev pub IsStrictFault : Option (List ℕ) → NotedFaults → Option ℕ → Fault → Type 0
IsStrictFault saved faults line fault = IsRunFault saved fault ⊎ IsRefusal faults line fault

-- P of the files of a run, if one is requested
abbrev pub IfRun : Request → (RunFiles → Type 0) → Type 0
IfRun (Run asked) P = P asked
IfRun request P = Unit {0}
