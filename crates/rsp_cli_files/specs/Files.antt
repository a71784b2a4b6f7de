-- What a store tells of a file by its name: the bytes that reads give, or why it can't be read. `None` is a store that doesn't tell it.
use Rattle.std.specs.Prelude.{◌≡◌, ◌⊎◌, ◌<◌, ℕ, List, take, length, Option, None, Some, Result, Ok, Err}
use Rattle.rsp_cli_files.specs.declared.files.FileFault.{FileFault}
use Rattle.rsp_cli_files.specs.declared.files.FileFault.TheVariants.{Refused, OutOfMemory}

-- this is what the file holds, if the store tells it
abbrev pub Holds : Option (Result (List ℕ) FileFault) → Result (List ℕ) FileFault → Type 0
Holds None what = Unit {0}
Holds (Some held) what = held ≡ what

-- these are the first bytes of the file, at most `limit`
abbrev pub BeginsWith : Option (Result (List ℕ) FileFault) → ℕ → List ℕ → Type 0
BeginsWith None limit bytes = Unit {0}
BeginsWith (Some (Ok held)) limit bytes = bytes ≡ take limit held
BeginsWith (Some (Err fault)) limit bytes = ⊥

-- a read may end with this fault: there may always be no memory, and it is refused only if the file can't be read
abbrev pub MayFail : Option (Result (List ℕ) FileFault) → FileFault → Type 0
MayFail held OutOfMemory = Unit {0}
MayFail held (Refused reason) = Holds held (Err (Refused reason))

-- the file holds these bytes after a write, if the store told before what it held
abbrev pub IsWritten : Option (Result (List ℕ) FileFault) → Option (Result (List ℕ) FileFault) → List ℕ → Type 0
IsWritten None after bytes = Unit {0}
IsWritten (Some held) after bytes = after ≡ Some (Ok bytes)

-- after a write of these bytes each name leads to what it led to, or to these bytes
abbrev pub WritesOneFile : (List ℕ → Option (Result (List ℕ) FileFault)) → (List ℕ → Option (Result (List ℕ) FileFault)) → List ℕ → Type 0
WritesOneFile before after bytes = (name : List ℕ) → (after name ≡ before name) ⊎ (after name ≡ Some (Ok bytes))

-- all names lead to what they led to
abbrev pub SameFiles : (List ℕ → Option (Result (List ℕ) FileFault)) → (List ℕ → Option (Result (List ℕ) FileFault)) → Type 0
SameFiles before after = (name : List ℕ) → after name ≡ before name

-- the file with this name holds these bytes after a write, and each other name leads to what it led to, or to these bytes
abbrev pub IsSavedAs : List ℕ → (List ℕ → Option (Result (List ℕ) FileFault)) → (List ℕ → Option (Result (List ℕ) FileFault)) → List ℕ → Type 0
IsSavedAs name before after bytes = IsWritten (before name) (after name) bytes × WritesOneFile before after bytes

-- the file can be read, and P of its bytes, if the store tells them
abbrev pub IfHeld : Option (Result (List ℕ) FileFault) → (List ℕ → Type 0) → Type 0
IfHeld None P = Unit {0}
IfHeld (Some (Ok bytes)) P = P bytes
IfHeld (Some (Err fault)) P = ⊥

-- the file has more bytes than this, if the store tells it
abbrev pub IsLonger : Option (Result (List ℕ) FileFault) → ℕ → Type 0
IsLonger held limit = IfHeld held (λ bytes. limit < length bytes)
