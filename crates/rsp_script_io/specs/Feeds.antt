-- A script that comes in pieces of any size.
use Rattle.std.specs.Prelude.{ℕ, ◌+◌, ◌-◌, List, [], take, length}
use Rattle.rsp_script_io.specs.Lines.{open_after, kept, through_newline}

-- the most bytes of a script: 1 MiB
abbrev pub script_limit : ℕ
script_limit = 1048576

-- what is kept of the bytes that came: of the line that no newline has ended what it takes to answer it, and how many bytes they are
pub record FedBytes : Type 0 where
  pub line : List ℕ
  pub count : ℕ

-- no bytes
abbrev pub no_bytes : FedBytes
no_bytes = record { line = []; count = 0 }

-- how many bytes of a piece are taken by one call: those up to the first newline and with it, of what the limit of a script leaves
abbrev pub taken_of : List ℕ → FedBytes → ℕ
taken_of piece f = through_newline (take (script_limit - f.count) piece)

-- what is kept after a piece more
abbrev pub bytes_after : List ℕ → FedBytes → FedBytes
bytes_after piece f = record { line = kept (open_after f.line piece); count = f.count + length piece }
