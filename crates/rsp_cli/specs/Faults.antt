-- The faults among the replies of a run.
use Rattle.std.specs.Prelude.{◌≡◌, ℕ, ◌<◌, List, Bool, slice_index, nat_lt, ◌&&◌, ◌+◌, ◌-◌, ◌^◌, ◌==◌, min, length, take, codes, if◌then◌else◌, string_bytes, Option}
use Rattle.std.specs.Str.{bytes_eq, IsTrimAsciiEnd}
use Rattle.std.specs.Str.Lossy.{utf8_lossy}
use Rattle.rsp_cli_files.specs.declared.fault.Fault.{Fault}
use Rattle.rsp_cli_files.specs.declared.fault.Fault.TheVariants.{Replies, OutOfMemory}

-- a reply is a fault if it begins so
abbrev pub is_fault : List ℕ → Bool
is_fault reply = bytes_eq (take 6 reply) (codes "fault ")

-- how many replies were faults, and the first 64 bytes of the first one
pub record NotedFaults : Type 0 where
  pub count : ℕ
  pub first : List ℕ

-- the same after one more reply
abbrev pub after_reply : List ℕ → NotedFaults → NotedFaults
after_reply reply n = if is_fault reply then record {
  count = min (n.count + 1) (2 ^ 64 - 1);
  first = if n.count == 0 then take (min (length reply) 64) reply else n.first;
} else n

-- the faults after a write of some bytes, of which n were taken: they are those of a reply if a line begins with them
abbrev pub after_write : List ℕ → ℕ → Bool → NotedFaults → NotedFaults
after_write bytes n is_line_start f = if nat_lt 0 n && is_line_start then after_reply bytes f else f

-- whether the next write begins a line: the last byte that was taken is a newline, and if none was taken, nothing changes
abbrev pub starts_line : List ℕ → ℕ → Bool → Bool
starts_line bytes n is_line_start = if n == 0 then is_line_start else slice_index bytes (n - 1) == 10

-- the text is how the first fault begins, without the newline at its end
abbrev pub IsFirst : List ℕ → List ℕ → Type 0
IsFirst text first = (line : List ℕ) × IsTrimAsciiEnd first line × (text ≡ utf8_lossy line)

-- why a strict run with these faults is refused: by their number, the line of the first one, if it is known, and its text, or for want
-- of memory for this text
abbrev pub IsRefusal : NotedFaults → Option ℕ → Fault → Type 0
IsRefusal n at (Replies count line first) = (0 < n.count) × (count ≡ n.count) × (line ≡ at) × IsFirst (string_bytes first) n.first
IsRefusal n at OutOfMemory = 0 < n.count
IsRefusal n at fault = ⊥
