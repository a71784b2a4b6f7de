-- Numbers in a script.
use Rattle.std.specs.Prelude.{ℕ, List, Option, None, if◌then◌else◌, nat_le, length}
use Rattle.rsp_syntax.specs.Numbers.{unsigned_of}

-- a word that is a number: 1 to 10 decimal digits, or `0x` and 1 to 8 hexadecimal digits, so at most 10 bytes
unfoldable pub number_of : List ℕ → Option ℕ
number_of word = if nat_le (length word) 10 then unsigned_of word else None
