-- What the operands of a command mean. A number out of its range and bad bytes are None.
use Rattle.std.specs.Prelude.{ℕ, ◌%◌, List, [], ◌∷◌, Option, Some, None, Result, Ok, Err, if◌then◌else◌, nat_le, ◌==◌, ◌&&◌, codes}
use Rattle.std.specs.Str.{bytes_eq}
use Rattle.arrayvec.specs.ArrayVec.{ArrayVec}
use Rattle.hex.specs.Hex.{decode_of}
use Rattle.hex.specs.declared.error.FromHexError.{FromHexError}
use Rattle.rsp_commands.specs.Number.{number_of}
use Rattle.rsp_memory.specs.declared.bank.Bank.{Bank}
use Rattle.rsp_memory.specs.declared.bank.Bank.TheVariants.{Dmem, Imem, Rdram}

-- the bank that a word names, in lower case
unfoldable pub bank_of : List ℕ → Option Bank
bank_of word =
    if bytes_eq word (codes "dmem") then Some Dmem
    else if bytes_eq word (codes "imem") then Some Imem
    else if bytes_eq word (codes "rdram") then Some Rdram
    else None

-- a number, if it is from low to high
abbrev pub in_range : ℕ → ℕ → Option ℕ → Option ℕ
in_range low high None = None
in_range low high (Some n) = if nat_le low n && nat_le n high then Some n else None

-- a word that is a number from low to high
unfoldable pub ranged_of : ℕ → ℕ → List ℕ → Option ℕ
ranged_of low high word = in_range low high (number_of word)

-- a number, if it is a multiple of 4
abbrev pub aligned : Option ℕ → Option ℕ
aligned None = None
aligned (Some n) = if n % 4 == 0 then Some n else None

-- a word that is the address of an instruction: a multiple of 4 from 0 to 4092
unfoldable pub instruction_address_of : List ℕ → Option ℕ
instruction_address_of word = aligned (ranged_of 0 4092 word)

-- a word that is an address in a bank
abbrev pub address_of : List ℕ → Option ℕ
address_of word = ranged_of 0 16777215 word

-- one or more bytes
abbrev pub some_bytes : Result (List ℕ) FromHexError → Option (ArrayVec ℕ)
some_bytes (Ok []) = None
some_bytes (Ok (b ∷ bs)) = Some (record { items = b ∷ bs })
some_bytes (Err fault) = None

-- a word that is one or more bytes, each of two hexadecimal digits in either case
unfoldable pub bytes_of : List ℕ → Option (ArrayVec ℕ)
bytes_of word = some_bytes (decode_of word)
