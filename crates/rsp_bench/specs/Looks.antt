-- The texts that show parts of a state, a line each.
use Rattle.std.specs.Prelude.{ℕ, ℤ, ◌+◌, ◌*◌, ◌/◌, List, [], ◌∷◌, ◌++◌, take, drop, length, codes, slice_index, if◌then◌else◌}
use Rattle.std.specs.List.{flat_map}
use Rattle.hex.specs.Hex.{encode_lower}
use Rattle.rsp_scalar.specs.Registers.{register}
use Rattle.rsp_loadstore.specs.File.{vector}
use Rattle.rsp_lanes.specs.declared.flags.Flags.{Flags}
use Rattle.rsp_lanes.specs.Flags.{vco, vcc}
use Rattle.rsp_divide.specs.declared.divider.Divider.{Divider}
use Rattle.rsp_numbers.specs.Numbers.{number, high, middle, low}
use Rattle.std.specs.Simd.Lanes.{mask_l}
use Rattle.rsp_regs.specs.Sp.{Sp, read_value}
use Rattle.rsp_machine.specs.State.{State}
use Rattle.rsp_debug.specs.Queries.{ListedWord}
use Rattle.rsp_script_io.specs.Text.{hex_text, two_digits, short_decimal, each_text}

-- a space and a word
unfoldable pub word_text : ℕ → List ℕ
word_text n = 32 ∷ hex_text 8 n

-- `rNN` and the words of four registers; `words` gives the word of each
unfoldable pub register_line : (ℕ → ℕ) → ℕ → List ℕ
register_line words k = codes "r" ++ two_digits (4 * k) ++ each_text (λ j. word_text (words (4 * k + j))) 4 ++ 10 ∷ []

-- `pc PPP npc PPP`, and the 32 registers
unfoldable pub registers_text : State → List ℕ
registers_text s =
    codes "pc " ++ hex_text 3 s.pc ++ codes " npc " ++ hex_text 3 s.npc ++ 10 ∷ []
    ++ each_text (register_line (register s.registers)) 8

-- `cN WWWWWWWW`
unfoldable pub sp_line : ℕ → ℕ → List ℕ
sp_line n value = codes "c" ++ short_decimal n ++ word_text value ++ 10 ∷ []

-- the sixteen SP registers, as reads would return them, and the interrupt flag
unfoldable pub sp_text : Sp → List ℕ
sp_text sp =
    each_text (λ n. sp_line n (read_value n sp)) 16 ++ codes "interrupt " ++ (if sp.interrupt then 49 else 48) ∷ 10 ∷ []

-- an address, and the bytes there
unfoldable pub dump_line : ℕ → List ℕ → List ℕ
dump_line a bytes = hex_text 6 a ++ codes ": " ++ encode_lower bytes ++ 10 ∷ []

-- the bytes at an address, at most 16 in a line
unfoldable pub dump_text : ℕ → List ℕ → List ℕ
dump_text a bytes = each_text (λ k. dump_line (a + 16 * k) (take 16 (drop (16 * k) bytes))) ((length bytes + 15) / 16)

-- an address in IMEM, its word, and the disassembly of the word
unfoldable pub listed_line : ListedWord → List ℕ
listed_line w = hex_text 3 w.place ++ word_text w.word ++ 32 ∷ w.text ++ 10 ∷ []

-- words of IMEM, a line each
unfoldable pub listing_text : List ListedWord → List ℕ
listing_text words = flat_map listed_line words

-- a space and sixteen bits
unfoldable pub half_text : ℕ → List ℕ
half_text n = 32 ∷ hex_text 4 n

-- `vNN` and the eight lanes of a register
unfoldable pub vector_line : ℕ → List ℕ → List ℕ
vector_line n v = codes "v" ++ two_digits n ++ each_text (λ i. half_text (slice_index v i)) 8 ++ 10 ∷ []

-- the 32 vector registers
unfoldable pub vectors_text : List (List ℕ) → List ℕ
vectors_text file = each_text (λ n. vector_line n (vector file n)) 32

-- `aN`, and the high, middle and low sixteen bits of an accumulator
unfoldable pub accumulator_line : ℕ → ℕ → ℕ → ℕ → List ℕ
accumulator_line i high_bits middle_bits low_bits =
    codes "a" ++ short_decimal i ++ 32 ∷ hex_text 4 high_bits ++ hex_text 4 middle_bits ++ hex_text 4 low_bits ++ 10 ∷ []

-- the eight accumulators
unfoldable pub accumulators_text : List ℤ → List ℕ
accumulators_text xs =
    each_text (λ i. accumulator_line i (high (number xs i)) (middle (number xs i)) (low (number xs i))) 8

-- the control registers, and the divider
unfoldable pub flags_text : Flags → Divider → List ℕ
flags_text f d =
    codes "vco " ++ hex_text 4 (vco f) ++ codes " vcc " ++ hex_text 4 (vcc f)
    ++ codes " vce " ++ hex_text 2 (mask_l f.extra) ++ codes " in " ++ hex_text 4 d.input ++ codes " out " ++ hex_text 4 d.output
    ++ codes " loaded " ++ (if d.loaded then 49 else 48) ∷ 10 ∷ []
