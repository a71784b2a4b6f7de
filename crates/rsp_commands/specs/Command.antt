-- What the words of a line ask for.
use Rattle.std.specs.Prelude.{ℕ, true, ◌≡◌, ◌<◌, ◌≤◌, ◌%◌, List, [], ◌∷◌, Option, Some, None, Result, Ok, Err, ok_or, if◌then◌else◌, codes}
use Rattle.arrayvec.specs.ArrayVec.{array_vec_len}
use Rattle.std.specs.List.{list_all}
use Rattle.std.specs.Str.{bytes_eq}
use Rattle.rsp_syntax.specs.Chars.{is_line_byte}
use Rattle.rsp_commands.specs.Operand.{bank_of, ranged_of, instruction_address_of, address_of, bytes_of}
use Rattle.rsp_memory.specs.declared.bank.Bank.{Bank}
use Rattle.rsp_commands.specs.declared.command.Command.{Command}
use Rattle.rsp_commands.specs.declared.command.Command.TheVariants.{Nothing, Load, Step, Run, Break, Unbreak, Watch, Unwatch, Back, Read, Write, SetPc, Task, Show, Asm, BlockLine}
use Rattle.rsp_commands.specs.declared.command.Look.{Look}
use Rattle.rsp_commands.specs.declared.command.Look.TheVariants.{Regs, Vregs, Acc, Flags, Sp, Mem, Dis}
use Rattle.rsp_commands.specs.declared.fault.LineFault.{LineFault}
use Rattle.rsp_commands.specs.declared.fault.LineFault.TheVariants.{BadCommand, BadNumber}

-- a command with two operands, each of which may be bad
abbrev pub with_both : {A B : Type 0} → (A → B → Command) → Option A → Option B → Result Command LineFault
with_both command (Some a) (Some b) = Ok (command a b)
with_both command (Some a) None = Err BadNumber
with_both command None b = Err BadNumber

-- a command on a bank
abbrev pub in_bank : (Bank → Result Command LineFault) → Option Bank → Result Command LineFault
in_bank command (Some bank) = command bank
in_bank command None = Err BadCommand

-- a command without operands
abbrev pub without_operands : Command → List (List ℕ) → Result Command LineFault
without_operands command [] = Ok command
without_operands command (w ∷ ws) = Err BadCommand

-- the only operand, by its meaning
abbrev pub only : (List ℕ → Option ℕ) → List (List ℕ) → Result ℕ LineFault
only meaning [] = Err BadCommand
only meaning (a ∷ []) = ok_or (meaning a) BadNumber
only meaning (a ∷ b ∷ more) = Err BadCommand

-- the only operand, a number from low to high
unfoldable pub one_number : ℕ → ℕ → List (List ℕ) → Result ℕ LineFault
one_number low high = only (ranged_of low high)

-- the only operand, the address of an instruction
unfoldable pub one_address : List (List ℕ) → Result ℕ LineFault
one_address = only instruction_address_of

-- a command of two operands
abbrev pub two_words : (List ℕ → List ℕ → Result Command LineFault) → List (List ℕ) → Result Command LineFault
two_words command [] = Err BadCommand
two_words command (a ∷ []) = Err BadCommand
two_words command (a ∷ b ∷ []) = command a b
two_words command (a ∷ b ∷ c ∷ more) = Err BadCommand

-- a command of a bank and two more operands
abbrev pub on_bank : (Bank → List ℕ → List ℕ → Result Command LineFault) → List (List ℕ) → Result Command LineFault
on_bank command [] = Err BadCommand
on_bank command (bank ∷ ws) = two_words (λ a b. in_bank (λ k. command k a b) (bank_of bank)) ws

-- a command of one operand, which may be bad
abbrev pub with_operand : (ℕ → Command) → Result ℕ LineFault → Result Command LineFault
with_operand command (Ok n) = Ok (command n)
with_operand command (Err fault) = Err fault

-- `load BANK ADDR HEX`
unfoldable pub load : List (List ℕ) → Result Command LineFault
load = on_bank (λ b address hex. with_both (λ a bytes. Load b a bytes) (address_of address) (bytes_of hex))

-- `mem BANK ADDR LEN`
unfoldable pub mem : List (List ℕ) → Result Command LineFault
mem = on_bank (λ b address len. with_both (λ a n. Show (Mem b a n)) (address_of address) (ranged_of 1 256 len))

-- `write N VALUE`
unfoldable pub write : List (List ℕ) → Result Command LineFault
write = two_words (λ register value. with_both (λ n v. Write n v) (ranged_of 0 15 register) (ranged_of 0 4294967295 value))

-- `dis ADDR N`
unfoldable pub dis : List (List ℕ) → Result Command LineFault
dis = two_words (λ address count. with_both (λ a n. Show (Dis a n)) (instruction_address_of address) (ranged_of 1 64 count))

-- `watch ADDR LEN`
unfoldable pub watch : List (List ℕ) → Result Command LineFault
watch = two_words (λ address len. with_both (λ a n. Watch a n) (ranged_of 0 4294967295 address) (ranged_of 0 4294967295 len))

-- ---- the table of commands, by name

-- the commands that show something
unfoldable pub look_named : List ℕ → List (List ℕ) → Result Command LineFault
look_named name operands =
    if bytes_eq name (codes "regs") then without_operands (Show Regs) operands
    else if bytes_eq name (codes "vregs") then without_operands (Show Vregs) operands
    else if bytes_eq name (codes "acc") then without_operands (Show Acc) operands
    else if bytes_eq name (codes "flags") then without_operands (Show Flags) operands
    else if bytes_eq name (codes "sp") then without_operands (Show Sp) operands
    else if bytes_eq name (codes "mem") then mem operands
    else if bytes_eq name (codes "dis") then dis operands
    else Err BadCommand

-- the commands of the debugger, and those that show something
unfoldable pub debug_named : List ℕ → List (List ℕ) → Result Command LineFault
debug_named name operands =
    if bytes_eq name (codes "run") then with_operand (λ n. Run n) (one_number 0 4294967295 operands)
    else if bytes_eq name (codes "break") then with_operand (λ a. Break a) (one_address operands)
    else if bytes_eq name (codes "unbreak") then with_operand (λ a. Unbreak a) (one_address operands)
    else if bytes_eq name (codes "watch") then watch operands
    else if bytes_eq name (codes "unwatch") then with_operand (λ k. Unwatch k) (one_number 0 4294967295 operands)
    else if bytes_eq name (codes "back") then with_operand (λ n. Back n) (one_number 0 4294967295 operands)
    else look_named name operands

-- the command of a name, which is in lower case, with its operands
unfoldable pub command_named : List ℕ → List (List ℕ) → Result Command LineFault
command_named name operands =
    if bytes_eq name (codes "load") then load operands
    else if bytes_eq name (codes "step") then without_operands Step operands
    else if bytes_eq name (codes "read") then with_operand (λ n. Read n) (one_number 0 15 operands)
    else if bytes_eq name (codes "write") then write operands
    else if bytes_eq name (codes "pc") then with_operand (λ a. SetPc a) (one_address operands)
    else if bytes_eq name (codes "task") then with_operand (λ a. Task a) (one_number 0 16777215 operands)
    else if bytes_eq name (codes "asm") then with_operand (λ a. Asm a) (one_address operands)
    else debug_named name operands

-- what the words of a line ask for: the first is the command's name
unfoldable pub command_of_words : List (List ℕ) → Result Command LineFault
command_of_words [] = Ok Nothing
command_of_words (name ∷ operands) = command_named name operands

-- what `parse_line` promises of a look: its operands are in their ranges
abbrev pub IsLook : Look → Type 0
IsLook (Mem bank address len) = (address ≤ 16777215) × (1 ≤ len) × (len ≤ 256)
IsLook (Dis address count) = (address ≤ 4092) × (address % 4 ≡ 0) × (1 ≤ count) × (count ≤ 64)
IsLook _ = Unit {0}

-- what `parse_line` promises of a command: its operands are in their ranges
abbrev pub IsCommand : Command → Type 0
IsCommand (Load bank address bytes) = (address ≤ 16777215) × (0 < array_vec_len bytes)
IsCommand (Read register) = register ≤ 15
IsCommand (Write register value) = register ≤ 15
IsCommand (SetPc address) = (address ≤ 4092) × (address % 4 ≡ 0)
IsCommand (Task address) = address ≤ 16777215
IsCommand (Show look) = IsLook look
IsCommand (Asm address) = (address ≤ 4092) × (address % 4 ≡ 0)
IsCommand (Break address) = (address ≤ 4092) × (address % 4 ≡ 0)
IsCommand (Unbreak address) = (address ≤ 4092) × (address % 4 ≡ 0)
IsCommand (BlockLine line) = list_all is_line_byte line ≡ true
IsCommand _ = Unit {0}
