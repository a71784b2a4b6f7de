-- What `rsp asm` and `rsp dis` do with a file.
use Rattle.std.specs.Prelude.{◌≡◌, ◌⊎◌, ◌+◌, ◌*◌, ◌/◌, ◌%◌, ◌<◌, ◌≤◌, ℕ, List, ◌++◌, length, map, drop, codes, decimal, false, Option, None, Some, option_map, MatchOption, Result, Err, MatchResult, string_bytes}
use Rattle.std.specs.List.{range_with_len}
use Rattle.std.specs.Io.KnownBytes.{Appends}
use Rattle.std.specs.Str.{IsUtf8}
use Rattle.byteorder.specs.Endian.{big_number}
use Rattle.rsp_commands.specs.Operand.{instruction_address_of}
use Rattle.rsp_memory.specs.Words.{words_bytes}
use Rattle.rsp_syntax.specs.Disassembly.{listing}
use Rattle.rsp_syntax.specs.SourceLine.{text_of_lines}
use Rattle.rsp_syntax.specs.SourceText.{meaning_of_text}
use Rattle.rsp_cli_args.specs.declared.AssembleFiles.{AssembleFiles}
use Rattle.rsp_cli_args.specs.declared.DisassembleFiles.{DisassembleFiles}
use Rattle.rsp_explain.specs.Said.{AreExplained, IsExplained, text_faults}
use Rattle.rsp_explain.specs.declared.head.Head.{Head}
use Rattle.rsp_cli_files.specs.declared.fault.Fault.{Fault}
use Rattle.rsp_cli_files.specs.declared.fault.Fault.TheVariants.{NoAddress, NotText, ScriptTooLong, OutOfMemory, Source, Explained, WordsSize, RunWrite}
use Rattle.rsp_cli_files.specs.declared.files.FileFault.{FileFault}
use Rattle.rsp_cli_files.specs.Files.{IfHeld, IsSavedAs, SameFiles}
use Rattle.rsp_cli_files.specs.Faults.{IsReadFault, IsWriteFault}

-- the most bytes of a source text
abbrev pub source_limit : ℕ
source_limit = 1048576

-- the address of the first word: what `--at` gives, or 0
abbrev pub origin_of : Option (List ℕ) → Option ℕ
origin_of None = Some 0
origin_of (Some text) = instruction_address_of text

-- `--at` has another value
abbrev pub IsAddressFault : Option (List ℕ) → Fault → Type 0
IsAddressFault at (NoAddress value) = (at ≡ Some value.now) × (origin_of at ≡ None)
IsAddressFault at fault = ⊥

-- P of the address of the first word; there is one
abbrev pub AtOrigin : Option (List ℕ) → (ℕ → Type 0) → Type 0
AtOrigin at P = MatchOption (origin_of at) ⊥ P

-- P of the words that a source text means; it means some
abbrev pub MeansWords : Option (List ℕ) → List ℕ → (List ℕ → Type 0) → Type 0
MeansWords at text P = AtOrigin at (λ origin. MatchResult (meaning_of_text text origin) P (λ _. ⊥))

-- the line that says how many words a text has
abbrev pub count_line : ℕ → List ℕ
count_line n = codes "ok " ++ decimal n ++ codes " words\n"

-- why the bytes of a file are no source text: they are too many, or no UTF-8
abbrev pub IsTextFault : List ℕ → Fault → Type 0
IsTextFault bytes (NotText at) = (length bytes ≤ source_limit) × ¬ IsUtf8 bytes
IsTextFault bytes ScriptTooLong = source_limit < length bytes
IsTextFault bytes fault = ⊥

-- what explains the faults of a source text: it begins with the one for which the assembler refuses the text, and names all as far as twenty
abbrev pub IsTextExplained : List ℕ → ℕ → List ℕ → Type 0
IsTextExplained text origin said = (head : Head) × IsExplained head 0 (meaning_of_text text origin) said × AreExplained head 0 (text_faults text origin) said

-- why a source text isn't assembled: by its fault, which may be explained, or for want of memory
abbrev pub IsSourceFault : List ℕ → ℕ → Fault → Type 0
IsSourceFault text origin (Source fault) = meaning_of_text text origin ≡ Err fault
IsSourceFault text origin (Explained said) = MatchResult (meaning_of_text text origin) (λ _. ⊥) (λ _. IsTextExplained text origin (string_bytes said))
IsSourceFault text origin OutOfMemory = Unit {0}
IsSourceFault text origin fault = ⊥

-- the words of a file, the highest byte of each first
abbrev pub words_of : List ℕ → List ℕ
words_of bytes = map (λ k. big_number 4 (drop (4 * k) bytes)) (range_with_len 0 (length bytes / 4))

-- the file has whole words, and they fit from the address on to the end of IMEM
abbrev pub FitsImem : ℕ → List ℕ → Type 0
FitsImem origin bytes = (length bytes % 4 ≡ 0) × (origin + length bytes ≤ 4096)

-- an assembly that is done: OUT holds the bytes of the words that the source text means, and without a listing their number is printed
abbrev pub IsAssembled : AssembleFiles → (before after : List ℕ → Option (Result (List ℕ) FileFault)) → (output written : Option (List ℕ)) → Type 0
IsAssembled asked before after output written = IfHeld (before asked.source.now) (λ text. MeansWords (option_map (λ t. t.now) asked.at) text (λ words.
    IsSavedAs asked.out.now before after (words_bytes words)))
    × (asked.with_listing ≡ false → IfHeld (before asked.source.now) (λ text. MeansWords (option_map (λ t. t.now) asked.at) text (λ words.
    Appends output written (count_line (length words)))))

-- a disassembly that is done: the words fit IMEM, and without a listing and labels the text of each is printed; no file has changed
abbrev pub IsDisassembled : DisassembleFiles → (before after : List ℕ → Option (Result (List ℕ) FileFault)) → (output written : Option (List ℕ)) → Type 0
IsDisassembled asked before after output written = IfHeld (before asked.words.now) (λ bytes. AtOrigin (option_map (λ t. t.now) asked.at) (λ origin. FitsImem origin bytes))
    × (asked.with_labels ≡ false → asked.with_listing ≡ false → IfHeld (before asked.words.now) (λ bytes. AtOrigin (option_map (λ t. t.now) asked.at) (λ origin.
    Appends output written (text_of_lines (listing origin (words_of bytes))))))
    × SameFiles before after

-- why `rsp asm` fails: the address, the file that is read, its text, the file that is written, or standard output
abbrev pub IsAssembleFault : Option (List ℕ) → List ℕ → List ℕ → Option (Result (List ℕ) FileFault) → Fault → Type 0
IsAssembleFault at source out held fault = IsAddressFault at fault ⊎ IsReadFault source held fault
    ⊎ IfHeld held (λ text. IsTextFault text fault ⊎ AtOrigin at (λ origin. IsSourceFault text origin fault))
    ⊎ IsWriteFault out fault ⊎ (fault ≡ RunWrite)

-- the file has another size, which the fault names
abbrev pub IsSizeFault : Option (List ℕ) → List ℕ → Option (Result (List ℕ) FileFault) → Fault → Type 0
IsSizeFault at name held (WordsSize size room) = (size.name.now ≡ name) × IfHeld held (λ bytes. AtOrigin at (λ origin. ¬ FitsImem origin bytes))
IsSizeFault at name held fault = ⊥

-- why `rsp dis` fails: the address, the file that is read, its size, or standard output
abbrev pub IsDisassembleFault : Option (List ℕ) → List ℕ → Option (Result (List ℕ) FileFault) → Fault → Type 0
IsDisassembleFault at name held fault = IsAddressFault at fault ⊎ IsReadFault name held fault
    ⊎ IsSizeFault at name held fault ⊎ (fault ≡ RunWrite)
