-- The text and the words of a file.
use Rattle.std.proofs.Common.{◌≡◌, ◌<◌, ◌≤◌, ◌∙◌, ◌*◌, ◌/◌, ℕ, suc, List, length, drop, Option, None, Some, Result, Ok, Err, MatchResult, OnOk, sym, subst, zero-add, arith}
use Rattle.std.proofs.lemmas.List.{ext_get_or, take_all}
use Rattle.std.proofs.lemmas.List.FromFn.{get_or-map-range_with_len, length-map-range_with_len}
use Rattle.byteorder.specs.Endian.{big_number, IsRead}
use Rattle.std.specs.Io.KnownBytes.{Appends}
use Rattle.rsp_memory.specs.Words.{words_bytes}
use Rattle.rsp_syntax.specs.Disassembly.{listing}
use Rattle.rsp_syntax.specs.SourceLine.{text_of_lines}
use Rattle.rsp_syntax.specs.SourceText.{meaning_of_text}
use Rattle.rsp_cli_files.specs.declared.fault.Fault.{Fault}
use Rattle.rsp_cli_files.specs.declared.fault.Fault.TheVariants as faults
use Rattle.rsp_cli_files.specs.declared.files.FileFault.{FileFault}
use Rattle.rsp_cli_files.specs.Files.{BeginsWith, Holds, IfHeld, IsSavedAs}
use Rattle.rsp_cli_files.specs.Words.{source_limit, origin_of, count_line, AtOrigin, MeansWords, IsTextFault, words_of, FitsImem}
use Rattle.rsp_cli_files.proofs.Reading.{whole_of_first, longer_of_first, held_of_whole}

-- what holds at the address of the first word
pub at_origin : (at : Option (List ℕ)) (origin : ℕ) (P : ℕ → Type 0) → origin_of at ≡ Some origin → P origin → AtOrigin at P
at_origin at origin P is p = rw is p

-- what holds of the words that a text means
means_words : (at : Option (List ℕ)) (origin : ℕ) (text words : List ℕ) (P : List ℕ → Type 0) → origin_of at ≡ Some origin → meaning_of_text text origin ≡ Ok words → P words → MeansWords at text P
means_words at origin text words P is means p = at_origin at origin (λ o. MatchResult (meaning_of_text text o) P (λ _. ⊥)) is (rw means p)

-- the words that the text of a file means are saved
pub words_saved : (held : Option (Result (List ℕ) FileFault)) (at : Option (List ℕ)) (out : List ℕ) (before after : List ℕ → Option (Result (List ℕ) FileFault)) (origin : ℕ) (text words : List ℕ)
    → Holds held (Ok text) → origin_of at ≡ Some origin → meaning_of_text text origin ≡ Ok words → IsSavedAs out before after (words_bytes words)
    → IfHeld held (λ t. MeansWords at t (λ ws. IsSavedAs out before after (words_bytes ws)))
words_saved held at out before after origin text words whole is means saved =
    let P : List ℕ → Type 0 = λ ws. IsSavedAs out before after (words_bytes ws) in
    held_of_whole held text (λ t. MeansWords at t P) whole (means_words at origin text words P is means saved)

-- how many they are is printed
pub words_printed : (held : Option (Result (List ℕ) FileFault)) (at : Option (List ℕ)) (old new : Option (List ℕ)) (origin : ℕ) (text words : List ℕ)
    → Holds held (Ok text) → origin_of at ≡ Some origin → meaning_of_text text origin ≡ Ok words → Appends old new (count_line (length words))
    → IfHeld held (λ t. MeansWords at t (λ ws. Appends old new (count_line (length ws))))
words_printed held at old new origin text words whole is means printed =
    let P : List ℕ → Type 0 = λ ws. Appends old new (count_line (length ws)) in
    held_of_whole held text (λ t. MeansWords at t P) whole (means_words at origin text words P is means printed)

-- the numbers that are read of a file are its words
pub words_read : (bytes words : List ℕ) → length words ≡ length bytes / 4 → IsRead big_number 4 bytes words → words ≡ words_of bytes
words_read bytes words count read =
    let number : ℕ → ℕ = λ k. big_number 4 (drop (4 * k) bytes) in
    ext_get_or 0 words (words_of bytes) (count ∙ sym (length-map-range_with_len number 0 (length bytes / 4)))
    (λ i h. let inside : i < length bytes / 4 = omega (arith, count) in read i h ∙ sym (get_or-map-range_with_len number 0 (length bytes / 4) i i 0 inside (zero-add i)))

-- what is no text among the first bytes of a file is none as a whole
pub text_fault : (held : Option (Result (List ℕ) FileFault)) (shown bytes : List ℕ) (fault : Fault) → shown ≡ bytes → BeginsWith held (suc source_limit) bytes → IsTextFault shown fault → IfHeld held (λ text. IsTextFault text fault)
text_fault held shown bytes (faults.NotText at) same first (few, bad) =
    held_of_whole held shown (λ text. IsTextFault text (faults.NotText at)) (rw same (whole_of_first held source_limit bytes first (rw same at few))) (few, bad)
text_fault held shown bytes faults.ScriptTooLong same first more = longer_of_first held source_limit bytes first (rw same at more)
text_fault held shown bytes fault same first h = absurd h

-- a text that is the first bytes of a file, and no more than it may have, is all of it
pub whole_text : (held : Option (Result (List ℕ) FileFault)) (text shown bytes : List ℕ) → text ≡ shown → shown ≡ bytes → BeginsWith held (suc source_limit) bytes → length shown ≤ source_limit → Holds held (Ok text)
whole_text held text shown bytes same read first few = rw (same, read) (whole_of_first held source_limit bytes first (rw read at few))

-- the words that were read of a file are printed
pub listing_printed : {E : Type 0} (origin : ℕ) (bytes words : List ℕ) (printed : Result (Unit {0}) E) (old new : Option (List ℕ)) → length words ≡ length bytes / 4 → IsRead big_number 4 bytes words
    → OnOk printed (Appends old new (text_of_lines (listing origin words))) → OnOk printed (Appends old new (text_of_lines (listing origin (words_of bytes))))
listing_printed origin bytes words printed old new count read shown =
    subst (λ (ws : List ℕ). OnOk printed (Appends old new (text_of_lines (listing origin ws)))) (words_read bytes words count read) shown

-- a file whose first bytes don't fit doesn't fit as a whole
pub misfit : (held : Option (Result (List ℕ) FileFault)) (at : Option (List ℕ)) (origin : ℕ) (bytes : List ℕ) → BeginsWith held 4097 bytes → origin_of at ≡ Some origin → ¬ FitsImem origin bytes
    → IfHeld held (λ b. AtOrigin at (λ o. ¬ FitsImem o b))
misfit None at origin bytes first is bad = tt
misfit (Some (Ok held)) at origin bytes first is bad =
    at_origin at origin (λ o. ¬ FitsImem o held) is (λ fits. bad (rw (first ∙ take_all 4097 held (omega (arith, fits.1))) fits))
misfit (Some (Err fault)) at origin bytes first is bad = absurd first

-- a file that was read as a whole fits, and is printed
pub fits_whole : (held : Option (Result (List ℕ) FileFault)) (at : Option (List ℕ)) (origin : ℕ) (bytes : List ℕ) → BeginsWith held 4097 bytes → origin_of at ≡ Some origin → FitsImem origin bytes
    → IfHeld held (λ b. AtOrigin at (λ o. FitsImem o b))
fits_whole held at origin bytes first is fits =
    held_of_whole held bytes (λ b. AtOrigin at (λ o. FitsImem o b)) (whole_of_first held 4096 bytes first (omega (arith, fits.1))) (at_origin at origin (λ o. FitsImem o bytes) is fits)

pub printed_whole : (held : Option (Result (List ℕ) FileFault)) (at : Option (List ℕ)) (origin : ℕ) (bytes : List ℕ) (old new : Option (List ℕ)) → BeginsWith held 4097 bytes → origin_of at ≡ Some origin → FitsImem origin bytes
    → Appends old new (text_of_lines (listing origin (words_of bytes))) → IfHeld held (λ b. AtOrigin at (λ o. Appends old new (text_of_lines (listing o (words_of b)))))
printed_whole held at origin bytes old new first is fits printed =
    let shown : ℕ → List ℕ → Type 0 = λ o b. Appends old new (text_of_lines (listing o (words_of b))) in
    held_of_whole held bytes (λ b. AtOrigin at (λ o. shown o b)) (whole_of_first held 4096 bytes first (omega (arith, fits.1))) (at_origin at origin (λ o. shown o bytes) is printed)
