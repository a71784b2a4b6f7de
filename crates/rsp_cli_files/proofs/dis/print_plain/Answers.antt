use Rattle.std.proofs.Common.{◌≡◌, ◌∙◌, ◌+◌, ◌*◌, ◌<◌, ◌++◌, ℕ, List, [], ◌∷◌, length, drop, get_or, append_assoc, add-one, drop-cons, arith}
use Rattle.std.proofs.KnownBytes.{Appends-trans}
use Rattle.rsp_syntax.specs.SourceLine.{text_of_lines}
use Rattle.rsp_syntax.specs.Disassembly.{listing, disassembly}
use Rattle.rsp_cli_files.proofs.dis.print_plain.Goals as goal

-- one word more of a listing
more : (origin address i : ℕ) (words printed whole : List ℕ) → i < length words → address ≡ origin + 4 * i
    → printed ++ text_of_lines (listing (origin + 4 * i) (drop i words)) ≡ whole
    → (printed ++ (disassembly (get_or words i 0) address ++ 10 ∷ [])) ++ text_of_lines (listing (origin + 4 * (i + 1)) (drop (i + 1) words)) ≡ whole
more origin address i words printed whole inside at all =
    let next : origin + 4 * (i + 1) ≡ origin + 4 * i + 4 = omega arith in
    let split : drop i words ≡ get_or words i 0 ∷ drop (i + 1) words = rw add-one (drop-cons words i 0 inside) in
    let before : printed ++ text_of_lines (listing (origin + 4 * i) (get_or words i 0 ∷ drop (i + 1) words)) ≡ whole = rw split at all in
    rw (at, next) (append_assoc printed (disassembly (get_or words i 0) (origin + 4 * i) ++ 10 ∷ []) _ ∙ before)

pub loop-index-preserved : goal.loop-index-preserved
loop-index-preserved g c = λ room plain.
    let before = c.loop-index.invariant room plain in
    let inside : c.loop-index.index < length c.args.words.now = omega arith in
    let at : c.address_of-address.result ≡ c.args.origin + 4 * c.loop-index.index = c.address_of-address.ensures.value (omega arith) in
    let text = c.as_str.ensures.value ∙ c.text_of-text.ensures in (
      before.0 ++ (disassembly (get_or c.args.words.now c.loop-index.index 0) c.address_of-address.result ++ 10 ∷ []),
      Appends-trans _ _ _ _ _ before.1 (Appends-trans _ _ _ _ _ (rw text at (c.in_ok-print_word.ensures plain)) c.in_ok-writeln.ensures.bytes),
      more c.args.origin _ c.loop-index.index c.args.words.now before.0 _ inside at before.2,
    )
