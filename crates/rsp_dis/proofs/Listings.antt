-- A listing means its words.
use Rattle.std.proofs.Common.{◌≡◌, refl, sym, ap, ◌∙◌, subst, ℕ, zero, suc, ◌+◌, ◌*◌, ◌%◌, ◌<◌, ◌≤◌, List, [], ◌∷◌, ◌++◌, length, take, get_or, arith, true}
use Rattle.std.specs.Prelude.{None, Ok}
use Rattle.std.specs.List.{All, list_all}
use Rattle.std.proofs.Math.Seq.{take-suc, take-length}
use Rattle.std.proofs.lemmas.Bool.{and_from}
use Rattle.std.proofs.lemmas.List.{append-nil}
use Rattle.rsp_syntax.specs.Chars.{is_line_byte}
use Rattle.rsp_syntax.specs.SourceLine.{first_fault, line_words, text_of_lines}
use Rattle.rsp_syntax.specs.SourceText.{line_at, address_of_line, labelled, labels_before, fault_of_line, words_of_line, or_fault, fault_before, and_words, words_before, unless, meaning_of_lines, meaning_of_text}
use Rattle.rsp_syntax.specs.Disassembly.{disassembly, listing}
use Rattle.rsp_syntax.proofs.TextLines.{lines_back}
use Rattle.rsp_dis.proofs.Words.{Gives, spelled_gives}

abbrev AreWords : List ℕ → Type 0
AreWords ws = All (λ w. w < 4294967296) ws

length_listing : (address : ℕ) (ws : List ℕ) → length (listing address ws) ≡ length ws
length_listing address [] = refl
length_listing address (w ∷ ws) = let more = length_listing (address + 4) ws in omega (arith, more)

line_of : (address : ℕ) (ws : List ℕ) (k : ℕ) → k < length ws → line_at (listing address ws) k ≡ disassembly (get_or ws k 0) (address + 4 * k)
line_of address [] k lt = absurd (omega arith)
line_of address (w ∷ ws) zero lt = ap (disassembly w) (omega arith)
line_of address (w ∷ ws) (suc k) lt = line_of (address + 4) ws k (omega arith) ∙ ap (disassembly (get_or ws k 0)) (omega arith)

module _ (origin : ℕ) (aligned : origin % 4 ≡ 0) (ws : List ℕ) (room : origin + 4 * length ws ≤ 4096) (h : AreWords ws) where
  abbrev ls : List (List ℕ)
  ls = listing origin ws

  at : (k : ℕ) → k < length ws → Gives (line_at ls k) (origin + 4 * k) (get_or ws k 0)
  at k lt =
      subst (λ l. Gives l (origin + 4 * k) (get_or ws k 0)) (sym (line_of origin ws k lt))
      (spelled_gives (get_or ws k 0) (origin + 4 * k) (omega (arith, aligned)) (h k 0 lt) (omega (arith, room, lt)))

  place_is : (k : ℕ) → k ≤ length ws → address_of_line origin ls k ≡ origin + 4 * k
  place_is zero le = omega arith
  place_is (suc k) le =
      let here = place_is k (omega arith) in
      let g = at k (omega arith) in
      omega (arith, here, g.one_word)

  no_labels : (k : ℕ) → k ≤ length ws → labels_before origin ls k ≡ []
  no_labels zero le = refl
  no_labels (suc k) le =
      let g = at k (omega arith) in
      ap (λ o. labels_before origin ls k ++ labelled o (address_of_line origin ls k)) g.no_label ∙ append-nil (labels_before origin ls k) ∙ no_labels k (omega arith)

  no_fault : (k : ℕ) → k ≤ length ws → fault_before origin ls k ≡ None
  no_fault zero le = refl
  no_fault (suc k) le =
      let g = at k (omega arith) in
      ap (λ o. or_fault o (suc k) (fault_of_line origin ls k)) (no_fault k (omega arith))
      ∙ ap (λ t. or_fault None (suc k) (first_fault t (address_of_line origin ls k) (line_at ls k))) (no_labels k (omega arith))
      ∙ ap (λ p. or_fault None (suc k) (first_fault [] p (line_at ls k))) (place_is k (omega arith))
      ∙ ap (or_fault None (suc k)) g.no_fault

  words_are : (k : ℕ) → k ≤ length ws → words_before [] origin ls k ≡ Ok (take k ws)
  words_are zero le = refl
  words_are (suc k) le =
      let g = at k (omega arith) in
      ap (λ o. and_words o (suc k) (words_of_line [] origin ls k)) (words_are k (omega arith))
      ∙ ap (λ p. and_words (Ok (take k ws)) (suc k) (line_words [] p (line_at ls k))) (place_is k (omega arith))
      ∙ ap (and_words (Ok (take k ws)) (suc k)) g.gives
      ∙ ap Ok (sym (take-suc ws k 0 (omega arith)))

  pub listing_means : meaning_of_lines ls origin ≡ Ok ws
  listing_means =
      let n = length ws in
      ap (λ k. unless (fault_before origin ls k) (words_before (labels_before origin ls k) origin ls k)) (length_listing origin ws)
      ∙ ap (λ o. unless o (words_before (labels_before origin ls n) origin ls n)) (no_fault n (omega arith))
      ∙ ap (λ t. words_before t origin ls n) (no_labels n (omega arith))
      ∙ words_are n (omega arith)
      ∙ ap Ok (take-length ws)

all_plain : (address : ℕ) (ws : List ℕ) → AreWords ws → address % 4 ≡ 0 → address + 4 * length ws ≤ 4096 → list_all (list_all is_line_byte) (listing address ws) ≡ true
all_plain address [] h aligned room = refl
all_plain address (w ∷ ws) h aligned room =
    let g = let word : w < 4294967296 = h 0 w (omega arith) in spelled_gives w address aligned word (omega arith) in
    and_from _ _ g.plain (all_plain (address + 4) ws (λ k d lt. h (suc k) d (omega arith)) (omega arith) (omega arith))

pub text_means : (origin : ℕ) → origin % 4 ≡ 0 → (ws : List ℕ) → origin + 4 * length ws ≤ 4096 → AreWords ws → meaning_of_text (text_of_lines (listing origin ws)) origin ≡ Ok ws
text_means origin aligned ws room h =
    ap (λ ls. meaning_of_lines ls origin) (lines_back (listing origin ws) (all_plain origin ws h aligned room)) ∙ listing_means origin aligned ws room h
