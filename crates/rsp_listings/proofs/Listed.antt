-- What the text of a listing means.
use Rattle.std.proofs.Common.{◌≡◌, ◌∙◌, sym, ap, subst, ℕ, ◌+◌, ◌*◌, ◌%◌, ◌<◌, ◌≤◌, List, [], length, Bool, true, false, Fits, w32}
use Rattle.std.specs.Prelude.{slice_index_or, Result, Ok, Err}
use Rattle.std.specs.List.{All}
use Rattle.std.proofs.lemmas.Bool.{false≢true}
use Rattle.std.proofs.lemmas.List.{get_or_default}
use Rattle.rsp_syntax.specs.declared.fault.AsmFault.{AsmFault}
use Rattle.rsp_syntax.specs.SourceText.{meaning_of_text}
use Rattle.rsp_syntax.specs.SourceLine.{text_of_lines}
use Rattle.rsp_syntax.specs.Disassembly.{listing}
use Rattle.rsp_dis.proofs.Listings.{text_means}

abbrev words_in : Result (List ℕ) AsmFault → List ℕ
words_in (Ok ws) = ws
words_in (Err fault) = []

abbrev has_words : Result (List ℕ) AsmFault → Bool
has_words (Ok ws) = true
has_words (Err fault) = false

module _ (origin : ℕ) (aligned : origin % 4 ≡ 0) (text ws : List ℕ) (lists : text ≡ text_of_lines (listing origin ws)) (room : origin + 4 * length ws ≤ 4096) (fits : (i : ℕ) → Fits w32 (slice_index_or ws i 0)) where
  all : All (λ w. w < 4294967296) ws
  all k d lt = subst (λ w. w < 4294967296) (get_or_default ws k 0 d lt) (fits k).fits

  meant : meaning_of_text text origin ≡ Ok ws
  meant = ap (λ t. meaning_of_text t origin) lists ∙ text_means origin aligned ws room all

  pub gives_words : (again : List ℕ) → meaning_of_text text origin ≡ Ok again → again ≡ ws
  gives_words again e = ap words_in (sym e ∙ meant)

  pub gives_no_fault : (fault : AsmFault) → meaning_of_text text origin ≡ Err fault → ⊥
  gives_no_fault fault e = false≢true (ap has_words (sym e ∙ meant))
