use Rattle.std.proofs.Common.{inl, inr}
use Rattle.std.proofs.lemmas.Result.{err_from_is_err_and}
use Rattle.rsp_cli_files.specs.Words.{IsTextFault, IsSourceFault}
use Rattle.rsp_cli_files.proofs.Reading.{held_of_whole, held_more, saved_since}
use Rattle.rsp_cli_files.proofs.Texts.{at_origin, text_fault, whole_text, words_saved, words_printed}
use Rattle.rsp_cli_files.proofs.assemble.assemble_file.Goals as goal

pub returns-in_err-text-clause-err : goal.returns-in_err-text-clause-err
returns-in_err-text-clause-err g c =
    let p = err_from_is_err_and c.from_residual-in_err-text.result c.from_residual-in_err-text.ensures.1 in
    rw (p.1, p.2) (inr (inr (inl (held_more _ (λ text. IsTextFault text c.in_err-text.field-0.0) _ (λ text h. inl h)
    (text_fault _ _ _ c.in_err-text.field-0.0 c.as_slice.ensures.value c.in_ok-bytes.ensures.ok c.in_err-text.ensures.err)))))

pub returns-in_err-words-clause-err : goal.returns-in_err-words-clause-err
returns-in_err-words-clause-err g c =
    let p = err_from_is_err_and c.from_residual-in_err-words.result c.from_residual-in_err-words.ensures.1 in
    let whole = whole_text _ _ _ _ c.in_ok-text.ensures.ok c.as_slice.ensures.value c.in_ok-bytes.ensures.ok c.in_ok-text.ensures.few in
    rw (p.1, p.2) (inr (inr (inl (held_of_whole _ c.in_ok-text.text.now _ whole
    (inr (at_origin _ _ (λ origin. IsSourceFault c.in_ok-text.text.now origin c.in_err-words.field-0.0) c.in_ok-origin.ensures.value c.in_err-words.ensures.err))))))

pub returns-in-Ok-clause-words : goal.returns-in-Ok-clause-words
returns-in-Ok-clause-words g c =
    let whole = whole_text _ _ _ _ c.in_ok-text.ensures.ok c.as_slice.ensures.value c.in_ok-bytes.ensures.ok c.in_ok-text.ensures.few in
    words_saved _ _ _ _ _ _ c.in_ok-text.text.now c.in_ok-words.words.items whole c.in_ok-origin.ensures.value c.in_ok-words.ensures.ok
    (saved_since _ _ _ _ _ c.in_ok-bytes.ensures.same (rw c.as_slice-words.ensures.value at c.in_ok-write_words.ensures.ok))

pub returns-in-Ok-clause-printed : goal.returns-in-Ok-clause-printed
returns-in-Ok-clause-printed g c = λ plain.
    let whole = whole_text _ _ _ _ c.in_ok-text.ensures.ok c.as_slice.ensures.value c.in_ok-bytes.ensures.ok c.in_ok-text.ensures.few in
    words_printed _ _ _ _ _ c.in_ok-text.text.now c.in_ok-words.words.items whole c.in_ok-origin.ensures.value c.in_ok-words.ensures.ok
    (rw c.as_slice-words.ensures.value at (c.in-Ok.ensures plain))
