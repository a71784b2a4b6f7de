-- The words of a line, one at a time.
use Rattle.std.proofs.Common.{◌≡◌, ℕ, ◌+◌, ◌<◌, true, false, List, [], ◌∷◌, length, take, drop, get_or, refl, arith, sym, ◌∙◌, ap, not, length-take, take_all, inl, inr}
use Rattle.std.proofs.lemmas.List.{drop_more, drop_all}
use Rattle.std.specs.Prelude.{filter}
use Rattle.std.proofs.lemmas.Grind.{common_steps}
use Rattle.std.proofs.lemmas.Bool.{cond-true, cond-false, cases_Bool}
use Rattle.std.specs.List.{slice_split, position_or_len, before_first, after_first}
use Rattle.std.proofs.lemmas.List.Splits.{slice_split_first, slice_split_none, slice_split-cons_yes}
use Rattle.std.proofs.lemmas.List.Sums.{fails_before_first, passes_at_first, prefix_len-le-length}
use Rattle.rsp_syntax.specs.Chars.{is_blank, skip_blanks}
use Rattle.rsp_commands.specs.LineWords.{is_word, words_in}

-- a blank in front makes no word
words-blank : (b : ℕ) (bs : List ℕ) → is_blank b ≡ true → words_in (b ∷ bs) ≡ words_in bs
words-blank b bs h = ap (filter is_word) (slice_split-cons_yes is_blank b bs h)

-- a part that isn't empty is a word
keeps-word : (w : List ℕ) (parts : List (List ℕ)) → 0 < length w → filter is_word (w ∷ parts) ≡ w ∷ filter is_word parts
keeps-word [] parts h = absurd (omega arith)
keeps-word (b ∷ bs) parts h = grind (arith, common_steps)

-- a first word with a blank after it
first-inside : (bs : List ℕ) → 0 < position_or_len is_blank bs → position_or_len is_blank bs < length bs
    → words_in bs ≡ take (position_or_len is_blank bs) bs ∷ words_in (drop (position_or_len is_blank bs) bs)
first-inside bs h lt =
    let n : ℕ = position_or_len is_blank bs in
    let cut : words_in bs ≡ take n bs ∷ words_in (drop (n + 1) bs) =
    ap (filter is_word) (slice_split_first is_blank bs 0 lt)
    ∙ keeps-word (before_first is_blank bs) (slice_split is_blank (after_first is_blank bs)) (simp length-take (omega arith)) in
    let rest : words_in (drop n bs) ≡ words_in (drop (n + 1) bs) =
    rw (drop_more bs n 0 lt) (words-blank (get_or bs n 0) (drop (n + 1) bs) (passes_at_first is_blank bs 0 lt)) in
    cc

-- a word alone
first-all : (bs : List ℕ) → 0 < length bs → position_or_len is_blank bs ≡ length bs
    → words_in bs ≡ take (position_or_len is_blank bs) bs ∷ words_in (drop (position_or_len is_blank bs) bs)
first-all bs h e =
    rw (e, take_all (length bs) bs (omega arith), drop_all (length bs) bs (omega arith))
    (ap (filter is_word) (slice_split_none is_blank bs (λ k d lt. fails_before_first is_blank bs k d (omega arith))) ∙ keeps-word bs [] h)

begins : (bs : List ℕ) → 0 < length bs → is_blank (get_or bs 0 0) ≡ false → 0 < position_or_len is_blank bs
begins [] h e = absurd (omega arith)
begins (b ∷ bs) h e = rw (cond-true (not (is_blank b)) (1 + position_or_len is_blank bs) 0 (ap not e)) (omega arith)

-- a text that begins with no blank begins with a word, up to the first blank
words-first : (bs : List ℕ) → 0 < length bs → is_blank (get_or bs 0 0) ≡ false
    → words_in bs ≡ take (position_or_len is_blank bs) bs ∷ words_in (drop (position_or_len is_blank bs) bs)
words-first bs h e = grind (arith, begins bs h e, first-inside bs, first-all bs h, prefix_len-le-length (λ b. not (is_blank b)) bs)

-- no bytes, no words
words-empty : (bs : List ℕ) → length bs ≡ 0 → words_in bs ≡ []
words-empty [] h = refl
words-empty (b ∷ bs) h = absurd (omega arith)

-- a text without the blanks in front
words-rest : (bs : List ℕ) → words_in (skip_blanks bs) ≡ words_in bs
words-rest [] = refl
words-rest (b ∷ bs) = elim (cases_Bool (is_blank b)) [
  | inl t ↦ ap words_in (cond-true (is_blank b) (skip_blanks bs) (b ∷ bs) t) ∙ words-rest bs ∙ sym (words-blank b bs t)
  | inr f ↦ ap words_in (cond-false (is_blank b) (skip_blanks bs) (b ∷ bs) f)
]

begins_plain : (bs : List ℕ) → 0 < length (skip_blanks bs) → is_blank (get_or (skip_blanks bs) 0 0) ≡ false
begins_plain [] h = absurd (omega arith)
begins_plain (b ∷ bs) h = elim (cases_Bool (is_blank b)) [
  | inl t ↦
      let same : skip_blanks (b ∷ bs) ≡ skip_blanks bs = cond-true (is_blank b) (skip_blanks bs) (b ∷ bs) t in
      ap (λ cs. is_blank (get_or cs 0 0)) same ∙ begins_plain bs (rw same at h)
  | inr f ↦ ap (λ cs. is_blank (get_or cs 0 0)) (cond-false (is_blank b) (skip_blanks bs) (b ∷ bs) f) ∙ f
]

-- the words of a text, where the text without the blanks in front is `rest`
pub words-none : (bs rest : List ℕ) → rest ≡ skip_blanks bs → length rest ≡ 0 → words_in bs ≡ []
words-none bs rest e h = sym (words-rest bs) ∙ ap words_in (sym e) ∙ words-empty rest h

pub words-next : (bs rest : List ℕ) → rest ≡ skip_blanks bs → 0 < length rest
    → words_in bs ≡ take (position_or_len is_blank rest) rest ∷ words_in (drop (position_or_len is_blank rest) rest)
words-next bs rest e h =
    sym (words-rest bs) ∙ ap words_in (sym e)
    ∙ words-first rest h (rw e (begins_plain bs (rw e at h)))

pub ruleset cuts = (words-none, words-next)
