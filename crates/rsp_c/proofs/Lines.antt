-- Lines of words with their texts.
use Rattle.std.proofs.Common.{◌≡◌, ℕ, ◌+◌, ◌*◌, ◌<◌, ◌≤◌, List, [], ◌∷◌, ◌++◌, length, take, map, ap, sym, subst, ◌∙◌, arith}
use Rattle.std.specs.Prelude.{slice_set}
use Rattle.std.specs.List.{All, range_with_len}
use Rattle.std.proofs.lemmas.List.{take_more_set, take_all}
use Rattle.std.proofs.lemmas.List.Elements.{All-push}
use Rattle.std.proofs.lemmas.List.FromFn.{map-range_with_len_more}
use Rattle.rsp_memory.specs.Memory.{word_at}
use Rattle.rsp_c.specs.declared.c_structs.RspLine.{RspLine}
use Rattle.rsp_c.specs.ToC.{c_line, c_lines, IsEnded}

-- no lines
pub lines-none : (imem : List ℕ) (address n : ℕ) (lines : List RspLine) → n ≡ 0 → take n lines ≡ c_lines imem address n
unfolding c_lines
lines-none imem address n lines e = ap (λ k. take k lines) e ∙ sym (ap (λ k. map (λ i. c_line (word_at imem (address + 4 * i)) (address + 4 * i)) (range_with_len 0 k)) e)

-- one line more
pub lines-more : (imem : List ℕ) (address i : ℕ) (lines : List RspLine) (line : RspLine) → i < length lines
    → take i lines ≡ c_lines imem address i → line ≡ c_line (word_at imem (address + 4 * i)) (address + 4 * i)
    → take (i + 1) (slice_set lines i line) ≡ c_lines imem address (i + 1)
unfolding c_lines
lines-more imem address i lines line h e same =
    take_more_set lines i line h ∙ ap (λ xs. xs ++ line ∷ []) e
    ∙ ap (λ x. map (λ i. c_line (word_at imem (address + 4 * i)) (address + 4 * i)) (range_with_len 0 i) ++ x ∷ []) same
    ∙ sym (map-range_with_len_more (λ i. c_line (word_at imem (address + 4 * i)) (address + 4 * i)) 0 i i (omega arith))

-- one text more that ends in a zero
pub ended-more : (i : ℕ) (lines : List RspLine) (line : RspLine) → i < length lines → All IsEnded (take i lines) → IsEnded line
    → All IsEnded (take (i + 1) (slice_set lines i line))
ended-more i lines line h all one =
    subst (λ xs. All IsEnded xs) (sym (take_more_set lines i line h)) (All-push IsEnded (take i lines) line all one)

pub ended-all : (k : ℕ) (lines : List RspLine) → All IsEnded (take k lines) → length lines ≤ k → All IsEnded lines
ended-all k lines all h = subst (λ xs. All IsEnded xs) (take_all k lines h) all

-- all of them
pub lines-all : (imem : List ℕ) (address n k : ℕ) (lines : List RspLine) → length lines ≡ n → n ≤ k → take k lines ≡ c_lines imem address k → k ≤ n → lines ≡ c_lines imem address n
lines-all imem address n k lines e h all b =
    sym (take_all k lines (omega (arith, e, h))) ∙ all ∙ ap (λ j. c_lines imem address j) (omega (arith, h, b))

pub ruleset listing = (lines-all, ended-all)
