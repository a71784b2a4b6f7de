-- Texts of registers that hold the same.
use Rattle.std.proofs.Common.{◌≡◌, ℕ, zero, suc, ◌+◌, ◌*◌, ◌<◌, List, [], ◌∷◌, ◌++◌, get_or, refl, ap, arith}
use Rattle.std.specs.Prelude.{codes}
use Rattle.rsp_scalar.specs.Registers.{register}
use Rattle.rsp_script_io.specs.Text.{each_text, two_digits}
use Rattle.rsp_bench.specs.Looks.{word_text, register_line}

each_text-same : (f g : ℕ → List ℕ) (n : ℕ) → ((i : ℕ) → i < n → f i ≡ g i) → each_text f n ≡ each_text g n
unfolding each_text
each_text-same f g zero same = refl
each_text-same f g (suc n) same =
    let front : each_text f n ≡ each_text g n = each_text-same f g n (λ i lt. same i (omega arith)) in
    let last : f n ≡ g n = same n (omega arith) in
    cc

register_line-same : (words others : ℕ → ℕ) (k : ℕ) → k < 8 → ((n : ℕ) → n < 32 → words n ≡ others n) → register_line words k ≡ register_line others k
unfolding register_line
register_line-same words others k lt same =
    ap (λ t. codes "r" ++ two_digits (4 * k) ++ t ++ 10 ∷ [])
    (each_text-same (λ j. word_text (words (4 * k + j))) (λ j. word_text (others (4 * k + j))) 4 (λ j h. ap word_text (same (4 * k + j) (omega arith))))

pub register_lines : (words registers : List ℕ) → ((n : ℕ) → n < 32 → get_or words n 0 ≡ register registers n)
    → each_text (register_line (λ n. get_or words n 0)) 8 ≡ each_text (register_line (register registers)) 8
register_lines words registers same =
    each_text-same _ _ 8 (λ k lt. register_line-same (λ n. get_or words n 0) (register registers) k lt same)
