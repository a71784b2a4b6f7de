-- What a read of an SP register gives and leaves.
use Rattle.std.proofs.Common.{◌≡◌, ℕ, zero, suc, ◌+◌, ◌%◌, ◌^◌, ◌<◌, ◌≤◌, List, ◌∷◌, get_or, Bool, true, false, ◌||◌, not, refl, arith}
use Rattle.std.specs.Prelude.{◌==◌}
use Rattle.std.proofs.lemmas.Bool.{not-true}
use Rattle.rsp_regs.specs.Sp.{Sp, IsSp, flag, signal, status, length_word, words, read_value, after_read}

-- a read of any but the semaphore
pub reads_leave : (n : ℕ) (p : Sp) → not (n % 16 == 7) ≡ true → after_read n p ≡ p
unfolding after_read
reads_leave n p h = let e = not-true (n % 16 == 7) h in rw e refl

pub goes : (b : Bool) → (b || false) ≡ true → b ≡ true
goes true h = refl
goes false h = h

-- the word that it gives
flag_small : (b : Bool) (w : ℕ) → flag b w ≤ w
flag_small true w = omega arith
flag_small false w = omega arith

status_small : (p : Sp) → status p < 2 ^ 32
unfolding status
status_small p =
    let s = λ (i : ℕ). flag_small (signal p.signals i) (2 ^ (7 + i)) in
    omega (arith, flag_small p.halted 1, flag_small p.broke 2, flag_small p.single_step 32, flag_small p.intbreak 64, s 0, s 1, s 2, s 3, s 4, s 5, s 6, s 7)

record AreWords (xs : List ℕ) : Type 0 where
  each : (i : ℕ) → get_or xs i 0 < 2 ^ 32

one_more : (x : ℕ) (xs : List ℕ) → x < 2 ^ 32 → AreWords xs → AreWords (x ∷ xs)
one_more x xs h all = record { each = go }
  where
    go : (i : ℕ) → get_or (x ∷ xs) i 0 < 2 ^ 32
    go zero = h
    go (suc i) = all.each i

all_words : (p : Sp) → IsSp p → AreWords (words p)
all_words p is =
    let memory : p.memory < 2 ^ 32 = let h = is.kept.memory.0 in omega arith in
    let dram : p.dram < 2 ^ 32 = let h = is.kept.dram.0 in omega arith in
    let size : length_word p < 2 ^ 32 = let h = is.kept.skip.0 in omega arith in
    let none : 0 < 2 ^ 32 = omega arith in
    let semaphore : flag p.semaphore 1 < 2 ^ 32 = omega (arith, flag_small p.semaphore 1) in
    one_more _ _ memory (one_more _ _ dram (one_more _ _ size (one_more _ _ size (one_more _ _ (status_small p)
    (one_more _ _ none (one_more _ _ none (one_more _ _ semaphore (record { each = is.words }))))))))

pub peeked_small : (n : ℕ) (p : Sp) → IsSp p → read_value n p < 2 ^ 32
unfolding read_value
peeked_small n p is = (all_words p is).each (n % 16)
