-- Writing back what a list held before restores the list.
use Rattle.std.proofs.Common.{◌≡◌, ◌≢◌, ℕ, zero, suc, ◌+◌, ◌%◌, ◌<◌, add-zero, inl, inr, List, [], ◌∷◌, length, refl, sym, ◌∙◌, arith, get_or, set, get_or-set_same, get_or-set_other}
use Rattle.std.proofs.lemmas.List.{ext_get_or, length-set}
use Rattle.std.proofs.Math.ListN.{get_or-eq_default}
use Rattle.std.proofs.lemmas.Bool.{cases_lt}
use Rattle.rsp_memory.specs.Memory.{byte_at, with_byte, with_bytes, bytes_at}

-- the numbers at some indices, written back in order
abbrev pub put_back : List ℕ → List ℕ → List ℕ → List ℕ
put_back m [] n = n
put_back m (p ∷ ps) n = put_back m ps (set n p (get_or m p 0))

abbrev pub IsElsewhere : ℕ → List ℕ → Type 0
IsElsewhere q [] = Unit {0}
IsElsewhere q (p ∷ ps) = (q ≢ p) × IsElsewhere q ps

same_here : (m n : List ℕ) (p : ℕ) → length n ≡ length m → get_or (set n p (get_or m p 0)) p 0 ≡ get_or m p 0
same_here m n p e = elim (cases_lt p (length n)) [
  | inl h ↦ get_or-set_same n p (get_or m p 0) 0 h
  | inr h ↦ get_or-eq_default (set n p (get_or m p 0)) 0 (omega (arith, length-set n p (get_or m p 0))) ∙ sym (get_or-eq_default m 0 (omega arith))
]

same_there : (m n : List ℕ) (p q : ℕ) (ps : List ℕ) → length n ≡ length m
    → ((r : ℕ) → IsElsewhere r (p ∷ ps) → get_or n r 0 ≡ get_or m r 0)
    → IsElsewhere q ps → get_or (set n p (get_or m p 0)) q 0 ≡ get_or m q 0
same_there m n p q ps e h there = grind (arith, same_here m n p e, get_or-set_other n p q (get_or m p 0) 0, λ (ne : q ≢ p). h q (ne, there))

-- a list that differs from m at these indices alone becomes m
pub back_is : (m : List ℕ) (ps : List ℕ) (n : List ℕ) → length n ≡ length m
    → ((r : ℕ) → IsElsewhere r ps → get_or n r 0 ≡ get_or m r 0) → put_back m ps n ≡ m
back_is m [] n e h = ext_get_or 0 n m e (λ i lt. h i tt)
back_is m (p ∷ ps) n e h =
    back_is m ps (set n p (get_or m p 0)) (length-set n p (get_or m p 0) ∙ e) (λ q there. same_there m n p q ps e h there)

-- the indices of the n bytes from an address on
abbrev pub addresses : ℕ → ℕ → List ℕ
addresses a zero = []
addresses a (suc n) = a % 4096 ∷ addresses (a + 1) n

with_bytes-put_back : (m n : List ℕ) (a k : ℕ) → with_bytes n a (bytes_at m a k) ≡ put_back m (addresses a k) n
unfolding byte_at with_byte
with_bytes-put_back m n a zero = refl
with_bytes-put_back m n a (suc k) = with_bytes-put_back m (set n (a % 4096) (get_or m (a % 4096) 0)) (a + 1) k

-- a memory that differs from m in k bytes from an address on becomes m after m's bytes are written there
pub bytes-back : (m n : List ℕ) (a k : ℕ) → length n ≡ length m
    → ((r : ℕ) → IsElsewhere r (addresses a k) → get_or n r 0 ≡ get_or m r 0) → with_bytes n a (bytes_at m a k) ≡ m
bytes-back m n a k e h = with_bytes-put_back m n a k ∙ back_is m (addresses a k) n e h

-- a byte that is written changes no other index, and no length
pub length-with_byte : (m : List ℕ) (a b : ℕ) → length (with_byte m a b) ≡ length m
unfolding with_byte
length-with_byte m a b = length-set m (a % 4096) b

pub with_byte-elsewhere : (m : List ℕ) (a b r : ℕ) → r ≢ a % 4096 → get_or (with_byte m a b) r 0 ≡ get_or m r 0
unfolding with_byte
with_byte-elsewhere m a b r h = get_or-set_other m (a % 4096) r b 0 h

-- an index outside of the n bytes from an address on is none of theirs
pub elsewhere-at : (r a n j : ℕ) → IsElsewhere r (addresses a n) → j < n → r ≢ (a + j) % 4096
elsewhere-at r a zero j there h = absurd (omega arith)
elsewhere-at r a (suc n) zero there h = rw add-zero there.0
elsewhere-at r a (suc n) (suc j) there h =
    let e : a + suc j ≡ a + 1 + j = omega arith in
    rw e (elsewhere-at r (a + 1) n j there.1 (omega arith))
