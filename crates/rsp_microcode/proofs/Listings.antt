-- The scalar registers as a list of 32 members. On such a list the reads and writes of rows compute.
use Rattle.std.proofs.Common.{◌≡◌, ℕ, zero, suc, ◌+◌, List, [], ◌∷◌, length, drop, drop-cons, drop_of_length-le, ap, ◌∙◌, arith}
use Rattle.rsp_scalar.specs.Registers.{register}

-- n members from number i on
abbrev pub from : ℕ → ℕ → List ℕ → List ℕ
from zero i r = []
from (suc n) i r = register r i ∷ from n (i + 1) r

abbrev pub listing : List ℕ → List ℕ
listing r = from 32 0 r

rest : (n i : ℕ) (r : List ℕ) → i + n ≡ length r → drop i r ≡ from n i r
rest zero i r e = drop_of_length-le r (omega arith)
rest (suc n) i r e = drop-cons r i 0 (omega arith) ∙ ap (λ xs. register r i ∷ xs) (let f : suc i ≡ i + 1 = omega arith in ap (λ k. drop k r) f ∙ rest n (i + 1) r (omega arith))

pub listed : (r : List ℕ) → length r ≡ 32 → r ≡ listing r
listed r n = rest 32 0 r (omega arith)
