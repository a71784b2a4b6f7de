-- What was written, written back.
use Rattle.std.proofs.Common.{◌≡◌, ℕ, ◌+◌, ◌==◌, true, false, List, [], refl, ◌∙◌, lit<}
use Rattle.std.specs.Prelude.{if◌then◌else◌, slice_set, slice_index, slice_index_or}
use Rattle.std.proofs.lemmas.List.{set-set, set-get_or}
use Rattle.rsp_memory.specs.Memory.{with_byte, with_half, with_word, bytes_at, with_bytes}
use Rattle.rsp_memory.proofs.PutBack.{bytes-back, length-with_byte, with_byte-elsewhere, elsewhere-at}
use Rattle.rsp_scalar.specs.Registers.{register, with_register}
use Rattle.rsp_scalar.specs.ScalarRules.{store_result}
use Rattle.rsp_decode.specs.declared.scalar.StoreOp.{StoreOp}
use Rattle.rsp_decode.specs.declared.scalar.StoreOp.TheVariants.{Sb, Sh, Sw}
use Rattle.rsp_loadstore.specs.File.{vector, with_vector}

-- a scalar or a vector register
pub register-back : (r : List ℕ) (n v : ℕ) → with_register (with_register r n v) n (register r n) ≡ r
register-back r n v =
    elim (n == 0) as (λ b. (if b then (if b then r else slice_set r n v) else slice_set (if b then r else slice_set r n v) n (slice_index r n)) ≡ r) [
      | true ↦ refl
      | false ↦ set-set r n v (slice_index r n) ∙ set-get_or r n 0
    ]

pub vector-back : (file : List (List ℕ)) (n : ℕ) (v : List ℕ) → with_vector (with_vector file n v) n (vector file n) ≡ file
unfolding with_vector vector
vector-back file n v = set-set file n v (slice_index_or file n []) ∙ set-get_or file n []

-- scalar stores
pub store-back : (op : StoreOp) (m : List ℕ) (a t : ℕ) → with_bytes (store_result op m a t) a (bytes_at m a 16) ≡ m
unfolding with_half with_word
store-back Sb m a t =
    bytes-back m (with_byte m a _) a 16 (length-with_byte m a _) (λ r there. with_byte-elsewhere m a _ r there.0)
store-back Sh m a t =
    bytes-back m _ a 16 (length-with_byte _ (a + 1) _ ∙ length-with_byte m a _)
    (λ r there. with_byte-elsewhere _ (a + 1) _ r (elsewhere-at r a 16 1 there (lit< tt)) ∙ with_byte-elsewhere m a _ r there.0)
store-back Sw m a t =
    bytes-back m _ a 16 (length-with_byte _ (a + 3) _ ∙ length-with_byte _ (a + 2) _ ∙ length-with_byte _ (a + 1) _ ∙ length-with_byte m a _)
    (λ r there. with_byte-elsewhere _ (a + 3) _ r (elsewhere-at r a 16 3 there (lit< tt))
    ∙ with_byte-elsewhere _ (a + 2) _ r (elsewhere-at r a 16 2 there (lit< tt))
    ∙ with_byte-elsewhere _ (a + 1) _ r (elsewhere-at r a 16 1 there (lit< tt))
    ∙ with_byte-elsewhere m a _ r there.0)
