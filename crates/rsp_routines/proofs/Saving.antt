-- LQV and SQV at any address: the bytes from there to the next multiple of 16.
use Rattle.std.proofs.Common.{◌≡◌, ◌≢◌, ℕ, ◌+◌, ◌-◌, ◌%◌, ◌^◌, ◌<◌, ◌&&◌, List, length, get_or, take, nat_le, nat_lt, ap, sym, ◌∙◌, arith, inl, inr}
use Rattle.std.specs.Prelude.{if◌then◌else◌}
use Rattle.std.proofs.lemmas.Bool.{cases_lt}
use Rattle.std.proofs.lemmas.Bool.Decides.{nat_tests}
use Rattle.std.proofs.lemmas.List.{length-take, get_or-take}
use Rattle.rsp_memory.specs.Memory.{byte_at, bytes_at, with_bytes}
use Rattle.rsp_decode.specs.declared.vector.VectorLoadOp.TheVariants.{Lqv}
use Rattle.rsp_decode.specs.declared.vector.VectorStoreOp.TheVariants.{Sqv}
use Rattle.rsp_lanes.specs.Lanes.{register_byte, IsVector}
use Rattle.rsp_lanes.specs.Bytes.{each_byte, with_register_bytes}
use Rattle.rsp_lanes.proofs.ByteOrder.{byte_of}
use Rattle.rsp_scalar.specs.Registers.{register}
use Rattle.rsp_scalar.specs.Flow.{address_after}
use Rattle.rsp_loadstore.specs.File.{IsFile, vector, with_vector}
use Rattle.rsp_loadstore.specs.Addresses.{vector_address}
use Rattle.rsp_loadstore.specs.Loads.{after_load, load_pairs, file_after_load}
use Rattle.rsp_loadstore.specs.Stores.{after_store, store_pairs, memory_after_store}
use Rattle.rsp_loadstore.proofs.BytesLoaded.{placed_loaded, window_byte}
use Rattle.rsp_loadstore.proofs.AtOnce.{run_stored}
use Rattle.rsp_machine.specs.State.{State}
use Rattle.rsp_machine.specs.Step.{executed, instruction_effect}
use Rattle.rsp_machine.specs.Vector.{loads_vector, stores_vector}
use Rattle.rsp_microcode.specs.Lanes.{lqv, sqv, HasBytes, IsOutside}
use Rattle.rsp_microcode.specs.Buffers.{IsFilled}
use Rattle.rsp_microcode.proofs.RangesOfParts.{byte_small}
use Rattle.rsp_routines.specs.Areas.{IsArea, vectors_for}
use Rattle.rsp_routines.proofs.Bytes.{bytes_elsewhere, bytes_read, byte_ring, byte_of_bytes}

-- how many bytes these are
abbrev pub reach : ℕ → ℕ
reach a = 16 - a % 16

-- the register v after LQV from a, and the memory m after SQV of v to a
abbrev pub saved : List ℕ → List ℕ → ℕ → List ℕ
saved v m a = with_register_bytes v (bytes_at m a 16) 0 (reach a)

abbrev pub restored : List ℕ → ℕ → List ℕ → List ℕ
restored m a v = with_bytes m a (take (reach a) (each_byte (λ k. register_byte v ((0 + k) % 16))))

load_address : (vt base value : ℕ) → value < 2 ^ 32 → vector_address (lqv vt 0 base) value ≡ value
unfolding vector_address
load_address vt base value h = omega arith

store_address : (vt base value : ℕ) → value < 2 ^ 32 → vector_address (sqv vt 0 base) value ≡ value
unfolding vector_address
store_address vt base value h = omega arith

load_is : (m : List ℕ) (file : List (List ℕ)) (vt a : ℕ) → vt < length file → length (vector file vt) ≡ 8
    → after_load m file (load_pairs Lqv vt 0 a) ≡ with_vector file vt (saved (vector file vt) m a)
unfolding load_pairs
load_is m file vt a h l = sym (placed_loaded m file vt 0 (reach a) a h l (omega arith))

store_is : (m : List ℕ) (file : List (List ℕ)) (vt a : ℕ) → after_store file m (store_pairs Sqv vt 0 a) ≡ restored m a (vector file vt)
unfolding store_pairs
store_is m file vt a = sym (run_stored file m vt 0 (reach a) a (omega arith))

pub saves : (vt base : ℕ) (s : State) → IsFile s.vectors → vt < 32 → register s.registers base < 2 ^ 32
    → executed (lqv vt 0 base) s ≡ record s { pc = s.npc; npc = address_after s.npc; vectors = with_vector s.vectors vt (saved (vector s.vectors vt) s.dmem (register s.registers base)) }
unfolding executed instruction_effect loads_vector file_after_load
saves vt base s is h small =
    let b = register s.registers base in
    ap (λ v. let t : State = record s { pc = s.npc; npc = address_after s.npc; vectors = v } in t) (
    ap (λ a. after_load s.dmem s.vectors (load_pairs Lqv vt 0 a)) (load_address vt base b small)
    ∙ load_is s.dmem s.vectors vt b (omega (arith, is.count)) (is.registers vt h).0
    )

pub restores : (vt base : ℕ) (s : State) → register s.registers base < 2 ^ 32
    → executed (sqv vt 0 base) s ≡ record s { pc = s.npc; npc = address_after s.npc; dmem = restored s.dmem (register s.registers base) (vector s.vectors vt) }
unfolding executed instruction_effect stores_vector memory_after_store
restores vt base s small =
    let b = register s.registers base in
    ap (λ m. let t : State = record s { pc = s.npc; npc = address_after s.npc; dmem = m } in t) (
    ap (λ a. after_store s.vectors s.dmem (store_pairs Sqv vt 0 a)) (store_address vt base b small)
    ∙ store_is s.dmem s.vectors vt b
    )

-- a byte that isn't put back, and one that is
bytes_put : (v : List ℕ) (a : ℕ) → length (take (reach a) (each_byte (λ k. register_byte v ((0 + k) % 16)))) ≡ reach a
unfolding each_byte
bytes_put v a = omega (arith, length-take (reach a) (each_byte (λ k. register_byte v ((0 + k) % 16))))

elsewhere : (m v : List ℕ) (a x : ℕ) → ((k : ℕ) → k < reach a → (a + k) % 4096 ≢ x % 4096) → byte_at (restored m a v) x ≡ byte_at m x
elsewhere m v a x h =
    let size = bytes_put v a in
    bytes_elsewhere (take (reach a) (each_byte (λ k. register_byte v ((0 + k) % 16)))) m a x (λ k l. h k (omega arith))

pub saved_byte : (v m : List ℕ) (a k : ℕ) → IsVector v → HasBytes m → k < reach a → register_byte (saved v m a) k ≡ byte_at m (a + k)
saved_byte v m a k is small h = byte_of_bytes _ k bytes (omega arith) ∙ here
  where
    f : ℕ → ℕ
    f k = if nat_le 0 k && nat_lt k (0 + reach a) then get_or (bytes_at m a 16) (k - 0) 0 else register_byte v k

    bytes : (k : ℕ) → f k < 256
    bytes k = elim (cases_lt k (reach a)) [
      | inl l ↦
          let w : get_or (bytes_at m a 16) k 0 ≡ byte_at m (a + k) = window_byte m a 16 k (omega arith) in
          let b = small (a + k) in
          let e : k - 0 ≡ k = omega arith in
          grind (arith, nat_tests)
      | inr l ↦ let b = byte_small v k is.1 in grind (arith, nat_tests)
    ]

    here : f k ≡ byte_at m (a + k)
    here =
        let w : get_or (bytes_at m a 16) k 0 ≡ byte_at m (a + k) = window_byte m a 16 k (omega arith) in
        let e : k - 0 ≡ k = omega arith in
        grind (arith, nat_tests)

put_back : (m n v : List ℕ) (a j : ℕ) → length m ≡ 4096 → IsVector v → HasBytes n → j < reach a → byte_at (restored m a (saved v n a)) (a + j) ≡ byte_at n (a + j)
put_back m n v a j l is small h =
    let w = saved v n a in
    let e : (0 + j) % 16 ≡ j = omega arith in
    let size = bytes_put w a in
    bytes_read _ m a j l (omega arith) (omega arith)
    ∙ get_or-take (reach a) (each_byte (λ k. register_byte w ((0 + k) % 16))) j 0 h
    ∙ byte_of (λ k. register_byte w ((0 + k) % 16)) j (omega arith)
    ∙ ap (register_byte w) e ∙ saved_byte v n a j is small h

-- what a loop over whole vectors filled, once the bytes after its end are put back
pub tail_kept : (f : ℕ → List ℕ) (m n v : List ℕ) (c size : ℕ) → IsArea c size → length n ≡ 4096 → IsVector v → HasBytes m → IsFilled f m n c (vectors_for size)
    → ((i : ℕ) → i < size → byte_at (restored n (c + size) (saved v m (c + size))) (c + i) ≡ byte_at n (c + i))
    × ((x : ℕ) → IsOutside c size x → byte_at (restored n (c + size) (saved v m (c + size))) x ≡ byte_at m x)
tail_kept f m n v c size is long is_v small filled =
    let a1 = is.aligned in
    let a2 = is.begins in
    let a3 = is.ends in
    let a4 = is.short in
    let a = c + size in (
      λ i h. elsewhere n _ a (c + i) (λ k l. omega arith),
      λ x out.
          let j = (x + (4096 - a % 4096)) % 4096 in
          elim (cases_lt j (reach a)) [
            | inl l ↦ byte_ring _ x (a + j) (omega arith) ∙ put_back n m v a j long is_v small l ∙ byte_ring m (a + j) x (omega arith)
            | inr l ↦ elsewhere n _ a x (λ k q. omega arith) ∙ filled.outside x (omega arith)
          ],
    )
