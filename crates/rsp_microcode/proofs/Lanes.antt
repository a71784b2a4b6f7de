-- LQV and SQV at aligned addresses.
use Rattle.std.proofs.Common.{◌≡◌, ℕ, ◌+◌, ◌-◌, ◌*◌, ◌/◌, ◌%◌, ◌^◌, ◌<◌, min, List, [], ◌∷◌, length, get_or, take, true, nat_lt, nat_le, refl, ap, sym, ◌∙◌, arith}
use Rattle.std.specs.Prelude.{if◌then◌else◌, ◌&&◌}
use Rattle.std.proofs.lemmas.Bool.Decides.{nat_tests}
use Rattle.rsp_memory.specs.Memory.{byte_at, bytes_at, half_at, with_bytes, with_byte, with_half}
use Rattle.rsp_decode.specs.declared.vector.VectorLoadOp.TheVariants.{Lqv}
use Rattle.rsp_decode.specs.declared.vector.VectorStoreOp.TheVariants.{Sqv}
use Rattle.rsp_lanes.specs.Lanes.{register_byte}
use Rattle.rsp_lanes.specs.Bytes.{each_byte, of_bytes, with_register_bytes}
use Rattle.rsp_lanes.proofs.Kit.{each_same, eight}
use Rattle.rsp_scalar.specs.Registers.{register}
use Rattle.rsp_scalar.specs.Flow.{address_after}
use Rattle.rsp_loadstore.specs.File.{vector, with_vector}
use Rattle.rsp_loadstore.specs.Addresses.{vector_address}
use Rattle.rsp_loadstore.specs.Pairs.{for_each}
use Rattle.rsp_loadstore.specs.Loads.{to_byte, after_load, load_pairs, file_after_load}
use Rattle.rsp_loadstore.specs.Stores.{from_byte, after_store, store_pairs, memory_after_store}
use Rattle.rsp_loadstore.proofs.BytesLoaded.{placed_loaded, window_byte}
use Rattle.rsp_loadstore.proofs.AtOnce.{run_stored}
use Rattle.rsp_machine.specs.State.{State}
use Rattle.rsp_machine.specs.Step.{executed, instruction_effect}
use Rattle.rsp_machine.specs.Vector.{loads_vector, stores_vector}
use Rattle.rsp_microcode.specs.Lanes.{lanes_at, with_halves, with_lanes, lqv, sqv, LoadsLanes, StoresLanes}
use Rattle.rsp_microcode.proofs.Bytes.{lanes_ring, with_lanes_ring}

placed : (m v : List ℕ) (a k : ℕ) → k < 16 → (if nat_le 0 k && nat_lt k (0 + 16) then get_or (bytes_at m a 16) (k - 0) 0 else register_byte v k) ≡ byte_at m (a + k)
placed m v a k h =
    let e : k - 0 ≡ k = omega arith in
    let w : get_or (bytes_at m a 16) k 0 ≡ byte_at m (a + k) = window_byte m a 16 k h in
    grind (arith, nat_tests)

whole_register : (m v : List ℕ) (a : ℕ) → with_register_bytes v (bytes_at m a 16) 0 16 ≡ lanes_at m a
unfolding of_bytes lanes_at half_at
whole_register m v a = each_same _ _ (λ i h.
    let e : a + 2 * i + 1 ≡ a + (2 * i + 1) = omega arith in
    rw (placed m v a (2 * i) (omega arith), placed m v a (2 * i + 1) (omega arith), e) refl)

load_is : (m : List ℕ) (file : List (List ℕ)) (vt a : ℕ) → vt < length file → length (vector file vt) ≡ 8 → a % 16 ≡ 0
    → after_load m file (load_pairs Lqv vt 0 a) ≡ with_vector file vt (lanes_at m a)
unfolding load_pairs
load_is m file vt a h l e =
    let n : min (16 - a % 16) (16 - 0) ≡ min 16 (16 - 0) = omega arith in
    ap (λ k. after_load m file (for_each k (λ k. to_byte vt (0 + k) (a + k)))) n
    ∙ sym (placed_loaded m file vt 0 16 a h l (omega arith))
    ∙ ap (with_vector file vt) (whole_register m (vector file vt) a)

-- the bytes of lanes, high ones first
abbrev bytes_of : List ℕ → List ℕ
bytes_of [] = []
bytes_of (h ∷ hs) = h / 256 ∷ h % 256 ∷ bytes_of hs

by_halves : (hs m : List ℕ) (a : ℕ) → with_bytes m a (bytes_of hs) ≡ with_halves m a hs
unfolding with_half
by_halves [] m a = refl
by_halves (h ∷ hs) m a =
    let e : a + 1 + 1 ≡ a + 2 = omega arith in
    ap (λ n. with_bytes (with_byte (with_byte m a (h / 256)) (a + 1) (h % 256)) n (bytes_of hs)) e ∙ by_halves hs (with_half m a h) (a + 2)

all_bytes : (v : List ℕ) → length v ≡ 8 → take 16 (each_byte (λ k. register_byte v ((0 + k) % 16))) ≡ bytes_of v
unfolding each_byte register_byte
all_bytes = eight (λ v. take 16 (each_byte (λ k. register_byte v ((0 + k) % 16))) ≡ bytes_of v) (λ a b c d e f g h. refl)

store_is : (m : List ℕ) (file : List (List ℕ)) (vt a : ℕ) → length (vector file vt) ≡ 8 → a % 16 ≡ 0
    → after_store file m (store_pairs Sqv vt 0 a) ≡ with_lanes m a (vector file vt)
unfolding store_pairs with_lanes
store_is m file vt a l e =
    let n : 16 - a % 16 ≡ 16 = omega arith in
    ap (λ k. after_store file m (for_each k (λ k. from_byte vt ((0 + k) % 16) (a + k)))) n
    ∙ sym (run_stored file m vt 0 16 a (omega arith))
    ∙ ap (with_bytes m a) (all_bytes (vector file vt) l)
    ∙ by_halves (vector file vt) m a

-- the address, but for multiples of 2^32
load_address : (vt offset base value : ℕ) → offset < 64 → vector_address (lqv vt offset base) value ≡ (value + 16 * offset) % 2 ^ 32
unfolding vector_address
load_address vt offset base value h =
    let e : nat_lt offset 64 ≡ true = grind (arith, nat_tests) in
    rw e (omega arith)

store_address : (vt offset base value : ℕ) → offset < 64 → vector_address (sqv vt offset base) value ≡ (value + 16 * offset) % 2 ^ 32
unfolding vector_address
store_address vt offset base value h =
    let e : nat_lt offset 64 ≡ true = grind (arith, nat_tests) in
    rw e (omega arith)

pub loads_lanes : LoadsLanes
unfolding executed instruction_effect loads_vector file_after_load
loads_lanes vt offset base s is h o e =
    let b = register s.registers base in
    let a = vector_address (lqv vt offset base) b in
    let f : a ≡ (b + 16 * offset) % 2 ^ 32 = load_address vt offset base b o in
    let loaded : after_load s.dmem s.vectors (load_pairs Lqv vt 0 a) ≡ with_vector s.vectors vt (lanes_at s.dmem (b + 16 * offset)) =
    load_is s.dmem s.vectors vt a (omega (arith, is.count)) (is.registers vt h).0 (omega arith)
    ∙ ap (with_vector s.vectors vt) (lanes_ring s.dmem a (b + 16 * offset) (omega arith)) in
    ap (λ v. let t : State = record s { pc = s.npc; npc = address_after s.npc; vectors = v } in t) loaded

pub stores_lanes : StoresLanes
unfolding executed instruction_effect stores_vector memory_after_store
stores_lanes vt offset base s l o e =
    let b = register s.registers base in
    let a = vector_address (sqv vt offset base) b in
    let f : a ≡ (b + 16 * offset) % 2 ^ 32 = store_address vt offset base b o in
    let stored : after_store s.vectors s.dmem (store_pairs Sqv vt 0 a) ≡ with_lanes s.dmem (b + 16 * offset) (vector s.vectors vt) =
    store_is s.dmem s.vectors vt a l (omega arith)
    ∙ with_lanes_ring s.dmem (vector s.vectors vt) a (b + 16 * offset) (omega arith) in
    ap (λ m. let t : State = record s { pc = s.npc; npc = address_after s.npc; dmem = m } in t) stored
