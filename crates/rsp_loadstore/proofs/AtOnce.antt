-- Bytes that are stored one by one are stored at once.
use Rattle.std.proofs.Common.{◌≡◌, ℕ, ◌+◌, ◌-◌, ◌*◌, ◌/◌, ◌%◌, ◌<◌, ◌≤◌, List, true, false, nat_lt, length, get_or, take, refl, sym, ap, ◌∙◌, arith, inl, inr}
use Rattle.std.proofs.lemmas.List.{length-take}
use Rattle.std.proofs.lemmas.Bool.{cases_lt}
use Rattle.std.proofs.lemmas.Bool.Decides.{nat_tests}
use Rattle.rsp_memory.specs.Memory.{with_byte, with_bytes}
use Rattle.rsp_memory.proofs.Runs.{run_turn}
use Rattle.rsp_lanes.specs.Lanes.{each_lane, register_byte}
use Rattle.rsp_lanes.specs.Bytes.{each_byte, packed_byte}
use Rattle.rsp_lanes.proofs.ByteOrder.{byte_of}
use Rattle.rsp_lanes.proofs.Kit.{lane_of}
use Rattle.rsp_memory.proofs.Wraps.{with_byte-wrapped}
use Rattle.rsp_loadstore.specs.File.{vector, bits_14_to_7}
use Rattle.rsp_loadstore.specs.Stores.{Store, from_byte, from_bits_14_to_7, stored, after_store, spv_pair, suv_pair}
use Rattle.rsp_loadstore.specs.Pairs.{for_each, wrapped_address}
use Rattle.rsp_loadstore.proofs.Pairs.{store_none, store_more}

length-each_byte : (f : ℕ → ℕ) → length (each_byte f) ≡ 16
unfolding each_byte
length-each_byte f = refl

-- n pairs, each of which stores a byte f k at a + k
pub stored_at_once : (file : List (List ℕ)) (m : List ℕ) (pair : ℕ → Store) (f : ℕ → ℕ) (a n : ℕ) → n ≤ 16
    → ((m : List ℕ) (k : ℕ) → stored file m (pair k) ≡ with_byte m (a + k) (f k))
    → with_bytes m a (take n (each_byte f)) ≡ after_store file m (for_each n pair)
stored_at_once file m pair f a n h each =
    run_turn with_byte f states a 0 0 n (each_byte f) (take n (each_byte f)) m (with_bytes m a (take n (each_byte f)))
    (λ k. store_more file m pair k ∙ each (states k) k ∙ ap (λ j. with_byte (states k) (a + k) (f j)) (omega arith))
    (λ k l. ap f (omega arith) ∙ sym (byte_of f k (omega (arith, length-each_byte f))))
    refl (sym (store_none file m pair)) (ap (λ b. with_bytes m b (take n (each_byte f))) (omega arith))
    ∙ ap states (omega (arith, length-take n (each_byte f), length-each_byte f))
  where
    states : ℕ → List ℕ
    states k = after_store file m (for_each k pair)

pub run_stored : (file : List (List ℕ)) (m : List ℕ) (vt i n a : ℕ) → n ≤ 16
    → with_bytes m a (take n (each_byte (λ k. register_byte (vector file vt) ((i + k) % 16)))) ≡ after_store file m (for_each n (λ k. from_byte vt ((i + k) % 16) (a + k)))
unfolding stored
run_stored file m vt i n a h = stored_at_once file m (λ k. from_byte vt ((i + k) % 16) (a + k)) (λ k. register_byte (vector file vt) ((i + k) % 16)) a n h (λ _ _. refl)

-- a byte of a lane
high_is : (v : List ℕ) (j : ℕ) → register_byte v (2 * j) ≡ get_or v j 0 / 256
unfolding register_byte
high_is v j =
    let e : 2 * j / 2 ≡ j = omega arith in
    let p : 2 * j % 2 ≡ 0 = omega arith in
    rw (e, p) refl

bits_are : (v : List ℕ) (j : ℕ) → j < 8 → bits_14_to_7 v (2 * j) ≡ get_or v j 0 / 128 % 256
unfolding bits_14_to_7 register_byte
bits_are v j h =
    let e : 2 * j / 2 ≡ j = omega arith in
    let p : 2 * j % 2 ≡ 0 = omega arith in
    let m : (2 * j + 1) % 16 ≡ 2 * j + 1 = omega arith in
    let f : (2 * j + 1) / 2 ≡ j = omega arith in
    let q : (2 * j + 1) % 2 ≡ 1 = omega arith in
    rw (m, e, p, f, q) (omega arith)

packed_pair : (file : List (List ℕ)) (m : List ℕ) (vt j a : ℕ) → j < 16 → stored file m (spv_pair vt j a) ≡ with_byte m a (packed_byte (vector file vt) j)
unfolding stored
packed_pair file m vt j a h = elim (cases_lt j 8) [
  | inl l ↦
      let e : nat_lt j 8 ≡ true = grind (arith, nat_tests) in
      rw (e, high_is (vector file vt) j) refl
  | inr l ↦
      let e : nat_lt j 8 ≡ false = grind (arith, nat_tests) in
      let q : j % 8 ≡ j - 8 = omega arith in
      rw (e, q, bits_are (vector file vt) (j - 8) (omega arith)) refl
]

pub packed_stored : (file : List (List ℕ)) (m : List ℕ) (vt e a n : ℕ) → n ≤ 16
    → with_bytes m a (take n (each_byte (λ k. packed_byte (vector file vt) ((e + k) % 16)))) ≡ after_store file m (for_each n (λ k. spv_pair vt ((e + k) % 16) (a + k)))
packed_stored file m vt e a n h = stored_at_once file m (λ k. spv_pair vt ((e + k) % 16) (a + k)) (λ k. packed_byte (vector file vt) ((e + k) % 16)) a n h
    (λ m k. packed_pair file m vt ((e + k) % 16) (a + k) (omega arith))

-- the two cases are exchanged if the numbers begin eight later
unsigned_pair : (file : List (List ℕ)) (m : List ℕ) (vt j a : ℕ) → j < 16 → stored file m (suv_pair vt j a) ≡ with_byte m a (packed_byte (vector file vt) ((j + 8) % 16))
unfolding stored
unsigned_pair file m vt j a h = elim (cases_lt j 8) [
  | inl l ↦
      let e : nat_lt j 8 ≡ true = grind (arith, nat_tests) in
      let q : (j + 8) % 16 ≡ j + 8 = omega arith in
      let f : nat_lt (j + 8) 8 ≡ false = grind (arith, nat_tests) in
      let r : j + 8 - 8 ≡ j = omega arith in
      rw (e, q, f, r, bits_are (vector file vt) j l) refl
  | inr l ↦
      let e : nat_lt j 8 ≡ false = grind (arith, nat_tests) in
      let q : (j + 8) % 16 ≡ j % 8 = omega arith in
      let f : nat_lt (j % 8) 8 ≡ true = grind (arith, nat_tests) in
      rw (e, q, f, high_is (vector file vt) (j % 8)) refl
]

pub unsigned_stored : (file : List (List ℕ)) (m : List ℕ) (vt e a n : ℕ) → n ≤ 16
    → with_bytes m a (take n (each_byte (λ k. packed_byte (vector file vt) ((e + 8 + k) % 16)))) ≡ after_store file m (for_each n (λ k. suv_pair vt ((e + k) % 16) (a + k)))
unsigned_stored file m vt e a n h = stored_at_once file m (λ k. suv_pair vt ((e + k) % 16) (a + k)) (λ k. packed_byte (vector file vt) ((e + 8 + k) % 16)) a n h
    (λ m k.
    let q : ((e + k) % 16 + 8) % 16 ≡ (e + 8 + k) % 16 = omega arith in
    unsigned_pair file m vt ((e + k) % 16) (a + k) (omega arith) ∙ ap (λ j. with_byte m (a + k) (packed_byte (vector file vt) j)) q)

-- bits 14 to 7 of the pairs of bytes from byte e on, which are a register's lanes after it is rotated
bits_of : (v : List ℕ) (e j : ℕ) → j < 8
    → get_or (each_byte (λ k. packed_byte (each_lane (λ i. get_or (each_byte (λ k. register_byte v ((e + k) % 16))) (2 * i) 0 * 256 + get_or (each_byte (λ k. register_byte v ((e + k) % 16))) (2 * i + 1) 0)) ((8 + k) % 16))) j 0
    ≡ bits_14_to_7 v ((e + 2 * j) % 16)
unfolding bits_14_to_7
bits_of v e j h =
    let bytes : List ℕ = each_byte (λ k. register_byte v ((e + k) % 16)) in
    let at : (8 + j) % 16 ≡ 8 + j = omega arith in
    let low : nat_lt (8 + j) 8 ≡ false = grind (arith, nat_tests) in
    let back : 8 + j - 8 ≡ j = omega arith in
    let next : ((e + 2 * j) % 16 + 1) % 16 ≡ (e + (2 * j + 1)) % 16 = omega arith in
    byte_of _ j (omega arith)
    ∙ rw (
      at,
      low,
      back,
      lane_of 0 (λ i. get_or bytes (2 * i) 0 * 256 + get_or bytes (2 * i + 1) 0) _ refl j h,
      byte_of (λ k. register_byte v ((e + k) % 16)) (2 * j) (omega arith),
      byte_of (λ k. register_byte v ((e + k) % 16)) (2 * j + 1) (omega arith),
      next,
    ) refl

-- a pair of a store of halves
abbrev pub pair_of : ℕ → ℕ → ℕ → ℕ → Store
pair_of vt e a j = from_bits_14_to_7 vt ((e + 2 * j) % 16) (wrapped_address a (2 * j))

pub halves_more : (file : List (List ℕ)) (m now then bytes : List ℕ) (vt e a j : ℕ) → j < 8
    → bytes ≡ each_byte (λ k. packed_byte (each_lane (λ i. get_or (each_byte (λ k. register_byte (vector file vt) ((e + k) % 16))) (2 * i) 0 * 256 + get_or (each_byte (λ k. register_byte (vector file vt) ((e + k) % 16))) (2 * i + 1) 0)) ((8 + k) % 16))
    → now ≡ after_store file m (for_each j (pair_of vt e a))
    → then ≡ with_byte now ((wrapped_address a (2 * j)) % 4294967296) (get_or bytes j 0)
    → then ≡ after_store file m (for_each (j + 1) (pair_of vt e a))
unfolding stored
halves_more file m now then bytes vt e a j h b f g =
    g ∙ with_byte-wrapped now (wrapped_address a (2 * j)) (get_or bytes j 0)
    ∙ ap (λ n. with_byte n (wrapped_address a (2 * j)) (get_or bytes j 0)) f
    ∙ ap (with_byte (after_store file m (for_each j (pair_of vt e a))) (wrapped_address a (2 * j))) (ap (λ bs. get_or bs j 0) b ∙ bits_of (vector file vt) e j h)
    ∙ sym (store_more file m (pair_of vt e a) j)
