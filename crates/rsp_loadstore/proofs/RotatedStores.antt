-- Sixteen bytes that are stored one by one, from one in the middle on, and then from the first on.
use Rattle.std.proofs.Common.{◌≡◌, ◌≢◌, ℕ, zero, suc, ◌+◌, ◌-◌, ◌/◌, ◌%◌, ◌<◌, List, [], ◌∷◌, ◌++◌, length, get_or, map, refl, sym, ap, ◌∙◌, arith, inl, inr}
use Rattle.std.specs.List.{range_with_len}
use Rattle.std.proofs.lemmas.List.FromFn.{length-map-range_with_len}
use Rattle.std.proofs.lemmas.List.Sums.{fold-append}
use Rattle.std.proofs.lemmas.List.{set_comm}
use Rattle.std.proofs.lemmas.Bool.{cases_lt}
use Rattle.rsp_memory.specs.Memory.{with_byte, with_bytes}
use Rattle.rsp_memory.proofs.Runs.{write_all-append}
use Rattle.rsp_lanes.specs.Lanes.{each_lane, register_byte}
use Rattle.rsp_lanes.specs.Bytes.{each_byte}
use Rattle.rsp_lanes.proofs.Kit.{below_eight, lane_of}
use Rattle.rsp_lanes.proofs.ByteOrder.{each_byte_same}
use Rattle.rsp_loadstore.specs.File.{vector}
use Rattle.rsp_loadstore.specs.Stores.{Store, from_byte, stored, after_store, stv_pair}
use Rattle.rsp_loadstore.specs.Pairs.{for_each, doubleword_start, wrapped_address, group_start, down_to_even, minus_modulo_16}

-- two runs that have no address in common can be exchanged
byte_past : (m : List ℕ) (p q b c : ℕ) → p % 4096 ≢ q % 4096 → with_byte (with_byte m p b) q c ≡ with_byte (with_byte m q c) p b
unfolding with_byte
byte_past m p q b c h = set_comm m (p % 4096) (q % 4096) b c h

run_past : (m : List ℕ) (p b a : ℕ) (bs : List ℕ) → ((k : ℕ) → k < length bs → p % 4096 ≢ (a + k) % 4096)
    → with_bytes (with_byte m p b) a bs ≡ with_byte (with_bytes m a bs) p b
run_past m p b a [] h = refl
run_past m p b a (x ∷ bs) h =
    let other : p % 4096 ≢ a % 4096 = λ e. h 0 (omega arith) (e ∙ ap (λ n. n % 4096) (omega arith)) in
    ap (λ m. with_bytes m (a + 1) bs) (byte_past m p a b x other)
    ∙ run_past (with_byte m a x) p b (a + 1) bs (λ k l e. h (k + 1) (omega arith) (e ∙ ap (λ n. n % 4096) (omega arith)))

runs_past : (m : List ℕ) (a b : ℕ) (xs ys : List ℕ) → ((j k : ℕ) → j < length xs → k < length ys → (a + j) % 4096 ≢ (b + k) % 4096)
    → with_bytes (with_bytes m a xs) b ys ≡ with_bytes (with_bytes m b ys) a xs
runs_past m a b [] ys h = refl
runs_past m a b (x ∷ xs) ys h =
    runs_past (with_byte m a x) (a + 1) b xs ys (λ j k l n e. h (j + 1) k (omega arith) n (ap (λ n. n % 4096) (omega arith) ∙ e))
    ∙ ap (λ m. with_bytes m (a + 1) xs) (run_past m a x b ys (λ k l e. h 0 k (omega arith) l (ap (λ n. n % 4096) (omega arith) ∙ e)))

-- n pairs from i on, which store the bytes from f i on at the addresses from b on
pairs_stored : (file : List (List ℕ)) (m : List ℕ) (pair : ℕ → Store) (f : ℕ → ℕ) (b i n : ℕ)
    → ((m : List ℕ) (k : ℕ) → k < n → stored file m (pair (i + k)) ≡ with_byte m (b + k) (f (i + k)))
    → after_store file m (map pair (range_with_len i n)) ≡ with_bytes m b (map f (range_with_len i n))
unfolding after_store
pairs_stored file m pair f b i zero each = refl
pairs_stored file m pair f b i (suc n) each =
    let e : i + 0 ≡ i = omega arith in
    let g : b + 0 ≡ b = omega arith in
    let first : stored file m (pair i) ≡ with_byte m b (f i) = rw (e, g) at (each m 0 (omega arith)) in
    ap (λ m. after_store file m (map pair (range_with_len (i + 1) n))) first
    ∙ pairs_stored file (with_byte m b (f i)) pair f (b + 1) (i + 1) n (λ m k l.
    let x : i + 1 + k ≡ i + (k + 1) = omega arith in
    let y : b + 1 + k ≡ b + (k + 1) = omega arith in
    rw (x, y) (each m (k + 1) (omega arith)))

-- sixteen of them in two parts
parts : {X : Type 0} (g : ℕ → X) (s : ℕ) → s < 16 → map g (range_with_len 0 16) ≡ map g (range_with_len 0 (16 - s)) ++ map g (range_with_len (16 - s) s)
parts g s h = elim (cases_lt s 8) [
  | inl l ↦ below_eight (λ s. map g (range_with_len 0 16) ≡ map g (range_with_len 0 (16 - s)) ++ map g (range_with_len (16 - s) s)) refl refl refl refl refl refl refl refl s l
  | inr l ↦
      let e : 8 + (s - 8) ≡ s = omega arith in
      rw (← e) (below_eight (λ s. map g (range_with_len 0 16) ≡ map g (range_with_len 0 (16 - (8 + s))) ++ map g (range_with_len (16 - (8 + s)) (8 + s))) refl refl refl refl refl refl refl refl (s - 8) (omega arith))
]

turned_parts : (f : ℕ → ℕ) (s : ℕ) → s < 16 → map f (range_with_len (16 - s) s) ++ map f (range_with_len 0 (16 - s)) ≡ each_byte (λ p. f ((p + (16 - s)) % 16))
unfolding each_byte
turned_parts f s h = elim (cases_lt s 8) [
  | inl l ↦ below_eight (λ s. map f (range_with_len (16 - s) s) ++ map f (range_with_len 0 (16 - s)) ≡ each_byte (λ p. f ((p + (16 - s)) % 16))) refl refl refl refl refl refl refl refl s l
  | inr l ↦
      let e : 8 + (s - 8) ≡ s = omega arith in
      rw (← e) (below_eight (λ s. map f (range_with_len (16 - (8 + s)) (8 + s)) ++ map f (range_with_len 0 (16 - (8 + s))) ≡ each_byte (λ p. f ((p + (16 - (8 + s))) % 16))) refl refl refl refl refl refl refl refl (s - 8) (omega arith))
]

-- sixteen pairs that store to sixteen addresses, from number s on, modulo 16
pub turned_stored : (file : List (List ℕ)) (m : List ℕ) (pair : ℕ → Store) (f : ℕ → ℕ) (doubleword_start s : ℕ) → s < 16
    → ((m : List ℕ) (k : ℕ) → stored file m (pair k) ≡ with_byte m (doubleword_start + (s + k) % 16) (f k))
    → with_bytes m doubleword_start (each_byte (λ p. f ((p + (16 - s)) % 16))) ≡ after_store file m (for_each 16 pair)
unfolding after_store for_each
turned_stored file m pair f doubleword_start s h each =
    let front : List ℕ = map f (range_with_len 0 (16 - s)) in
    let back : List ℕ = map f (range_with_len (16 - s) s) in
    let one : after_store file m (map pair (range_with_len 0 (16 - s))) ≡ with_bytes m (doubleword_start + s) front =
    pairs_stored file m pair f (doubleword_start + s) 0 (16 - s) (λ m k l.
    let x : doubleword_start + (s + (0 + k)) % 16 ≡ doubleword_start + s + k = omega arith in
    each m (0 + k) ∙ ap (λ a. with_byte m a (f (0 + k))) x) in
    let two : after_store file (with_bytes m (doubleword_start + s) front) (map pair (range_with_len (16 - s) s)) ≡ with_bytes (with_bytes m (doubleword_start + s) front) doubleword_start back =
    pairs_stored file (with_bytes m (doubleword_start + s) front) pair f doubleword_start (16 - s) s (λ m k l.
    let x : doubleword_start + (s + (16 - s + k)) % 16 ≡ doubleword_start + k = omega arith in
    each m (16 - s + k) ∙ ap (λ a. with_byte m a (f (16 - s + k))) x) in
    let apart : (j k : ℕ) → j < length front → k < length back → (doubleword_start + s + j) % 4096 ≢ (doubleword_start + k) % 4096 =
    λ j k l n e. omega (arith, length-map-range_with_len f 0 (16 - s), length-map-range_with_len f (16 - s) s) in
    let joined : with_bytes m doubleword_start (back ++ front) ≡ with_bytes (with_bytes m doubleword_start back) (doubleword_start + s) front =
    write_all-append with_byte m doubleword_start back front ∙ ap (λ n. with_bytes (with_bytes m doubleword_start back) (doubleword_start + n) front) (length-map-range_with_len f (16 - s) s) in
    ap (with_bytes m doubleword_start) (sym (turned_parts f s h)) ∙ joined ∙ sym (runs_past m (doubleword_start + s) doubleword_start front back apart) ∙ sym two
    ∙ ap (λ m. after_store file m (map pair (range_with_len (16 - s) s))) (sym one)
    ∙ sym (ap (after_store file m) (parts pair s h) ∙ fold-append (stored file) m (map pair (range_with_len 0 (16 - s))) (map pair (range_with_len (16 - s) s)))

pub rotated_stored : (file : List (List ℕ)) (m : List ℕ) (vt e a : ℕ)
    → with_bytes m (doubleword_start a) (each_byte (λ k. register_byte (vector file vt) ((e + (16 - a % 8) + k) % 16))) ≡ after_store file m (for_each 16 (λ j. from_byte vt ((e + j) % 16) (wrapped_address a j)))
unfolding stored
rotated_stored file m vt e a =
    ap (with_bytes m (doubleword_start a)) (each_byte_same _ _ (λ k h. ap (register_byte (vector file vt)) (omega arith)))
    ∙ turned_stored file m (λ j. from_byte vt ((e + j) % 16) (wrapped_address a j)) (λ k. register_byte (vector file vt) ((e + k) % 16)) (doubleword_start a) (a % 8) (omega arith) (λ _ _. refl)

-- byte q of the lanes that a transposed store takes from eight registers
diagonal_byte : (file : List (List ℕ)) (base half q : ℕ) → q < 16
    → register_byte (each_lane (λ i. get_or (vector file (base + (half + i) % 8)) i 0)) q ≡ register_byte (vector file (base + (half + q / 2) % 8)) q
unfolding register_byte
diagonal_byte file base half q h =
    let lane = lane_of 0 (λ i. get_or (vector file (base + (half + i) % 8)) i 0) _ refl (q / 2) (omega arith) in
    rw lane refl

pub transposed_stored : (file : List (List ℕ)) (m : List ℕ) (vt e a : ℕ) → e < 16
    → with_bytes m (doubleword_start a) (each_byte (λ k. register_byte (each_lane (λ i. get_or (vector file (group_start vt + (e / 2 + i) % 8)) i 0)) ((16 - a % 8 + k) % 16)))
    ≡ after_store file m (for_each 16 (stv_pair vt (down_to_even e) a))
unfolding stored
transposed_stored file m vt e a h =
    ap (with_bytes m (doubleword_start a)) (each_byte_same _ _ (λ p l.
    let k : ℕ = (p + (16 - (a % 8 + 16 - down_to_even e) % 16)) % 16 in
    let r : (e / 2 + (16 - a % 8 + p) % 16 / 2) % 8 ≡ k / 2 = omega arith in
    let q : (16 - a % 8 + p) % 16 ≡ minus_modulo_16 k (down_to_even e) = omega arith in
    diagonal_byte file (group_start vt) (e / 2) ((16 - a % 8 + p) % 16) (omega arith)
    ∙ ap (λ n. register_byte (vector file (group_start vt + n)) ((16 - a % 8 + p) % 16)) r
    ∙ ap (register_byte (vector file (group_start vt + k / 2))) q))
    ∙ turned_stored file m
    (stv_pair vt (down_to_even e) a)
    (λ k. register_byte (vector file (group_start vt + k / 2)) (minus_modulo_16 k (down_to_even e)))
    (doubleword_start a) ((a % 8 + 16 - down_to_even e) % 16) (omega arith)
    (λ m k. ap (λ p. with_byte m (doubleword_start a + p) (register_byte (vector file (group_start vt + k / 2)) (minus_modulo_16 k (down_to_even e)))) (omega arith))
