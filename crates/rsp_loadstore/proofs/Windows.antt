-- What the pairs of an instruction reach: those of a store the sixteen bytes of its window, those of a load its
-- register or its group.
use Rattle.std.proofs.Common.{◌≡◌, ◌≢◌, ℕ, zero, suc, ◌+◌, ◌-◌, ◌%◌, ◌<◌, ◌≤◌, Bool, true, false, List, [], ◌∷◌, map, length, refl, ◌∙◌, arith, get_or, get_or-set_other, min}
use Rattle.std.specs.Prelude.{if◌then◌else◌, nat_lt}
use Rattle.std.specs.List.{range_with_len}
use Rattle.std.proofs.lemmas.List.{length-set}
use Rattle.rsp_memory.specs.Memory.{bytes_at, with_bytes}
use Rattle.rsp_memory.proofs.PutBack.{IsElsewhere, addresses, bytes-back, length-with_byte, with_byte-elsewhere, elsewhere-at}
use Rattle.rsp_decode.specs.declared.vector.VectorLoadOp.{VectorLoadOp}
use Rattle.rsp_decode.specs.declared.vector.VectorLoadOp.TheVariants.{Lbv, Lsv, Llv, Ldv, Lqv, Lrv, Lpv, Luv, Lhv, Lfv, Ltv}
use Rattle.rsp_decode.specs.declared.vector.VectorStoreOp.{VectorStoreOp}
use Rattle.rsp_decode.specs.declared.vector.VectorStoreOp.TheVariants.{Sbv, Ssv, Slv, Sdv, Sqv, Srv, Spv, Suv, Shv, Sfv, Swv, Stv}
use Rattle.rsp_loadstore.specs.File.{with_vector}
use Rattle.rsp_loadstore.specs.Pairs.{for_each, group_start}
use Rattle.rsp_loadstore.specs.Loads.{Load, to_byte, to_lane, loaded, after_load, load_pairs}
use Rattle.rsp_loadstore.specs.Stores.{Store, from_byte, from_bits_14_to_7, high_byte_pair, bits_14_to_7_pair, spv_pair, suv_pair, stored, after_store, store_pairs}
use Rattle.rsp_loadstore.specs.Windows.{writes_group, window_of}

-- what holds of each member of a list
abbrev Each : {P : Type 0} → (P → Type 0) → List P → Type 0
Each Q [] = Unit {0}
Each Q (p ∷ ps) = Q p × Each Q ps

-- what holds of each f k holds of the list
each_from : {P : Type 0} (Q : P → Type 0) (f : ℕ → P) (i n : ℕ) → ((k : ℕ) → i ≤ k → k < i + n → Q (f k)) → Each Q (map f (range_with_len i n))
each_from Q f i zero h = tt
each_from Q f i (suc n) h = (h i (omega arith) (omega arith), each_from Q f (i + 1) n (λ k l m. h k (omega (arith, l)) (omega (arith, m))))

each_for_each : {P : Type 0} (Q : P → Type 0) (n : ℕ) (f : ℕ → P) → ((k : ℕ) → k < n → Q (f k)) → Each Q (for_each n f)
unfolding for_each
each_for_each Q n f h = each_from Q f 0 n (λ k l m. h k (omega (arith, m)))

-- the address that a pair stores to, one of the sixteen from w on
abbrev address_of : Store → ℕ
address_of (from_byte r i a) = a
address_of (from_bits_14_to_7 r i a) = a

abbrev IsInside : ℕ → Store → Type 0
IsInside w p = (w ≤ address_of p) × (address_of p < w + 16)

address_packed : (vt j a : ℕ) → address_of (spv_pair vt j a) ≡ a
address_packed vt j a = elim (nat_lt j 8) as (λ b. address_of (if b then high_byte_pair vt j a else bits_14_to_7_pair vt (j % 8) a) ≡ a) [ true ↦ refl | false ↦ refl ]

address_unsigned : (vt j a : ℕ) → address_of (suv_pair vt j a) ≡ a
address_unsigned vt j a = elim (nat_lt j 8) as (λ b. address_of (if b then bits_14_to_7_pair vt j a else high_byte_pair vt (j % 8) a) ≡ a) [ true ↦ refl | false ↦ refl ]

-- each pair of a store is inside its window
stores_inside : (op : VectorStoreOp) (vt e a : ℕ) → Each (IsInside (window_of op a)) (store_pairs op vt e a)
unfolding store_pairs
stores_inside Sbv vt e a = each_for_each (IsInside (window_of Sbv a)) 1 _ (λ k h. (omega arith, omega arith))
stores_inside Ssv vt e a = each_for_each (IsInside (window_of Ssv a)) 2 _ (λ k h. (omega arith, omega arith))
stores_inside Slv vt e a = each_for_each (IsInside (window_of Slv a)) 4 _ (λ k h. (omega arith, omega arith))
stores_inside Sdv vt e a = each_for_each (IsInside (window_of Sdv a)) 8 _ (λ k h. (omega arith, omega arith))
stores_inside Sqv vt e a = each_for_each (IsInside (window_of Sqv a)) (16 - a % 16) _ (λ k h. (omega arith, omega arith))
stores_inside Srv vt e a = each_for_each (IsInside (window_of Srv a)) (a % 16) _ (λ k h. (omega arith, omega arith))
stores_inside Spv vt e a = each_for_each (IsInside (window_of Spv a)) 8 (λ k. spv_pair vt ((e + k) % 16) (a + k)) (λ k h.
    let p = address_packed vt ((e + k) % 16) (a + k) in
    (omega (arith, p), omega (arith, p)))
stores_inside Suv vt e a = each_for_each (IsInside (window_of Suv a)) 8 (λ k. suv_pair vt ((e + k) % 16) (a + k)) (λ k h.
    let p = address_unsigned vt ((e + k) % 16) (a + k) in
    (omega (arith, p), omega (arith, p)))
stores_inside Shv vt e a = each_for_each (IsInside (window_of Shv a)) 8 _ (λ k h. (omega arith, omega arith))
stores_inside Sfv vt e a = each_for_each (IsInside (window_of Sfv a)) 4 _ (λ k h. (omega arith, omega arith))
stores_inside Swv vt e a = each_for_each (IsInside (window_of Swv a)) 16 _ (λ k h. (omega arith, omega arith))
stores_inside Stv vt e a = each_for_each (IsInside (window_of Stv a)) 16 _ (λ k h. (omega arith, omega arith))

length-stored : (file : List (List ℕ)) (m : List ℕ) (p : Store) → length (stored file m p) ≡ length m
unfolding stored
length-stored file m (from_byte r i a) = length-with_byte m a _
length-stored file m (from_bits_14_to_7 r i a) = length-with_byte m a _

length-after_store : (file : List (List ℕ)) (m : List ℕ) (ps : List Store) → length (after_store file m ps) ≡ length m
unfolding after_store
length-after_store file m [] = refl
length-after_store file m (p ∷ ps) = length-after_store file (stored file m p) ps ∙ length-stored file m p

stored-elsewhere : (file : List (List ℕ)) (m : List ℕ) (p : Store) (r : ℕ) → r ≢ address_of p % 4096 → get_or (stored file m p) r 0 ≡ get_or m r 0
unfolding stored
stored-elsewhere file m (from_byte n i a) r h = with_byte-elsewhere m a _ r h
stored-elsewhere file m (from_bits_14_to_7 n i a) r h = with_byte-elsewhere m a _ r h

after_store-elsewhere : (file : List (List ℕ)) (m : List ℕ) (ps : List Store) (w r : ℕ) → Each (IsInside w) ps → IsElsewhere r (addresses w 16)
    → get_or (after_store file m ps) r 0 ≡ get_or m r 0
unfolding after_store
after_store-elsewhere file m [] w r inside there = refl
after_store-elsewhere file m (p ∷ ps) w r inside there =
    let e : w + (address_of p - w) ≡ address_of p = omega (arith, inside.0.0) in
    let at : r ≢ (w + (address_of p - w)) % 4096 = elsewhere-at r w 16 (address_of p - w) there (omega (arith, inside.0.1)) in
    after_store-elsewhere file (stored file m p) ps w r inside.1 there ∙ stored-elsewhere file m p r (rw e at at)

-- a store undone: the old sixteen bytes of its window are written back
pub stored-back : (op : VectorStoreOp) (vt e a : ℕ) (file : List (List ℕ)) (m : List ℕ)
    → with_bytes (after_store file m (store_pairs op vt e a)) (window_of op a) (bytes_at m (window_of op a) 16) ≡ m
stored-back op vt e a file m =
    bytes-back m _ (window_of op a) 16 (length-after_store file m (store_pairs op vt e a))
    (λ r there. after_store-elsewhere file m (store_pairs op vt e a) (window_of op a) r (stores_inside op vt e a) there)

-- the register that a pair loads into, one of n from the first on: eight of a group, or one
abbrev register_of : Load → ℕ
register_of (to_byte r i a) = r
register_of (to_lane r i f a) = r

abbrev pub first_of : Bool → ℕ → ℕ
first_of eight vt = if eight then group_start vt else vt

abbrev pub count_of : Bool → ℕ
count_of eight = if eight then 8 else 1

abbrev IsAmong : ℕ → ℕ → Load → Type 0
IsAmong first n p = (first ≤ register_of p) × (register_of p < first + n)

-- each pair of a load is among its registers
loads_among : (op : VectorLoadOp) (vt e a : ℕ) → Each (IsAmong (first_of (writes_group op) vt) (count_of (writes_group op))) (load_pairs op vt e a)
unfolding load_pairs
loads_among Lbv vt e a = each_for_each (IsAmong vt 1) (min 1 (16 - e)) _ (λ k h. (omega arith, omega arith))
loads_among Lsv vt e a = each_for_each (IsAmong vt 1) (min 2 (16 - e)) _ (λ k h. (omega arith, omega arith))
loads_among Llv vt e a = each_for_each (IsAmong vt 1) (min 4 (16 - e)) _ (λ k h. (omega arith, omega arith))
loads_among Ldv vt e a = each_for_each (IsAmong vt 1) (min 8 (16 - e)) _ (λ k h. (omega arith, omega arith))
loads_among Lqv vt e a = each_for_each (IsAmong vt 1) (min (16 - a % 16) (16 - e)) _ (λ k h. (omega arith, omega arith))
loads_among Lrv vt e a = each_for_each (IsAmong vt 1) (a % 16 - e) _ (λ k h. (omega arith, omega arith))
loads_among Lpv vt e a = each_for_each (IsAmong vt 1) 8 _ (λ k h. (omega arith, omega arith))
loads_among Luv vt e a = each_for_each (IsAmong vt 1) 8 _ (λ k h. (omega arith, omega arith))
loads_among Lhv vt e a = each_for_each (IsAmong vt 1) 8 _ (λ k h. (omega arith, omega arith))
loads_among Lfv vt e a = each_for_each (IsAmong vt 1) 4 _ (λ k h. (omega arith, omega arith))
loads_among Ltv vt e a = each_for_each (IsAmong (group_start vt) 8) 16 _ (λ k h. (omega arith, omega arith))

length-loaded : (m : List ℕ) (file : List (List ℕ)) (p : Load) → length (loaded m file p) ≡ length file
unfolding loaded with_vector
length-loaded m file (to_byte n i a) = length-set file n _
length-loaded m file (to_lane n i f a) = length-set file n _

length-after_load : (m : List ℕ) (file : List (List ℕ)) (ps : List Load) → length (after_load m file ps) ≡ length file
unfolding after_load
length-after_load m file [] = refl
length-after_load m file (p ∷ ps) = length-after_load m (loaded m file p) ps ∙ length-loaded m file p

loaded-elsewhere : (m : List ℕ) (file : List (List ℕ)) (p : Load) (r : ℕ) → r ≢ register_of p → get_or (loaded m file p) r [] ≡ get_or file r []
unfolding loaded with_vector
loaded-elsewhere m file (to_byte n i a) r h = get_or-set_other file n r _ [] h
loaded-elsewhere m file (to_lane n i f a) r h = get_or-set_other file n r _ [] h

after_load-elsewhere : (m : List ℕ) (file : List (List ℕ)) (ps : List Load) (first n r : ℕ) → Each (IsAmong first n) ps → ((j : ℕ) → j < n → r ≢ first + j)
    → get_or (after_load m file ps) r [] ≡ get_or file r []
unfolding after_load
after_load-elsewhere m file [] first n r among there = refl
after_load-elsewhere m file (p ∷ ps) first n r among there =
    let e : first + (register_of p - first) ≡ register_of p = omega (arith, among.0.0) in
    let at : r ≢ first + (register_of p - first) = there (register_of p - first) (omega (arith, among.0.0, among.0.1)) in
    after_load-elsewhere m (loaded m file p) ps first n r among.1 there ∙ loaded-elsewhere m file p r (rw e at at)

-- a load keeps all registers but its own, and their number
pub length-load : (op : VectorLoadOp) (m : List ℕ) (file : List (List ℕ)) (vt e a : ℕ) → length (after_load m file (load_pairs op vt e a)) ≡ length file
length-load op m file vt e a = length-after_load m file (load_pairs op vt e a)

pub load-elsewhere : (op : VectorLoadOp) (m : List ℕ) (file : List (List ℕ)) (vt e a r : ℕ)
    → ((j : ℕ) → j < count_of (writes_group op) → r ≢ first_of (writes_group op) vt + j)
    → get_or (after_load m file (load_pairs op vt e a)) r [] ≡ get_or file r []
load-elsewhere op m file vt e a r there =
    after_load-elsewhere m file (load_pairs op vt e a) (first_of (writes_group op) vt) (count_of (writes_group op)) r (loads_among op vt e a) there
