-- A transposed load, by lanes.
use Rattle.std.proofs.Common.{◌≡◌, ℕ, zero, suc, ◌≤◌, [], map, ◌+◌, ◌-◌, ◌*◌, ◌/◌, ◌%◌, ◌<◌, List, length, get_or, set, refl, sym, ap, ◌∙◌, arith, inl, inr}
use Rattle.std.specs.List.{range_with_len, fold}
use Rattle.std.proofs.lemmas.Bool.{cases_lt}
use Rattle.std.proofs.lemmas.List.{set-set, set_past, get_or-set_same}
use Rattle.rsp_memory.specs.Memory.{byte_at, bytes_at}
use Rattle.rsp_lanes.specs.Lanes.{with_register_byte}
use Rattle.rsp_lanes.specs.Bytes.{of_bytes}
use Rattle.rsp_lanes.proofs.Kit.{lane_of}
use Rattle.rsp_loadstore.specs.File.{vector, with_vector}
use Rattle.rsp_loadstore.specs.TransposedLanes.{with_diagonal_lane, with_diagonal}
use Rattle.rsp_loadstore.specs.Loads.{Load, to_byte, loaded, after_load}
use Rattle.rsp_loadstore.specs.Pairs.{for_each, doubleword_start, upper_half, group_start}
use Rattle.rsp_loadstore.proofs.Pairs.{load_none, load_more, fold_map_more}
use Rattle.rsp_loadstore.proofs.BytesLoaded.{window_byte}
use Rattle.rsp_loadstore.proofs.Diagonal.{diagonal_by_lanes}

-- a pair of the load
abbrev pub pair_of : ℕ → ℕ → ℕ → ℕ → Load
pair_of vt e a k = to_byte (group_start vt + (e / 2 + k / 2) % 8) k (doubleword_start a + (k + e + upper_half a) % 16)

-- two bytes make a lane; if there is no such lane nothing is written
byte_pair : (v : List ℕ) (j b c : ℕ) → with_register_byte (with_register_byte v (2 * j) b) (2 * j + 1) c ≡ set v j (b * 256 + c)
unfolding with_register_byte
byte_pair v j b c =
    let e : 2 * j / 2 ≡ j = omega arith in
    let f : (2 * j + 1) / 2 ≡ j = omega arith in
    let g : 2 * j % 2 ≡ 0 = omega arith in
    let k : (2 * j + 1) % 2 ≡ 1 = omega arith in
    let x : (b * 256 + get_or v j 0 % 256) / 256 ≡ b = omega arith in
    rw (e, f, g, k, set-set) (elim (cases_lt j (length v)) [
      | inl h ↦ rw (get_or-set_same v j (b * 256 + get_or v j 0 % 256) 0 h, x) refl
      | inr h ↦ set_past v j _ h ∙ sym (set_past v j _ h)
    ])

-- a register that is written by what it was written with; if there is no such register nothing is written
written_twice : (file : List (List ℕ)) (n : ℕ) (v : List ℕ) (f : List ℕ → List ℕ) → with_vector (with_vector file n v) n (f (vector (with_vector file n v) n)) ≡ with_vector file n (f v)
unfolding with_vector vector
written_twice file n v f = set-set file n v _ ∙ elim (cases_lt n (length file)) [
  | inl h ↦ ap (λ u. set file n (f u)) (get_or-set_same file n v [] h)
  | inr h ↦ set_past file n _ h ∙ sym (set_past file n _ h)
]

-- the bytes of a window, rotated
abbrev pub turned_bytes : List ℕ → ℕ → List ℕ
turned_bytes window first = of_bytes (λ k. get_or window ((first + k) % 16) 0)

turned_lane : (window : List ℕ) (first i : ℕ) → i < 8 → get_or (turned_bytes window first) i 0 ≡ get_or window ((first + 2 * i) % 16) 0 * 256 + get_or window ((first + (2 * i + 1)) % 16) 0
unfolding of_bytes
turned_lane window first i h = lane_of 0 (λ i. get_or window ((first + 2 * i) % 16) 0 * 256 + get_or window ((first + (2 * i + 1)) % 16) 0) _ refl i h

-- two pairs are a lane of a register
lane_loaded : (m : List ℕ) (file : List (List ℕ)) (vt e a i : ℕ) (window : List ℕ) → e < 16 → i < 8 → window ≡ bytes_at m (doubleword_start a) 16
    → loaded m (loaded m file (pair_of vt e a (2 * i))) (pair_of vt e a (2 * i + 1)) ≡ with_diagonal_lane (turned_bytes window (e + upper_half a)) (group_start vt) (e / 2) file ((e / 2 + i) % 8)
unfolding loaded
lane_loaded m file vt e a i window l h w =
    let n : ℕ = group_start vt + (e / 2 + i) % 8 in
    let lanes : List ℕ = turned_bytes window (e + upper_half a) in
    let b : ℕ = byte_at m (doubleword_start a + (2 * i + e + upper_half a) % 16) in
    let c : ℕ = byte_at m (doubleword_start a + (2 * i + 1 + e + upper_half a) % 16) in
    let x : (e / 2 + 2 * i / 2) % 8 ≡ (e / 2 + i) % 8 = omega arith in
    let y : (e / 2 + (2 * i + 1) / 2) % 8 ≡ (e / 2 + i) % 8 = omega arith in
    let j : i ≡ ((e / 2 + i) % 8 + 8 - e / 2) % 8 = omega arith in
    let high : get_or window ((e + upper_half a + 2 * i) % 16) 0 ≡ b =
    ap (λ bs. get_or bs ((e + upper_half a + 2 * i) % 16) 0) w ∙ window_byte m (doubleword_start a) 16 _ (omega arith) ∙ ap (λ p. byte_at m (doubleword_start a + p)) (omega arith) in
    let low : get_or window ((e + upper_half a + (2 * i + 1)) % 16) 0 ≡ c =
    ap (λ bs. get_or bs ((e + upper_half a + (2 * i + 1)) % 16) 0) w ∙ window_byte m (doubleword_start a) 16 _ (omega arith) ∙ ap (λ p. byte_at m (doubleword_start a + p)) (omega arith) in
    let value : b * 256 + c ≡ get_or lanes i 0 = sym (turned_lane window (e + upper_half a) i h ∙ rw (high, low) refl) in
    rw (x, y) (written_twice file n (with_register_byte (vector file n) (2 * i) b) (λ v. with_register_byte v (2 * i + 1) c))
    ∙ ap (with_vector file n) (byte_pair (vector file n) i b c ∙ ap (set (vector file n) i) value ∙ ap (λ i. set (vector file n) i (get_or lanes i 0)) j)

-- lane by lane
lanes_loaded : (m : List ℕ) (file : List (List ℕ)) (vt e a n : ℕ) (window : List ℕ) → e < 16 → n ≤ 8 → window ≡ bytes_at m (doubleword_start a) 16
    → after_load m file (for_each (2 * n) (pair_of vt e a))
    ≡ fold (with_diagonal_lane (turned_bytes window (e + upper_half a)) (group_start vt) (e / 2)) file (map (λ i. (e / 2 + i) % 8) (range_with_len 0 n))
lanes_loaded m file vt e a zero window l h w = load_none m file (pair_of vt e a)
lanes_loaded m file vt e a (suc n) window l h w =
    let step : List (List ℕ) → ℕ → List (List ℕ) = with_diagonal_lane (turned_bytes window (e + upper_half a)) (group_start vt) (e / 2) in
    let pair : ℕ → Load = pair_of vt e a in
    let wrapped_address : ℕ → ℕ = λ i. (e / 2 + i) % 8 in
    let twice : 2 * suc n ≡ 2 * n + 1 + 1 = omega arith in
    let more : n + 1 ≡ suc n = omega arith in
    let ih : after_load m file (for_each (2 * n) pair) ≡ fold step file (map wrapped_address (range_with_len 0 n)) = lanes_loaded m file vt e a n window l (omega arith) w in
    ap (λ k. after_load m file (for_each k pair)) twice
    ∙ load_more m file pair (2 * n + 1)
    ∙ ap (λ s. loaded m s (pair (2 * n + 1))) (load_more m file pair (2 * n) ∙ ap (λ s. loaded m s (pair (2 * n))) ih)
    ∙ lane_loaded m (fold step file (map wrapped_address (range_with_len 0 n))) vt e a n window l (omega arith) w
    ∙ sym (fold_map_more step file wrapped_address n)
    ∙ ap (λ k. fold step file (map wrapped_address (range_with_len 0 k))) more

pub transposed_loaded : (m : List ℕ) (file : List (List ℕ)) (vt e a : ℕ) (window : List ℕ) → e < 16 → window ≡ bytes_at m (doubleword_start a) 16
    → with_diagonal (turned_bytes window (e + upper_half a)) (group_start vt) (e / 2) file 8 ≡ after_load m file (for_each 16 (pair_of vt e a))
transposed_loaded m file vt e a window h w =
    diagonal_by_lanes (turned_bytes window (e + upper_half a)) (group_start vt) (e / 2) file (omega arith)
    ∙ sym (lanes_loaded m file vt e a 8 window h (omega arith) w)
