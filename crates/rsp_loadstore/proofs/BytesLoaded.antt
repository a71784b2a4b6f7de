-- Bytes that are loaded one by one are written to the register at once.
use Rattle.std.proofs.Common.{◌≡◌, ◌≢◌, ℕ, zero, suc, ◌+◌, ◌-◌, ◌*◌, ◌/◌, ◌%◌, ◌<◌, ◌≤◌, ◌&&◌, min, ◌^◌, ◌⊎◌, cond, List, [], true, false, if◌then◌else◌, nat_le, nat_lt, nat_eq, length, get_or, set, refl, sym, ap, ◌∙◌, arith, inl, inr}
use Rattle.std.proofs.lemmas.Bool.{cases_eq, cases_lt}
use Rattle.std.proofs.lemmas.Bool.Decides.{nat_tests}
use Rattle.std.proofs.lemmas.List.{set-set, get_or-set_same, set-get_or}
use Rattle.rsp_memory.specs.Memory.{byte_at, bytes_at}
use Rattle.rsp_numbers.specs.Numbers.{bit_set}
use Rattle.rsp_lanes.specs.Lanes.{each_lane, register_byte, with_register_byte}
use Rattle.rsp_lanes.specs.Bytes.{of_bytes, with_register_bytes}
use Rattle.rsp_lanes.proofs.Kit.{eta, each_same, lane_of, below_eight}
use Rattle.rsp_loadstore.specs.File.{vector, with_vector}
use Rattle.rsp_loadstore.specs.Loads.{Load, to_byte, to_lane, loaded, after_load}
use Rattle.rsp_loadstore.specs.Moves.{with_register_half}
use Rattle.rsp_loadstore.specs.Pairs.{for_each, doubleword_start, wrapped_address}
use Rattle.rsp_loadstore.proofs.Pairs.{load_none, load_more}

-- a register that is written, read and written again
same_register : (file : List (List ℕ)) (n : ℕ) → with_vector file n (vector file n) ≡ file
unfolding with_vector vector
same_register file n = set-get_or file n []

register_again : (file : List (List ℕ)) (n : ℕ) (v w : List ℕ) → n < length file
    → (vector (with_vector file n v) n ≡ v) × (with_vector (with_vector file n v) n w ≡ with_vector file n w)
unfolding with_vector vector
register_again file n v w h = (get_or-set_same file n v [] h, set-set file n v w)

-- if each pair changes one register alone, the states of the register give those of the file
pub one_register : (m : List ℕ) (file : List (List ℕ)) (vt n : ℕ) (f : ℕ → Load) (step : List ℕ → ℕ → List ℕ) (states : ℕ → List ℕ)
    → vt < length file
    → ((file : List (List ℕ)) (k : ℕ) → loaded m file (f k) ≡ with_vector file vt (step (vector file vt) k))
    → states 0 ≡ vector file vt → ((k : ℕ) → k < n → states (k + 1) ≡ step (states k) k)
    → after_load m file (for_each n f) ≡ with_vector file vt (states n)
one_register m file vt zero f step states h one first more = load_none m file f ∙ sym (same_register file vt) ∙ ap (with_vector file vt) (sym first)
one_register m file vt (suc n) f step states h one first more =
    let ih : after_load m file (for_each n f) ≡ with_vector file vt (states n) = one_register m file vt n f step states h one first (λ k l. more k (omega arith)) in
    let e : suc n ≡ n + 1 = omega arith in
    let again = register_again file vt (states n) (step (states n) n) h in
    ap (λ k. after_load m file (for_each k f)) e ∙ load_more m file f n
    ∙ rw (ih, one (with_vector file vt (states n)) n, again.0, again.1) (ap (with_vector file vt) (sym (ap states e ∙ more n (omega arith))))

-- a lane of a list that was made lane by lane
pub set_each : (f : ℕ → ℕ) (j y : ℕ) → j < 8 → set (each_lane f) j y ≡ each_lane (λ l. if nat_eq l j then y else f l)
unfolding each_lane
set_each f j y = below_eight (λ j. set (each_lane f) j y ≡ each_lane (λ l. if nat_eq l j then y else f l)) refl refl refl refl refl refl refl refl j

-- a byte of a register that is made byte by byte; the byte before it is any, since only its lane's low byte is read
high_written : (f g : ℕ → ℕ) (j b : ℕ) → j < 8 → ((k : ℕ) → k ≢ 2 * j → g k ≡ f k) → g (2 * j) ≡ b → f (2 * j + 1) < 256
    → with_register_byte (of_bytes f) (2 * j) b ≡ of_bytes g
unfolding with_register_byte of_bytes
high_written f g j b h other here low =
    let e : 2 * j / 2 ≡ j = omega arith in
    let p : 2 * j % 2 ≡ 0 = omega arith in
    let x : get_or (each_lane (λ i. f (2 * i) * 256 + f (2 * i + 1))) j 0 ≡ f (2 * j) * 256 + f (2 * j + 1) = lane_of 0 (λ i. f (2 * i) * 256 + f (2 * i + 1)) _ refl j h in
    let y : (f (2 * j) * 256 + f (2 * j + 1)) % 256 ≡ f (2 * j + 1) = omega arith in
    rw (e, p, x, y) (set_each (λ i. f (2 * i) * 256 + f (2 * i + 1)) j (b * 256 + f (2 * j + 1)) h ∙ each_same _ _ (λ l k. lane l))
  where
    lane : (l : ℕ) → (if nat_eq l j then b * 256 + f (2 * j + 1) else f (2 * l) * 256 + f (2 * l + 1)) ≡ g (2 * l) * 256 + g (2 * l + 1)
    lane l = grind (arith, nat_tests, here, other (2 * l), other (2 * l + 1))

with_low_bits : (f g : ℕ → ℕ) (j b : ℕ) → j < 8 → ((k : ℕ) → k ≢ 2 * j + 1 → g k ≡ f k) → g (2 * j + 1) ≡ b → f (2 * j + 1) < 256
    → with_register_byte (of_bytes f) (2 * j + 1) b ≡ of_bytes g
unfolding with_register_byte of_bytes
with_low_bits f g j b h other here low =
    let e : (2 * j + 1) / 2 ≡ j = omega arith in
    let p : (2 * j + 1) % 2 ≡ 1 = omega arith in
    let x : get_or (each_lane (λ i. f (2 * i) * 256 + f (2 * i + 1))) j 0 ≡ f (2 * j) * 256 + f (2 * j + 1) = lane_of 0 (λ i. f (2 * i) * 256 + f (2 * i + 1)) _ refl j h in
    let y : (f (2 * j) * 256 + f (2 * j + 1)) / 256 ≡ f (2 * j) = omega arith in
    rw (e, p, x, y) (set_each (λ i. f (2 * i) * 256 + f (2 * i + 1)) j (f (2 * j) * 256 + b) h ∙ each_same _ _ (λ l k. lane l))
  where
    lane : (l : ℕ) → (if nat_eq l j then f (2 * j) * 256 + b else f (2 * l) * 256 + f (2 * l + 1)) ≡ g (2 * l) * 256 + g (2 * l + 1)
    lane l = grind (arith, nat_tests, here, other (2 * l), other (2 * l + 1))

byte_written : (f g : ℕ → ℕ) (m b : ℕ) → m < 16 → ((k : ℕ) → k ≢ m → g k ≡ f k) → g m ≡ b → ((j : ℕ) → m ≤ 2 * j + 1 → f (2 * j + 1) < 256)
    → with_register_byte (of_bytes f) m b ≡ of_bytes g
byte_written f g m b h other here low = elim (cases_eq (m % 2) 0) [
  | inl p ↦
      let e : m ≡ 2 * (m / 2) = omega arith in
      ap (λ k. with_register_byte (of_bytes f) k b) e
      ∙ high_written f g (m / 2) b (omega arith) (λ k d. other k (λ q. d (q ∙ e))) (ap g (sym e) ∙ here) (low (m / 2) (omega arith))
  | inr p ↦
      let e : m ≡ 2 * (m / 2) + 1 = omega arith in
      ap (λ k. with_register_byte (of_bytes f) k b) e
      ∙ with_low_bits f g (m / 2) b (omega arith) (λ k d. other k (λ q. d (q ∙ e))) (ap g (sym e) ∙ here) (low (m / 2) (omega arith))
]

-- the bytes of a window
pub window_byte : (m : List ℕ) (a n k : ℕ) → k < n → get_or (bytes_at m a n) k 0 ≡ byte_at m (a + k)
window_byte m a zero k h = absurd (omega arith)
window_byte m a (suc n) zero h = ap (byte_at m) (omega arith)
window_byte m a (suc n) (suc k) h = window_byte m (a + 1) n k (omega arith) ∙ ap (byte_at m) (omega arith)

-- byte k of a register into which n bytes are written from byte i on
abbrev placed_byte : List ℕ → List ℕ → ℕ → ℕ → ℕ → ℕ
placed_byte v source i n k = if nat_le i k && nat_lt k (i + n) then get_or source (k - i) 0 else register_byte v k

none_byte : (v source : List ℕ) (i k : ℕ) → placed_byte v source i 0 k ≡ register_byte v k
none_byte v source i k = grind (arith, nat_tests)

both_bytes : (v : List ℕ) (l : ℕ) → register_byte v (2 * l) * 256 + register_byte v (2 * l + 1) ≡ get_or v l 0
unfolding register_byte
both_bytes v l =
    let e : 2 * l / 2 ≡ l = omega arith in
    let f : (2 * l + 1) / 2 ≡ l = omega arith in
    let p : 2 * l % 2 ≡ 0 = omega arith in
    let q : (2 * l + 1) % 2 ≡ 1 = omega arith in
    rw (e, f, p, q) (omega arith)

placed_none : (v source : List ℕ) (i : ℕ) → length v ≡ 8 → with_register_bytes v source i 0 ≡ v
unfolding of_bytes
placed_none v source i h = each_same _ _ (λ l k. rw (none_byte v source i (2 * l), none_byte v source i (2 * l + 1)) (both_bytes v l)) ∙ sym (eta 0 v h)

-- the low byte of the lane that the next byte, or the one after it, goes to is still the register's
kept_byte : (v source : List ℕ) (i n j : ℕ) → i + n ≤ 2 * j + 1 → placed_byte v source i n (2 * j + 1) < 256
unfolding register_byte
kept_byte v source i n j h =
    let q : (2 * j + 1) % 2 ≡ 1 = omega arith in
    let f : nat_lt (2 * j + 1) (i + n) ≡ false = grind (arith, nat_tests) in
    grind (arith, nat_tests, q, f)

placed_more : (v source : List ℕ) (i n : ℕ) → i + n < 16 → with_register_bytes v source i (n + 1) ≡ with_register_byte (with_register_bytes v source i n) (i + n) (get_or source n 0)
placed_more v source i n h =
    sym (byte_written (placed_byte v source i n) (placed_byte v source i (n + 1)) (i + n) (get_or source n 0) h (λ k d. other k d) here (kept_byte v source i n))
  where
    other : (k : ℕ) → k ≢ i + n → placed_byte v source i (n + 1) k ≡ placed_byte v source i n k
    other k d = grind (arith, nat_tests)

    here : placed_byte v source i (n + 1) (i + n) ≡ get_or source n 0
    here =
        let e : i + n - i ≡ n = omega arith in
        grind (arith, nat_tests)

-- of more bytes than fit the first are written
placed_room : (v source : List ℕ) (i n : ℕ) → with_register_bytes v source i n ≡ with_register_bytes v source i (min n (16 - i))
unfolding of_bytes
placed_room v source i n = each_same _ _ (λ l h. rw (room (2 * l) (omega arith), room (2 * l + 1) (omega arith)) refl)
  where
    room : (k : ℕ) → k < 16 → placed_byte v source i n k ≡ placed_byte v source i (min n (16 - i)) k
    room k h = grind (arith, nat_tests)

-- of two bytes the second, if it fits
two_placed : (v source : List ℕ) (i : ℕ) → length v ≡ 8 → i < 16
    → with_register_bytes v source i 2
    ≡ (if nat_lt i 15 then with_register_byte (with_register_byte v i (get_or source 0 0)) (i + 1) (get_or source 1 0) else with_register_byte v i (get_or source 0 0))
two_placed v source i h l =
    let here : i + 0 ≡ i = omega arith in
    let one : with_register_bytes v source i 1 ≡ with_register_byte v i (get_or source 0 0) =
    placed_more v source i 0 (omega arith) ∙ ap (λ v. with_register_byte v (i + 0) (get_or source 0 0)) (placed_none v source i h) ∙ ap (λ k. with_register_byte v k (get_or source 0 0)) here in
    elim (cases_lt i 15) [
      | inl b ↦
          let t : nat_lt i 15 ≡ true = grind (arith, nat_tests) in
          placed_more v source i 1 (omega arith) ∙ rw (t, one) refl
      | inr b ↦
          let t : nat_lt i 15 ≡ false = grind (arith, nat_tests) in
          let n : min 2 (16 - i) ≡ 1 = omega arith in
          placed_room v source i 2 ∙ rw (n, t) one
    ]

pub half_placed : (v source : List ℕ) (e value : ℕ) → length v ≡ 8 → e < 16 → get_or source 0 0 ≡ value / 256 % 256 → get_or source 1 0 ≡ value % 256
    → with_register_bytes v source e 2 ≡ with_register_half v e value
unfolding with_register_half
half_placed v source e value h l high low = two_placed v source e h l ∙ rw (high, low) refl

pub placed_loaded : (m : List ℕ) (file : List (List ℕ)) (vt i n a : ℕ) → vt < length file → length (vector file vt) ≡ 8 → n ≤ 16
    → with_vector file vt (with_register_bytes (vector file vt) (bytes_at m a 16) i n) ≡ after_load m file (for_each (min n (16 - i)) (λ k. to_byte vt (i + k) (a + k)))
unfolding loaded
placed_loaded m file vt i n a h l k =
    let v = vector file vt in
    let w = bytes_at m a 16 in
    ap (with_vector file vt) (placed_room v w i n)
    ∙ sym (one_register m file vt (min n (16 - i)) (λ k. to_byte vt (i + k) (a + k)) (λ v k. with_register_byte v (i + k) (byte_at m (a + k))) (with_register_bytes v w i)
    h (λ _ _. refl) (placed_none v w i l)
    (λ k lt. placed_more v w i k (omega arith) ∙ ap (with_register_byte (with_register_bytes v w i k) (i + k)) (window_byte m a 16 k (omega arith))))

-- a whole quadword
pub line_loaded : (m : List ℕ) (file : List (List ℕ)) (vt a : ℕ) → vt < length file → length (vector file vt) ≡ 8
    → with_vector file vt (of_bytes (λ k. get_or (bytes_at m a 16) ((0 + k) % 16) 0)) ≡ after_load m file (for_each 16 (λ k. to_byte vt (0 + k) (a + k)))
unfolding of_bytes
line_loaded m file vt a h l = ap (with_vector file vt) (each_same _ _ (λ i k. rw (byte (2 * i) (omega arith), byte (2 * i + 1) (omega arith)) refl)) ∙ placed_loaded m file vt 0 16 a h l (omega arith)
  where
    byte : (k : ℕ) → k < 16 → get_or (bytes_at m a 16) ((0 + k) % 16) 0 ≡ placed_byte (vector file vt) (bytes_at m a 16) 0 16 k
    byte k h =
        let e : (0 + k) % 16 ≡ k = omega arith in
        let s : nat_le 0 k ≡ true = grind (arith, nat_tests) in
        let t : nat_lt k (0 + 16) ≡ true = grind (arith, nat_tests) in
        let d : k - 0 ≡ k = omega arith in
        rw (e, s, t, d) refl

-- a register with n given lanes from one on
abbrev from_given : (ℕ → ℕ) → List ℕ → ℕ → ℕ → List ℕ
from_given value v half n = each_lane (λ i. if nat_le half i && nat_lt i (half + n) then value (i - half) else get_or v i 0)

from_given_none : (value : ℕ → ℕ) (v : List ℕ) (half : ℕ) → length v ≡ 8 → from_given value v half 0 ≡ v
from_given_none value v half h = each_same _ _ (λ i l. grind (arith, nat_tests)) ∙ sym (eta 0 v h)

from_given_more : (value : ℕ → ℕ) (v : List ℕ) (half n : ℕ) → half + n < 8 → from_given value v half (n + 1) ≡ set (from_given value v half n) (half + n) (value n)
from_given_more value v half n h = sym (set_each (λ i. if nat_le half i && nat_lt i (half + n) then value (i - half) else get_or v i 0) (half + n) (value n) h ∙ each_same _ _ (λ i l. same i))
  where
    same : (i : ℕ) → (if nat_eq i (half + n) then value n else if nat_le half i && nat_lt i (half + n) then value (i - half) else get_or v i 0)
        ≡ (if nat_le half i && nat_lt i (half + (n + 1)) then value (i - half) else get_or v i 0)
    same i = elim (cases_eq i (half + n)) [
      | inl e ↦
          let k : i - half ≡ n = omega arith in
          let t : nat_eq i (half + n) ≡ true = grind (arith, nat_tests, e) in
          let u : nat_le half i ≡ true = grind (arith, nat_tests, e) in
          let w : nat_lt i (half + (n + 1)) ≡ true = grind (arith, nat_tests, e) in
          rw (t, u, w, k) refl
      | inr d ↦
          let t : nat_eq i (half + n) ≡ false = grind (arith, nat_tests, d) in
          let w : nat_lt i (half + (n + 1)) ≡ nat_lt i (half + n) = grind (arith, nat_tests, d) in
          rw (t, w) refl
    ]

-- four lanes, with every fourth byte of a window
pub fourths_loaded : (m : List ℕ) (file : List (List ℕ)) (vt e a : ℕ) → vt < length file → length (vector file vt) ≡ 8 → (e ≡ 0) ⊎ (e ≡ 8)
    → with_vector file vt (each_lane (λ i. cond (bit_set (15 * 2 ^ (e / 2) % 256) i) (get_or (bytes_at m (doubleword_start a) 16) ((a % 8 + 2 * (2 * i % 8)) % 16) 0 * 128) (get_or (vector file vt) i 0)))
    ≡ after_load m file (for_each 4 (λ j. to_lane vt (e / 2 + j) 128 (wrapped_address a (4 * j))))
unfolding loaded
fourths_loaded m file vt e a h l half =
    ap (with_vector file vt) (each_same _ _ (λ i k. ap (λ b. cond (bit_set (15 * 2 ^ (e / 2) % 256) i) (b * 128) (get_or (vector file vt) i 0)) (byte i) ∙ lane i k))
    ∙ sym (one_register m file vt 4 (λ j. to_lane vt (e / 2 + j) 128 (wrapped_address a (4 * j))) (λ v j. set v (e / 2 + j) (value j)) (from_given value (vector file vt) (e / 2))
    h (λ _ _. refl) (from_given_none value (vector file vt) (e / 2) l) (λ k lt. from_given_more value (vector file vt) (e / 2) k (small k lt)))
  where
    value : ℕ → ℕ
    value j = byte_at m (wrapped_address a (4 * j)) * 128

    small : (k : ℕ) → k < 4 → e / 2 + k < 8
    small k lt = elim half [
      | inl z ↦ omega (arith, z)
      | inr z ↦ omega (arith, z)
    ]

    byte : (i : ℕ) → get_or (bytes_at m (doubleword_start a) 16) ((a % 8 + 2 * (2 * i % 8)) % 16) 0 ≡ byte_at m (doubleword_start a + (a % 8 + 2 * (2 * i % 8)) % 16)
    byte i = window_byte m (doubleword_start a) 16 _ (omega arith)

    lane : (i : ℕ) → i < 8 → cond (bit_set (15 * 2 ^ (e / 2) % 256) i) (byte_at m (doubleword_start a + (a % 8 + 2 * (2 * i % 8)) % 16) * 128) (get_or (vector file vt) i 0)
        ≡ (if nat_le (e / 2) i && nat_lt i (e / 2 + 4) then value (i - e / 2) else get_or (vector file vt) i 0)
    lane i k = elim half [
      | inl z ↦ rw z (below_eight (λ i. cond (bit_set 15 i) (byte_at m (doubleword_start a + (a % 8 + 2 * (2 * i % 8)) % 16) * 128) (get_or (vector file vt) i 0)
          ≡ (if nat_le 0 i && nat_lt i 4 then value (i - 0) else get_or (vector file vt) i 0)) refl refl refl refl refl refl refl refl i k)
      | inr z ↦ rw z (below_eight (λ i. cond (bit_set 240 i) (byte_at m (doubleword_start a + (a % 8 + 2 * (2 * i % 8)) % 16) * 128) (get_or (vector file vt) i 0)
          ≡ (if nat_le 4 i && nat_lt i 8 then value (i - 4) else get_or (vector file vt) i 0)) refl refl refl refl refl refl refl refl i k)
    ]

-- a register whose first n lanes are given
abbrev first_given : (ℕ → ℕ) → List ℕ → ℕ → List ℕ
first_given value v n = each_lane (λ j. if nat_lt j n then value j else get_or v j 0)

given_none : (value : ℕ → ℕ) (v : List ℕ) → length v ≡ 8 → first_given value v 0 ≡ v
given_none value v h = each_same _ _ (λ j l. grind (arith, nat_tests)) ∙ sym (eta 0 v h)

given_more : (value : ℕ → ℕ) (v : List ℕ) (n : ℕ) → n < 8 → first_given value v (n + 1) ≡ set (first_given value v n) n (value n)
given_more value v n h = sym (set_each (λ j. if nat_lt j n then value j else get_or v j 0) n (value n) h ∙ each_same _ _ (λ j l. same j))
  where
    same : (j : ℕ) → (if nat_eq j n then value n else if nat_lt j n then value j else get_or v j 0) ≡ (if nat_lt j (n + 1) then value j else get_or v j 0)
    same j = grind (arith, nat_tests)

given_all : (value : ℕ → ℕ) (v : List ℕ) → first_given value v 8 ≡ each_lane value
given_all value v = each_same _ _ (λ j l. grind (arith, nat_tests))

pub lanes_loaded : (m : List ℕ) (file : List (List ℕ)) (vt factor a : ℕ) (from step : ℕ → ℕ) → vt < length file → length (vector file vt) ≡ 8
    → ((j : ℕ) → from j % 16 ≡ (a % 8 + step j) % 16)
    → with_vector file vt (each_lane (λ j. get_or (bytes_at m (doubleword_start a) 16) (from j % 16) 0 * factor))
    ≡ after_load m file (for_each 8 (λ j. to_lane vt j factor (wrapped_address a (step j))))
unfolding loaded
lanes_loaded m file vt factor a from step h l at =
    ap (with_vector file vt) (each_same _ _ (λ j k. ap (λ b. b * factor) (byte j)) ∙ sym (given_all value (vector file vt)))
    ∙ sym (one_register m file vt 8 (λ j. to_lane vt j factor (wrapped_address a (step j))) (λ v j. set v j (value j)) (first_given value (vector file vt))
    h (λ _ _. refl) (given_none value (vector file vt) l) (λ k lt. given_more value (vector file vt) k lt))
  where
    value : ℕ → ℕ
    value j = byte_at m (wrapped_address a (step j)) * factor

    byte : (j : ℕ) → get_or (bytes_at m (doubleword_start a) 16) (from j % 16) 0 ≡ byte_at m (wrapped_address a (step j))
    byte j = window_byte m (doubleword_start a) 16 (from j % 16) (omega arith) ∙ ap (λ p. byte_at m (doubleword_start a + p)) (at j)
