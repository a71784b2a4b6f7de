-- Bytes of DMEM after a write of some, and bytes of registers.
use Rattle.std.proofs.Common.{◌≡◌, ◌≢◌, ℕ, zero, suc, ◌+◌, ◌*◌, ◌/◌, ◌%◌, ◌<◌, ◌≤◌, List, [], ◌∷◌, length, get_or, refl, ap, ◌∙◌, arith, inl, inr}
use Rattle.std.proofs.lemmas.Bool.{cases_eq}
use Rattle.rsp_memory.specs.Memory.{byte_at, half_at, with_byte, with_bytes}
use Rattle.rsp_memory.proofs.PutBack.{length-with_byte}
use Rattle.rsp_lanes.specs.Lanes.{each_lane, register_byte}
use Rattle.rsp_lanes.specs.Bytes.{of_bytes}
use Rattle.rsp_lanes.proofs.Kit.{lane_of}
use Rattle.rsp_microcode.specs.Lanes.{lanes_at, HasBytes}
use Rattle.rsp_microcode.proofs.Bytes.{read_written, read_elsewhere}

-- bytes that are written
pub bytes_elsewhere : (bs m : List ℕ) (a x : ℕ) → ((k : ℕ) → k < length bs → (a + k) % 4096 ≢ x % 4096) → byte_at (with_bytes m a bs) x ≡ byte_at m x
bytes_elsewhere [] m a x h = refl
bytes_elsewhere (b ∷ bs) m a x h =
    bytes_elsewhere bs (with_byte m a b) (a + 1) x (λ k l e. h (1 + k) (omega arith) (ap (λ n. n % 4096) (omega arith) ∙ e))
    ∙ read_elsewhere m a x b (λ e. h 0 (omega arith) (ap (λ n. n % 4096) (omega arith) ∙ e))

pub bytes_read : (bs m : List ℕ) (a j : ℕ) → length m ≡ 4096 → length bs ≤ 4096 → j < length bs → byte_at (with_bytes m a bs) (a + j) ≡ get_or bs j 0
bytes_read [] m a j l n h = absurd (omega arith)
bytes_read (b ∷ bs) m a zero l n h =
    let e : a + 0 ≡ a = omega arith in
    ap (byte_at (with_bytes (with_byte m a b) (a + 1) bs)) e ∙ bytes_elsewhere bs (with_byte m a b) (a + 1) a (λ k q. omega arith) ∙ read_written m a a b l refl
bytes_read (b ∷ bs) m a (suc j) l n h =
    let e : a + suc j ≡ a + 1 + j = omega arith in
    ap (byte_at (with_bytes (with_byte m a b) (a + 1) bs)) e ∙ bytes_read bs (with_byte m a b) (a + 1) j (length-with_byte m a b ∙ l) (omega arith) (omega arith)

-- addresses that differ by a multiple of 4096
pub byte_ring : (m : List ℕ) (a b : ℕ) → a % 4096 ≡ b % 4096 → byte_at m a ≡ byte_at m b
unfolding byte_at
byte_ring m a b e = rw e refl

-- byte k of a register is the high one of its lane, or the low one
parted : (v : List ℕ) (k high low : ℕ) → get_or v (k / 2) 0 ≡ high * 256 + low → low < 256
    → ((k % 2 ≡ 0) → register_byte v k ≡ high) × ((k % 2 ≡ 1) → register_byte v k ≡ low)
unfolding register_byte
parted v k high low e h =
    let up : (high * 256 + low) / 256 ≡ high = omega arith in
    let down : (high * 256 + low) % 256 ≡ low = omega arith in
    (λ p. rw (p, e) up, λ p. rw (p, e) down)

pub byte_of_bytes : (f : ℕ → ℕ) (k : ℕ) → ((k : ℕ) → f k < 256) → k < 16 → register_byte (of_bytes f) k ≡ f k
unfolding of_bytes
byte_of_bytes f k small h =
    let i = k / 2 in
    let lane : get_or (each_lane (λ i. f (2 * i) * 256 + f (2 * i + 1))) i 0 ≡ f (2 * i) * 256 + f (2 * i + 1) = lane_of 0 (λ i. f (2 * i) * 256 + f (2 * i + 1)) _ refl i (omega arith) in
    let both = parted (each_lane (λ i. f (2 * i) * 256 + f (2 * i + 1))) k (f (2 * i)) (f (2 * i + 1)) lane (small (2 * i + 1)) in
    elim (cases_eq (k % 2) 0) [
      | inl p ↦ both.0 p ∙ ap f (omega arith)
      | inr p ↦ both.1 (omega arith) ∙ ap f (omega arith)
    ]

-- a lane in DMEM, and a byte of a lane
pub lane_half : (m : List ℕ) (a i : ℕ) → i < 8 → get_or (lanes_at m a) i 0 ≡ half_at m (a + 2 * i)
unfolding lanes_at
lane_half m a i h = lane_of 0 (λ i. half_at m (a + 2 * i)) _ refl i h

pub lane_byte : (m : List ℕ) (a k : ℕ) → HasBytes m → k < 16 → register_byte (lanes_at m a) k ≡ byte_at m (a + k)
unfolding half_at
lane_byte m a k small h =
    let i = k / 2 in
    let both = parted (lanes_at m a) k (byte_at m (a + 2 * i)) (byte_at m (a + 2 * i + 1)) (lane_half m a i (omega arith)) (small (a + 2 * i + 1)) in
    elim (cases_eq (k % 2) 0) [
      | inl p ↦ both.0 p ∙ ap (byte_at m) (omega arith)
      | inr p ↦ both.1 (omega arith) ∙ ap (byte_at m) (omega arith)
    ]
