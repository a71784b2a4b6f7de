-- What is read of DMEM after a write.
use Rattle.std.proofs.Common.{◌≡◌, ◌≢◌, ℕ, zero, suc, ◌+◌, ◌*◌, ◌/◌, ◌%◌, ◌^◌, ◌<◌, ◌≤◌, List, [], ◌∷◌, length, get_or, refl, ap, sym, ◌∙◌, arith, inl, inr}
use Rattle.std.proofs.lemmas.Bool.{cases_eq, eq-eqb, ne_eqb}
use Rattle.std.proofs.lemmas.List.{get_or-set_same, get_or-set_other}
use Rattle.rsp_memory.specs.Memory.{IsMemory, byte_at, with_byte, half_at, with_half, word_at, with_word}
use Rattle.rsp_memory.proofs.PutBack.{length-with_byte}
use Rattle.rsp_lanes.specs.Lanes.{IsVector}
use Rattle.rsp_lanes.proofs.Kit.{each_same, eta}
use Rattle.rsp_lanes.proofs.Products.{high_vector}
use Rattle.rsp_microcode.specs.Lanes.{lanes_at, with_halves, with_lanes, HasBytes}
use Rattle.rsp_microcode.specs.Reads.{ByteReads, WordReads, LanesReads, OthersRead}

pub read_written : (m : List ℕ) (a b n : ℕ) → length m ≡ 4096 → a % 4096 ≡ b % 4096 → byte_at (with_byte m a n) b ≡ n
unfolding byte_at with_byte
read_written m a b n l e = rw e (get_or-set_same m (b % 4096) n 0 (omega arith))

pub read_elsewhere : (m : List ℕ) (a b n : ℕ) → a % 4096 ≢ b % 4096 → byte_at (with_byte m a n) b ≡ byte_at m b
unfolding byte_at with_byte
read_elsewhere m a b n ne = get_or-set_other m (a % 4096) (b % 4096) n 0 (λ e. ne (sym e))

pub byte_reads : ByteReads
byte_reads m a b n l = elim (cases_eq (a % 4096) (b % 4096)) [
  | inl e ↦ rw (eq-eqb (a % 4096) (b % 4096) e) (read_written m a b n l e)
  | inr ne ↦ rw (ne_eqb (a % 4096) (b % 4096) ne) (read_elsewhere m a b n ne)
]

-- a byte that none of the halves reaches
pub halves_elsewhere : (hs m : List ℕ) (a x : ℕ) → ((k : ℕ) → k < 2 * length hs → (a + k) % 4096 ≢ x % 4096) → byte_at (with_halves m a hs) x ≡ byte_at m x
unfolding with_half
halves_elsewhere [] m a x h = refl
halves_elsewhere (v ∷ hs) m a x h =
    let first : a % 4096 ≢ x % 4096 = λ e. h 0 (omega arith) (ap (λ n. n % 4096) (omega arith) ∙ e) in
    halves_elsewhere hs _ (a + 2) x (λ k l e. h (2 + k) (omega arith) (ap (λ n. n % 4096) (omega arith) ∙ e))
    ∙ read_elsewhere _ (a + 1) x _ (h 1 (omega arith)) ∙ read_elsewhere m a x _ first

pub length-with_halves : (hs m : List ℕ) (a : ℕ) → length (with_halves m a hs) ≡ length m
unfolding with_half
length-with_halves [] m a = refl
length-with_halves (h ∷ hs) m a = length-with_halves hs _ (a + 2) ∙ length-with_byte _ _ _ ∙ length-with_byte m a _

pub length-with_lanes : (m v : List ℕ) (a : ℕ) → length (with_lanes m a v) ≡ length m
unfolding with_lanes
length-with_lanes m v a = length-with_halves v m a

-- a half that was written
half_written : (m : List ℕ) (a h : ℕ) → length m ≡ 4096 → half_at (with_half m a h) a ≡ h
unfolding half_at with_half
half_written m a h l =
    let high : byte_at (with_byte (with_byte m a (h / 256)) (a + 1) (h % 256)) a ≡ h / 256 = read_elsewhere _ (a + 1) a _ (omega arith) ∙ read_written m a a _ l refl in
    let low : byte_at (with_byte (with_byte m a (h / 256)) (a + 1) (h % 256)) (a + 1) ≡ h % 256 = read_written _ (a + 1) (a + 1) _ (length-with_byte m a _ ∙ l) refl in
    rw (high, low) (omega arith)

-- a half behind which halves are written
half_before : (hs m : List ℕ) (a : ℕ) → 2 * length hs ≤ 4094 → half_at (with_halves m (a + 2) hs) a ≡ half_at m a
unfolding half_at
half_before hs m a h = rw (halves_elsewhere hs m (a + 2) a (λ k l. omega arith), halves_elsewhere hs m (a + 2) (a + 1) (λ k l. omega arith)) refl

pub halves_read : (hs m : List ℕ) (a j : ℕ) → length m ≡ 4096 → 2 * length hs ≤ 4096 → j < length hs → half_at (with_halves m a hs) (a + 2 * j) ≡ get_or hs j 0
halves_read [] m a j l n h = absurd (omega arith)
halves_read (v ∷ hs) m a zero l n h =
    let e : a + 2 * 0 ≡ a = omega arith in
    ap (half_at (with_halves (with_half m a v) (a + 2) hs)) e ∙ half_before hs (with_half m a v) a (omega arith) ∙ half_written m a v l
halves_read (v ∷ hs) m a (suc j) l n h =
    let e : a + 2 * suc j ≡ a + 2 + 2 * j = omega arith in
    ap (half_at (with_halves (with_half m a v) (a + 2) hs)) e ∙ halves_read hs (with_half m a v) (a + 2) j (length-with_halves (v ∷ []) m a ∙ l) (omega arith) (omega arith)

pub lanes_read : (m v : List ℕ) (a : ℕ) → length m ≡ 4096 → length v ≡ 8 → lanes_at (with_lanes m a v) a ≡ v
unfolding lanes_at with_lanes
lanes_read m v a l n = each_same _ _ (λ i h. halves_read v m a i l (omega arith) (omega arith)) ∙ sym (eta 0 v n)

-- addresses that differ by a multiple of 4096
half_ring : (m : List ℕ) (a b : ℕ) → a % 4096 ≡ b % 4096 → half_at m a ≡ half_at m b
unfolding half_at byte_at
half_ring m a b e = let f : (a + 1) % 4096 ≡ (b + 1) % 4096 = omega arith in rw (e, f) refl

pub lanes_ring : (m : List ℕ) (a b : ℕ) → a % 4096 ≡ b % 4096 → lanes_at m a ≡ lanes_at m b
unfolding lanes_at
lanes_ring m a b e = each_same _ _ (λ i h. half_ring m (a + 2 * i) (b + 2 * i) (omega arith))

with_halves_ring : (hs m : List ℕ) (a b : ℕ) → a % 4096 ≡ b % 4096 → with_halves m a hs ≡ with_halves m b hs
unfolding with_half with_byte
with_halves_ring [] m a b e = refl
with_halves_ring (h ∷ hs) m a b e =
    let f : (a + 1) % 4096 ≡ (b + 1) % 4096 = omega arith in
    rw (e, f) (with_halves_ring hs _ (a + 2) (b + 2) (omega arith))

pub with_lanes_ring : (m v : List ℕ) (a b : ℕ) → a % 4096 ≡ b % 4096 → with_lanes m a v ≡ with_lanes m b v
unfolding with_lanes
with_lanes_ring m v a b e = with_halves_ring v m a b e

-- a byte outside of the eight lanes, and lanes of which all bytes are
pub outside_read : OthersRead
unfolding with_lanes
outside_read m a x v n h = halves_elsewhere v m a x (λ k l. omega arith)

pub same_lanes : (m n : List ℕ) (b : ℕ) → ((k : ℕ) → k < 16 → byte_at n (b + k) ≡ byte_at m (b + k)) → lanes_at n b ≡ lanes_at m b
unfolding lanes_at half_at
same_lanes m n b h = each_same _ _ (λ i l.
    let e : b + 2 * i + 1 ≡ b + (2 * i + 1) = omega arith in
    rw (h (2 * i) (omega arith), e, h (2 * i + 1) (omega arith)) refl)

pub lanes_elsewhere : (m v : List ℕ) (a b : ℕ) → length v ≡ 8 → a % 16 ≡ 0 → b % 16 ≡ 0 → a % 4096 ≢ b % 4096 → lanes_at (with_lanes m a v) b ≡ lanes_at m b
lanes_elsewhere m v a b n p q ne = same_lanes m (with_lanes m a v) b (λ k l. outside_read m a (b + k) v n (omega arith))

pub lanes_reads : LanesReads
lanes_reads m a b v l is p q = elim (cases_eq (a % 4096) (b % 4096)) [
  | inl e ↦ rw (eq-eqb (a % 4096) (b % 4096) e) (ap (λ n. lanes_at n b) (with_lanes_ring m v a b e) ∙ lanes_read m v b l is.0)
  | inr ne ↦ rw (ne_eqb (a % 4096) (b % 4096) ne) (lanes_elsewhere m v a b is.0 p q ne)
]

-- every memory's are
pub has_bytes : (m : List ℕ) → IsMemory m → HasBytes m
unfolding byte_at
has_bytes m is a = is.bytes (a % 4096)

-- the lanes of bytes are numbers of sixteen bits
pub lanes_are : (m : List ℕ) (a : ℕ) → HasBytes m → IsVector (lanes_at m a)
unfolding lanes_at half_at
lanes_are m a h = high_vector _ (λ i. omega (arith, h (a + 2 * i), h (a + 2 * i + 1)))

-- words
word_written : (m : List ℕ) (a n : ℕ) → length m ≡ 4096 → n < 2 ^ 32 → word_at (with_word m a n) a ≡ n
unfolding word_at with_word
word_written m a n l h =
    let one = with_byte m a (n / 16777216) in
    let two = with_byte one (a + 1) (n / 65536 % 256) in
    let three = with_byte two (a + 2) (n / 256 % 256) in
    let four = with_byte three (a + 3) (n % 256) in
    let l1 : length one ≡ 4096 = length-with_byte _ _ _ ∙ l in
    let l2 : length two ≡ 4096 = length-with_byte _ _ _ ∙ l1 in
    let l3 : length three ≡ 4096 = length-with_byte _ _ _ ∙ l2 in
    let b0 : byte_at four a ≡ n / 16777216 = read_elsewhere _ (a + 3) a _ (omega arith) ∙ read_elsewhere _ (a + 2) a _ (omega arith) ∙ read_elsewhere _ (a + 1) a _ (omega arith) ∙ read_written m a a _ l refl in
    let b1 : byte_at four (a + 1) ≡ n / 65536 % 256 = read_elsewhere _ (a + 3) (a + 1) _ (omega arith) ∙ read_elsewhere _ (a + 2) (a + 1) _ (omega arith) ∙ read_written one (a + 1) (a + 1) _ l1 refl in
    let b2 : byte_at four (a + 2) ≡ n / 256 % 256 = read_elsewhere _ (a + 3) (a + 2) _ (omega arith) ∙ read_written two (a + 2) (a + 2) _ l2 refl in
    let b3 : byte_at four (a + 3) ≡ n % 256 = read_written three (a + 3) (a + 3) _ l3 refl in
    rw (b0, b1, b2, b3) (omega arith)

byte_past_word : (m : List ℕ) (a b n : ℕ) → a % 4096 ≢ b % 4096 → (a + 1) % 4096 ≢ b % 4096 → (a + 2) % 4096 ≢ b % 4096 → (a + 3) % 4096 ≢ b % 4096
    → byte_at (with_word m a n) b ≡ byte_at m b
unfolding with_word
byte_past_word m a b n p q r s = read_elsewhere _ (a + 3) b _ s ∙ read_elsewhere _ (a + 2) b _ r ∙ read_elsewhere _ (a + 1) b _ q ∙ read_elsewhere m a b _ p

word_elsewhere : (m : List ℕ) (a b n : ℕ) → a % 4 ≡ 0 → b % 4 ≡ 0 → a % 4096 ≢ b % 4096 → word_at (with_word m a n) b ≡ word_at m b
unfolding word_at
word_elsewhere m a b n p q ne = rw (
  byte_past_word m a b n (omega arith) (omega arith) (omega arith) (omega arith),
  byte_past_word m a (b + 1) n (omega arith) (omega arith) (omega arith) (omega arith),
  byte_past_word m a (b + 2) n (omega arith) (omega arith) (omega arith) (omega arith),
  byte_past_word m a (b + 3) n (omega arith) (omega arith) (omega arith) (omega arith),
) refl

word_ring : (m : List ℕ) (a b : ℕ) → a % 4096 ≡ b % 4096 → word_at m a ≡ word_at m b
unfolding word_at byte_at
word_ring m a b e =
    let f : (a + 1) % 4096 ≡ (b + 1) % 4096 = omega arith in
    let g : (a + 2) % 4096 ≡ (b + 2) % 4096 = omega arith in
    let h : (a + 3) % 4096 ≡ (b + 3) % 4096 = omega arith in
    rw (e, f, g, h) refl

pub word_reads : WordReads
word_reads m a b n l h p q = elim (cases_eq (a % 4096) (b % 4096)) [
  | inl e ↦ rw (eq-eqb (a % 4096) (b % 4096) e) (word_ring _ b a (sym e) ∙ word_written m a n l h)
  | inr ne ↦ rw (ne_eqb (a % 4096) (b % 4096) ne) (word_elsewhere m a b n p q ne)
]
