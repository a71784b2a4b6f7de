-- The ranges of the parts of a state after writes.
use Rattle.std.proofs.Common.{ℕ, ◌+◌, ◌-◌, ◌*◌, ◌/◌, ◌%◌, ◌^◌, ◌<◌, ◌≤◌, ℤ, pos, negsuc, List, [], ◌∷◌, length, length-set, set, get_or, map, Bool, true, false, refl, sym, subst, ◌∙◌, arith, inl, inr, lit<}
use Rattle.std.specs.Prelude.{if◌then◌else◌, slice_index}
use Rattle.std.specs.List.{range_with_len}
use Rattle.std.proofs.lemmas.Int.{ints}
use Rattle.std.proofs.lemmas.Bool.{cases_lt, cases_eq, ne_eqb}
use Rattle.std.proofs.lemmas.Nat.{mod_below}
use Rattle.std.proofs.lemmas.List.{get_or_past, get_or-set_same, get_or-set_other}
use Rattle.rsp_numbers.specs.Numbers.{IsNumber, AreNumbers, modulo, join, s48, low, sixteen_bits}
use Rattle.rsp_numbers.proofs.Wrap.{s48_differs}
use Rattle.rsp_memory.specs.Memory.{IsMemory, byte_at, with_byte}
use Rattle.rsp_lanes.specs.Lanes.{each_lane, IsVector, register_byte, with_register_byte}
use Rattle.rsp_lanes.proofs.Kit.{lane_of, length_each}
use Rattle.rsp_acc.specs.Parts.{clamp_of}
use Rattle.rsp_acc.specs.declared.parts.Clamp.{Clamp}
use Rattle.rsp_acc.specs.declared.parts.Clamp.TheVariants.{Signed, Unsigned, LowKind}
use Rattle.rsp_acc.specs.Planes.{with_low}
use Rattle.rsp_scalar.specs.Registers.{IsRegisters, with_register}
use Rattle.rsp_loadstore.specs.File.{IsFile, vector, with_vector, bits_14_to_7}
use Rattle.rsp_loadstore.specs.Pairs.{for_each, doubleword_start, wrapped_address, group_start}
use Rattle.rsp_loadstore.specs.Loads.{Load, to_byte, to_lane, loaded, after_load, load_pairs}
use Rattle.rsp_decode.specs.declared.vector.VectorLoadOp.{VectorLoadOp}
use Rattle.rsp_decode.specs.declared.vector.VectorLoadOp.TheVariants.{Lbv, Lsv, Llv, Ldv, Lqv, Lrv, Lpv, Luv, Lhv, Lfv, Ltv}
use Rattle.std.proofs.Math.Nat.{mul-le-mul}
use Rattle.rsp_loadstore.specs.Stores.{Store, from_byte, from_bits_14_to_7, stored, after_store}

-- numbers
pub modulo_small : (z : ℤ) → modulo z (2 ^ 32) < 2 ^ 32
modulo_small (pos n) = omega (arith, ints)
modulo_small (negsuc n) = omega (arith, ints)

pub sixteen_small : (z : ℤ) → sixteen_bits z < 65536
sixteen_small (pos n) = omega (arith, ints)
sixteen_small (negsuc n) = omega (arith, ints)

pub either_small : (b : Bool) (m n k : ℕ) → m < k → n < k → (if b then m else n) < k
either_small true m n k h l = h
either_small false m n k h l = l

-- a list after a write of one member
pub set_small : (xs : List ℕ) (n v i b : ℕ) → v < b → ((i : ℕ) → get_or xs i 0 < b) → get_or (set xs n v) i 0 < b
set_small xs n v i b h all = elim (cases_eq i n) [
  | inl e ↦ elim (cases_lt n (length xs)) [
    | inl l ↦ rw (e, get_or-set_same xs n v 0 l) h
    | inr g ↦ rw (e, get_or_past (set xs n v) n 0 (omega (arith, g, length-set xs n v))) (omega arith)
  ]
  | inr ne ↦ rw (get_or-set_other xs n i v 0 ne) (all i)
]

-- scalar registers
pub register_written : (r : List ℕ) (n v : ℕ) → v < 2 ^ 32 → IsRegisters r → IsRegisters (with_register r n v)
register_written r n v h is = elim (cases_eq n 0) [
  | inl e ↦ rw e is
  | inr ne ↦ rw (ne_eqb n 0 ne) (record {
    count = length-set r n v ∙ is.count;
    words = λ i. set_small r n v i (2 ^ 32) h is.words;
    zero = get_or-set_other r n 0 v 0 (λ e. ne (sym e)) ∙ is.zero;
  })
]

-- vector registers
pub file_written : (file : List (List ℕ)) (n : ℕ) (v : List ℕ) → (n < 32 → IsVector v) → IsFile file → IsFile (with_vector file n v)
unfolding with_vector vector
file_written file n v k is = record {
  count = length-set file n v ∙ is.count;
  registers = λ i l. elim (cases_eq i n) [
    | inl e ↦ rw (e, get_or-set_same file n v [] (omega (arith, is.count))) (k (omega arith))
    | inr ne ↦ rw (get_or-set_other file n i v [] ne) (is.registers i l)
  ];
}

pub vector_small : (file : List (List ℕ)) (n i : ℕ) → IsFile file → slice_index (vector file n) i < 65536
unfolding vector
vector_small file n i is = elim (cases_lt n 32) [
  | inl k ↦ (is.registers n k).1 i
  | inr k ↦ rw (get_or_past file n [] (omega (arith, is.count))) (lit< tt)
]

pub vector_set : (v : List ℕ) (n x : ℕ) → x < 65536 → IsVector v → IsVector (set v n x)
vector_set v n x h is = (length-set v n x ∙ is.0, λ i. set_small v n x i 65536 h is.1)

high_byte : (x : ℕ) → x < 65536 → x / 256 < 256
high_byte x h = omega arith

low_byte : (x : ℕ) → x % 256 < 256
low_byte x = omega arith

pub byte_small : (v : List ℕ) (i : ℕ) → ((i : ℕ) → slice_index v i < 65536) → register_byte v i < 256
unfolding register_byte
byte_small v i h = either_small _ _ _ 256 (high_byte _ (h (i / 2))) (low_byte _)

with_high : (x b : ℕ) → b < 256 → b * 256 + x % 256 < 65536
with_high x b h = omega arith

with_low_byte : (x b : ℕ) → x < 65536 → b < 256 → x / 256 * 256 + b < 65536
with_low_byte x b h k = omega arith

pub byte_written : (v : List ℕ) (i b : ℕ) → b < 256 → IsVector v → IsVector (with_register_byte v i b)
unfolding with_register_byte
byte_written v i b h is = vector_set v (i / 2) _ (either_small _ _ _ 65536 (with_high (slice_index v (i / 2)) b h) (with_low_byte _ b (is.1 (i / 2)) h)) is

-- memories
pub memory_small : (m : List ℕ) (a : ℕ) → IsMemory m → byte_at m a < 256
unfolding byte_at
memory_small m a is = is.bytes (a % 4096)

pub memory_written : (m : List ℕ) (a b : ℕ) → b < 256 → IsMemory m → IsMemory (with_byte m a b)
unfolding with_byte
memory_written m a b h is = record { count = length-set m (a % 4096) b ∙ is.count; bytes = λ i. set_small m (a % 4096) b i 256 h is.bytes }

-- accumulators
pub wraps : (z : ℤ) → IsNumber (s48 z)
wraps z = let d = s48_differs z in (d.3, d.4)

pub are_numbers : (f : ℕ → ℤ) → ((i : ℕ) → IsNumber (f i)) → AreNumbers (each_lane f)
are_numbers f h = (
  length_each f,
  λ i. elim (cases_lt i 8) [
    | inl n ↦ subst IsNumber (sym (lane_of (pos 0) f (each_lane f) refl i n)) (h i)
    | inr n ↦ subst IsNumber (sym (get_or_past (each_lane f) i (pos 0) (omega (arith, length_each f)))) (omega (arith, ints), omega (arith, ints))
  ],
)

pub low_numbers : (xs : List ℤ) (l : List ℕ) → AreNumbers (with_low xs l)
unfolding with_low join
low_numbers xs l = are_numbers _ (λ i. wraps _)

pub clamp_small : (kind : Clamp) (x : ℤ) → clamp_of kind x < 65536
unfolding clamp_of low
clamp_small Signed x = sixteen_small _
clamp_small Unsigned x = either_small _ 0 _ 65536 (omega arith) (either_small _ 65535 _ 65536 (omega arith) (sixteen_small _))
clamp_small LowKind x = either_small _ 0 _ 65536 (omega arith) (either_small _ 65535 _ 65536 (omega arith) (sixteen_small x))

-- vector loads and stores
abbrev IsFine : Load → Type 0
IsFine (to_byte r i a) = Unit {0}
IsFine (to_lane r i f a) = f ≤ 256

lane_small : (b f : ℕ) → b < 256 → f ≤ 256 → b * f < 65536
lane_small b f h l = let m : b * f ≤ 255 * 256 = let u : b ≤ 255 = omega arith in mul-le-mul u l in omega arith

load_one : (m : List ℕ) (p : Load) (file : List (List ℕ)) → IsFine p → IsMemory m → IsFile file → IsFile (loaded m file p)
unfolding loaded
load_one m (to_byte r i a) file fine is h = file_written file r _ (λ l. byte_written _ i _ (memory_small m a is) (h.registers r l)) h
load_one m (to_lane r i f a) file fine is h = file_written file r _ (λ l. vector_set _ i _ (lane_small _ f (memory_small m a is) fine) (h.registers r l)) h

load_all : (m : List ℕ) (g : ℕ → Load) (ks : List ℕ) (file : List (List ℕ)) → ((k : ℕ) → IsFine (g k)) → IsMemory m → IsFile file → IsFile (after_load m file (map g ks))
unfolding after_load
load_all m g [] file fine is h = h
load_all m g (k ∷ ks) file fine is h = load_all m g ks (loaded m file (g k)) fine is (load_one m (g k) file (fine k) is h)

whole : 256 ≤ 256
whole = omega arith

half : 128 ≤ 256
half = omega arith

pub load_kept : (op : VectorLoadOp) (m : List ℕ) (vt e a : ℕ) (file : List (List ℕ)) → IsMemory m → IsFile file → IsFile (after_load m file (load_pairs op vt e a))
unfolding load_pairs for_each
load_kept Lbv m vt e a file is h = load_all m _ _ file (λ k. tt) is h
load_kept Lsv m vt e a file is h = load_all m _ _ file (λ k. tt) is h
load_kept Llv m vt e a file is h = load_all m _ _ file (λ k. tt) is h
load_kept Ldv m vt e a file is h = load_all m _ _ file (λ k. tt) is h
load_kept Lqv m vt e a file is h = load_all m _ _ file (λ k. tt) is h
load_kept Lrv m vt e a file is h = load_all m _ _ file (λ k. tt) is h
load_kept Lpv m vt e a file is h = load_all m (λ j. to_lane vt j 256 (wrapped_address a (16 - e + j))) (range_with_len 0 8) file (λ k. whole) is h
load_kept Luv m vt e a file is h = load_all m (λ j. to_lane vt j 128 (wrapped_address a (16 - e + j))) (range_with_len 0 8) file (λ k. half) is h
load_kept Lhv m vt e a file is h = load_all m (λ j. to_lane vt j 128 (wrapped_address a (16 - e + 2 * j))) (range_with_len 0 8) file (λ k. half) is h
load_kept Lfv m vt e a file is h = load_all m (λ j. to_lane vt (e / 2 + j) 128 (wrapped_address a (4 * j))) (range_with_len 0 4) file (λ k. half) is h
load_kept Ltv m vt e a file is h = load_all m (λ k. to_byte (group_start vt + (e / 2 + k / 2) % 8) k (doubleword_start a + (k + e + a / 8 % 2 * 8) % 16)) (range_with_len 0 16) file (λ k. tt) is h

pub store_kept : (file : List (List ℕ)) (ps : List Store) (m : List ℕ) → IsFile file → IsMemory m → IsMemory (after_store file m ps)
unfolding after_store stored bits_14_to_7
store_kept file [] m is h = h
store_kept file (from_byte r i a ∷ ps) m is h = store_kept file ps _ is (memory_written m a _ (byte_small _ i (λ k. vector_small file r k is)) h)
store_kept file (from_bits_14_to_7 r i a ∷ ps) m is h = store_kept file ps _ is (memory_written m a _ (mod_below _ 256 (omega arith)) h)
