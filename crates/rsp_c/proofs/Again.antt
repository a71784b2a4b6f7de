-- What C gets it can set, and what it sets it gets.
use Rattle.std.proofs.Common.{◌≡◌, ◌<◌, ◌≤◌, ℕ, zero, suc, ◌+◌, ◌*◌, ◌/◌, ◌%◌, Bool, true, false, cond, List, [], ◌∷◌, length, take, drop, ◌++◌, get_or, pos, refl, ap, sym, subst, ◌∙◌, arith, Option, None}
use Rattle.std.specs.Prelude.{◌==◌, nat_le, slice_index}
use Rattle.std.specs.Simd.Lanes.{mask_l}
use Rattle.std.proofs.lemmas.Simd.{bit_mask_l}
use Rattle.std.proofs.lemmas.List.{length-take-le, length-drop, take-append-drop}
use Rattle.std.proofs.lemmas.Bool.Decides.{nat_tests}
use Rattle.rsp_numbers.specs.Numbers.{bit_set, number, high, middle, low}
use Rattle.rsp_lanes.specs.Lanes.{each_lane}
use Rattle.rsp_lanes.proofs.Kit.{eight, eta, each_same, lane_of}
use Rattle.rsp_acc.specs.Planes.{joined}
use Rattle.rsp_numbers.proofs.Join.{high_join, middle_join, low_join}
use Rattle.rsp_loadstore.specs.Controls.{flags_of_bits}
use Rattle.rsp_regs.specs.Sp.{Sp, IsSp, read_value, status, flag, signal}
use Rattle.rsp_regs.specs.Parts.{sp_of, parts_of}
use Rattle.rsp_machine.specs.State.{State, IsState}
use Rattle.rsp_machine.specs.Registers.{is_whole, registers_of, with_registers}
use Rattle.rsp_machine.proofs.Whole.{with-registers-of}
use Rattle.rsp_c.specs.ToC.{bit}
use Rattle.rsp_c.specs.States.{sp_words, sp_parts, c_state, registers_from_c}
use Rattle.rsp_c.specs.Faults.{sp_word_fault, state_fault}
use Rattle.rsp_c.specs.Laws.{SetAsGot, AreHalves, GotAsSet}
use Rattle.rsp_c.proofs.Fields.{first_fault, first_field, words-right, state-right}

-- a flag as a number, and back
bit-small : (b : Bool) → bit b ≤ 1
bit-small true = omega arith
bit-small false = omega arith

bit-back : (b : Bool) → (bit b == 1) ≡ b
bit-back true = refl
bit-back false = refl

flag-is : (b : Bool) (w : ℕ) → flag b w ≡ bit b * w
flag-is true w = omega arith
flag-is false w = omega arith

eq-true : (a b : ℕ) → a ≡ b → (a == b) ≡ true
eq-true a b e = grind (arith, nat_tests)

le-true : (a b : ℕ) → a ≤ b → nat_le a b ≡ true
le-true a b e = grind (arith, nat_tests)

-- a mask as a number, and back
one-back : (b : Bool) → (cond b 1 0 == 1) ≡ b
one-back true = refl
one-back false = refl

marks-mask : (ms : List Bool) → length ms ≡ 8 → flags_of_bits (mask_l ms) ≡ ms
marks-mask ms n = each_same _ _ (λ i h. ap (λ x. x == 1) (bit_mask_l ms i) ∙ one-back (get_or ms i false)) ∙ sym (eta false ms n)

-- a number of twelve bits with gaps, as SP_STATUS has them
record Bits (n h b s i a c d e f g j k : ℕ) : Type 0 where
  sum : n ≡ h + b * 2 + s * 32 + i * 64 + a * 128 + c * 256 + d * 512 + e * 1024 + f * 2048 + g * 4096 + j * 8192 + k * 16384
  low : (h ≤ 1) × (b ≤ 1) × (s ≤ 1) × (i ≤ 1)
  high : (a ≤ 1) × (c ≤ 1) × (d ≤ 1) × (e ≤ 1) × (f ≤ 1) × (g ≤ 1) × (j ≤ 1) × (k ≤ 1)

abbrev shown : Sp → ℕ → ℕ
shown p n = bit (signal p.signals n)

status-bits : (p : Sp) → Bits (status p) (bit p.halted) (bit p.broke) (bit p.single_step) (bit p.intbreak)
    (shown p 0) (shown p 1) (shown p 2) (shown p 3) (shown p 4) (shown p 5) (shown p 6) (shown p 7)
unfolding status
status-bits p = record {
  sum = omega (
    arith,
    flag-is p.halted 1,
    flag-is p.broke 2,
    flag-is p.single_step 32,
    flag-is p.intbreak 64,
    flag-is (signal p.signals 0) 128,
    flag-is (signal p.signals 1) 256,
    flag-is (signal p.signals 2) 512,
    flag-is (signal p.signals 3) 1024,
    flag-is (signal p.signals 4) 2048,
    flag-is (signal p.signals 5) 4096,
    flag-is (signal p.signals 6) 8192,
    flag-is (signal p.signals 7) 16384,
  );
  low = (bit-small p.halted, bit-small p.broke, bit-small p.single_step, bit-small p.intbreak);
  high = (
    bit-small (signal p.signals 0),
    bit-small (signal p.signals 1),
    bit-small (signal p.signals 2),
    bit-small (signal p.signals 3),
    bit-small (signal p.signals 4),
    bit-small (signal p.signals 5),
    bit-small (signal p.signals 6),
    bit-small (signal p.signals 7),
  );
}

module _ {n h b s i a c d e f g j k : ℕ} (x : Bits n h b s i a c d e f g j k) where
  status-kept : n ≡ n % 4 + n / 32 % 1024 * 32
  status-kept = omega (arith, x.sum, x.low, x.high)

  bit-0 : n % 2 ≡ h
  bit-0 = omega (arith, x.sum, x.low, x.high)

  bit-1 : n / 2 % 2 ≡ b
  bit-1 = omega (arith, x.sum, x.low, x.high)

  bit-5 : n / 32 % 2 ≡ s
  bit-5 = omega (arith, x.sum, x.low, x.high)

  bit-6 : n / 64 % 2 ≡ i
  bit-6 = omega (arith, x.sum, x.low, x.high)

  bit-7 : n / 128 % 2 ≡ a
  bit-7 = omega (arith, x.sum, x.low, x.high)

  bit-8 : n / 256 % 2 ≡ c
  bit-8 = omega (arith, x.sum, x.low, x.high)

  bit-9 : n / 512 % 2 ≡ d
  bit-9 = omega (arith, x.sum, x.low, x.high)

  bit-10 : n / 1024 % 2 ≡ e
  bit-10 = omega (arith, x.sum, x.low, x.high)

  bit-11 : n / 2048 % 2 ≡ f
  bit-11 = omega (arith, x.sum, x.low, x.high)

  bit-12 : n / 4096 % 2 ≡ g
  bit-12 = omega (arith, x.sum, x.low, x.high)

  bit-13 : n / 8192 % 2 ≡ j
  bit-13 = omega (arith, x.sum, x.low, x.high)

  bit-14 : n / 16384 % 2 ≡ k
  bit-14 = omega (arith, x.sum, x.low, x.high)

flag-back : (y : ℕ) (b : Bool) → y ≡ bit b → (y == 1) ≡ b
flag-back y b e = ap (λ x. x == 1) e ∙ bit-back b

-- lists of eight
signals-again : (xs : List Bool) → length xs ≡ 8
    → signal xs 0 ∷ signal xs 1 ∷ signal xs 2 ∷ signal xs 3 ∷ signal xs 4 ∷ signal xs 5 ∷ signal xs 6 ∷ signal xs 7 ∷ [] ≡ xs
unfolding each_lane
signals-again xs n = sym (eta false xs n)

words-again : (xs : List ℕ) → length xs ≡ 8
    → slice_index xs 0 ∷ slice_index xs 1 ∷ slice_index xs 2 ∷ slice_index xs 3 ∷ slice_index xs 4 ∷ slice_index xs 5 ∷ slice_index xs 6 ∷ slice_index xs 7 ∷ [] ≡ xs
unfolding each_lane
words-again xs n = sym (eta 0 xs n)

-- SP registers as words, and back
parts-again : (p : Sp) → IsSp p → sp_parts (sp_words p) (bit p.interrupt) ≡ parts_of p
unfolding read_value
parts-again p h =
    let x = status-bits p in
    let skip : (p.skip * 1048576 + 4088) / 1048576 ≡ p.skip = omega arith in
    let semaphore : (flag p.semaphore 1 == 1) ≡ p.semaphore = bit-back p.semaphore in
    rw (
      skip,
      flag-back _ p.halted (bit-0 x),
      flag-back _ p.broke (bit-1 x),
      flag-back _ p.single_step (bit-5 x),
      flag-back _ p.intbreak (bit-6 x),
      flag-back _ (signal p.signals 0) (bit-7 x),
      flag-back _ (signal p.signals 1) (bit-8 x),
      flag-back _ (signal p.signals 2) (bit-9 x),
      flag-back _ (signal p.signals 3) (bit-10 x),
      flag-back _ (signal p.signals 4) (bit-11 x),
      flag-back _ (signal p.signals 5) (bit-12 x),
      flag-back _ (signal p.signals 6) (bit-13 x),
      flag-back _ (signal p.signals 7) (bit-14 x),
      bit-back p.interrupt,
      semaphore,
      signals-again p.signals h.signals,
      words-again p.dpc h.dpc,
    ) refl

whole-is : (step limit n : ℕ) → n < limit → n % step ≡ 0 → is_whole step limit n ≡ true
whole-is step limit n h e = grind (arith, nat_tests)

no-word-fault : (m r w k b s d e f : Bool) → m ≡ true → r ≡ true → w ≡ true → k ≡ true → b ≡ true → s ≡ true → d ≡ true → e ≡ true → f ≡ true
    → first_fault m r w k b s d e f ≡ None
no-word-fault m r w k b s d e f h1 h2 h3 h4 h5 h6 h7 h8 h9 = rw (h1, h2, h3, h4, h5, h6, h7, h8, h9) refl

machine-words : (p : Sp) → IsSp p → sp_word_fault (sp_words p) ≡ None
unfolding read_value
machine-words p h =
    let skip : (p.skip * 1048576 + 4088) / 1048576 ≡ p.skip = omega arith in
    let low : (p.skip * 1048576 + 4088) % 1048576 ≡ 4088 = omega arith in
    no-word-fault _ _ _ _ _ _ _ _ _
    (whole-is 8 8192 p.memory h.kept.memory.0 h.kept.memory.1)
    (whole-is 8 16777216 p.dram h.kept.dram.0 h.kept.dram.1)
    (eq-true _ _ low)
    (ap (is_whole 8 4096) skip ∙ whole-is 8 4096 p.skip h.kept.skip.0 h.kept.skip.1)
    (eq-true _ _ refl)
    (eq-true _ _ (status-kept (status-bits p)))
    refl refl
    (le-true _ 1 (bit-small p.semaphore))

no-fault : (z l p n i : Bool) (o : Option ℕ) → z ≡ true → l ≡ true → p ≡ true → n ≡ true → i ≡ true → o ≡ None
    → first_field z l p n i o ≡ 0
no-fault z l p n i o h1 h2 h3 h4 h5 h6 = rw (h1, h2, h3, h4, h5, h6) refl

machine-state : (s : State) → IsState s → state_fault (c_state (registers_of s) s.sp) ≡ 0
unfolding registers_of
machine-state s h = no-fault _ _ _ _ _ _
    (eq-true _ _ h.registers.zero)
    (le-true _ 1 (bit-small s.divider.loaded))
    (whole-is 4 4096 s.pc h.pc.0 h.pc.1)
    (whole-is 4 4096 s.npc h.npc.0 h.npc.1)
    (le-true _ 1 (bit-small s.sp.interrupt))
    (machine-words s.sp h.sp)

registers-again : (s : State) → IsState s → registers_from_c (c_state (registers_of s) s.sp) ≡ registers_of s
unfolding registers_of
registers-again s h =
    rw (
      marks-mask s.flags.carry h.flags.carry,
      marks-mask s.flags.differ h.flags.differ,
      marks-mask s.flags.compare h.flags.compare,
      marks-mask s.flags.clip h.flags.clip,
      marks-mask s.flags.extra h.flags.extra,
      bit-back s.divider.loaded,
      parts-again s.sp h.sp,
    ) refl

pub set-as-got : SetAsGot
set-as-got s h = (machine-state s h, ap (λ r. with_registers r s) (registers-again s h) ∙ with-registers-of s h.accumulators)

-- a number below 2 as a flag, and back
two : (y : ℕ) → y < 2 → bit (y == 1) ≡ y
two zero h = refl
two (suc zero) h = refl
two (suc (suc y)) h = absurd (omega (arith, h))

flag-of : (n w : ℕ) → flag (n % 2 == 1) w ≡ n % 2 * w
flag-of n w = flag-is (n % 2 == 1) w ∙ ap (λ y. y * w) (two (n % 2) (omega arith))

-- the bits of a number below 256, and of ten bits
mask-more : (b : Bool) (ms : List Bool) → mask_l (b ∷ ms) ≡ bit b + 2 * mask_l ms
mask-more true ms = omega arith
mask-more false ms = omega arith

eight-bits : (n : ℕ) → n < 256
    → n ≡ n % 2 + 2 * (n / 2 % 2 + 2 * (n / 4 % 2 + 2 * (n / 8 % 2 + 2 * (n / 16 % 2 + 2 * (n / 32 % 2 + 2 * (n / 64 % 2 + 2 * (n / 128 % 2)))))))
eight-bits n h = omega (arith, h)

bit-of : (n w : ℕ) → bit (n / w % 2 == 1) ≡ n / w % 2
bit-of n w = two (n / w % 2) (omega arith)

mask-of-eight : (a b c d e f g h : Bool) → mask_l (a ∷ b ∷ c ∷ d ∷ e ∷ f ∷ g ∷ h ∷ [])
    ≡ bit a + 2 * (bit b + 2 * (bit c + 2 * (bit d + 2 * (bit e + 2 * (bit f + 2 * (bit g + 2 * bit h))))))
mask-of-eight a b c d e f g h =
    omega (
      arith,
      mask-more a (b ∷ c ∷ d ∷ e ∷ f ∷ g ∷ h ∷ []),
      mask-more b (c ∷ d ∷ e ∷ f ∷ g ∷ h ∷ []),
      mask-more c (d ∷ e ∷ f ∷ g ∷ h ∷ []),
      mask-more d (e ∷ f ∷ g ∷ h ∷ []),
      mask-more e (f ∷ g ∷ h ∷ []),
      mask-more f (g ∷ h ∷ []),
      mask-more g (h ∷ []),
      mask-more h [],
    )

mask-marks : (n : ℕ) → n < 256 → mask_l (flags_of_bits n) ≡ n
unfolding each_lane
mask-marks n h =
    mask-of-eight (bit_set n 0) (bit_set n 1) (bit_set n 2) (bit_set n 3) (bit_set n 4) (bit_set n 5) (bit_set n 6) (bit_set n 7)
    ∙ omega (arith, eight-bits n h, bit-of n 1, bit-of n 2, bit-of n 4, bit-of n 8, bit-of n 16, bit-of n 32, bit-of n 64, bit-of n 128)

ten-bits : (q : ℕ) → q % 1024
    ≡ q % 2 + q / 2 % 2 * 2 + q / 4 % 2 * 4 + q / 8 % 2 * 8 + q / 16 % 2 * 16 + q / 32 % 2 * 32 + q / 64 % 2 * 64 + q / 128 % 2 * 128 + q / 256 % 2 * 256 + q / 512 % 2 * 512
ten-bits q = omega arith

-- SP_STATUS from its bits
bits-again : (n : ℕ) → n ≡ n % 4 + n / 32 % 1024 * 32
    → n ≡ n % 2 + n / 2 % 2 * 2 + n / 32 % 2 * 32 + n / 64 % 2 * 64 + n / 128 % 2 * 128 + n / 256 % 2 * 256 + n / 512 % 2 * 512 + n / 1024 % 2 * 1024
    + n / 2048 % 2 * 2048 + n / 4096 % 2 * 4096 + n / 8192 % 2 * 8192 + n / 16384 % 2 * 16384
bits-again n h =
    let q = n / 32 in
    let a : q / 2 ≡ n / 64 = omega arith in
    let b : q / 4 ≡ n / 128 = omega arith in
    let c : q / 8 ≡ n / 256 = omega arith in
    let d : q / 16 ≡ n / 512 = omega arith in
    let e : q / 32 ≡ n / 1024 = omega arith in
    let f : q / 64 ≡ n / 2048 = omega arith in
    let g : q / 128 ≡ n / 4096 = omega arith in
    let i : q / 256 ≡ n / 8192 = omega arith in
    let j : q / 512 ≡ n / 16384 = omega arith in
    let low : n % 4 ≡ n % 2 + n / 2 % 2 * 2 = omega arith in
    let high = rw (a, b, c, d, e, f, g, i, j) at (ten-bits q) in
    omega (arith, h, low, high)

status-again : (w : List ℕ) (i : ℕ) → slice_index w 4 ≡ slice_index w 4 % 4 + slice_index w 4 / 32 % 1024 * 32 → status (sp_of (sp_parts w i)) ≡ slice_index w 4
unfolding status
status-again w i h =
    let n = slice_index w 4 in
    omega (
      arith,
      bits-again n h,
      flag-of n 1,
      flag-of (n / 2) 2,
      flag-of (n / 32) 32,
      flag-of (n / 64) 64,
      flag-of (n / 128) 128,
      flag-of (n / 256) 256,
      flag-of (n / 512) 512,
      flag-of (n / 1024) 1024,
      flag-of (n / 2048) 2048,
      flag-of (n / 4096) 4096,
      flag-of (n / 8192) 8192,
      flag-of (n / 16384) 16384,
    )

-- lists of sixteen
abbrev sixteen : List ℕ → List ℕ
sixteen xs =
    slice_index xs 0 ∷ slice_index xs 1 ∷ slice_index xs 2 ∷ slice_index xs 3 ∷ slice_index xs 4 ∷ slice_index xs 5 ∷ slice_index xs 6 ∷ slice_index xs 7
    ∷ slice_index xs 8 ∷ slice_index xs 9 ∷ slice_index xs 10 ∷ slice_index xs 11 ∷ slice_index xs 12 ∷ slice_index xs 13 ∷ slice_index xs 14 ∷ slice_index xs 15 ∷ []

sixteen-again : (xs : List ℕ) → length xs ≡ 16 → sixteen xs ≡ xs
sixteen-again xs n =
    subst (λ ys. sixteen ys ≡ ys) (take-append-drop 8 xs) (eight (λ f. sixteen (f ++ drop 8 xs) ≡ f ++ drop 8 xs) (λ a b c d e f g h.
    eight (λ r. sixteen (a ∷ b ∷ c ∷ d ∷ e ∷ f ∷ g ∷ h ∷ r) ≡ a ∷ b ∷ c ∷ d ∷ e ∷ f ∷ g ∷ h ∷ r) (λ i j k l m o p q. refl) (drop 8 xs) (length-drop 8 xs ∙ omega (arith, n)))
    (take 8 xs) (length-take-le 8 xs (omega (arith, n))))

eq-of : (a b : ℕ) → (a == b) ≡ true → a ≡ b
eq-of a b e = grind (arith, nat_tests)

le-of : (a b : ℕ) → nat_le a b ≡ true → a ≤ b
le-of a b e = grind (arith, nat_tests)

-- words as SP registers, and back
words-back : (w : List ℕ) (i : ℕ) → length w ≡ 16 → sp_word_fault w ≡ None → sp_words (sp_of (sp_parts w i)) ≡ w
unfolding read_value
words-back w i n h =
    let is = words-right w h in
    let length-word : slice_index w 2 / 1048576 * 1048576 + 4088 ≡ slice_index w 2 = omega (arith, eq-of _ _ is.low) in
    let both : slice_index w 2 ≡ slice_index w 3 = sym (eq-of _ _ is.both) in
    let full : 0 ≡ slice_index w 5 = sym (eq-of _ _ is.full) in
    let busy : 0 ≡ slice_index w 6 = sym (eq-of _ _ is.busy) in
    let semaphore : flag (slice_index w 7 == 1) 1 ≡ slice_index w 7 = flag-is (slice_index w 7 == 1) 1 ∙ omega (arith, two (slice_index w 7) (omega (arith, le-of _ _ is.semaphore))) in
    let status-word = status-again w i (eq-of _ _ is.status) in
    list-of-sixteen refl refl length-word (length-word ∙ both) status-word full busy semaphore ∙ sixteen-again w n
  where
    list-of-sixteen : {a0 a1 a2 a3 a4 a5 a6 a7 b0 b1 b2 b3 b4 b5 b6 b7 : ℕ} {rest : List ℕ} → a0 ≡ b0 → a1 ≡ b1 → a2 ≡ b2 → a3 ≡ b3 → a4 ≡ b4 → a5 ≡ b5 → a6 ≡ b6 → a7 ≡ b7
        → a0 ∷ a1 ∷ a2 ∷ a3 ∷ a4 ∷ a5 ∷ a6 ∷ a7 ∷ rest ≡ b0 ∷ b1 ∷ b2 ∷ b3 ∷ b4 ∷ b5 ∷ b6 ∷ b7 ∷ rest
    list-of-sixteen e0 e1 e2 e3 e4 e5 e6 e7 = rw (e0, e1, e2, e3, e4, e5, e6, e7) refl

-- planes, and back
high-again : (h m l : List ℕ) → AreHalves h → AreHalves m → AreHalves l → each_lane (λ i. high (number (joined h m l) i)) ≡ h
high-again h m l a b c =
    each_same _ _ (λ i k. ap high (lane_of (pos 0) _ (joined h m l) refl i k) ∙ high_join (slice_index h i) (slice_index m i) (slice_index l i) (a.1 i) (b.1 i) (c.1 i))
    ∙ sym (eta 0 h a.0)

middle-again : (h m l : List ℕ) → AreHalves h → AreHalves m → AreHalves l → each_lane (λ i. middle (number (joined h m l) i)) ≡ m
middle-again h m l a b c =
    each_same _ _ (λ i k. ap middle (lane_of (pos 0) _ (joined h m l) refl i k) ∙ middle_join (slice_index h i) (slice_index m i) (slice_index l i) (a.1 i) (b.1 i) (c.1 i))
    ∙ sym (eta 0 m b.0)

low-again : (h m l : List ℕ) → AreHalves h → AreHalves m → AreHalves l → each_lane (λ i. low (number (joined h m l) i)) ≡ l
low-again h m l a b c =
    each_same _ _ (λ i k. ap low (lane_of (pos 0) _ (joined h m l) refl i k) ∙ low_join (slice_index h i) (slice_index m i) (slice_index l i) (a.1 i) (b.1 i) (c.1 i))
    ∙ sym (eta 0 l c.0)

pub got-as-set : GotAsSet
unfolding registers_of with_registers
got-as-set g s r h =
    let is = state-right g h in let a = g.accumulators in
    rw (
      high-again a.high a.middle a.low r.high r.middle r.low,
      middle-again a.high a.middle a.low r.high r.middle r.low,
      low-again a.high a.middle a.low r.high r.middle r.low,
      mask-marks g.flags.carry r.carry,
      mask-marks g.flags.differ r.differ,
      mask-marks g.flags.compare r.compare,
      mask-marks g.flags.clip r.clip,
      mask-marks g.flags.extra r.extra,
      two g.divider.loaded (omega (arith, le-of _ _ is.loaded)),
      two g.interrupt (omega (arith, le-of _ _ is.interrupt)),
      words-back g.sp g.interrupt r.sp is.sp,
    ) refl
