-- Loops over whole vectors that fill any number of bytes: what the last vector has after them is taken first and put back at the end.
use Rattle.std.proofs.Common.{◌≡◌, ℕ, ◌+◌, ◌*◌, ◌/◌, ◌%◌, ◌^◌, ◌<◌, ◌≤◌, pos, List, [], ◌∷◌, ◌++◌, length, get_or, map, Some, true, refl, ap, sym, subst, ◌∙◌, arith, inl, inr}
use Rattle.std.specs.Prelude.{nat_lt, int_lt}
use Rattle.std.proofs.lemmas.Bool.{cases_lt, lt-ltb, le-ltb}
use Rattle.rsp_numbers.specs.Numbers.{s32}
use Rattle.rsp_numbers.proofs.Signed.{s32_small, s32_large}
use Rattle.rsp_decode.specs.declared.inst.Inst.{Inst}
use Rattle.rsp_decode.specs.declared.inst.Inst.TheVariants.{Register}
use Rattle.rsp_decode.specs.declared.scalar.RegisterOp.TheVariants.{Addu}
use Rattle.rsp_decode.specs.Table.Words.{inst_of, row_of}
use Rattle.rsp_memory.specs.Memory.{byte_at, half_at}
use Rattle.rsp_lanes.specs.Lanes.{register_byte}
use Rattle.rsp_multiply.specs.Laws.{SumsOfProducts}
use Rattle.rsp_scalar.specs.Registers.{register}
use Rattle.rsp_loadstore.specs.File.{IsFile, vector}
use Rattle.rsp_machine.specs.State.{State, IsState}
use Rattle.rsp_machine.specs.Step.{executed, instruction_effect, computes}
use Rattle.rsp_machine.specs.Laws.{steps_of}
use Rattle.rsp_microcode.specs.Runs.{IsAt}
use Rattle.rsp_microcode.specs.Frames.{spare_scalar, spare_vector}
use Rattle.rsp_microcode.specs.Lanes.{lqv, sqv, IsOutside}
use Rattle.rsp_microcode.specs.Pieces.{Piece, rows, code_of}
use Rattle.rsp_microcode.specs.Loops.{Loop, loop_code, is_loop, HandsOn}
use Rattle.rsp_microcode.specs.Buffers.{IsBuffer, SparesBuffer, IsFilled}
use Rattle.rsp_microcode.specs.Blocks.{Ran}
use Rattle.rsp_microcode.proofs.Listings.{listed}
use Rattle.rsp_microcode.proofs.Bytes.{has_bytes}
use Rattle.rsp_microcode.proofs.Multiplies.{read_same}
use Rattle.rsp_microcode.proofs.Pieces.{pieces_run}
use Rattle.rsp_microcode.proofs.Loops.{loops}
use Rattle.rsp_microcode.proofs.Blocks.{steps_after, first_block}
use Rattle.rsp_microcode.proofs.Joins.{blocks_join, ran_at, pieces_ran, loop_ran}
use Rattle.rsp_routines.specs.Areas.{IsArea, SparesArea, vectors_for}
use Rattle.rsp_routines.proofs.Bytes.{lane_half, lane_byte}
use Rattle.rsp_routines.proofs.Saving.{saved, restored, saves, restores, tail_kept}

-- addu $5, $3, $4; lqv $v30[0], 0($5); and at the end sqv $v30[0], 0($5)
abbrev pub before_words : List ℕ
before_words = 0x00642821 ∷ 0xc8be2000 ∷ []

abbrev before : List Piece
before = rows (Register Addu (record { rd = 5; rs = 3; rt = 4 }) ∷ lqv 30 0 5 ∷ []) ∷ []

abbrev pub after_words : List ℕ
after_words = 0xe8be2000 ∷ []

abbrev after : List Piece
after = rows (sqv 30 0 5 ∷ []) ∷ []

before_decoded : map inst_of before_words ≡ map Some (code_of before)
unfolding inst_of row_of
before_decoded = refl

after_decoded : map inst_of after_words ≡ map Some (code_of after)
unfolding inst_of row_of
after_decoded = refl

-- the code of such a loop
abbrev pub tailed_code : Loop → List Inst
tailed_code l = code_of before ++ (loop_code l ++ code_of after)

abbrev pub tailed_words : Loop → List ℕ
tailed_words l = before_words ++ (l.words ++ after_words)

-- what the first two instructions leave
pub record Begun (s u : State) : Type 0 where
  pub ran : Ran before_words (code_of before) s u
  pub end : register u.registers 5 ≡ register s.registers 3 + register s.registers 4
  pub tail : vector u.vectors 30 ≡ saved (vector s.vectors 30) s.dmem (register s.registers 3 + register s.registers 4)
  pub memory : u.dmem ≡ s.dmem

abbrev adding : State → State
adding s = executed (Register Addu (record { rd = 5; rs = 3; rt = 4 })) s

added : (s : State) → length s.registers ≡ 32 → register (adding s).registers 5 ≡ (register s.registers 3 + register s.registers 4) % 2 ^ 32
unfolding executed instruction_effect computes
added s n = ap (λ (r : List ℕ). register (adding (record s { registers = r })).registers 5) (listed s.registers n)

same_parts : (s : State) → ((adding s).vectors ≡ s.vectors) × ((adding s).dmem ≡ s.dmem)
unfolding executed instruction_effect computes
same_parts s = (refl, refl)

begun : SumsOfProducts → (s : State) → IsState s → IsAt before_words s → register s.registers 3 + register s.registers 4 < 2 ^ 32 → Begun s (steps_of 2 s)
begun law s is at small =
    let end = pieces_run law before_words before before_decoded refl s is at tt in
    let w = adding s in
    let same = same_parts s in
    let a : register w.registers 5 ≡ register s.registers 3 + register s.registers 4 = added s is.registers.count ∙ omega arith in
    let file = subst (λ f. IsFile f) (sym same.0) is.vectors in
    let made = end.ran ∙ saves 30 5 w file (omega arith) (omega arith) in
    record {
      ran = pieces_ran before_words before s _ at.next end;
      end = ap (λ (x : State). register x.registers 5) made ∙ a;
      tail = ap (λ (x : State). vector x.vectors 30) made ∙ read_same w.vectors 30 _ (omega (arith, file.count)) ∙ rw (same.0, same.1, a) refl;
      memory = ap (λ (x : State). x.dmem) made ∙ same.1;
    }

-- a count that goes down by 16 for each vector, and whether a round is left
pub more : (r n k : ℕ) → k < vectors_for n → n ≤ 4096 → r < 2 ^ 32 → (r + 16 * k) % 2 ^ 32 ≡ n
    → int_lt (pos 0) (s32 ((r + 4294967280) % 2 ^ 32)) ≡ nat_lt (k + 1) (vectors_for n)
more r n k h small word e = elim (cases_lt (k + 1) (vectors_for n)) [
  | inl lt ↦
      let q : (r + 4294967280) % 2 ^ 32 < 2147483648 = omega arith in
      rw (s32_small ((r + 4294967280) % 2 ^ 32) q, lt-ltb (k + 1) (vectors_for n) lt) (lt-ltb 0 ((r + 4294967280) % 2 ^ 32) (omega arith))
  | inr ge ↦ rw (le-ltb (k + 1) (vectors_for n) ge) (elim (cases_lt ((r + 4294967280) % 2 ^ 32) 2147483648) [
    | inl low ↦ rw (s32_small ((r + 4294967280) % 2 ^ 32) low) (le-ltb 0 ((r + 4294967280) % 2 ^ 32) (omega arith))
    | inr high ↦ rw (s32_large ((r + 4294967280) % 2 ^ 32) high (omega arith)) refl
  ])
]

-- an area as a buffer of the vectors that the loop stores
pub buffer_of : (a n : ℕ) → IsArea a n → IsBuffer a (vectors_for n)
buffer_of a n is =
    let p = is.aligned in
    let q = is.begins in
    let r = is.ends in
    record { aligned = p; inside = omega arith }

pub spares_of : (a b n : ℕ) → IsArea a n → IsArea b n → SparesArea a b n → SparesBuffer a b (vectors_for n)
spares_of a b n is other (inl below) = inl below
spares_of a b n is other (inr above) =
    let p = is.aligned in
    let q = other.aligned in
    elim (cases_lt b a) [
      | inl lt ↦ inr (omega arith)
      | inr ge ↦ inl (omega arith)
    ]

-- What all of it leads from s to t, if the loop stores f 0, f 1 and so on.
pub record Tailed (l : Loop) (f : ℕ → List ℕ) (s t : State) : Type 0 where
  pub ran : Ran (tailed_words l) (tailed_code l) s t
  pub bytes : (i : ℕ) → i < register s.registers 4 → byte_at t.dmem (register s.registers 3 + i) ≡ register_byte (f (i / 16)) (i % 16)
  pub halves : (i : ℕ) → 2 * i + 1 < register s.registers 4 → half_at t.dmem (register s.registers 3 + 2 * i) ≡ get_or (f (i / 8)) (i % 8) 0
  pub outside : (x : ℕ) → IsOutside (register s.registers 3) (register s.registers 4) x → byte_at t.dmem x ≡ byte_at s.dmem x

-- what a loop has to show of the state u after the first two instructions
pub record Loops (l : Loop) (f : ℕ → List ℕ) (s u : State) (n : ℕ) (Holds : ℕ → State → Type 0) : Type 0 where
  pub start : Holds 0 u
  pub each : HandsOn l u n Holds
  pub filled : (v : State) → Holds n v → IsFilled f s.dmem v.dmem (register s.registers 3) n

byte_of : (f : ℕ → List ℕ) (m : List ℕ) (v : State) (c n i : ℕ) → IsState v → IsFilled f m v.dmem c (vectors_for n) → i < n → byte_at v.dmem (c + i) ≡ register_byte (f (i / 16)) (i % 16)
byte_of f m v c n i is filled h =
    ap (byte_at v.dmem) (omega arith) ∙ sym (lane_byte v.dmem (c + 16 * (i / 16)) (i % 16) (has_bytes v.dmem is.dmem) (omega arith))
    ∙ ap (λ w. register_byte w (i % 16)) (filled.vectors (i / 16) (omega arith))

half_of : (f : ℕ → List ℕ) (m : List ℕ) (v : State) (c n i : ℕ) → IsFilled f m v.dmem c (vectors_for n) → 2 * i + 1 < n → half_at v.dmem (c + 2 * i) ≡ get_or (f (i / 8)) (i % 8) 0
half_of f m v c n i filled h =
    ap (half_at v.dmem) (omega arith) ∙ sym (lane_half v.dmem (c + 16 * (i / 8)) (i % 8) (omega arith))
    ∙ ap (λ w. get_or w (i % 8) 0) (filled.vectors (i / 8) (omega arith))

same_half : (m n : List ℕ) (c i : ℕ) → byte_at m (c + 2 * i) ≡ byte_at n (c + 2 * i) → byte_at m (c + (2 * i + 1)) ≡ byte_at n (c + (2 * i + 1)) → half_at m (c + 2 * i) ≡ half_at n (c + 2 * i)
unfolding half_at
same_half m n c i p q = let e : c + 2 * i + 1 ≡ c + (2 * i + 1) = omega arith in rw (p, e, q) refl

-- A loop may also hand on what its last round leaves in vector registers.
pub tailed_and : SumsOfProducts → (l : Loop) → map inst_of l.words ≡ map Some (loop_code l) → is_loop l ≡ true
    → spare_scalar 5 (loop_code l) ≡ true → spare_vector 30 (loop_code l) ≡ true
    → (f : ℕ → List ℕ) (s : State) → IsState s → IsAt (tailed_words l) s → IsArea (register s.registers 3) (register s.registers 4)
    → (Holds : State → ℕ → State → Type 0) (Leaves : List (List ℕ) → Type 0)
    → ((u : State) → IsState u → Begun s u → Loops l f s u (vectors_for (register s.registers 4)) (Holds u)
    × ((v : State) → Holds u (vectors_for (register s.registers 4)) v → Leaves v.vectors))
    → let t = steps_of (2 + (vectors_for (register s.registers 4) * length l.words + 1)) s in Tailed l f s t × Leaves t.vectors
tailed_and law l decoded test spare5 spare30 f s is at area Holds Leaves each =
    let c = register s.registers 3 in
    let n = register s.registers 4 in
    let rounds = vectors_for n in
    let begins = area.begins in
    let ends = area.ends in
    let u = steps_of 2 s in
    let b = begun law s is (first_block before_words (l.words ++ after_words) s at) (omega arith) in
    let at_u = ran_at before_words (l.words ++ after_words) _ s u at b.ran in
    let both = each u b.ran.ranges b in
    let shown = both.0 in
    let mid = loops law l decoded test u b.ran.ranges (first_block l.words after_words u at_u) rounds (omega arith) (Holds u) shown.start shown.each in
    let v = steps_of (rounds * length l.words) u in
    let ran_v = loop_ran l rounds (Holds u) u v at_u.next mid in
    let at_v = ran_at l.words after_words _ u v at_u ran_v in
    let last = pieces_run law after_words after after_decoded refl v mid.ranges at_v tt in
    let t = steps_of 1 v in
    let filled = shown.filled v mid.holds in
    let end : register v.registers 5 ≡ c + n = mid.spares.scalars 5 spare5 ∙ b.end in
    let tail : vector v.vectors 30 ≡ saved (vector s.vectors 30) s.dmem (c + n) = mid.spares.vectors 30 spare30 ∙ b.tail in
    let put = last.ran ∙ restores 30 5 v (omega arith) in
    let memory : t.dmem ≡ restored v.dmem (c + n) (saved (vector s.vectors 30) s.dmem (c + n)) =
    ap (λ (x : State). x.dmem) put ∙ rw (end, tail) refl in
    let kept = tail_kept f s.dmem v.dmem (vector s.vectors 30) c n area mid.ranges.dmem.count (is.vectors.registers 30 (omega arith)) (has_bytes s.dmem is.dmem) filled in
    let byte = λ (i : ℕ) (h : i < n). ap (λ m. byte_at m (c + i)) memory ∙ kept.0 i h in
    subst (λ (x : State). Tailed l f s x × Leaves x.vectors) (sym (steps_after 2 (rounds * length l.words + 1) s ∙ steps_after (rounds * length l.words) 1 u)) (
      record {
        ran = blocks_join before_words (l.words ++ after_words) _ _ s u t b.ran (blocks_join l.words after_words _ _ u v t ran_v (pieces_ran after_words after v t at_v.next last));
        bytes = λ i h. byte i h ∙ byte_of f s.dmem v c n i mid.ranges filled h;
        halves = λ i h. same_half t.dmem v.dmem c i (byte (2 * i) (omega arith)) (byte (2 * i + 1) h) ∙ half_of f s.dmem v c n i filled h;
        outside = λ x h. ap (λ m. byte_at m x) memory ∙ kept.1 x h;
      },
      subst Leaves (sym (ap (λ (x : State). x.vectors) put)) (both.1 v mid.holds),
    )

pub tailed : SumsOfProducts → (l : Loop) → map inst_of l.words ≡ map Some (loop_code l) → is_loop l ≡ true
    → spare_scalar 5 (loop_code l) ≡ true → spare_vector 30 (loop_code l) ≡ true
    → (f : ℕ → List ℕ) (s : State) → IsState s → IsAt (tailed_words l) s → IsArea (register s.registers 3) (register s.registers 4)
    → (Holds : State → ℕ → State → Type 0)
    → ((u : State) → IsState u → Begun s u → Loops l f s u (vectors_for (register s.registers 4)) (Holds u))
    → Tailed l f s (steps_of (2 + (vectors_for (register s.registers 4) * length l.words + 1)) s)
tailed law l decoded test spare5 spare30 f s is at area Holds each =
    (tailed_and law l decoded test spare5 spare30 f s is at area Holds (λ _. Unit {0}) (λ u ok b. (each u ok b, λ v holds. tt))).0
