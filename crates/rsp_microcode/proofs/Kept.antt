-- Registers that are kept, but for some.
use Rattle.std.proofs.Common.{◌≡◌, ℕ, zero, suc, ◌+◌, ◌<◌, ◌≤◌, List, [], ◌∷◌, length, not, Bool, true, false, ◌||◌, refl, ap, sym, ◌∙◌, arith, inl, inr}
use Rattle.std.specs.List.{list_all, range_with_len}
use Rattle.std.specs.Prelude.{◌==◌, ◌⊎◌}
use Rattle.std.proofs.lemmas.Bool.{and_parts, ltb-true, cases_eq, eq-eqb, ne_eqb}
use Rattle.std.proofs.lemmas.List.{ext_get_or, get_or-set_other}
use Rattle.rsp_decode.specs.declared.inst.Inst.{Inst}
use Rattle.rsp_scalar.specs.Registers.{register, with_register}
use Rattle.rsp_loadstore.specs.File.{vector, with_vector}
use Rattle.rsp_machine.specs.State.{State, IsState}
use Rattle.rsp_microcode.specs.Frames.{of_rows, with_parts, spare_scalar, spare_vector}
use Rattle.rsp_microcode.specs.Kept.{registers_but, vectors_but, is_among, are_numbers, write_only, Spares, with_written_at, KeptBut}
use Rattle.rsp_microcode.proofs.Registers.{one_vector, one_scalar, length-with_vector, length-with_register}

-- a test of all numbers of a range
all_of : (p : ℕ → Bool) (k a n : ℕ) → list_all p (range_with_len a k) ≡ true → a ≤ n → n < a + k → p n ≡ true
all_of p zero a n h le lt = absurd (omega arith)
all_of p (suc k) a n h le lt =
    let parts = and_parts _ _ h in
    elim (cases_eq n a) [
      | inl e ↦ rw e parts.0
      | inr ne ↦ all_of p k (a + 1) n parts.1 (omega arith) (omega arith)
    ]

one_or : (a b : Bool) → (a || b) ≡ true → (a ≡ true) ⊎ (b ≡ true)
one_or true b h = inl refl
one_or false b h = inr h

-- scalar registers: how many there are after writes; one that is right stays so; one that is written is right
scalar_length : (ns after r : List ℕ) → length (registers_but ns r after) ≡ length r
scalar_length [] after r = refl
scalar_length (m ∷ ms) after r = scalar_length ms after _ ∙ length-with_register r m _

scalar_stays : (ns after r : List ℕ) (n : ℕ) → length r ≡ 32 → are_numbers ns ≡ true → not (n == 0) ≡ true → register r n ≡ register after n → register (registers_but ns r after) n ≡ register after n
scalar_stays [] after r n l h z e = e
scalar_stays (m ∷ ms) after r n l h z e =
    let parts = and_parts _ _ h in
    scalar_stays ms after (with_register r m (register after m)) n (length-with_register r m _ ∙ l) parts.1 z (one_scalar r m n _ l (ltb-true _ _ parts.0) z ∙ elim (cases_eq n m) [
      | inl q ↦ rw (eq-eqb n m q, q) refl
      | inr ne ↦ rw (ne_eqb n m ne) e
    ])

scalar_becomes : (ns after r : List ℕ) (n : ℕ) → length r ≡ 32 → are_numbers ns ≡ true → not (n == 0) ≡ true → is_among n ns ≡ true → register (registers_but ns r after) n ≡ register after n
scalar_becomes [] after r n l h z among = cc
scalar_becomes (m ∷ ms) after r n l h z among =
    let parts = and_parts _ _ h in
    let q = with_register r m (register after m) in
    let size : length q ≡ 32 = length-with_register r m _ ∙ l in
    elim (cases_eq n m) [
      | inl e ↦ scalar_stays ms after q n size parts.1 z (one_scalar r m n _ l (ltb-true _ _ parts.0) z ∙ rw (eq-eqb n m e, e) refl)
      | inr ne ↦ scalar_becomes ms after q n size parts.1 z (let e = ne_eqb n m ne in rw e at among)
    ]

zero_stays : (ns after r : List ℕ) → register (registers_but ns r after) 0 ≡ register r 0
zero_stays [] after r = refl
zero_stays (m ∷ ms) after r = zero_stays ms after _ ∙ zero_kept r m _
  where
    zero_kept : (r : List ℕ) (n v : ℕ) → register (with_register r n v) 0 ≡ register r 0
    zero_kept r n v = elim (cases_eq n 0) [
      | inl e ↦ rw e refl
      | inr ne ↦ rw (ne_eqb n 0 ne) (get_or-set_other r n 0 v 0 (omega arith))
    ]

-- the same of vector registers
vector_length : (ns : List ℕ) (after f : List (List ℕ)) → length (vectors_but ns f after) ≡ length f
vector_length [] after f = refl
vector_length (m ∷ ms) after f = vector_length ms after _ ∙ length-with_vector f m _

vector_stays : (ns : List ℕ) (after f : List (List ℕ)) (n : ℕ) → length f ≡ 32 → are_numbers ns ≡ true → vector f n ≡ vector after n → vector (vectors_but ns f after) n ≡ vector after n
vector_stays [] after f n l h e = e
vector_stays (m ∷ ms) after f n l h e =
    let parts = and_parts _ _ h in
    vector_stays ms after (with_vector f m (vector after m)) n (length-with_vector f m _ ∙ l) parts.1 (one_vector f m n _ l (ltb-true _ _ parts.0) ∙ elim (cases_eq n m) [
      | inl q ↦ rw (eq-eqb n m q, q) refl
      | inr ne ↦ rw (ne_eqb n m ne) e
    ])

vector_becomes : (ns : List ℕ) (after f : List (List ℕ)) (n : ℕ) → length f ≡ 32 → are_numbers ns ≡ true → is_among n ns ≡ true → vector (vectors_but ns f after) n ≡ vector after n
vector_becomes [] after f n l h among = cc
vector_becomes (m ∷ ms) after f n l h among =
    let parts = and_parts _ _ h in
    let g = with_vector f m (vector after m) in
    let size : length g ≡ 32 = length-with_vector f m _ ∙ l in
    elim (cases_eq n m) [
      | inl q ↦ vector_stays ms after g n size parts.1 (one_vector f m n _ l (ltb-true _ _ parts.0) ∙ rw (eq-eqb n m q, q) refl)
      | inr ne ↦ vector_becomes ms after g n size parts.1 (let e = ne_eqb n m ne in rw e at among)
    ]

pub kept_but : KeptBut
unfolding vector
kept_but code s t is_s is_t spares ns ms only =
    let parts = and_parts _ _ only in
    let below = and_parts _ _ parts.0 in
    let tests = and_parts _ _ parts.1 in
    let r = s.registers in
    let f = s.vectors in (
      ext_get_or 0 t.registers (registers_but ns r t.registers) (is_t.registers.count ∙ sym is_s.registers.count ∙ sym (scalar_length ns t.registers r)) (λ n h.
          sym (elim (cases_eq n 0) [
            | inl e ↦ rw e (zero_stays ns t.registers r ∙ is_s.registers.zero ∙ sym is_t.registers.zero)
            | inr ne ↦ elim (one_or _ _ (all_of (λ n. is_among n ns || spare_scalar n code) 31 1 n tests.0 (omega arith) (omega (arith, is_t.registers.count)))) [
              | inl among ↦ scalar_becomes ns t.registers r n is_s.registers.count below.0 (ap not (ne_eqb n 0 ne)) among
              | inr spare ↦ scalar_stays ns t.registers r n is_s.registers.count below.0 (ap not (ne_eqb n 0 ne)) (sym (spares.scalars n spare))
            ]
          ])),
      ext_get_or [] t.vectors (vectors_but ms f t.vectors) (is_t.vectors.count ∙ sym is_s.vectors.count ∙ sym (vector_length ms t.vectors f)) (λ n h.
          sym (elim (one_or _ _ (all_of (λ n. is_among n ms || spare_vector n code) 32 0 n tests.1 (omega arith) (omega (arith, is_t.vectors.count)))) [
            | inl among ↦ vector_becomes ms t.vectors f n is_s.vectors.count below.1 among
            | inr spare ↦ vector_stays ms t.vectors f n is_s.vectors.count below.1 (sym (spares.vectors n spare))
          ])),
    )

-- a state whose pc, npc and parts are known
pub changed_is : (p q : ℕ) (code : List Inst) (s t : State) → IsState s → IsState t → Spares code s t
    → t.pc ≡ p → t.npc ≡ q → t ≡ with_parts (of_rows code) s t
    → (ns ms : List ℕ) → write_only ns ms code ≡ true → t ≡ with_written_at p q code ns ms s t
changed_is p q code s t is_s is_t spares pc npc frame ns ms only =
    let k = kept_but code s t is_s is_t spares ns ms only in
    put t _ _ _ _ pc npc k.0 k.1 ∙ ap (λ (x : State). let y : State = record x {
      pc = p;
      npc = q;
      registers = registers_but ns s.registers t.registers;
      vectors = vectors_but ms s.vectors t.vectors;
    } in y) frame
  where
    put : (t : State) (p n : ℕ) (r : List ℕ) (v : List (List ℕ)) → t.pc ≡ p → t.npc ≡ n → t.registers ≡ r → t.vectors ≡ v → t ≡ record t { pc = p; npc = n; registers = r; vectors = v }
    put t p n r v a b c d = rw (← a, ← b, ← c, ← d) refl
