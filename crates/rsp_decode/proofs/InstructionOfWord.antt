-- Decoding: what a word means has the word's row and its fields.
use Rattle.std.proofs.Common.{◌≡◌, refl, sym, ap, subst, ◌∙◌, ℕ, zero, suc, ◌/◌, ◌%◌, ◌^◌, min, List, [], ◌∷◌, ◌++◌, Bool, arith, Option, inl, inr}
use Rattle.std.specs.Prelude.{find, map, Some, None, option_map, IfSome, ⊤}
use Rattle.std.specs.Option.{option_or}
use Rattle.std.proofs.lemmas.List.Folds.{find-append}
use Rattle.std.proofs.lemmas.Bool.{cases_Bool}
use Rattle.rsp_decode.specs.declared.inst.Inst.{Inst}
use Rattle.rsp_decode.specs.declared.scalar.BranchSignOp.TheVariants.{Bltz, Bgez, Bltzal, Bgezal, Blez, Bgtz}
use Rattle.rsp_decode.specs.declared.scalar.ImmediateOp.{ImmediateOp}
use Rattle.rsp_decode.specs.declared.scalar.ImmediateOp.TheVariants.{Addi}
use Rattle.rsp_decode.specs.declared.scalar.MoveOp.{MoveOp}
use Rattle.rsp_decode.specs.declared.scalar.MoveOp.TheVariants.{From, To}
use Rattle.rsp_decode.specs.declared.vector.VectorLoadOp.{VectorLoadOp}
use Rattle.rsp_decode.specs.declared.vector.VectorLoadOp.TheVariants.{Lbv}
use Rattle.rsp_decode.specs.declared.vector.VectorStoreOp.{VectorStoreOp}
use Rattle.rsp_decode.specs.declared.vector.VectorStoreOp.TheVariants.{Sbv}
use Rattle.rsp_decode.specs.Table.{shift_ops, shift_by_ops, register_ops, jump_ops, branch_equal_ops, immediate_ops, load_ops, store_ops, multiply_ops, round_ops, mpeg_ops, vector_add_ops, vector_select_ops, vector_clip_ops, vector_logic_ops, divide_ops, idle_ops, vector_load_ops, vector_store_ops, Row, rows, row_of, fits, fields, row_bit_fields, inst_of, canonical_of, meaning_of, word_from, word_of, row_and_values, IsInstruction, FitBitFields, control_of, control_number, shift_row, shift_by_row, jump_register_row, jump_link_register_row, break_row, register_row, branch_sign_row, jump_row, branch_equal_row, immediate_row, load_upper_row, load_row, store_row, move_sp_row, move_vector_row, move_control_row, multiply_row, round_row, mpeg_row, read_accumulator_row, vector_add_row, vector_select_row, vector_clip_row, vector_merge_row, vector_logic_row, divide_row, idle_row, vector_load_row, vector_store_row}
use Rattle.rsp_decode.proofs.BitFields.{fit_read}

-- the row and the fields of what it means are its own
abbrev Kept : Row → Type 0
Kept r = (w : ℕ) → row_and_values (meaning_of r w) ≡ (r, fields r w)

-- so is each row that a test finds in a list
record AllKept (rs : List Row) : Type 0 where
  kept : (p : Row → Bool) (r : Row) → find p rs ≡ Some r → Kept r

infixl 60 ◌&◌
◌&◌ : {xs ys : List Row} → AllKept xs → AllKept ys → AllKept (xs ++ ys)
◌&◌ {xs} {ys} a b = record { kept = λ p r e. go p r (find p xs) refl (sym (find-append p xs ys) ∙ e) }
  where
    go : (p : Row → Bool) (r : Row) (o : Option Row) → find p xs ≡ o → option_or o (find p ys) ≡ Some r → Kept r
    go p r None is e = b.kept p r e
    go p r (Some x) is e = a.kept p r (is ∙ e)

group : {A : Type 0} (f : A → Row) → ((a : A) → Kept (f a)) → (ops : List A) → AllKept (map f ops)
group {A} f all ops = record { kept = λ p r. go p r ops }
  where
    go : (p : Row → Bool) (r : Row) (ops : List A) → find p (map f ops) ≡ Some r → Kept r
    go p r [] e = cc
    go p r (a ∷ ops) e =
        elim (cases_Bool (p (f a))) [
          | inl passes ↦ subst Kept (let same : Some (f a) ≡ Some r = rw passes at e in cc) (all a)
          | inr fails ↦ go p r ops (rw fails at e)
        ]

alone : (r : Row) → Kept r → AllKept (r ∷ [])
alone r kept = group (λ (one : ⊤). r) (λ one. kept) (tt ∷ [])

-- control register 3 is read as 2
control_kept : (n : ℕ) → control_number (control_of (min 2 n)) ≡ min 2 n
control_kept zero = refl
control_kept (suc zero) = refl
control_kept (suc (suc n)) = let e : min 2 (suc (suc n)) ≡ 2 = omega arith in ap (λ m. control_number (control_of m)) e ∙ sym e

immediate_kept : (r : ImmediateOp) → Kept (immediate_row r)
immediate_kept Addi w = refl
immediate_kept _ w = refl

move_control_kept : (r : MoveOp) → Kept (move_control_row r)
move_control_kept r w = ap (λ c. (move_control_row r, w / 2 ^ 16 % 2 ^ 5 ∷ c ∷ [])) (control_kept (w / 2 ^ 11 % 2 ^ 2))

vector_load_kept : (r : VectorLoadOp) → Kept (vector_load_row r)
vector_load_kept Lbv w = refl
vector_load_kept _ w = refl

vector_store_kept : (r : VectorStoreOp) → Kept (vector_store_row r)
vector_store_kept Sbv w = refl
vector_store_kept _ w = refl

all_kept : AllKept rows
all_kept =
    group shift_row (λ r w. refl) shift_ops
    & group shift_by_row (λ r w. refl) shift_by_ops
    & alone jump_register_row (λ w. refl)
    & alone jump_link_register_row (λ w. refl)
    & alone break_row (λ w. refl)
    & group register_row (λ r w. refl) register_ops
    & group branch_sign_row (λ r w. refl) (Bltz ∷ Bgez ∷ Bltzal ∷ Bgezal ∷ Blez ∷ Bgtz ∷ [])
    & group jump_row (λ r w. refl) jump_ops
    & group branch_equal_row (λ r w. refl) branch_equal_ops
    & group immediate_row immediate_kept immediate_ops
    & alone load_upper_row (λ w. refl)
    & group load_row (λ r w. refl) load_ops
    & group store_row (λ r w. refl) store_ops
    & group move_sp_row (λ r w. refl) (From ∷ To ∷ [])
    & group move_vector_row (λ r w. refl) (From ∷ To ∷ [])
    & group move_control_row move_control_kept (From ∷ To ∷ [])
    & group multiply_row (λ r w. refl) multiply_ops
    & group round_row (λ r w. refl) round_ops
    & group mpeg_row (λ r w. refl) mpeg_ops
    & alone read_accumulator_row (λ w. refl)
    & group vector_add_row (λ r w. refl) vector_add_ops
    & group vector_select_row (λ r w. refl) vector_select_ops
    & group vector_clip_row (λ r w. refl) vector_clip_ops
    & alone vector_merge_row (λ w. refl)
    & group vector_logic_row (λ r w. refl) vector_logic_ops
    & group divide_row (λ r w. refl) divide_ops
    & group idle_row (λ r w. refl) idle_ops
    & group vector_load_row vector_load_kept vector_load_ops
    & group vector_store_row vector_store_kept vector_store_ops

pub decoded : (w : ℕ) (i : Inst) → inst_of w ≡ Some i → IsInstruction i × (canonical_of w ≡ Some (word_of i))
unfolding inst_of canonical_of row_of
decoded w i e = go (row_of w) refl e
  where
    go : (o : Option Row) → row_of w ≡ o → option_map (λ (r : Row). meaning_of r w) o ≡ Some i → IsInstruction i × (option_map (λ (r : Row). word_from r (fields r w)) (row_of w) ≡ Some (word_of i))
    go None row e = absurd cc
    go (Some r) row e =
        let same : r.inst (fields r w) ≡ i = cc in
        let p : row_and_values i ≡ (r, fields r w) = ap row_and_values (sym same) ∙ all_kept.kept (fits w) r row w in (
          subst (λ (q : Row × List ℕ). FitBitFields (row_bit_fields q.0) q.1) (sym p) (fit_read w (row_bit_fields r)),
          ap (option_map (λ (s : Row). word_from s (fields s w))) row ∙ ap (λ (q : Row × List ℕ). Some (word_from q.0 q.1)) (sym p),
        )

pub decoded_instruction : (w : ℕ) (o : Option Inst) → inst_of w ≡ o → IfSome o IsInstruction
decoded_instruction w None e = tt
decoded_instruction w (Some i) e = (decoded w i e).0

pub reserved : (w : ℕ) → inst_of w ≡ None → canonical_of w ≡ None
unfolding inst_of canonical_of
reserved w e = go (row_of w) e
  where
    go : (o : Option Row) → option_map (λ (r : Row). meaning_of r w) o ≡ None → option_map (λ (r : Row). word_from r (fields r w)) o ≡ None
    go None e = refl
    go (Some r) e = absurd cc
