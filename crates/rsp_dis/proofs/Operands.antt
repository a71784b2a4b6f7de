-- Each kind of operand: its spelling is read as its fields, and is one piece of text.
use Rattle.std.proofs.Common.{◌≡◌, refl, sym, ap, ◌∙◌, subst, ℕ, ◌*◌, ◌/◌, ◌%◌, ◌^◌, ◌<◌, ◌≤◌, List, [], ◌∷◌, ◌++◌, length, Bool, true, false, ◌&&◌, arith, inl, inr, ℤ, pos, lit<}
use Rattle.std.specs.Prelude.{Option, Some, None, ◌==◌, nat_le, codes, is_some, option_map, Ok}
use Rattle.std.specs.List.{list_all}
use Rattle.std.specs.Int.Signed.{mag}
use Rattle.std.specs.Fmt.{signed_decimal}
use Rattle.std.proofs.lemmas.Bool.{and_parts, eqb-true, or_cases, cond-false, ne_eqb, leb-true}
use Rattle.std.proofs.lemmas.List.{length-append}
use Rattle.std.proofs.lemmas.Fmt.{length_signed_le}
use Rattle.std.proofs.lemmas.Nat.{mod_below}
use Rattle.rsp_decode.specs.Table.{Operand, all_bytes, half_bytes, scalar, shift_amount, signed, unsigned, jump_target, branch_target, scalar_memory, vector_memory, sp_register, control_register, vector, vector_byte, vector_element, vector_lane, value_at, whole, capped, is_scale, is_row_operand}
use Rattle.rsp_syntax.specs.declared.operand_range.OperandRange.{OperandRange}
use Rattle.rsp_syntax.specs.declared.operand_range.OperandRange.TheVariants.{Half, Amount, Jump, Branch, Scaled}
use Rattle.rsp_syntax.specs.declared.line_bytes.Boundary.TheVariants.{Parenthesis}
use Rattle.rsp_syntax.specs.Cuts.{cut}
use Rattle.rsp_syntax.specs.Numbers.{constant, expression_of}
use Rattle.rsp_syntax.specs.Statement.{read, ranged_value, field, offset_of, base_of, memory, memory_operand, zero_expression}
use Rattle.rsp_syntax.specs.OperandResults.{reading_fields}
use Rattle.rsp_syntax.specs.Disassembly.{hex, small, signed_half, signed_scaled, target, target_text, scalar_name, base_name, operand_disassembly, operand_fields, operand_text, has_text}
use Rattle.rsp_syntax.proofs.Cuts.{cut_between}
use Rattle.rsp_dis.specs.NoSeparators.{is_no_separator}
use Rattle.rsp_dis.proofs.Finite.{below, below_both, Said, says, said_by}
use Rattle.rsp_dis.proofs.Pieces.{is_piece, piece_from, piece_of, all_append}
use Rattle.rsp_dis.proofs.SpelledNumbers.{IsNumber, number_said, signed_number, hex_number, small_number, half_back, half_small, half_of, amount_of, jump_back, branch_back, branch_below, ScaledBack, by_1, by_2, by_4, by_8, by_16}

-- an operand whose spelling at an address is read as these fields
pub record IsSpelled (address : ℕ) (k : Operand) (vs : List ℕ) : Type 0 where
  pub said : Said address (read k (operand_disassembly address k vs)) vs
  pub piece : is_piece (operand_disassembly address k vs) ≡ true

-- ---- operands without a number, by a test of each

abbrev names_one : Operand → ℕ → Bool
names_one k n = says (read k (operand_disassembly 0 k (n ∷ []))) (n ∷ []) && is_piece (operand_disassembly 0 k (n ∷ []))

abbrev names_two : Operand → ℕ → ℕ → Bool
names_two k n e = says (read k (operand_disassembly 0 k (n ∷ e ∷ []))) (n ∷ e ∷ []) && is_piece (operand_disassembly 0 k (n ∷ e ∷ []))

abbrev names_half : ℕ → ℕ → Bool
names_half n b = names_two (vector_byte 0 half_bytes) n (b * 8)

spelled : (address : ℕ) (k : Operand) (vs : List ℕ) → (says (read k (operand_disassembly address k vs)) vs && is_piece (operand_disassembly address k vs)) ≡ true → IsSpelled address k vs
spelled address k vs e =
    let both = and_parts (says (read k (operand_disassembly address k vs)) vs) (is_piece (operand_disassembly address k vs)) e in
    record { said = said_by address _ vs both.0; piece = both.1 }

-- ---- numbers

number_spelled : (range : OperandRange) (address : ℕ) (z : ℤ) (v : ℕ) (bs : List ℕ) → IsNumber z bs → field range address z ≡ Some v → Said address (option_map (ranged_value range []) (expression_of bs)) (v ∷ [])
number_spelled range address z v bs num found = subst (λ x. Said address x (v ∷ [])) (sym (ap (option_map (ranged_value range [])) num.reads)) (number_said range address [] z v found)

is_base : Option ℕ → ℕ → Bool
is_base None n = false
is_base (Some m) n = m == n

base_from : (o : Option ℕ) (n : ℕ) → is_base o n ≡ true → o ≡ Some n
unfolding is_base
base_from None n e = absurd cc
base_from (Some m) n e = ap Some (eqb-true m n e)

base_back : (n : ℕ) → n < 32 → base_of (scalar_name n ++ 41 ∷ []) ≡ Some n
unfolding is_base
base_back n lt = base_from _ n (below (λ k. is_base (base_of (scalar_name k ++ 41 ∷ [])) k) 32 refl n lt)

offset_read : (z : ℤ) (bs : List ℕ) → IsNumber z bs → offset_of bs ≡ Some (constant z)
offset_read z bs num =
    let some : 0 < length bs = (piece_from bs num.piece).some in
    cond-false (length bs == 0) (Some zero_expression) (expression_of bs) (ne_eqb (length bs) 0 (λ e. omega arith)) ∙ num.reads

memory_said : (range : OperandRange) (address : ℕ) (z : ℤ) (v n : ℕ) (bs : List ℕ) → IsNumber z bs → field range address z ≡ Some v → n < 32 → Said address (memory_operand range (cut Parenthesis (bs ++ base_name n))) (v ∷ n ∷ [])
memory_said range address z v n bs num found lt =
    let is : memory_operand range (cut Parenthesis (bs ++ base_name n)) ≡ Some (ranged_value range (n ∷ []) (constant z)) =
    ap (memory_operand range) (cut_between Parenthesis bs (scalar_name n ++ 41 ∷ []) 40 num.no_parenthesis refl)
    ∙ ap (λ o. memory range o (base_of (scalar_name n ++ 41 ∷ []))) (offset_read z bs num)
    ∙ ap (memory range (Some (constant z))) (base_back n lt) in
    subst (λ x. Said address x (v ∷ n ∷ [])) (sym is) (number_said range address (n ∷ []) z v found)

memory_piece : (z : ℤ) (n : ℕ) → mag z < 65536 → IsNumber z (signed_decimal z) → n < 32 → is_piece (signed_decimal z ++ base_name n) ≡ true
memory_piece z n few num lt =
    let number = piece_from (signed_decimal z) num.piece in
    let rest = and_parts (nat_le (length (base_name n)) 5) (list_all is_no_separator (base_name n)) (below (λ k. nat_le (length (base_name k)) 5 && list_all is_no_separator (base_name k)) 32 refl n lt) in
    let long : length (signed_decimal z) ≤ 6 = length_signed_le 5 z (omega arith) (omega arith) in
    let tail : length (base_name n) ≤ 5 = leb-true _ _ rest.0 in
    let some : 0 < length (signed_decimal z) = number.some in
    let whole_length = length-append (signed_decimal z) (base_name n) in
    piece_of (signed_decimal z ++ base_name n) (omega arith) (omega arith) (all_append is_no_separator (signed_decimal z) (base_name n) number.all rest.1)

-- ---- each kind

module _ (w : ℕ) where
  five_bits : (low : ℕ) → value_at w (whole low 5) < 32
  five_bits low = mod_below (w / 2 ^ low) 32 (lit< tt)

  four_bits : (low : ℕ) → value_at w (whole low 4) < 16
  four_bits low = mod_below (w / 2 ^ low) 16 (lit< tt)

  sixteen : value_at w (whole 0 16) < 65536
  sixteen = mod_below (w / 2 ^ 0) 65536 (lit< tt)

  ten_bits : value_at w (whole 0 10) < 1024
  ten_bits = mod_below (w / 2 ^ 0) 1024 (lit< tt)

  seven_bits : value_at w (whole 0 7) < 128
  seven_bits = mod_below (w / 2 ^ 0) 128 (lit< tt)

  three_bits : value_at w (whole 11 3) < 8
  three_bits = mod_below (w / 2 ^ 11) 8 (lit< tt)

  control_below : value_at w (capped 11 2 2) < 3
  control_below = omega arith

scaled_back : (s v : ℕ) → is_scale s ≡ true → v < 128 → ScaledBack s v
scaled_back s v e lt = elim (or_cases _ _ e) [
  | inl a ↦ at 1 (eqb-true _ _ a) (by_1 v lt)
  | inr b ↦ elim (or_cases _ _ b) [
    | inl a ↦ at 2 (eqb-true _ _ a) (by_2 v lt)
    | inr c ↦ elim (or_cases _ _ c) [
      | inl a ↦ at 4 (eqb-true _ _ a) (by_4 v lt)
      | inr d ↦ elim (or_cases _ _ d) [ inl a ↦ at 8 (eqb-true _ _ a) (by_8 v lt) | inr a ↦ at 16 (eqb-true _ _ a) (by_16 v lt) ]
    ]
  ]
]
  where
    at : (k : ℕ) → s ≡ k → ScaledBack k v → ScaledBack s v
    at k is h = subst (λ n. ScaledBack n v) (sym is) h

target_spelled : (address w : ℕ) (o : Option ℕ) → address % 4 ≡ 0 → address < 4096 → target address (value_at w (whole 0 16)) ≡ o → is_some o ≡ true → (Said address (read branch_target (target_text o)) (value_at w (whole 0 16) ∷ [])) × (is_piece (target_text o) ≡ true)
target_spelled address w None aligned inside is e = absurd cc
target_spelled address w (Some t) aligned inside is e =
    let num : IsNumber (pos t) (codes "0x" ++ hex 3 t) = hex_number 3 t refl (leb-true (length (hex 3 t)) 18 refl) (branch_below address (value_at w (whole 0 16)) t inside (sixteen w) is) in (
      number_spelled Branch address (pos t) (value_at w (whole 0 16)) (codes "0x" ++ hex 3 t) num (branch_back address (value_at w (whole 0 16)) t aligned inside (sixteen w) is),
      num.piece,
    )

pub kind_spelled : (address w : ℕ) → address % 4 ≡ 0 → address < 4096 → (k : Operand) → is_row_operand k ≡ true → has_text w address k ≡ true → IsSpelled address k (operand_fields k w)
kind_spelled address w aligned inside (scalar low) e near = spelled address (scalar low) _ (below (names_one (scalar 0)) 32 refl (value_at w (whole low 5)) (five_bits w low))
kind_spelled address w aligned inside shift_amount e near =
    let num = small_number (value_at w (whole 6 5)) (five_bits w 6) in
    record { said = number_spelled Amount address (pos (value_at w (whole 6 5))) (value_at w (whole 6 5)) (small (value_at w (whole 6 5))) num (amount_of _ (five_bits w 6)); piece = num.piece }
kind_spelled address w aligned inside signed e near =
    let v = value_at w (whole 0 16) in
    let num = signed_number (signed_half v) (half_small v (sixteen w)) in
    record { said = number_spelled Half address (signed_half v) v (signed_decimal (signed_half v)) num (half_back v (sixteen w)); piece = num.piece }
kind_spelled address w aligned inside unsigned e near =
    let v = value_at w (whole 0 16) in
    let num = hex_number 4 v refl (leb-true (length (hex 4 v)) 18 refl) (sixteen w) in
    record { said = number_spelled Half address (pos v) v (codes "0x" ++ hex 4 v) num (half_of v (sixteen w)); piece = num.piece }
kind_spelled address w aligned inside jump_target e near =
    let v = value_at w (whole 0 10) in
    let few : v < 1024 = ten_bits w in
    let num = hex_number 3 (4 * v) refl (leb-true (length (hex 3 (4 * v))) 18 refl) (omega arith) in
    record { said = number_spelled Jump address (pos (4 * v)) v (codes "0x" ++ hex 3 (4 * v)) num (jump_back v few); piece = num.piece }
kind_spelled address w aligned inside branch_target e near =
    let both = target_spelled address w (target address (value_at w (whole 0 16))) aligned inside refl near in
    record { said = both.0; piece = both.1 }
kind_spelled address w aligned inside scalar_memory e near =
    let v = value_at w (whole 0 16) in
    let few = half_small v (sixteen w) in
    let num = signed_number (signed_half v) few in
    record {
      said = memory_said Half address (signed_half v) v (value_at w (whole 21 5)) (signed_decimal (signed_half v)) num (half_back v (sixteen w)) (five_bits w 21);
      piece = memory_piece (signed_half v) (value_at w (whole 21 5)) few num (five_bits w 21);
    }
kind_spelled address w aligned inside (vector_memory s) e near =
    let v = value_at w (whole 0 7) in
    let facts = scaled_back s v e (seven_bits w) in
    let num = signed_number (signed_scaled s v) facts.1 in
    record {
      said = memory_said (Scaled s) address (signed_scaled s v) v (value_at w (whole 21 5)) (signed_decimal (signed_scaled s v)) num facts.0 (five_bits w 21);
      piece = memory_piece (signed_scaled s v) (value_at w (whole 21 5)) facts.1 num (five_bits w 21);
    }
kind_spelled address w aligned inside sp_register e near = spelled address sp_register _ (below (names_one sp_register) 16 refl (value_at w (whole 11 4)) (four_bits w 11))
kind_spelled address w aligned inside control_register e near = spelled address control_register _ (below (names_one control_register) 3 refl (value_at w (capped 11 2 2)) (control_below w))
kind_spelled address w aligned inside (vector low) e near = spelled address (vector low) _ (below (names_one (vector 0)) 32 refl (value_at w (whole low 5)) (five_bits w low))
kind_spelled address w aligned inside (vector_byte low all_bytes) e near = spelled address (vector_byte low all_bytes) _ (below_both (names_two (vector_byte 0 all_bytes)) 32 16 refl (value_at w (whole low 5)) (value_at w (whole 7 4)) (five_bits w low) (four_bits w 7))
kind_spelled address w aligned inside (vector_byte low half_bytes) e near = spelled address (vector_byte low half_bytes) _ (below_both names_half 32 2 refl (value_at w (whole low 5)) (w / 2 ^ 10 % 2) (five_bits w low) (mod_below (w / 2 ^ 10) 2 (lit< tt)))
kind_spelled address w aligned inside vector_element e near = spelled address vector_element _ (below_both (names_two vector_element) 32 16 refl (value_at w (whole 16 5)) (value_at w (whole 21 4)) (five_bits w 16) (four_bits w 21))
kind_spelled address w aligned inside vector_lane e near = spelled address vector_lane _ (below_both (names_two vector_lane) 32 8 refl (value_at w (whole 6 5)) (value_at w (whole 11 3)) (five_bits w 6) (three_bits w))

-- ---- both halves, for the law

pub fields_back : (w address : ℕ) (k : Operand) → address < 4096 → address % 4 ≡ 0 → is_row_operand k ≡ true → has_text w address k ≡ true → reading_fields [] address (read k (operand_text w address k)) ≡ Ok (operand_fields k w)
fields_back w address k inside aligned e near = let said = (kind_spelled address w aligned inside k e near).said in ap (reading_fields [] address) said.is ∙ said.fields

pub bytes_quiet : (w address : ℕ) (k : Operand) → address < 4096 → address % 4 ≡ 0 → is_row_operand k ≡ true → has_text w address k ≡ true → list_all is_no_separator (operand_text w address k) ≡ true
bytes_quiet w address k inside aligned e near = (piece_from (operand_text w address k) (kind_spelled address w aligned inside k e near).piece).all
