-- The fields of what an operand says have room in the word.
use Rattle.std.proofs.Common.{◌≡◌, refl, ℕ, ◌+◌, ◌-◌, ◌*◌, ◌/◌, ◌%◌, ◌^◌, ◌<◌, ◌≤◌, List, [], ◌∷◌, length, drop, take, Bool, true, false, arith, ℤ, pos, negsuc, suc, inl, inr}
use Rattle.std.specs.Prelude.{◌==◌, ◌&&◌, ◌||◌, nat_le, nat_lt, slice_index, is_some, Option, Some, None, IfSome, IfOk, option_map, option_and_then, Result, Ok, Err, if◌then◌else◌}
use Rattle.std.specs.List.{list_all}
use Rattle.std.specs.Str.{str_eq_ignore_ascii_case}
use Rattle.std.proofs.Math.Nat.{pow-le-pow_right}
use Rattle.std.proofs.lemmas.Nat.{mul-le}
use Rattle.std.proofs.lemmas.Bool.{cases_Bool, and_parts}
use Rattle.std.proofs.lemmas.Bool.Decides.{nat_tests}
use Rattle.rsp_decode.specs.Table.{Operand, ByteElements, all_bytes, half_bytes, scalar, shift_amount, signed, unsigned, jump_target, branch_target, scalar_memory, vector_memory, sp_register, control_register, vector, vector_byte, vector_element, vector_lane, is_row_operand}
use Rattle.rsp_syntax.specs.declared.fault.AsmFaultKind.{AsmFaultKind}
use Rattle.rsp_syntax.specs.declared.operand_range.OperandRange.{OperandRange}
use Rattle.rsp_syntax.specs.declared.operand_range.OperandRange.TheVariants.{Half, Amount, Jump, Branch, Scaled, Word}
use Rattle.rsp_syntax.specs.declared.line_bytes.Boundary.TheVariants.{Parenthesis, Bracket}
use Rattle.rsp_syntax.specs.Cuts.{cut}
use Rattle.rsp_syntax.specs.Names.{look_up, below, small_number, is_decimal, scalar_names, scalar_named, vector_named, sp_named, control_names, control_named, element_names, element_named}
use Rattle.rsp_syntax.specs.Numbers.{Expression, expression_of}
use Rattle.rsp_syntax.specs.Statement.{Labels, OperandValue, one_register, ranged_value, base_of, offset_of, memory, bracketed, half_start, byte_named, lane_named, with_element, bracket_of, memory_operand, read, field, evaluate, or_out_of_range, field_of, then_registers, fields_of}
use Rattle.rsp_operands.specs.FieldsFit.{FitWord}

-- ---- names

abbrev Most : ℕ → Option ℕ → Type 0
Most most o = IfSome o (λ n. n ≤ most)

either_most : (most : ℕ) (b : Bool) (x y : Option ℕ) → Most most x → Most most y → Most most (if b then x else y)
either_most most true x y p q = p
either_most most false x y p q = q

below_most : (limit n : ℕ) → limit ≤ 32 → Most 31 (below limit n)
below_most limit n le = elim (cases_Bool (nat_lt n limit)) as (λ _. Most 31 (below limit n)) [
  | inl t ↦ rw t (let lt : n < limit = grind (arith, nat_tests) in omega arith)
  | inr f ↦ rw f tt
]

number_most : (limit : ℕ) (bs : List ℕ) → limit ≤ 32 → Most 31 (small_number limit bs)
number_most limit bs le =
    either_most 31 (length bs == 1 && is_decimal (slice_index bs 0)) (below limit (slice_index bs 0 - 48)) _ (below_most limit (slice_index bs 0 - 48) le)
    (either_most 31 (length bs == 2 && (nat_le 49 (slice_index bs 0) && (nat_le (slice_index bs 0) 57 && is_decimal (slice_index bs 1)))) (below limit (10 * (slice_index bs 0 - 48) + (slice_index bs 1 - 48))) None (below_most limit (10 * (slice_index bs 0 - 48) + (slice_index bs 1 - 48)) le) tt)

look_up_most : (es : List (List ℕ × ℕ)) (bs : List ℕ) → list_all (λ e. nat_le e.1 31) es ≡ true → Most 31 (look_up es bs)
look_up_most [] bs all = tt
look_up_most (e ∷ es) bs all =
    let both = and_parts (nat_le e.1 31) (list_all (λ e. nat_le e.1 31) es) all in
    either_most 31 (str_eq_ignore_ascii_case bs e.0) (Some e.1) (look_up es bs) (grind (arith, nat_tests)) (look_up_most es bs both.1)

scalar_most : (bs : List ℕ) → Most 31 (scalar_named bs)
scalar_most bs =
    either_most 31 (slice_index bs 0 == 36 && is_some (small_number 32 (drop 1 bs))) (small_number 32 (drop 1 bs)) (look_up scalar_names bs)
    (number_most 32 (drop 1 bs) (omega arith)) (look_up_most scalar_names bs refl)

vector_most : (bs : List ℕ) → Most 31 (vector_named bs)
vector_most bs =
    either_most 31 (slice_index bs 0 == 36 && (slice_index bs 1 == 118 || slice_index bs 1 == 86)) (small_number 32 (drop 2 bs)) None
    (number_most 32 (drop 2 bs) (omega arith)) tt

sp_most : (bs : List ℕ) → Most 31 (sp_named bs)
sp_most bs =
    either_most 31 (slice_index bs 0 == 36 && (slice_index bs 1 == 99 || slice_index bs 1 == 67)) (small_number 16 (drop 2 bs)) None
    (number_most 16 (drop 2 bs) (omega arith)) tt

base_most : (bs : List ℕ) → Most 31 (base_of bs)
base_most bs = either_most 31 (slice_index bs (length bs - 1) == 41) (scalar_named (take (length bs - 1) bs)) None (scalar_most (take (length bs - 1) bs)) tt

half_most : (o : Option ℕ) → Most 31 o → Most 31 (option_and_then half_start o)
half_most None m = tt
half_most (Some e) m = either_most 31 (e % 8 == 0) (Some e) None m tt

byte_most : (elements : ByteElements) (bs : List ℕ) → Most 31 (byte_named elements bs)
byte_most all_bytes bs = number_most 16 bs (omega arith)
byte_most half_bytes bs = half_most (small_number 16 bs) (number_most 16 bs (omega arith))

bracketed_most : (look : List ℕ → Option ℕ) → ((bs : List ℕ) → Most 31 (look bs)) → (bs : List ℕ) → Most 31 (bracketed look bs)
bracketed_most look all bs = either_most 31 (slice_index bs (length bs - 1) == 93) (look (take (length bs - 1) bs)) None (all (take (length bs - 1) bs)) tt

-- ---- values

abbrev most_of : OperandRange → ℕ
most_of Half = 65535
most_of Amount = 31
most_of Jump = 1023
most_of Branch = 65535
most_of (Scaled scale) = 128
most_of Word = 4294967295

when : (most : ℕ) (b : Bool) (v : ℕ) → (b ≡ true → v ≤ most) → Most most (if b then Some v else None)
when most true v h = h refl
when most false v h = tt

field_most : (range : OperandRange) (address : ℕ) (z : ℤ) → Most (most_of range) (field range address z)
field_most Half address (pos n) = when 65535 (nat_lt n 65536) n (λ t. grind (arith, nat_tests))
field_most Half address (negsuc n) = when 65535 (nat_lt n 32768) (65535 - n) (λ t. omega arith)
field_most Amount address (pos n) = when 31 (nat_lt n 32) n (λ t. grind (arith, nat_tests))
field_most Amount address (negsuc n) = tt
field_most Jump address (pos n) = when 1023 (nat_lt n 4096 && n % 4 == 0) (n / 4) (λ t. let both = and_parts (nat_lt n 4096) (n % 4 == 0) t in let low : n < 4096 = grind (arith, nat_tests) in omega arith)
field_most Jump address (negsuc n) = tt
field_most Branch address (pos n) = when 65535 (nat_lt n 4096 && n % 4 == 0) ((n / 4 + 65535 - address / 4) % 65536) (λ t. omega arith)
field_most Branch address (negsuc n) = tt
field_most (Scaled scale) address (pos n) = when 128 (n % scale == 0 && nat_lt (n / scale) 64) (n / scale) (λ t. let both = and_parts (n % scale == 0) (nat_lt (n / scale) 64) t in let low : n / scale < 64 = grind (arith, nat_tests) in omega arith)
field_most (Scaled scale) address (negsuc n) = when 128 (suc n % scale == 0 && nat_le (suc n / scale) 64) (128 - suc n / scale) (λ t. omega arith)
field_most Word address (pos n) = when 4294967295 (nat_lt n 4294967296) n (λ t. grind (arith, nat_tests))
field_most Word address (negsuc n) = when 4294967295 (nat_lt n 2147483648) (4294967295 - n) (λ t. omega arith)

field_of_most : (range : OperandRange) (address : ℕ) (z : Option ℤ) → IfOk (field_of range address z) (λ v. v ≤ most_of range)
field_of_most range address None = tt
field_of_most range address (Some z) = ranged (field range address z) (field_most range address z)
  where
    ranged : (o : Option ℕ) → Most (most_of range) o → IfOk (or_out_of_range o) (λ v. v ≤ most_of range)
    ranged None m = tt
    ranged (Some v) m = m

-- ---- operands

first_room : (v low : ℕ) → v ≤ 31 → nat_le low 27 ≡ true → v * 2 ^ low < 2 ^ 32
first_room v low small fits =
    let inside : low ≤ 27 = grind (arith, nat_tests) in
    let most : v * 2 ^ low ≤ 31 * 2 ^ 27 = mul-le v (2 ^ low) 31 (2 ^ 27) small (pow-le-pow_right (omega arith) inside) in
    omega arith

module _ (labels : Labels) (address : ℕ) where
  -- the fields of what is read have room, where something is read and has fields
  abbrev pub HasRoom : Operand → Option OperandValue → Type 0
  HasRoom k o = IfSome o (λ r. IfOk (fields_of labels address r) (FitWord k))

  pair_room : (k : Operand) (v e : Option ℕ) → Most 31 v → Most 31 e → ((n : ℕ) → n ≤ 31 → FitWord k (n ∷ [])) → HasRoom k (with_element v e)
  pair_room k None e p q h = tt
  pair_room k (Some n) None p q h = tt
  pair_room k (Some n) (Some m) p q h = ((h n p).0, (q, tt))

  bracket_room : (k : Operand) (look : List ℕ → Option ℕ) (default : Option ℕ) (o : Option (List ℕ × List ℕ)) (bs : List ℕ) → ((bs : List ℕ) → Most 31 (look bs)) → Most 31 default → ((n : ℕ) → n ≤ 31 → FitWord k (n ∷ [])) → HasRoom k (bracket_of look default o bs)
  bracket_room k look default None bs all some h = pair_room k (vector_named bs) default (vector_most bs) some h
  bracket_room k look default (Some p) bs all some h = pair_room k (vector_named p.0) (bracketed look p.1) (vector_most p.0) (bracketed_most look all p.1) h

  with_registers : (k : Operand) (ns : List ℕ) (most : ℕ) (x : Result ℕ AsmFaultKind) → IfOk x (λ v. v ≤ most) → ((v : ℕ) → v ≤ most → FitWord k (v ∷ ns)) → IfOk (then_registers ns x) (FitWord k)
  with_registers k ns most (Err kind) m h = tt
  with_registers k ns most (Ok v) m h = h v m

  value_room : (k : Operand) (range : OperandRange) (o : Option Expression) → ((v : ℕ) → v ≤ most_of range → FitWord k (v ∷ [])) → HasRoom k (option_map (ranged_value range []) o)
  value_room k range None h = tt
  value_room k range (Some e) h = with_registers k [] (most_of range) (field_of range address (evaluate labels e)) (field_of_most range address (evaluate labels e)) h

  offset_room : (k : Operand) (range : OperandRange) (o : Option Expression) (base : Option ℕ) → Most 31 base → ((v : ℕ) → v ≤ most_of range → FitWord k (v ∷ [])) → HasRoom k (memory range o base)
  offset_room k range None base m h = tt
  offset_room k range (Some e) None m h = tt
  offset_room k range (Some e) (Some b) m h = with_registers k (b ∷ []) (most_of range) (field_of range address (evaluate labels e)) (field_of_most range address (evaluate labels e)) (λ v le. ((h v le).0, (m, tt)))

  memory_room : (k : Operand) (range : OperandRange) (o : Option (List ℕ × List ℕ)) → ((v : ℕ) → v ≤ most_of range → FitWord k (v ∷ [])) → HasRoom k (memory_operand range o)
  memory_room k range None h = tt
  memory_room k range (Some p) h = offset_room k range (offset_of p.0) (base_of p.1) (base_most p.1) h

  one_room : (k : Operand) (o : Option ℕ) → Most 31 o → ((n : ℕ) → n ≤ 31 → FitWord k (n ∷ [])) → HasRoom k (option_map one_register o)
  one_room k None m h = tt
  one_room k (Some n) m h = h n m

  pub read_room : (k : Operand) (bs : List ℕ) → is_row_operand k ≡ true → HasRoom k (read k bs)
  read_room (scalar low) bs fits = one_room (scalar low) (scalar_named bs) (scalar_most bs) (λ n le. (first_room n low le fits, tt))
  read_room shift_amount bs fits = value_room shift_amount Amount (expression_of bs) (λ v le. (omega arith, tt))
  read_room signed bs fits = value_room signed Half (expression_of bs) (λ v le. (omega arith, tt))
  read_room unsigned bs fits = value_room unsigned Half (expression_of bs) (λ v le. (omega arith, tt))
  read_room jump_target bs fits = value_room jump_target Jump (expression_of bs) (λ v le. (omega arith, tt))
  read_room branch_target bs fits = value_room branch_target Branch (expression_of bs) (λ v le. (omega arith, tt))
  read_room scalar_memory bs fits = memory_room scalar_memory Half (cut Parenthesis bs) (λ v le. (omega arith, tt))
  read_room (vector_memory scale) bs fits = memory_room (vector_memory scale) (Scaled scale) (cut Parenthesis bs) (λ v le. (omega arith, tt))
  read_room sp_register bs fits = one_room sp_register (sp_named bs) (sp_most bs) (λ n le. (omega arith, tt))
  read_room control_register bs fits = one_room control_register (control_named bs) (look_up_most control_names bs refl) (λ n le. (omega arith, tt))
  read_room (vector low) bs fits = one_room (vector low) (vector_named bs) (vector_most bs) (λ n le. (first_room n low le fits, tt))
  read_room (vector_byte low elements) bs fits =
      bracket_room (vector_byte low elements) (byte_named elements) (Some 0) (cut Bracket bs) bs (byte_most elements) (omega arith) (λ n le. (first_room n low le fits, tt))
  read_room vector_element bs fits =
      bracket_room vector_element element_named (Some 0) (cut Bracket bs) bs (λ b. look_up_most element_names b refl) (omega arith) (λ n le. (omega arith, tt))
  read_room vector_lane bs fits =
      bracket_room vector_lane lane_named None (cut Bracket bs) bs (λ b. number_most 8 b (omega arith)) tt (λ n le. (omega arith, tt))
