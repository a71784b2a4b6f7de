-- The fields of what an operand says fit their places in the word.
use Rattle.std.proofs.Common.{◌≡◌, refl, sym, subst, ℕ, ◌+◌, ◌-◌, ◌*◌, ◌/◌, ◌%◌, ◌<◌, List, [], ◌∷◌, ◌++◌, length, drop, take, Bool, true, false, arith, ℤ, pos, negsuc, suc, inl, inr}
use Rattle.std.specs.Prelude.{◌==◌, ◌&&◌, ◌||◌, nat_le, nat_lt, slice_index, is_some, Option, Some, None, IfSome, IfOk, option_map, option_and_then, Result, Ok, Err, if◌then◌else◌, flat_map}
use Rattle.std.specs.List.{list_all}
use Rattle.std.specs.Str.{str_eq_ignore_ascii_case}
use Rattle.std.proofs.lemmas.Bool.{and_parts, or_cases, eqb-true}
use Rattle.std.proofs.lemmas.Bool.Decides.{nat_tests}
use Rattle.rsp_decode.specs.Table.{Operand, ByteElements, all_bytes, half_bytes, byte_bits, scalar, shift_amount, signed, unsigned, jump_target, branch_target, scalar_memory, vector_memory, sp_register, control_register, vector, vector_byte, vector_element, vector_lane, BitField, bit_fields, stepped, FitsBitField, FitBitFields, is_scale, is_row_operand}
use Rattle.rsp_syntax.specs.declared.fault.AsmFaultKind.{AsmFaultKind}
use Rattle.rsp_syntax.specs.declared.operand_range.OperandRange.{OperandRange}
use Rattle.rsp_syntax.specs.declared.operand_range.OperandRange.TheVariants.{Half, Amount, Jump, Branch, Scaled}
use Rattle.rsp_syntax.specs.declared.line_bytes.Boundary.TheVariants.{Parenthesis, Bracket}
use Rattle.rsp_syntax.specs.Cuts.{cut}
use Rattle.rsp_syntax.specs.Names.{look_up, below, small_number, is_decimal, scalar_names, scalar_named, vector_named, sp_named, control_names, control_named, element_names, element_named}
use Rattle.rsp_syntax.specs.Numbers.{Expression, expression_of}
use Rattle.rsp_syntax.specs.Statement.{Labels, OperandValue, one_register, ranged_value, base_of, offset_of, memory, bracketed, half_start, byte_named, lane_named, with_element, bracket_of, memory_operand, read, field, half, amount, jump, branch, scaled_offset, evaluate, or_out_of_range, field_of, then_registers, fields_of, append, all_fields, read_all}

-- ---- names

either : (P : ℕ → Type 0) (b : Bool) (x y : Option ℕ) → IfSome x P → IfSome y P → IfSome (if b then x else y) P
either P true x y p q = p
either P false x y p q = q

when : (P : ℕ → Type 0) (b : Bool) (v : ℕ) → (b ≡ true → P v) → IfSome (if b then Some v else None) P
when P true v h = h refl
when P false v h = tt

abbrev Below : ℕ → Option ℕ → Type 0
Below limit o = IfSome o (λ n. n < limit)

limited : (limit n : ℕ) → Below limit (below limit n)
limited limit n = when (λ v. v < limit) (nat_lt n limit) n (λ t. grind (arith, nat_tests))

number_below : (limit : ℕ) (bs : List ℕ) → Below limit (small_number limit bs)
number_below limit bs =
    either (λ v. v < limit) (length bs == 1 && is_decimal (slice_index bs 0)) (below limit (slice_index bs 0 - 48)) _ (limited limit (slice_index bs 0 - 48))
    (either (λ v. v < limit) (length bs == 2 && (nat_le 49 (slice_index bs 0) && (nat_le (slice_index bs 0) 57 && is_decimal (slice_index bs 1)))) (below limit (10 * (slice_index bs 0 - 48) + (slice_index bs 1 - 48))) None (limited limit (10 * (slice_index bs 0 - 48) + (slice_index bs 1 - 48))) tt)

look_up_below : (limit : ℕ) (es : List (List ℕ × ℕ)) (bs : List ℕ) → list_all (λ e. nat_lt e.1 limit) es ≡ true → Below limit (look_up es bs)
look_up_below limit [] bs all = tt
look_up_below limit (e ∷ es) bs all =
    let both = and_parts (nat_lt e.1 limit) (list_all (λ e. nat_lt e.1 limit) es) all in
    either (λ v. v < limit) (str_eq_ignore_ascii_case bs e.0) (Some e.1) (look_up es bs) (grind (arith, nat_tests)) (look_up_below limit es bs both.1)

scalar_below : (bs : List ℕ) → Below 32 (scalar_named bs)
scalar_below bs =
    either (λ v. v < 32) (slice_index bs 0 == 36 && is_some (small_number 32 (drop 1 bs))) (small_number 32 (drop 1 bs)) (look_up scalar_names bs)
    (number_below 32 (drop 1 bs)) (look_up_below 32 scalar_names bs refl)

vector_below : (bs : List ℕ) → Below 32 (vector_named bs)
vector_below bs =
    either (λ v. v < 32) (slice_index bs 0 == 36 && (slice_index bs 1 == 118 || slice_index bs 1 == 86)) (small_number 32 (drop 2 bs)) None
    (number_below 32 (drop 2 bs)) tt

sp_below : (bs : List ℕ) → Below 16 (sp_named bs)
sp_below bs =
    either (λ v. v < 16) (slice_index bs 0 == 36 && (slice_index bs 1 == 99 || slice_index bs 1 == 67)) (small_number 16 (drop 2 bs)) None
    (number_below 16 (drop 2 bs)) tt

base_below : (bs : List ℕ) → Below 32 (base_of bs)
base_below bs = either (λ v. v < 32) (slice_index bs (length bs - 1) == 41) (scalar_named (take (length bs - 1) bs)) None (scalar_below (take (length bs - 1) bs)) tt

bracketed_fits : (P : ℕ → Type 0) (look : List ℕ → Option ℕ) → ((bs : List ℕ) → IfSome (look bs) P) → (bs : List ℕ) → IfSome (bracketed look bs) P
bracketed_fits P look all bs = either P (slice_index bs (length bs - 1) == 93) (look (take (length bs - 1) bs)) None (all (take (length bs - 1) bs)) tt

half_of : (e : ℕ) → e < 16 → e % 8 ≡ 0 → FitsBitField (stepped 10 1 3) e
half_of e lt h = (omega arith, omega arith)

half_fits : (o : Option ℕ) → Below 16 o → IfSome (option_and_then half_start o) (FitsBitField (stepped 10 1 3))
half_fits None b = tt
half_fits (Some e) b = when (FitsBitField (stepped 10 1 3)) (e % 8 == 0) e (λ t. half_of e b (eqb-true (e % 8) 0 t))

byte_fits : (elements : ByteElements) (bs : List ℕ) → IfSome (byte_named elements bs) (FitsBitField (byte_bits elements))
byte_fits all_bytes bs = number_below 16 bs
byte_fits half_bytes bs = half_fits (small_number 16 bs) (number_below 16 bs)

zero_fits : (elements : ByteElements) → FitsBitField (byte_bits elements) 0
zero_fits all_bytes = omega arith
zero_fits half_bytes = (omega arith, omega arith)

-- ---- values

half_below : (z : ℤ) → Below 65536 (half z)
half_below (pos n) = when (λ v. v < 65536) (nat_lt n 65536) n (λ t. grind (arith, nat_tests))
half_below (negsuc n) = when (λ v. v < 65536) (nat_lt n 32768) (65535 - n) (λ t. omega arith)

amount_below : (z : ℤ) → Below 32 (amount z)
amount_below (pos n) = when (λ v. v < 32) (nat_lt n 32) n (λ t. grind (arith, nat_tests))
amount_below (negsuc n) = tt

jump_below : (z : ℤ) → Below 1024 (jump z)
jump_below (pos n) = when (λ v. v < 1024) (nat_lt n 4096 && n % 4 == 0) (n / 4) (λ t. let both = and_parts (nat_lt n 4096) (n % 4 == 0) t in let low : n < 4096 = grind (arith, nat_tests) in omega arith)
jump_below (negsuc n) = tt

branch_below : (address : ℕ) (z : ℤ) → Below 65536 (branch address z)
branch_below address (pos n) = when (λ v. v < 65536) (nat_lt n 4096 && n % 4 == 0) ((n / 4 + 65535 - address / 4) % 65536) (λ t. omega arith)
branch_below address (negsuc n) = tt

abbrev ScaledFits : ℕ → Type 0
ScaledFits s = (z : ℤ) → Below 128 (scaled_offset s z)

-- a scale that isn't 0
scaled_by : (s : ℕ) → ((n : ℕ) → suc n % s ≡ 0 → 0 < suc n / s) → ScaledFits s
scaled_by s some (pos n) = when (λ v. v < 128) (n % s == 0 && nat_lt (n / s) 64) (n / s) (λ t. let both = and_parts (n % s == 0) (nat_lt (n / s) 64) t in let low : n / s < 64 = grind (arith, nat_tests) in omega arith)
scaled_by s some (negsuc n) = when (λ v. v < 128) (suc n % s == 0 && nat_le (suc n / s) 64) (128 - suc n / s) (λ t. let both = and_parts (suc n % s == 0) (nat_le (suc n / s) 64) t in let up : 0 < suc n / s = some n (eqb-true _ _ both.0) in omega arith)

scaled_fits : (s : ℕ) → is_scale s ≡ true → ScaledFits s
scaled_fits s e = elim (or_cases _ _ e) [
  | inl a ↦ at 1 (eqb-true _ _ a) (scaled_by 1 (λ n h. omega arith))
  | inr b ↦ elim (or_cases _ _ b) [
    | inl a ↦ at 2 (eqb-true _ _ a) (scaled_by 2 (λ n h. omega arith))
    | inr c ↦ elim (or_cases _ _ c) [
      | inl a ↦ at 4 (eqb-true _ _ a) (scaled_by 4 (λ n h. omega arith))
      | inr d ↦ elim (or_cases _ _ d) [ inl a ↦ at 8 (eqb-true _ _ a) (scaled_by 8 (λ n h. omega arith)) | inr a ↦ at 16 (eqb-true _ _ a) (scaled_by 16 (λ n h. omega arith)) ]
    ]
  ]
]
  where
    at : (k : ℕ) → s ≡ k → ScaledFits k → ScaledFits s
    at k is h = subst ScaledFits (sym is) h

-- ---- operands

module _ (labels : Labels) (address : ℕ) where
  -- the fields of what is read fit, where something is read and has fields
  abbrev pub Fits : Operand → Option OperandValue → Type 0
  Fits k o = IfSome o (λ r. IfOk (fields_of labels address r) (FitBitFields (bit_fields k)))

  pair_fits : (k : Operand) (P : ℕ → Type 0) (v e : Option ℕ) → Below 32 v → IfSome e P → ((n m : ℕ) → n < 32 → P m → FitBitFields (bit_fields k) (n ∷ m ∷ [])) → Fits k (with_element v e)
  pair_fits k P None e p q h = tt
  pair_fits k P (Some n) None p q h = tt
  pair_fits k P (Some n) (Some m) p q h = h n m p q

  bracket_fits : (k : Operand) (P : ℕ → Type 0) (look : List ℕ → Option ℕ) (default : Option ℕ) (o : Option (List ℕ × List ℕ)) (bs : List ℕ) → ((bs : List ℕ) → IfSome (look bs) P) → IfSome default P → ((n m : ℕ) → n < 32 → P m → FitBitFields (bit_fields k) (n ∷ m ∷ [])) → Fits k (bracket_of look default o bs)
  bracket_fits k P look default None bs all some h = pair_fits k P (vector_named bs) default (vector_below bs) some h
  bracket_fits k P look default (Some p) bs all some h = pair_fits k P (vector_named p.0) (bracketed look p.1) (vector_below p.0) (bracketed_fits P look all p.1) h

  valued : (k : Operand) (range : OperandRange) (limit : ℕ) (ns : List ℕ) (e : Expression) → ((z : ℤ) → Below limit (field range address z)) → ((v : ℕ) → v < limit → FitBitFields (bit_fields k) (v ∷ ns)) → IfOk (fields_of labels address (ranged_value range ns e)) (FitBitFields (bit_fields k))
  valued k range limit ns e all h = go (evaluate labels e)
    where
      ranged : (o : Option ℕ) → Below limit o → IfOk (then_registers ns (or_out_of_range o)) (FitBitFields (bit_fields k))
      ranged None b = tt
      ranged (Some v) b = h v b

      go : (o : Option ℤ) → IfOk (then_registers ns (field_of range address o)) (FitBitFields (bit_fields k))
      go None = tt
      go (Some z) = ranged (field range address z) (all z)

  value_fits : (k : Operand) (range : OperandRange) (limit : ℕ) (o : Option Expression) → ((z : ℤ) → Below limit (field range address z)) → ((v : ℕ) → v < limit → FitBitFields (bit_fields k) (v ∷ [])) → Fits k (option_map (ranged_value range []) o)
  value_fits k range limit None all h = tt
  value_fits k range limit (Some e) all h = valued k range limit [] e all h

  offset_fits : (k : Operand) (range : OperandRange) (limit : ℕ) (o : Option Expression) (base : Option ℕ) → Below 32 base → ((z : ℤ) → Below limit (field range address z)) → ((v n : ℕ) → v < limit → n < 32 → FitBitFields (bit_fields k) (v ∷ n ∷ [])) → Fits k (memory range o base)
  offset_fits k range limit None base b all h = tt
  offset_fits k range limit (Some e) None b all h = tt
  offset_fits k range limit (Some e) (Some n) b all h = valued k range limit (n ∷ []) e all (λ v lt. h v n lt b)

  memory_fits : (k : Operand) (range : OperandRange) (limit : ℕ) (o : Option (List ℕ × List ℕ)) → ((z : ℤ) → Below limit (field range address z)) → ((v n : ℕ) → v < limit → n < 32 → FitBitFields (bit_fields k) (v ∷ n ∷ [])) → Fits k (memory_operand range o)
  memory_fits k range limit None all h = tt
  memory_fits k range limit (Some p) all h = offset_fits k range limit (offset_of p.0) (base_of p.1) (base_below p.1) all h

  one_fits : (k : Operand) (limit : ℕ) (o : Option ℕ) → Below limit o → ((n : ℕ) → n < limit → FitBitFields (bit_fields k) (n ∷ [])) → Fits k (option_map one_register o)
  one_fits k limit None b h = tt
  one_fits k limit (Some n) b h = h n b

  pub read_fits : (k : Operand) (bs : List ℕ) → is_row_operand k ≡ true → Fits k (read k bs)
  read_fits (scalar low) bs ok = one_fits (scalar low) 32 (scalar_named bs) (scalar_below bs) (λ n lt. (lt, tt))
  read_fits shift_amount bs ok = value_fits shift_amount Amount 32 (expression_of bs) amount_below (λ v lt. (lt, tt))
  read_fits signed bs ok = value_fits signed Half 65536 (expression_of bs) half_below (λ v lt. (lt, tt))
  read_fits unsigned bs ok = value_fits unsigned Half 65536 (expression_of bs) half_below (λ v lt. (lt, tt))
  read_fits jump_target bs ok = value_fits jump_target Jump 1024 (expression_of bs) jump_below (λ v lt. (lt, tt))
  read_fits branch_target bs ok = value_fits branch_target Branch 65536 (expression_of bs) (branch_below address) (λ v lt. (lt, tt))
  read_fits scalar_memory bs ok = memory_fits scalar_memory Half 65536 (cut Parenthesis bs) half_below (λ v n lt ln. (lt, (ln, tt)))
  read_fits (vector_memory scale) bs ok = memory_fits (vector_memory scale) (Scaled scale) 128 (cut Parenthesis bs) (scaled_fits scale ok) (λ v n lt ln. (lt, (ln, tt)))
  read_fits sp_register bs ok = one_fits sp_register 16 (sp_named bs) (sp_below bs) (λ n lt. (lt, tt))
  read_fits control_register bs ok = one_fits control_register 3 (control_named bs) (look_up_below 3 control_names bs refl) (λ n lt. ((omega arith, omega arith), tt))
  read_fits (vector low) bs ok = one_fits (vector low) 32 (vector_named bs) (vector_below bs) (λ n lt. (lt, tt))
  read_fits (vector_byte low elements) bs ok =
      bracket_fits (vector_byte low elements) (FitsBitField (byte_bits elements)) (byte_named elements) (Some 0) (cut Bracket bs) bs (byte_fits elements) (zero_fits elements) (λ n m lt f. (lt, (f, tt)))
  read_fits vector_element bs ok =
      bracket_fits vector_element (λ m. m < 16) element_named (Some 0) (cut Bracket bs) bs (λ b. look_up_below 16 element_names b refl) (omega arith) (λ n m lt f. (lt, (f, tt)))
  read_fits vector_lane bs ok =
      bracket_fits vector_lane (λ m. m < 8) lane_named None (cut Bracket bs) bs (λ b. number_below 8 b) tt (λ n m lt f. (lt, (f, tt)))

  -- ---- all operands of a row

  both_fit : (ps qs : List BitField) (vs ws : List ℕ) → FitBitFields ps vs → FitBitFields qs ws → FitBitFields (ps ++ qs) (vs ++ ws)
  both_fit [] qs [] ws a b = b
  both_fit [] qs (v ∷ vs) ws a b = absurd a
  both_fit (p ∷ ps) qs [] ws a b = absurd a
  both_fit (p ∷ ps) qs (v ∷ vs) ws a b = (a.0, both_fit ps qs vs ws a.1 b)

  append_fits : (ps qs : List BitField) (x y : Result (List ℕ) AsmFaultKind) → IfOk x (FitBitFields ps) → IfOk y (FitBitFields qs) → IfOk (append x y) (FitBitFields (ps ++ qs))
  append_fits ps qs (Err kind) y a b = tt
  append_fits ps qs (Ok vs) (Err kind) a b = tt
  append_fits ps qs (Ok vs) (Ok ws) a b = both_fit ps qs vs ws a b

  abbrev pub AllFit : List Operand → Option (List OperandValue) → Type 0
  AllFit ks o = IfSome o (λ rs. IfOk (all_fields labels address rs) (FitBitFields (flat_map bit_fields ks)))

  one_more : (k : Operand) (ks : List Operand) (o : Option OperandValue) (os : Option (List OperandValue)) → Fits k o → AllFit ks os → AllFit (k ∷ ks) (option_and_then (λ r. option_map (λ rs. r ∷ rs) os) o)
  one_more k ks None os a b = tt
  one_more k ks (Some r) None a b = tt
  one_more k ks (Some r) (Some rs) a b = append_fits (bit_fields k) (flat_map bit_fields ks) (fields_of labels address r) (all_fields labels address rs) a b

  pub all_fit : (ks : List Operand) (ts : List (List ℕ)) → list_all is_row_operand ks ≡ true → AllFit ks (read_all ks ts)
  all_fit [] [] ok = tt
  all_fit [] (t ∷ ts) ok = tt
  all_fit (k ∷ ks) [] ok = tt
  all_fit (k ∷ ks) (t ∷ ts) ok =
      let both = and_parts (is_row_operand k) (list_all is_row_operand ks) ok in
      one_more k ks (read k t) (read_all ks ts) (read_fits k t both.0) (all_fit ks ts both.1)
