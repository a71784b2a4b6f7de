-- Marks of addresses: what the loop over words adds.
use Rattle.std.proofs.Common.{◌≡◌, refl, sym, ap, ◌∙◌, subst, ℕ, suc, ◌+◌, ◌*◌, ◌/◌, ◌%◌, ◌<◌, ◌≤◌, List, [], ◌∷◌, length, drop, get_or, Bool, true, false, ◌&&◌, ◌||◌, arith, inl, inr}
use Rattle.std.specs.Prelude.{Option, Some, None, ◌==◌, nat_lt, nat_le, slice_set, replicate, if◌then◌else◌}
use Rattle.std.proofs.lemmas.Bool.Decides.{nat_tests}
use Rattle.std.proofs.lemmas.Bool.{cases_Bool, eqb-true, eqb-false, or_right, and_from, and_right, le-leb, lt-ltb, le-ltb, lt-leb}
use Rattle.std.proofs.lemmas.List.{get_or-set_same, get_or-set_other, get_or-replicate}
use Rattle.std.proofs.Math.Seq.{drop-cons}
use Rattle.rsp_decode.specs.Table.{Operand, Row, row_of, scalar, shift_amount, signed, unsigned, jump_target, branch_target, scalar_memory, vector_memory, sp_register, control_register, vector, vector_byte, vector_element, vector_lane, value_at, whole, word_from, fields}
use Rattle.rsp_syntax.specs.Disassembly.{target}
use Rattle.rsp_dis.specs.Labels.{or_else, operand_target, operands_target, row_target, word_target, is_at, lead_to, has_label}
use Rattle.rsp_dis.specs.LabelTests.{marked}

-- ---- a target is a multiple of 4

target_aligned : (address v t : ℕ) → address % 4 ≡ 0 → target address v ≡ Some t → t % 4 ≡ 0
target_aligned address v t aligned e = grind (arith, nat_tests)

times_4 : (v t : ℕ) → Some (4 * v) ≡ Some t → t % 4 ≡ 0
times_4 v t e = let same : 4 * v ≡ t = cc in omega (arith, same)

module _ (w address : ℕ) (aligned : address % 4 ≡ 0) where
  operand_aligned : (k : Operand) (t : ℕ) → operand_target w address k ≡ Some t → t % 4 ≡ 0
  operand_aligned (scalar low) t e = absurd cc
  operand_aligned shift_amount t e = absurd cc
  operand_aligned signed t e = absurd cc
  operand_aligned unsigned t e = absurd cc
  operand_aligned jump_target t e = times_4 (value_at w (whole 0 10)) t e
  operand_aligned branch_target t e = target_aligned address (value_at w (whole 0 16)) t aligned e
  operand_aligned scalar_memory t e = absurd cc
  operand_aligned (vector_memory s) t e = absurd cc
  operand_aligned sp_register t e = absurd cc
  operand_aligned control_register t e = absurd cc
  operand_aligned (vector low) t e = absurd cc
  operand_aligned (vector_byte low elements) t e = absurd cc
  operand_aligned vector_element t e = absurd cc
  operand_aligned vector_lane t e = absurd cc

  either : (a b : Option ℕ) (t : ℕ) → ((u : ℕ) → a ≡ Some u → u % 4 ≡ 0) → ((u : ℕ) → b ≡ Some u → u % 4 ≡ 0) → or_else a b ≡ Some t → t % 4 ≡ 0
  either None b t h k e = k t e
  either (Some u) b t h k e = h t e

  operands_aligned : (ks : List Operand) (t : ℕ) → operands_target w address ks ≡ Some t → t % 4 ≡ 0
  operands_aligned [] t e = absurd cc
  operands_aligned (k ∷ ks) t e = either (operand_target w address k) (operands_target w address ks) t (operand_aligned k) (operands_aligned ks) e

  row_aligned : (o : Option Row) (t : ℕ) → row_target w address o ≡ Some t → t % 4 ≡ 0
  row_aligned None t e = absurd cc
  row_aligned (Some r) t e = chosen (word_from r (fields r w) == w) e
    where
      chosen : (b : Bool) → (if b then operands_target w address r.operands else None) ≡ Some t → t % 4 ≡ 0
      chosen true e = operands_aligned r.operands t e
      chosen false e = absurd cc

  word_aligned : (t : ℕ) → word_target w address ≡ Some t → t % 4 ≡ 0
  unfolding word_target
  word_aligned t e = row_aligned (row_of w) t e

-- ---- the loop

abbrev pub in_words : ℕ → List ℕ → ℕ → Bool
in_words origin ws t = nat_le origin t && nat_lt t (origin + 4 * length ws)

-- what is marked, and what the words from i on lead to, is together what all lead to
abbrev pub Marks : ℕ → List ℕ → ℕ → List Bool → Type 0
Marks origin ws i marks =
    (a : ℕ) → a % 4 ≡ 0 → a < 4096 → (marked marks a || (in_words origin ws a && lead_to (origin + 4 * i) (drop i ws) a)) ≡ has_label origin ws a

pub none_marked : (origin : ℕ) (ws : List ℕ) → Marks origin ws 0 (replicate 1024 false)
unfolding has_label
none_marked origin ws a aligned lt =
    let small : a / 4 < 1024 = omega arith in
    let first : origin + 4 * 0 ≡ origin = omega arith in
    ap (λ b. b || (in_words origin ws a && lead_to (origin + 4 * 0) ws a)) (get_or-replicate 1024 (a / 4) false false small)
    ∙ ap (λ n. in_words origin ws a && lead_to n ws a) first

module _ (origin : ℕ) (ws : List ℕ) (i : ℕ) (inside : i < length ws) (even : origin % 4 ≡ 0) where
  abbrev w : ℕ
  w = get_or ws i 0

  abbrev at : ℕ
  at = origin + 4 * i

  next : (a : ℕ) → lead_to at (drop i ws) a ≡ (is_at (word_target w at) a || lead_to (origin + 4 * (i + 1)) (drop (i + 1) ws) a)
  next a =
      let later : at + 4 ≡ origin + 4 * (i + 1) = omega arith in
      let one : suc i ≡ i + 1 = omega arith in
      ap (λ l. lead_to at l a) (drop-cons ws i 0 inside)
      ∙ ap (λ n. is_at (word_target w at) a || lead_to n (drop (suc i) ws) a) later
      ∙ ap (λ n. is_at (word_target w at) a || lead_to (origin + 4 * (i + 1)) (drop n ws) a) one

  abbrev rest : ℕ → Bool
  rest a = lead_to (origin + 4 * (i + 1)) (drop (i + 1) ws) a

  moved : (marks : List Bool) → Marks origin ws i marks → (a : ℕ) → a % 4 ≡ 0 → a < 4096 → (marked marks a || (in_words origin ws a && (is_at (word_target w at) a || rest a))) ≡ has_label origin ws a
  moved marks h a aligned lt = ap (λ b. marked marks a || (in_words origin ws a && b)) (sym (next a)) ∙ h a aligned lt

  pub not_led : (marks : List Bool) → word_target w at ≡ None → Marks origin ws i marks → Marks origin ws (i + 1) marks
  not_led marks none h a aligned lt = ap (λ o. marked marks a || (in_words origin ws a && (is_at o a || rest a))) (sym none) ∙ moved marks h a aligned lt

  pub led_out : (marks : List Bool) (t : ℕ) → word_target w at ≡ Some t → in_words origin ws t ≡ false → Marks origin ws i marks → Marks origin ws (i + 1) marks
  led_out marks t some out h a aligned lt =
      ap (λ b. marked marks a || b) outside
      ∙ ap (λ o. marked marks a || (in_words origin ws a && (is_at o a || rest a))) (sym some) ∙ moved marks h a aligned lt
    where
      outside : (in_words origin ws a && rest a) ≡ (in_words origin ws a && ((t == a) || rest a))
      outside = elim (cases_Bool (t == a)) [
        | inl y ↦
            let far : in_words origin ws a ≡ false = subst (λ x. in_words origin ws x ≡ false) (eqb-true t a y) out in
            ap (λ b. b && rest a) far ∙ sym (ap (λ b. b && ((t == a) || rest a)) far)
        | inr n ↦ ap (λ b. in_words origin ws a && (b || rest a)) (sym n)
      ]

  pub led_in : (marks : List Bool) (t : ℕ) → length marks ≡ 1024 → word_target w at ≡ Some t → in_words origin ws t ≡ true → t < 4096 → Marks origin ws i marks → Marks origin ws (i + 1) (slice_set marks (t / 4) true)
  led_in marks t size some near small h a aligned lt = elim (cases_Bool (t == a)) [
    | inl y ↦
        let same = eqb-true t a y in
        let mark : marked (slice_set marks (t / 4) true) a ≡ true = subst (λ x. marked (slice_set marks (t / 4) true) x ≡ true) same (get_or-set_same marks (t / 4) true false (omega (arith, size))) in
        let within : in_words origin ws a ≡ true = subst (λ x. in_words origin ws x ≡ true) same near in
        let whole : has_label origin ws a ≡ true =
        sym (moved marks h a aligned lt)
        ∙ ap (λ o. marked marks a || (in_words origin ws a && (is_at o a || rest a))) some
        ∙ ap (λ b. marked marks a || (b && ((t == a) || rest a))) within
        ∙ ap (λ b. marked marks a || (b || rest a)) y
        ∙ or_right (marked marks a) true refl in
        ap (λ b. b || (in_words origin ws a && rest a)) mark ∙ sym whole
    | inr n ↦
        let even_t = word_aligned w at (omega (arith, even)) t some in
        ap (λ b. b || (in_words origin ws a && rest a)) (get_or-set_other marks (t / 4) (a / 4) true false (λ e. let differ = eqb-false t a n in differ (omega (arith, e, even_t, aligned))))
        ∙ ap (λ b. marked marks a || (in_words origin ws a && (b || rest a))) (sym n)
        ∙ ap (λ o. marked marks a || (in_words origin ws a && (is_at o a || rest a))) (sym some)
        ∙ moved marks h a aligned lt
  ]

pub within : (origin : ℕ) (ws : List ℕ) (t : ℕ) → origin ≤ t → t < origin + 4 * length ws → in_words origin ws t ≡ true
within origin ws t low high = and_from _ _ (le-leb _ _ low) (lt-ltb _ _ high)

pub below_words : (origin : ℕ) (ws : List ℕ) (t : ℕ) → t < origin → in_words origin ws t ≡ false
below_words origin ws t low = ap (λ b. b && nat_lt t (origin + 4 * length ws)) (lt-leb _ _ low)

pub above_words : (origin : ℕ) (ws : List ℕ) (t : ℕ) → origin + 4 * length ws ≤ t → in_words origin ws t ≡ false
above_words origin ws t high = ap (λ b. nat_le origin t && b) (le-ltb _ _ high) ∙ and_right (nat_le origin t) false refl
