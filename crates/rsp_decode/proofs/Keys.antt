-- Which rows a word can have, from the fields that select them.
use Rattle.std.proofs.Common.{◌≡◌, refl, sym, ap, ◌∙◌, ℕ, ◌+◌, ◌-◌, ◌*◌, ◌/◌, ◌%◌, ◌^◌, ◌<◌, List, [], ◌∷◌, Bool, true, false, not, ◌&&◌, ◌||◌, cond, bit_and, arith, ◌≢◌, Option, inl, inr, lit<, pow_pos, zero-add, mul-one}
use Rattle.std.specs.Prelude.{find, option_map, ◌==◌, filter, None, Some, if◌then◌else◌}
use Rattle.std.specs.List.{list_all}
use Rattle.std.proofs.lemmas.Nat.{and_assoc, and_comm, shr_split, mod_below}
use Rattle.std.proofs.lemmas.Nat.Bits.{and_high}
use Rattle.std.specs.Int.Bits.{and_block, and_zero_r}
use Rattle.std.proofs.lemmas.Bool.Decides.{nat_tests}
use Rattle.std.proofs.lemmas.Bool.{cases_eq, eqb-true, eqb-false, ne_eqb, eq-eqb, and_parts, cases_Bool, not-false, false≢true}
use Rattle.rsp_decode.specs.declared.inst.Inst.{Inst}
use Rattle.rsp_decode.specs.Table.{Row, rows, row_of, fits, fields, inst_of, pick, pick_by_operation, value_at, whole, special_rows, regimm_rows, opcode_rows, cop0_rows, cop2_rows, computing_rows, lwc2_rows, swc2_rows}

-- what two masks have in common
pub common : (w a b x y : ℕ) → bit_and w a ≡ x → bit_and w b ≡ y → bit_and a y ≡ bit_and x b
common w a b x y p q =
    ap (λ n. bit_and a n) (sym q) ∙ and_comm a (bit_and w b) ∙ and_assoc a w b ∙ ap (λ n. bit_and w n) (and_comm b a) ∙ sym (and_assoc b w a) ∙ ap (λ n. bit_and n b) p

-- a row may have a word that has x under the mask a, unless they differ in a bit of both masks
abbrev pub may_have : ℕ → ℕ → Row → Bool
may_have a x r = bit_and a r.value == bit_and x r.mask

cannot : (w a x : ℕ) (r : Row) → bit_and w a ≡ x → may_have a x r ≡ false → fits w r ≡ false
cannot w a x r under not_had = ne_eqb _ _ (λ e. eqb-false _ _ not_had (common w a r.mask x r.value under e))

-- rows that fail the test are left out
left_out : (p keep : Row → Bool) (rs : List Row) → ((r : Row) → keep r ≡ false → p r ≡ false) → find p rs ≡ find p (filter keep rs)
left_out p keep [] drops = refl
left_out p keep (r ∷ rs) drops =
    elim (cases_Bool (keep r)) [
      | inl kept ↦ rw kept (ap (cond (p r) (Some r)) (left_out p keep rs drops))
      | inr dropped ↦ rw dropped (rw (drops r dropped) (left_out p keep rs drops))
    ]

pub narrowed : (w a x : ℕ) (rs : List Row) → bit_and w a ≡ x → find (fits w) rs ≡ find (fits w) (filter (may_have a x) rs)
narrowed w a x rs under = left_out (fits w) (may_have a x) rs (λ r. cannot w a x r under)

-- tests that agree on rows of a kind find the same among such rows
find_agrees : (p q kind : Row → Bool) (rs : List Row) → ((r : Row) → kind r ≡ true → p r ≡ q r) → list_all kind rs ≡ true → find p rs ≡ find q rs
find_agrees p q kind [] same all = refl
find_agrees p q kind (r ∷ rs) same all =
    let both = and_parts _ _ all in
    ap (λ t. cond t (Some r) (find p rs)) (same r both.0) ∙ ap (cond (q r) (Some r)) (find_agrees p q kind rs same both.1)

-- rows of one mask go by their values
by_value : (w mask key : ℕ) (rs : List Row) → bit_and w mask ≡ key → list_all (λ (r : Row). r.mask == mask) rs ≡ true → find (fits w) rs ≡ find (λ (r : Row). r.value == key) rs
by_value w mask key rs under = find_agrees _ _ (λ (r : Row). r.mask == mask) rs tests
  where
    tests : (r : Row) → (r.mask == mask) ≡ true → fits w r ≡ (r.value == key)
    tests r same = rw (eqb-true _ _ same) (rw under (grind (arith, nat_tests)))

-- a mask in two parts, above bit k and below it
block : (w k a b : ℕ) → b < 2 ^ k → bit_and w (a * 2 ^ k + b) ≡ bit_and (w / 2 ^ k) a * 2 ^ k + bit_and (w % 2 ^ k) b
block w k a b low =
    ap (λ n. bit_and n (a * 2 ^ k + b)) (sym (shr_split w k))
    ∙ and_block k (w / 2 ^ k) a (w % 2 ^ k) b (mod_below w (2 ^ k) (pow_pos k)) low

-- two fields, the upper of which begins at bit k or above
two_fields : (w k a b x y : ℕ) → b < 2 ^ k → bit_and w (a * 2 ^ k) ≡ x → bit_and w b ≡ y → bit_and w (a * 2 ^ k + b) ≡ x + y
two_fields w k a b x y low p q =
    let both = block w k a b low in
    let upper = block w k a 0 (pow_pos k) in
    let lower = block w k 0 b low in
    grind (arith, and_zero_r, both, upper, lower, p, q)

-- a field under the mask of its bits
field_under : (w low width : ℕ) → bit_and w (2 ^ (width + low) - 2 ^ low) ≡ value_at w (whole low width) * 2 ^ low
field_under w low width = and_high w width low

opcode_under : (w o : ℕ) → value_at w (whole 26 6) ≡ o → bit_and w 0xfc000000 ≡ o * 2 ^ 26
opcode_under w o e = field_under w 26 6 ∙ ap (λ n. n * 2 ^ 26) e

-- an opcode, and bits below it
opcode_and : (w o b field : ℕ) → b < 2 ^ 26 → value_at w (whole 26 6) ≡ o → bit_and w b ≡ field → bit_and w (63 * 2 ^ 26 + b) ≡ o * 2 ^ 26 + field
opcode_and w o b field low at e = two_fields w 26 63 b (o * 2 ^ 26) field low (opcode_under w o at) e

function_under : (w : ℕ) → bit_and w 63 ≡ value_at w (whole 0 6)
function_under w = field_under w 0 6 ∙ mul-one (value_at w (whole 0 6))

-- the instruction of a word whose row is found among fewer
unfoldable inst_by : ℕ → Option Row → Option Inst
inst_by w found = option_map (λ (r : Row). r.inst (fields r w)) found

from_rows : (w : ℕ) (found : Option Row) → find (fits w) rows ≡ found → inst_of w ≡ inst_by w found
unfolding inst_of row_of inst_by
from_rows w found e = ap (option_map (λ (r : Row). r.inst (fields r w))) e

-- among the rows that may have x under the mask a, which are all of one mask
found_in : (w a x mask key : ℕ) (rs : List Row) → filter (may_have a x) rows ≡ rs → list_all (λ (r : Row). r.mask == mask) rs ≡ true → bit_and w a ≡ x → bit_and w mask ≡ key → inst_of w ≡ pick rs key w
unfolding inst_by
found_in w a x mask key rs which all under at_key =
    from_rows w _ (narrowed w a x rows under ∙ ap (find (fits w)) which ∙ by_value w mask key rs at_key all)

module _ (w : ℕ) where
  pub special_is : value_at w (whole 26 6) ≡ 0 → inst_of w ≡ pick special_rows (value_at w (whole 0 6)) w
  special_is at =
      found_in w 0xfc000000 0 0xfc00003f _ special_rows refl refl (opcode_under w 0 at)
      (opcode_and w 0 63 _ (lit< tt) at (function_under w) ∙ zero-add _)

  pub regimm_is : value_at w (whole 26 6) ≡ 1 → inst_of w ≡ pick regimm_rows (2 ^ 26 + value_at w (whole 16 5) * 2 ^ 16) w
  regimm_is at =
      found_in w 0xfc000000 (2 ^ 26) 0xfc1f0000 _ regimm_rows refl refl (opcode_under w 1 at)
      (opcode_and w 1 0x1f0000 _ (lit< tt) at (field_under w 16 5))

  pub cop0_is : value_at w (whole 26 6) ≡ 16 → inst_of w ≡ pick cop0_rows (16 * 2 ^ 26 + value_at w (whole 21 5) * 2 ^ 21) w
  cop0_is at =
      found_in w 0xfc000000 (16 * 2 ^ 26) 0xffe00000 _ cop0_rows refl refl (opcode_under w 16 at)
      (opcode_and w 16 0x3e00000 _ (lit< tt) at (field_under w 21 5))

  -- opcode 18 with bit 25
  bit_under : (bit : ℕ) → value_at w (whole 26 6) ≡ 18 → value_at w (whole 25 1) ≡ bit → bit_and w 0xfe000000 ≡ 18 * 2 ^ 26 + bit * 2 ^ 25
  bit_under bit at e = opcode_and w 18 0x2000000 _ (lit< tt) at (field_under w 25 1 ∙ ap (λ n. n * 2 ^ 25) e)

  pub cop2_is : value_at w (whole 26 6) ≡ 18 → value_at w (whole 25 1) ≡ 0 → inst_of w ≡ pick cop2_rows (18 * 2 ^ 26 + value_at w (whole 21 5) * 2 ^ 21) w
  cop2_is at bit =
      found_in w 0xfe000000 (18 * 2 ^ 26) 0xffe00000 _ cop2_rows refl refl (bit_under 0 at bit)
      (opcode_and w 18 0x3e00000 _ (lit< tt) at (field_under w 21 5))

  pub computing_is : value_at w (whole 26 6) ≡ 18 → value_at w (whole 25 1) ≡ 1 → inst_of w ≡ pick computing_rows (18 * 2 ^ 26 + 2 ^ 25 + value_at w (whole 0 6)) w
  computing_is at bit =
      found_in w 0xfe000000 (37 * 2 ^ 25) 0xfe00003f _ computing_rows refl refl (bit_under 1 at bit)
      (two_fields w 25 127 63 (37 * 2 ^ 25) _ (lit< tt) (bit_under 1 at bit) (function_under w))

-- the opcodes of several rows
abbrev is_shared : ℕ → Bool
is_shared o = (o == 0) || (o == 1) || (o == 16) || (o == 18) || (o == 50) || (o == 58)

abbrev has_own : Row → Bool
has_own r = not ((bit_and r.mask 0xfc000000 == 0xfc000000) && is_shared (value_at r.value (whole 26 6)))

shared_not_fit : (w : ℕ) (r : Row) → is_shared (value_at w (whole 26 6)) ≡ false → has_own r ≡ false → fits w r ≡ false
shared_not_fit w r own not_own =
    let row_and_values = and_parts _ _ (not-false _ not_own) in
    ne_eqb _ _ (λ e. false≢true (sym own ∙ ap is_shared (opcode_of e (eqb-true _ _ row_and_values.0)) ∙ row_and_values.1))
  where
    opcode_of : bit_and w r.mask ≡ r.value → bit_and r.mask 0xfc000000 ≡ 0xfc000000 → value_at w (whole 26 6) ≡ value_at r.value (whole 26 6)
    opcode_of e covers =
        let p : value_at w (whole 26 6) * 2 ^ 26 ≡ value_at r.value (whole 26 6) * 2 ^ 26 =
        sym (field_under w 26 6) ∙ ap (bit_and w) (sym covers) ∙ sym (and_assoc 0xfc000000 w r.mask) ∙ ap (λ n. bit_and n 0xfc000000) e ∙ field_under r.value 26 6 in
        omega arith

pub plain_is : (w o : ℕ) → value_at w (whole 26 6) ≡ o → o ≢ 0 → o ≢ 1 → o ≢ 16 → o ≢ 18 → o ≢ 50 → o ≢ 58 → inst_of w ≡ pick opcode_rows (o * 2 ^ 26) w
unfolding inst_by
plain_is w o at special regimm cop0 cop2 lwc2 swc2 =
    let own : is_shared (value_at w (whole 26 6)) ≡ false = rw at (grind (arith, nat_tests)) in
    from_rows w _ (left_out (fits w) has_own rows (λ r. shared_not_fit w r own) ∙ by_value w 0xfc000000 (o * 2 ^ 26) opcode_rows (opcode_under w o at) refl)

-- a row of a vector load or store: that of operation 9 has two more bits of mask
abbrev nine_is_narrow : ℕ → Row → Bool
nine_is_narrow o r = r.mask == (if r.value == o * 2 ^ 26 + 9 * 2 ^ 11 then 0xfc00fb80 else 0xfc00f800)

find_unless : (b : Bool) (p : Row → Bool) (rs : List Row) → find (λ r. not b && p r) rs ≡ (if b then None else find p rs)
find_unless true p [] = refl
find_unless true p (r ∷ rs) = find_unless true p rs
find_unless false p rs = refl

module _ (w o : ℕ) (at : value_at w (whole 26 6) ≡ o) where
  under_narrow : bit_and w 0xfc00fb80 ≡ o * 2 ^ 26 + (value_at w (whole 11 5) * 2 ^ 11 + value_at w (whole 7 3) * 2 ^ 7)
  under_narrow = opcode_and w o 0xfb80 _ (lit< tt) at (two_fields w 11 31 0x380 _ _ (lit< tt) (field_under w 11 5) (field_under w 7 3))

  under_wide : bit_and w 0xfc00f800 ≡ o * 2 ^ 26 + value_at w (whole 11 5) * 2 ^ 11
  under_wide = opcode_and w o 0xf800 _ (lit< tt) at (field_under w 11 5)

  abbrev refused : Bool
  refused = (value_at w (whole 11 5) == 9) && not (value_at w (whole 7 4) % 8 == 0)

  tests : (r : Row) → nine_is_narrow o r ≡ true → fits w r ≡ (not refused && (r.value == o * 2 ^ 26 + value_at w (whole 11 5) * 2 ^ 11))
  tests r narrow =
      elim (cases_eq r.value (o * 2 ^ 26 + 9 * 2 ^ 11)) [
        | inl nine ↦ rw (eqb-true _ _ narrow) (rw nine (rw (eq-eqb (o * 2 ^ 26 + 9 * 2 ^ 11) _ refl) (rw under_narrow (grind (arith, nat_tests)))))
        | inr other ↦ rw (eqb-true _ _ narrow) (rw (ne_eqb _ _ other) (rw under_wide (grind (arith, nat_tests, other))))
      ]

  by_operation_is : (rs : List Row) → filter (may_have 0xfc000000 (o * 2 ^ 26)) rows ≡ rs → list_all (nine_is_narrow o) rs ≡ true → inst_of w ≡ pick_by_operation rs o w
  unfolding inst_by
  by_operation_is rs which narrow =
      from_rows w _ (narrowed w 0xfc000000 (o * 2 ^ 26) rows (opcode_under w o at) ∙ ap (find (fits w)) which
      ∙ find_agrees _ _ (nine_is_narrow o) rs tests narrow
      ∙ find_unless refused _ rs)
      ∙ turned refused _
    where
      turned : (b : Bool) (found : Option Row) → inst_by w (if b then None else found) ≡ (if b then None else inst_by w found)
      turned true found = refl
      turned false found = refl

pub lwc2_is : (w : ℕ) → value_at w (whole 26 6) ≡ 50 → inst_of w ≡ pick_by_operation lwc2_rows 50 w
lwc2_is w at = by_operation_is w 50 at lwc2_rows refl refl

pub swc2_is : (w : ℕ) → value_at w (whole 26 6) ≡ 58 → inst_of w ≡ pick_by_operation swc2_rows 58 w
swc2_is w at = by_operation_is w 58 at swc2_rows refl refl

pub ruleset keys = (special_is, regimm_is, cop0_is, cop2_is, computing_is, plain_is, lwc2_is, swc2_is)
