-- What an expression is, by what was found in its text.
use Rattle.std.proofs.Common.{◌≡◌, refl, sym, ap, ◌∙◌, ℕ, List, Bool, true, false, pos}
use Rattle.std.specs.Prelude.{Option, Some, None, ℤ, option_map}
use Rattle.std.proofs.lemmas.Bool.{cond-false}
use Rattle.rsp_syntax.specs.declared.line_bytes.Boundary.TheVariants.{Plus, Minus}
use Rattle.rsp_syntax.specs.Chars.{skip_blanks, trim}
use Rattle.rsp_syntax.specs.Cuts.{cut}
use Rattle.rsp_syntax.specs.Numbers.{Expression, constant, plus, signed_number, is_label, signed_of, number_or, sides, label_and_number, expression_of}
use Rattle.rsp_syntax.specs.Capping.{capped, capped_ℤ}
use Rattle.rsp_syntax.specs.Capping.{capped_expression}
use Rattle.rsp_syntax.proofs.Numerals.{capped_neg}

capped_signed : (negative : Bool) (n : ℕ) → capped_ℤ (signed_number negative n) ≡ signed_number negative (capped n)
capped_signed true n = capped_neg n
capped_signed false n = refl

pub labelled_number : (name : List ℕ) (negative : Bool) (o : Option ℕ) (n : ℕ) → Some n ≡ option_map capped o → Some (plus name (signed_number negative n)) ≡ option_map capped_expression (option_map (λ m. plus name (signed_number negative m)) o)
labelled_number name negative None n e = absurd cc
labelled_number name negative (Some m) n e =
    let same : n ≡ capped m = cc in
    ap (λ k. Some (plus name (signed_number negative k))) same ∙ ap (λ z. Some (plus name z)) (sym (capped_signed negative m))

pub found_number : (o : Option ℤ) (z : ℤ) (other : Option Expression) → Some z ≡ option_map capped_ℤ o → Some (constant z) ≡ option_map capped_expression (number_or o other)
found_number None z other e = absurd cc
found_number (Some y) z other e = let same : z ≡ capped_ℤ y = cc in ap (λ k. Some (constant k)) same

no_number : (o : Option ℤ) (other : Option Expression) → None ≡ option_map capped_ℤ o → number_or o other ≡ other
no_number None other e = refl
no_number (Some z) other e = absurd cc

module _ (bs : List ℕ) (no_label : is_label bs ≡ false) where
  pub is_number : (z : ℤ) → Some z ≡ option_map capped_ℤ (signed_of bs) → Some (constant z) ≡ option_map capped_expression (expression_of bs)
  is_number z e =
      found_number (signed_of bs) z (sides false (cut Plus bs) (sides true (cut Minus bs) None)) e
      ∙ ap (option_map capped_expression) (sym (cond-false (is_label bs) (Some (plus bs (pos 0))) (number_or (signed_of bs) (sides false (cut Plus bs) (sides true (cut Minus bs) None))) no_label))

  no_constant : None ≡ option_map capped_ℤ (signed_of bs) → expression_of bs ≡ sides false (cut Plus bs) (sides true (cut Minus bs) None)
  no_constant e =
      cond-false (is_label bs) (Some (plus bs (pos 0))) (number_or (signed_of bs) (sides false (cut Plus bs) (sides true (cut Minus bs) None))) no_label
      ∙ no_number (signed_of bs) _ e

  pub is_sum : (name rest : List ℕ) → None ≡ option_map capped_ℤ (signed_of bs) → Some (name, rest) ≡ cut Plus bs → expression_of bs ≡ label_and_number (trim name) false (skip_blanks rest)
  is_sum name rest e at = no_constant e ∙ ap (λ o. sides false o (sides true (cut Minus bs) None)) (sym at)

  pub is_difference : (name rest : List ℕ) → None ≡ option_map capped_ℤ (signed_of bs) → None ≡ cut Plus bs → Some (name, rest) ≡ cut Minus bs → expression_of bs ≡ label_and_number (trim name) true (skip_blanks rest)
  is_difference name rest e none at = no_constant e ∙ ap (λ o. sides false o (sides true (cut Minus bs) None)) (sym none) ∙ ap (λ o. sides true o None) (sym at)

  pub is_nothing : None ≡ option_map capped_ℤ (signed_of bs) → None ≡ cut Plus bs → None ≡ cut Minus bs → expression_of bs ≡ None
  is_nothing e none at = no_constant e ∙ ap (λ o. sides false o (sides true (cut Minus bs) None)) (sym none) ∙ ap (λ o. sides true o None) (sym at)
