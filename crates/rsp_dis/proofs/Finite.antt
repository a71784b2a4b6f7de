-- Facts of finitely many numbers, by their tests; and what an operand that was read says.
use Rattle.std.proofs.Common.{◌≡◌, refl, ap, ℕ, ◌<◌, List, [], ◌∷◌, Bool, true, false, ◌&&◌}
use Rattle.std.specs.Prelude.{Option, Some, None, ◌==◌, is_none, Ok}
use Rattle.std.specs.Str.{bytes_eq}
use Rattle.std.proofs.lemmas.Bool.{and_parts, eqb-true, agree_below, agree_below_at}
use Rattle.rsp_syntax.specs.Numbers.{Expression}
use Rattle.rsp_syntax.specs.declared.operand_range.OperandRange.{OperandRange}
use Rattle.rsp_syntax.specs.Statement.{OperandValue, fields_of, number_fails}

-- a test that holds below a written-out number
pub below : (t : ℕ → Bool) (n : ℕ) → agree_below t (λ _. true) n ≡ true → (k : ℕ) → k < n → t k ≡ true
below t n e k lt = agree_below_at t (λ _. true) n k e lt

pub below_both : (t : ℕ → ℕ → Bool) (n m : ℕ) → agree_below (λ i. agree_below (t i) (λ _. true) m) (λ _. true) n ≡ true → (i j : ℕ) → i < n → j < m → t i j ≡ true
below_both t n m e i j li lj = below (t i) m (below (λ k. agree_below (t k) (λ _. true) m) n e i li) j lj

-- an operand that was read at an address, with these fields and no fault
pub record Said (address : ℕ) (o : Option OperandValue) (vs : List ℕ) : Type 0 where
  pub reading : OperandValue
  pub is : o ≡ Some reading
  pub fields : fields_of [] address reading ≡ Ok vs
  pub fits : number_fails address reading.value ≡ false

-- the same for an operand without a number, as a test
abbrev pub says : Option OperandValue → List ℕ → Bool
says None vs = false
says (Some r) vs = is_none r.value && bytes_eq r.registers vs

same_list : (xs ys : List ℕ) → bytes_eq xs ys ≡ true → xs ≡ ys
same_list [] [] e = refl
same_list [] (y ∷ ys) e = absurd cc
same_list (x ∷ xs) [] e = absurd cc
same_list (x ∷ xs) (y ∷ ys) e =
    let both = and_parts (x == y) (bytes_eq xs ys) e in
    let a = eqb-true x y both.0 in
    let b = same_list xs ys both.1 in
    cc

pub said_by : (address : ℕ) (o : Option OperandValue) (vs : List ℕ) → says o vs ≡ true → Said address o vs
said_by address None vs e = absurd cc
said_by address (Some r) vs e = go r.value r.registers e
  where
    go : (v : Option (OperandRange × Expression)) (ns : List ℕ) → (is_none v && bytes_eq ns vs) ≡ true → Said address (Some (record { value = v; registers = ns })) vs
    go None ns e = record { reading = record { value = None; registers = ns }; is = refl; fields = ap Ok (same_list ns vs e); fits = refl }
    go (Some v) ns e = absurd cc
