-- The faults of a line, in their order.
use Rattle.std.proofs.Common.{◌≡◌, sym, ap, ◌∙◌, ℕ, ◌+◌, ◌*◌, List, Bool, false, true}
use Rattle.std.specs.Prelude.{Option, Some, None, Result, Ok, Err, if◌then◌else◌, nat_lt}
use Rattle.std.proofs.lemmas.Bool.{cond-false}
use Rattle.rsp_syntax.specs.declared.fault.AsmFaultKind.{AsmFaultKind}
use Rattle.rsp_syntax.specs.declared.fault.AsmFaultKind.TheVariants.{OutOfRange, PastEnd, LabelTwice}
use Rattle.rsp_syntax.specs.Statement.{Labels, Statement, statement_of, size}
use Rattle.rsp_syntax.specs.SourceLine.{LineParts, split_line, is_label_taken, statement_size, parts_size, line_size, has_bad_number, statement_fault, parts_fault, first_fault}
use Rattle.rsp_asm.specs.Statements.{size_or_fault}

-- a line of this size, after the lines with a fault
abbrev pub last_fault : ℕ → ℕ → Option AsmFaultKind
last_fault address n = if nat_lt 4096 (address + 4 * n) then Some PastEnd else None

-- the last two faults of a statement
abbrev after : ℕ → ℕ → Bool → Option AsmFaultKind
after address n bad = if bad then Some OutOfRange else last_fault address n

abbrev answer : ℕ → Bool → Result ℕ AsmFaultKind
answer n bad = if bad then Err OutOfRange else Ok n

of_bad : (address n : ℕ) (bad : Bool) (kind : AsmFaultKind) → Err kind ≡ answer n bad → after address n bad ≡ Some kind
of_bad address n true kind e = let same : kind ≡ OutOfRange = cc in ap Some (sym same)
of_bad address n false kind e = absurd cc

of_good : (address n m : ℕ) (bad : Bool) → Ok m ≡ answer n bad → (after address n bad ≡ last_fault address m) × (m ≡ n)
of_good address n m true e = absurd cc
of_good address n m false e = let same : m ≡ n = cc in (ap (last_fault address) (sym same), same)

of_fault : (address : ℕ) (r : Result Statement AsmFaultKind) (kind : AsmFaultKind) → Err kind ≡ size_or_fault address r → statement_fault address r ≡ Some kind
of_fault address (Err k) kind e = let same : kind ≡ k = cc in ap Some (sym same)
of_fault address (Ok s) kind e = of_bad address (size s) (has_bad_number address (Ok s)) kind e

of_size : (address m : ℕ) (r : Result Statement AsmFaultKind) → Ok m ≡ size_or_fault address r → (statement_fault address r ≡ last_fault address m) × (m ≡ statement_size r)
of_size address m (Err k) e = absurd cc
of_size address m (Ok s) e = of_good address (size s) m (has_bad_number address (Ok s)) e

module _ (labels : Labels) (address : ℕ) (line : List ℕ) (p : LineParts) (is : Some p ≡ split_line line) (once : is_label_taken labels p.label ≡ false) where
  as_statement : first_fault labels address line ≡ statement_fault address (statement_of p.body)
  unfolding first_fault
  as_statement =
      ap (parts_fault labels address) (sym is)
      ∙ cond-false (is_label_taken labels p.label) (Some LabelTwice) (statement_fault address (statement_of p.body)) once

  pub line_fault : (kind : AsmFaultKind) → Err kind ≡ size_or_fault address (statement_of p.body) → first_fault labels address line ≡ Some kind
  line_fault kind e = as_statement ∙ of_fault address (statement_of p.body) kind e

  pub line_last : (m : ℕ) → Ok m ≡ size_or_fault address (statement_of p.body) → first_fault labels address line ≡ last_fault address m
  line_last m e = as_statement ∙ (of_size address m (statement_of p.body) e).0

pub line_size_is : (address : ℕ) (line : List ℕ) (p : LineParts) (m : ℕ) → Some p ≡ split_line line → Ok m ≡ size_or_fault address (statement_of p.body) → m ≡ line_size line
unfolding line_size
line_size_is address line p m is e = (of_size address m (statement_of p.body) e).1 ∙ ap parts_size is
