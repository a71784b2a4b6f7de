-- The labels of the lines that are left of a text, and that none of these lines has a fault.
use Rattle.std.proofs.Common.{◌≡◌, refl, sym, ap, subst, ◌∙◌, Bool, true, false, ℕ, zero, suc, ◌+◌, ◌*◌, ◌<◌, ◌≤◌, List, [], ◌∷◌, ◌++◌, length, drop, drop-cons, drop_of_length-le, append_assoc, arith}
use Rattle.std.specs.Prelude.{Option, Some, None, Result, ◌&&◌, nat_le, slice_index, IfSome, IsOk, if◌then◌else◌}
use Rattle.std.specs.List.{list_all}
use Rattle.std.proofs.lemmas.Bool.{and_parts}
use Rattle.std.proofs.lemmas.Bool.Decides.{nat_tests}
use Rattle.std.proofs.lemmas.List.{append-nil}
use Rattle.rsp_syntax.specs.declared.fault.AsmFault.{AsmFault}
use Rattle.rsp_syntax.specs.declared.fault.AsmFaultKind.{AsmFaultKind}
use Rattle.rsp_syntax.specs.declared.fault.AsmFaultKind.TheVariants.{LabelTwice}
use Rattle.rsp_syntax.specs.declared.line_bytes.Boundary.TheVariants.{Colon}
use Rattle.rsp_syntax.specs.Chars.{is_name_start, is_name_byte, is_line}
use Rattle.rsp_syntax.specs.Cuts.{cut}
use Rattle.rsp_syntax.specs.Numbers.{is_label}
use Rattle.rsp_syntax.specs.Statement.{Labels}
use Rattle.rsp_syntax.specs.SourceLine.{LineParts, without_comment, labelled_parts, split_line, label_in, label_of, line_size, first_fault, parts_fault, is_label_taken}
use Rattle.rsp_syntax.specs.SourceText.{line_at, address_of_line, labelled, labels_before, all_labels, fault_of_line, or_fault, fault_before, unless, meaning_of_lines}
use Rattle.rsp_asm.proofs.Passes.{fault_stays}

-- the labels of some lines, the first of which is at an address
abbrev pub labels_from : ℕ → List (List ℕ) → Labels
labels_from a [] = []
labels_from a (l ∷ ls) = labelled (label_of l) a ++ labels_from (a + 4 * line_size l) ls

-- none of some lines has a fault of its own
abbrev pub AreClean : ℕ → List (List ℕ) → Type 0
AreClean a [] = Unit {0}
AreClean a (l ∷ ls) = (first_fault [] a l ≡ None) × AreClean (a + 4 * line_size l) ls

-- a line without a fault has none whatever the labels before it are
alone_by : (labels : Labels) (a : ℕ) (p : Option LineParts) → parts_fault labels a p ≡ None → parts_fault [] a p ≡ None
alone_by labels a None e = cc
alone_by labels a (Some p) e = taken p.label (is_label_taken labels p.label) _ e
  where
    not_taken : (o : Option (List ℕ)) (f : Option AsmFaultKind) → (if is_label_taken [] o then Some LabelTwice else f) ≡ f
    not_taken None f = refl
    not_taken (Some name) f = refl

    taken : (o : Option (List ℕ)) (b : Bool) (f : Option AsmFaultKind) → (if b then Some LabelTwice else f) ≡ None → (if is_label_taken [] o then Some LabelTwice else f) ≡ None
    taken o true f e = cc
    taken o false f e = not_taken o f ∙ e

pub alone : (labels : Labels) (a : ℕ) (l : List ℕ) → first_fault labels a l ≡ None → first_fault [] a l ≡ None
unfolding first_fault
alone labels a l e = alone_by labels a (split_line l) e

last_fault : (o : Option AsmFault) (n : ℕ) (f : Option AsmFaultKind) → or_fault o n f ≡ None → f ≡ None
last_fault (Some x) n f e = cc
last_fault None n None e = refl
last_fault None n (Some kind) e = cc

module _ (origin : ℕ) (ls : List (List ℕ)) where
  here : (k : ℕ) → k < length ls → drop k ls ≡ line_at ls k ∷ drop (suc k) ls
  here k h = drop-cons ls k [] h

  labels_left : (j k : ℕ) → k + j ≡ length ls → labels_before origin ls k ++ labels_from (address_of_line origin ls k) (drop k ls) ≡ all_labels origin ls
  labels_left zero k e =
      let whole : k ≡ length ls = omega (arith, e) in
      ap (λ x. labels_before origin ls k ++ labels_from (address_of_line origin ls k) x) (drop_of_length-le ls (omega (arith, e))) ∙ append-nil _ ∙ ap (labels_before origin ls) whole
  labels_left (suc j) k e =
      let a = address_of_line origin ls k in
      ap (λ x. labels_before origin ls k ++ labels_from a x) (here k (omega (arith, e)))
      ∙ sym (append_assoc (labels_before origin ls k) (labelled (label_of (line_at ls k)) a) (labels_from (address_of_line origin ls (suc k)) (drop (suc k) ls)))
      ∙ labels_left j (suc k) (omega (arith, e))

  clean_by : (o : Option AsmFault) (j k : ℕ) → fault_before origin ls (length ls) ≡ None → suc k + j ≡ length ls → fault_before origin ls (suc k) ≡ o → fault_of_line origin ls k ≡ None
  clean_by None j k clean e is = last_fault (fault_before origin ls k) (suc k) (fault_of_line origin ls k) is
  clean_by (Some f) j k clean e is = let no = sym clean ∙ fault_stays origin ls j (suc k) (length ls) f is e in cc

  clean_left : (j k : ℕ) → fault_before origin ls (length ls) ≡ None → k + j ≡ length ls → AreClean (address_of_line origin ls k) (drop k ls)
  clean_left zero k clean e = subst (AreClean (address_of_line origin ls k)) (sym (drop_of_length-le ls (omega (arith, e)))) tt
  clean_left (suc j) k clean e =
      let a = address_of_line origin ls k in
      subst (AreClean a) (sym (here k (omega (arith, e)))) (
        alone (labels_before origin ls k) a (line_at ls k) (clean_by (fault_before origin ls (suc k)) j k clean (omega (arith, e)) refl),
        clean_left j (suc k) clean (omega (arith, e)),
      )

  -- the whole text
  pub labels_whole : labels_from origin ls ≡ all_labels origin ls
  labels_whole = labels_left (length ls) 0 (omega arith)

  unfaulted : (o : Option AsmFault) (w : Result (List ℕ) AsmFault) → IsOk (unless o w) → o ≡ None
  unfaulted None w ok = refl
  unfaulted (Some f) w ok = absurd (let no : false ≡ true = ok in cc)

  pub clean_whole : IsOk (meaning_of_lines ls origin) → AreClean origin ls
  clean_whole ok = clean_left (length ls) 0 (unfaulted (fault_before origin ls (length ls)) _ ok) (omega arith)

abbrev IsShort : Option LineParts → Type 0
IsShort p = IfSome (label_in p) (λ name. length name ≤ 32)

short_if : (b : Bool) (p : Option LineParts) → (b ≡ true → IsShort p) → IsShort (if b then p else None)
short_if true p short = short refl
short_if false p short = tt

short_parts : (o : Option (List ℕ × List ℕ)) (bs : List ℕ) → IsShort (labelled_parts o bs)
short_parts None bs = tt
short_parts (Some p) bs = short_if (is_label p.0) _ (λ is.
    let rest = and_parts (is_name_start (slice_index p.0 0)) (list_all is_name_byte p.0 && nat_le (length p.0) 32) is in
    let parts = and_parts (list_all is_name_byte p.0) (nat_le (length p.0) 32) rest.1 in
    grind (arith, nat_tests))

-- a label has at most 32 bytes
pub short_label : (l : List ℕ) → IfSome (label_of l) (λ name. length name ≤ 32)
unfolding label_of
short_label l = short_if (is_line l) _ (λ _. short_parts (cut Colon (without_comment l)) (without_comment l))
