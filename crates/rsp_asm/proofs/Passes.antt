-- The lines that a pass has done.
use Rattle.std.proofs.Common.{◌≡◌, sym, ap, ◌∙◌, subst, ℕ, zero, suc, ◌+◌, ◌*◌, ◌<◌, ◌≤◌, List, [], ◌∷◌, ◌++◌, length, drop, drop-cons, arith, add-one, true, false}
use Rattle.std.specs.Prelude.{Some, None, Result, Ok, Err, is_some, is_err, OnOk, OnErr, ◌-◌}
use Rattle.std.proofs.lemmas.List.{length-drop}
use Rattle.rsp_syntax.specs.declared.fault.AsmFault.{AsmFault}
use Rattle.rsp_syntax.specs.declared.fault.AsmFaultKind.{AsmFaultKind}
use Rattle.rsp_syntax.specs.Statement.{Labels}
use Rattle.rsp_syntax.specs.SourceLine.{label_of, line_size, first_fault, line_words}
use Rattle.rsp_syntax.specs.SourceText.{line_at, address_of_line, labelled, labels_before, all_labels, fault_of_line, words_of_line, fault_at, or_fault, fault_before, and_words, words_before, unless, meaning_of_lines}
use Rattle.rsp_operands.specs.Labels.{SameAddresses}
use Rattle.rsp_asm.specs.AssembleFaults.{HidesNoFault}
use Rattle.rsp_asm.proofs.SameAddresses.{first_same, same_behind, new_label}

-- ---- the next of the lines that are left

module _ (ls : List (List ℕ)) (n : ℕ) (l : List ℕ) (more : List (List ℕ)) (rest : drop n ls ≡ l ∷ more) where
  inside : n < length ls
  inside = omega (arith, ap length rest, length-drop n ls)

  next : line_at ls n ∷ drop (suc n) ls ≡ l ∷ more
  next = sym (drop-cons ls n [] inside) ∙ rest

  line_is : line_at ls n ≡ l
  line_is = let all = next in cc

  drop_next : drop (suc n) ls ≡ more
  drop_next = let all = next in cc

all_done : (ls : List (List ℕ)) (n : ℕ) → drop n ls ≡ [] → length ls ≤ n
all_done ls n e = omega (arith, ap length e, length-drop n ls)

-- ---- the first pass

module _ (origin : ℕ) (ls : List (List ℕ)) where
  -- a fault stays through so many lines more
  pub fault_stays : (k n m : ℕ) (f : AsmFault) → fault_before origin ls n ≡ Some f → n + k ≡ m → fault_before origin ls m ≡ Some f
  fault_stays zero n m f e is = let same : n ≡ m = omega (arith, is) in subst (λ i. fault_before origin ls i ≡ Some f) same e
  fault_stays (suc k) n m f e is = fault_stays k (suc n) m f (ap (λ o. or_fault o (suc n) (fault_of_line origin ls n)) e) (omega (arith, is))

  address_grows : (k n m : ℕ) → n + k ≡ m → address_of_line origin ls n ≤ address_of_line origin ls m
  address_grows zero n m is = let same : n ≡ m = omega (arith, is) in subst (λ i. address_of_line origin ls n ≤ address_of_line origin ls i) same (omega arith)
  address_grows (suc k) n m is = let more = address_grows k (suc n) m (omega (arith, is)) in omega (arith, more)

  pub fault_means : (f : AsmFault) → fault_before origin ls (length ls) ≡ Some f → meaning_of_lines ls origin ≡ Err f
  fault_means f e = ap (λ o. unless o (words_before (all_labels origin ls) origin ls (length ls))) e

-- the first pass has done the first lines of a text, and these are left
pub record Done (origin number : ℕ) (ls left : List (List ℕ)) (labels : Labels) (address : ℕ) : Type 0 where
  pub rest : drop number ls ≡ left
  pub few : number ≤ length ls
  pub clean : fault_before origin ls number ≡ None
  pub labels_are : SameAddresses labels (labels_before origin ls number)
  pub address_is : address ≡ address_of_line origin ls number

module _ (origin number : ℕ) (ls : List (List ℕ)) (l : List ℕ) (more : List (List ℕ)) (labels : Labels) (address : ℕ) (d : Done origin number ls (l ∷ more) labels address) where
  found : fault_of_line origin ls number ≡ first_fault labels address l
  found =
      ap (first_fault (labels_before origin ls number) (address_of_line origin ls number)) (line_is ls number l more d.rest)
      ∙ ap (λ p. first_fault (labels_before origin ls number) p l) (sym d.address_is)
      ∙ sym (first_same labels (labels_before origin ls number) d.labels_are address l)

  with_line : fault_before origin ls (suc number) ≡ or_fault None (suc number) (first_fault labels address l)
  with_line = ap (λ o. or_fault o (suc number) (fault_of_line origin ls number)) d.clean ∙ ap (or_fault None (suc number)) found

  clean_more : first_fault labels address l ≡ None → fault_before origin ls (suc number) ≡ None
  clean_more e = with_line ∙ ap (or_fault None (suc number)) e

  pub done_more : (labels' : Labels) (address' : ℕ) → first_fault labels address l ≡ None → SameAddresses labels' (labelled (label_of l) address ++ labels) → address' ≡ address + 4 * line_size l → Done origin (number + 1) ls more labels' address'
  done_more labels' address' e labels_is at =
      let here = line_is ls number l more d.rest in
      rw (add-one) (record {
        rest = drop_next ls number l more d.rest;
        few = inside ls number l more d.rest;
        clean = clean_more e;
        labels_are =
            subst (λ t. SameAddresses labels' (labels_before origin ls number ++ t)) (ap (labelled (label_of l)) d.address_is ∙ ap (λ x. labelled (label_of x) (address_of_line origin ls number)) (sym here))
            (same_behind (label_of l) address labels' labels (labels_before origin ls number) (new_label (labels_before origin ls number) address l (sym (first_same labels (labels_before origin ls number) d.labels_are address l) ∙ e)) labels_is d.labels_are);
        address_is = at ∙ ap (λ p. p + 4 * line_size l) d.address_is ∙ ap (λ x. address_of_line origin ls number + 4 * line_size x) (sym here);
      })

  pub done_fault : (kind : AsmFaultKind) → first_fault labels address l ≡ Some kind → fault_before origin ls (length ls) ≡ Some (fault_at (number + 1) kind)
  done_fault kind e =
      let lt = inside ls number l more d.rest in
      rw (add-one) (fault_stays origin ls (length ls - suc number) (suc number) (length ls) (fault_at (suc number) kind) (with_line ∙ ap (or_fault None (suc number)) e) (omega (arith, lt)))

  -- a line with a label, for which there was no memory
  pub done_short : first_fault labels address l ≡ None → is_some (label_of l) ≡ true → HidesNoFault origin ls (number + 1)
  done_short e has =
      let lt = inside ls number l more d.rest in
      record {
        positive = omega arith;
        inside = omega arith;
        labelled = ap (λ n. is_some (label_of (line_at ls n))) (let same : number + 1 - 1 ≡ number = omega arith in same) ∙ ap (λ x. is_some (label_of x)) (line_is ls number l more d.rest) ∙ has;
        clean = rw (add-one) (clean_more e);
      }

pub done_all : (origin number : ℕ) (ls : List (List ℕ)) (labels : Labels) (address : ℕ) → Done origin number ls [] labels address → number ≡ length ls
done_all origin number ls labels address d = omega (arith, all_done ls number d.rest, d.few)

pub on_ok : {T E : Type 0} (r : Result T E) (P : Type 0) → is_err r ≡ false → OnOk r P → P
on_ok (Ok x) P e h = h
on_ok (Err x) P e h = absurd cc

pub on_err : {T E : Type 0} (r : Result T E) (P : Type 0) → is_err r ≡ true → OnErr r P → P
on_err (Ok x) P e h = absurd cc
on_err (Err x) P e h = h

-- ---- the second pass

-- a fault stays through so many lines more
words_stay : (labels : Labels) (origin : ℕ) (ls : List (List ℕ)) (k n m : ℕ) (f : AsmFault) → words_before labels origin ls n ≡ Err f → n + k ≡ m → words_before labels origin ls m ≡ Err f
words_stay labels origin ls zero n m f e is = let same : n ≡ m = omega (arith, is) in subst (λ i. words_before labels origin ls i ≡ Err f) same e
words_stay labels origin ls (suc k) n m f e is = words_stay labels origin ls k (suc n) m f (ap (λ o. and_words o (suc n) (words_of_line labels origin ls n)) e) (omega (arith, is))

-- the second pass has done the first lines of a text, and these are left
pub record Written (origin number : ℕ) (ls left : List (List ℕ)) (labels : Labels) (count : ℕ) (words : List ℕ) : Type 0 where
  pub rest : drop number ls ≡ left
  pub few : number ≤ length ls
  pub address_is : origin + 4 * count ≡ address_of_line origin ls number
  pub words_are : words_before labels origin ls number ≡ Ok words

module _ (origin number : ℕ) (ls : List (List ℕ)) (l : List ℕ) (more : List (List ℕ)) (labels : Labels) (count : ℕ) (words : List ℕ) (d : Written origin number ls (l ∷ more) labels count words) where
  size_is : address_of_line origin ls (suc number) ≡ origin + 4 * count + 4 * line_size l
  size_is = ap (λ x. address_of_line origin ls number + 4 * line_size x) (line_is ls number l more d.rest) ∙ ap (λ p. p + 4 * line_size l) (sym d.address_is)

  pub written_room : origin + 4 * count + 4 * line_size l ≤ address_of_line origin ls (length ls)
  written_room =
      let lt = inside ls number l more d.rest in
      let grows = address_grows origin ls (length ls - suc number) (suc number) (length ls) (omega (arith, lt)) in
      let size = size_is in
      omega (arith, grows, size)

  with_words : (address : ℕ) → address ≡ origin + 4 * count → words_before labels origin ls (suc number) ≡ and_words (Ok words) (suc number) (line_words labels address l)
  with_words address at =
      ap (λ o. and_words o (suc number) (words_of_line labels origin ls number)) d.words_are
      ∙ ap (λ x. and_words (Ok words) (suc number) (line_words labels (address_of_line origin ls number) x)) (line_is ls number l more d.rest)
      ∙ ap (λ p. and_words (Ok words) (suc number) (line_words labels p l)) (sym (at ∙ d.address_is))

  pub written_more : (address count' : ℕ) (vs words' : List ℕ) → address ≡ origin + 4 * count → line_words labels address l ≡ Ok vs → count' ≡ count + line_size l → words' ≡ words ++ vs → Written origin (number + 1) ls more labels count' words'
  written_more address count' vs words' at e count_is words_is =
      let size = size_is in
      rw (add-one) (record {
        rest = drop_next ls number l more d.rest;
        few = inside ls number l more d.rest;
        address_is = omega (arith, size, count_is);
        words_are = with_words address at ∙ ap (and_words (Ok words) (suc number)) e ∙ ap Ok (sym words_is);
      })

  pub written_fault : (address : ℕ) (kind : AsmFaultKind) → address ≡ origin + 4 * count → line_words labels address l ≡ Err kind → words_before labels origin ls (length ls) ≡ Err (fault_at (number + 1) kind)
  written_fault address kind at e =
      let lt = inside ls number l more d.rest in
      rw (add-one) (words_stay labels origin ls (length ls - suc number) (suc number) (length ls) (fault_at (suc number) kind) (with_words address at ∙ ap (and_words (Ok words) (suc number)) e) (omega (arith, lt)))

module _ (origin number : ℕ) (ls : List (List ℕ)) (labels : Labels) (count : ℕ) (words : List ℕ) (d : Written origin number ls [] labels count words) where
  whole : number ≡ length ls
  whole = omega (arith, all_done ls number d.rest, d.few)

  pub written_all : words_before labels origin ls (length ls) ≡ Ok words
  written_all = ap (words_before labels origin ls) (sym whole) ∙ d.words_are

  pub written_address : origin + 4 * count ≡ address_of_line origin ls (length ls)
  written_address = d.address_is ∙ ap (address_of_line origin ls) whole
