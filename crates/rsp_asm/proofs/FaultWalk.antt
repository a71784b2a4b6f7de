-- The faults of the lines that are left of a text.
use Rattle.std.proofs.Common.{◌≡◌, refl, sym, ap, ◌∙◌, subst, ℕ, zero, suc, ◌+◌, ◌*◌, ◌<◌, ◌≤◌, List, [], ◌∷◌, ◌++◌, length, take, append_assoc, Bool, true, false, arith}
use Rattle.std.specs.Prelude.{Option, Some, None, is_some, if◌then◌else◌, slice_get, ◌||◌}
use Rattle.std.specs.List.{list_any}
use Rattle.std.specs.Str.{bytes_eq}
use Rattle.std.proofs.lemmas.List.{append-nil, take_all, take_at, length-append}
use Rattle.rsp_syntax.specs.declared.fault.AsmFault.{AsmFault}
use Rattle.rsp_syntax.specs.declared.fault.AsmFaultKind.{AsmFaultKind}
use Rattle.rsp_syntax.specs.Statement.{Labels, find_label}
use Rattle.rsp_syntax.specs.SourceLine.{first_fault, label_of, line_size, is_label_taken}
use Rattle.rsp_syntax.specs.SourceText.{fault_at, fault_before, labelled}
use Rattle.rsp_operands.specs.Labels.{SameAddresses}
use Rattle.rsp_asm.specs.TextFaults.{is_past_end, counted, labels_after, address_after, reported, faults_from, all_faults, FirstFaultEnds}
use Rattle.rsp_asm.proofs.Passes.{Done, done_more, done_fault, done_all}
use Rattle.rsp_asm.proofs.SameAddresses.{first_same, twice_same, new_label}

-- ---- labels with the same addresses give the same faults

labels_same : (xs ys : Labels) → SameAddresses xs ys → (address : ℕ) (line : List ℕ) → SameAddresses (labels_after xs address line) (labels_after ys address line)
labels_same xs ys same address line q = go (is_label_taken xs (label_of line)) (is_label_taken ys (label_of line)) (label_of line) (twice_same xs ys same (label_of line))
  where
    with_label : (o : Option (List ℕ)) → SameAddresses (labelled o address ++ xs) (labelled o address ++ ys)
    with_label None q = same q
    with_label (Some name) q = ap (λ (f : Option ℕ). if bytes_eq name q then Some address else f) (same q)

    go : (a b : Bool) (o : Option (List ℕ)) → a ≡ b → find_label (if a then xs else labelled o address ++ xs) q ≡ find_label (if b then ys else labelled o address ++ ys) q
    go true true o e = same q
    go false false o e = with_label o q
    go true false o e = absurd cc
    go false true o e = absurd cc

pub faults_same : (xs ys : Labels) (address : ℕ) (is_full : Bool) (number : ℕ) (ls : List (List ℕ)) → SameAddresses xs ys → faults_from xs address is_full number ls ≡ faults_from ys address is_full number ls
faults_same xs ys address is_full number [] same = refl
faults_same xs ys address is_full number (line ∷ ls) same =
    ap (λ (f : Option AsmFaultKind). reported number (counted is_full f) ++ faults_from (labels_after xs address line) (address_after f address line) (is_full || is_past_end f) (number + 1) ls) (first_same xs ys same address line)
    ∙ (let f = first_fault ys address line in
    ap (λ (fs : List AsmFault). reported number (counted is_full f) ++ fs) (faults_same (labels_after xs address line) (labels_after ys address line) (address_after f address line) (is_full || is_past_end f) (number + 1) ls (labels_same xs ys same address line)))

-- ---- the first fault is the one that the first pass ends with

first_from : (origin number : ℕ) (ls left : List (List ℕ)) (labels : Labels) (address : ℕ) → Done origin number ls left labels address → slice_get (faults_from labels address false (number + 1) left) 0 ≡ fault_before origin ls (length ls)
first_from origin number ls [] labels address d = sym (ap (fault_before origin ls) (sym (done_all origin number ls labels address d)) ∙ d.clean)
first_from origin number ls (line ∷ more) labels address d =
    go (first_fault labels address line) refl (λ e. first_from origin (number + 1) ls more (labels_after labels address line) (address + 4 * line_size line)
    (done_more origin number ls line more labels address d (labels_after labels address line) (address + 4 * line_size line) e
    (λ q. ap (λ (b : Bool). find_label (if b then labels else labelled (label_of line) address ++ labels) q) (new_label labels address line e)) refl))
  where
    go : (found : Option AsmFaultKind) → first_fault labels address line ≡ found
        → (first_fault labels address line ≡ None → slice_get (faults_from (labels_after labels address line) (address + 4 * line_size line) false (number + 1 + 1) more) 0 ≡ fault_before origin ls (length ls))
        → slice_get (reported (number + 1) (counted false found) ++ faults_from (labels_after labels address line) (address_after found address line) (false || is_past_end found) (number + 1 + 1) more) 0 ≡ fault_before origin ls (length ls)
    go None e next = next e
    go (Some kind) e next = sym (done_fault origin number ls line more labels address d kind e)

pub first_fault_ends : FirstFaultEnds
first_fault_ends origin ls = first_from origin 0 ls ls [] origin (record { rest = refl; few = omega arith; clean = refl; labels_are = λ q. refl; address_is = refl })

-- ---- the lines of a text one after another

abbrev has_label : List ℕ → Bool
has_label line = is_some (label_of line)

-- so many faults were found in the lines before those that are left
pub record Found (origin number : ℕ) (ls left : List (List ℕ)) (labels : Labels) (address : ℕ) (is_full : Bool) (first : List AsmFault) (count : ℕ) : Type 0 where
  pub first_are : take 20 (all_faults origin ls) ≡ take 20 (first ++ faults_from labels address is_full (number + 1) left)
  pub count_is : length (all_faults origin ls) ≡ count + length (faults_from labels address is_full (number + 1) left)
  pub few : length first ≤ 20
  pub with_label : list_any (λ line. is_some (label_of line)) left ≡ true → list_any (λ line. is_some (label_of line)) ls ≡ true

take_front : (n : ℕ) (xs ys : List AsmFault) → take n (take n xs ++ ys) ≡ take n (xs ++ ys)
take_front zero xs ys = refl
take_front (suc n) [] ys = refl
take_front (suc n) (x ∷ xs) ys = ap (λ t. x ∷ t) (take_front n xs ys)

take_few : (n : ℕ) (xs : List AsmFault) → length (take n xs) ≤ n
take_few zero xs = omega arith
take_few (suc n) [] = omega arith
take_few (suc n) (x ∷ xs) = let rest = take_few n xs in omega (arith, rest)

-- a list with room for one more fault, and one without
pub one_more : (first : List AsmFault) (number : ℕ) (kind : AsmFaultKind) → length first < 20 → first ++ fault_at number kind ∷ [] ≡ take 20 (first ++ reported number (Some kind))
one_more first number kind h = let both = length-append first (fault_at number kind ∷ []) in sym (take_all 20 (first ++ fault_at number kind ∷ []) (omega (arith, both, h)))

pub none_more : (first others : List AsmFault) → length first ≤ 20 → 20 ≤ length first → first ≡ take 20 (first ++ others)
none_more first others low high = sym (take_at first others 20 (omega (arith, low, high)))

pub none_found : (origin : ℕ) (ls : List (List ℕ)) → Found origin 0 ls ls [] origin false [] 0
none_found origin ls = record { first_are = refl; count_is = omega arith; few = omega arith; with_label = λ h. h }

module _ (origin number : ℕ) (ls : List (List ℕ)) (line : List ℕ) (more : List (List ℕ)) (labels : Labels) (address : ℕ) (is_full : Bool) (first : List AsmFault) (count : ℕ) (f : Found origin number ls (line ∷ more) labels address is_full first count) where
  abbrev here : Option AsmFaultKind
  here = first_fault labels address line

  abbrev later : List AsmFault
  later = faults_from (labels_after labels address line) (address_after here address line) (is_full || is_past_end here) (number + 1 + 1) more

  pub found_more : (labels' : Labels) (address' : ℕ) (is_full' : Bool) (first' : List AsmFault) (count' : ℕ) (found : Option AsmFaultKind)
      → found ≡ counted is_full here → SameAddresses labels' (labels_after labels address line) → address' ≡ address_after here address line → is_full' ≡ (is_full || is_past_end here)
      → first' ≡ take 20 (first ++ reported (number + 1) found) → count' ≡ count + length (reported (number + 1) found)
      → Found origin (number + 1) ls more labels' address' is_full' first' count'
  found_more labels' address' is_full' first' count' found found_is labels_are address_is full_is first_is count_is =
      let now = reported (number + 1) (counted is_full here) in
      let rest : faults_from labels' address' is_full' (number + 1 + 1) more ≡ later =
      faults_same labels' (labels_after labels address line) address' is_full' (number + 1 + 1) more labels_are
      ∙ ap (λ a. faults_from (labels_after labels address line) a is_full' (number + 1 + 1) more) address_is
      ∙ ap (λ b. faults_from (labels_after labels address line) (address_after here address line) b (number + 1 + 1) more) full_is in
      let first_now : first' ≡ take 20 (first ++ now) = first_is ∙ ap (λ k. take 20 (first ++ reported (number + 1) k)) found_is in
      let count_now : count' ≡ count + length now = count_is ∙ ap (λ k. count + length (reported (number + 1) k)) found_is in
      let rest_count = ap length rest in
      let all_count = f.count_is in
      let both = length-append now later in
      record {
        first_are =
            f.first_are
            ∙ ap (take 20) (sym (append_assoc first now later))
            ∙ sym (take_front 20 (first ++ now) later)
            ∙ ap (λ (xs : List AsmFault). take 20 (xs ++ later)) (sym first_now)
            ∙ ap (λ (xs : List AsmFault). take 20 (first' ++ xs)) (sym rest);
        count_is = omega (arith, rest_count, all_count, both, count_now);
        few = subst (λ (xs : List AsmFault). length xs ≤ 20) (sym first_now) (take_few 20 (first ++ now));
        with_label = λ h. f.with_label (later_label (has_label line) h);
      }
    where
      later_label : (b : Bool) → list_any has_label more ≡ true → (b || list_any has_label more) ≡ true
      later_label true h = refl
      later_label false h = h

  -- there was no memory for the label of the line
  pub label_there : is_some (label_of line) ≡ true → list_any (λ line. is_some (label_of line)) ls ≡ true
  label_there h = f.with_label (ap (λ (b : Bool). b || list_any has_label more) h)

  -- there was none for its fault
  pub fault_there : is_some (counted is_full here) ≡ true → 0 < length (all_faults origin ls)
  fault_there h =
      let now = reported (number + 1) (counted is_full here) in
      let both = length-append now later in
      let all_count = f.count_is in
      let one = some (counted is_full here) h in
      omega (arith, both, all_count, one)
    where
      some : (o : Option AsmFaultKind) → is_some o ≡ true → 0 < length (reported (number + 1) o)
      some None e = absurd cc
      some (Some kind) e = omega arith

  pub at_most : (found : Option AsmFaultKind) (count' : ℕ) → count ≤ number → count' ≡ count + length (reported (number + 1) found) → count' ≤ number + 1
  at_most None count' h e = omega (arith, h, e)
  at_most (Some kind) count' h e = omega (arith, h, e)

-- at the end of the text
module _ (origin number : ℕ) (ls : List (List ℕ)) (labels : Labels) (address : ℕ) (is_full : Bool) (first : List AsmFault) (count : ℕ) (f : Found origin number ls [] labels address is_full first count) where
  pub first_found : first ≡ take 20 (all_faults origin ls)
  first_found = sym (f.first_are ∙ ap (take 20) (append-nil first) ∙ take_all 20 first f.few)

  pub count_found : count ≡ length (all_faults origin ls)
  count_found = let all_count = f.count_is in omega (arith, all_count)
