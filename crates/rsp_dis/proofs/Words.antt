-- The spelling of a word gives the word.
use Rattle.std.proofs.Common.{◌≡◌, refl, sym, ap, ◌∙◌, subst, ℕ, ◌+◌, ◌*◌, ◌%◌, ◌<◌, ◌≤◌, List, [], ◌∷◌, ◌++◌, length, true, false, ◌&&◌, ◌||◌, arith, inl, inr, pos}
use Rattle.std.specs.Prelude.{Option, Some, None, ◌==◌, nat_lt, map, flat_map, option_map, option_and_then, Ok, codes}
use Rattle.std.specs.List.{list_all, list_any}
use Rattle.std.proofs.lemmas.Bool.{and_parts, cases_Bool, cond-true, cond-false, eqb-true, le-ltb, leb-true}
use Rattle.std.proofs.lemmas.List.{map-append, length-map}
use Rattle.rsp_decode.specs.Table.{Operand, Row, row_of, bit_fields, value_at, fields, word_from, is_row_operand}
use Rattle.rsp_syntax.specs.declared.fault.AsmFaultKind.TheVariants.{OutOfRange, PastEnd}
use Rattle.rsp_syntax.specs.declared.operand_range.OperandRange.TheVariants.{Word}
use Rattle.rsp_syntax.specs.Chars.{is_line_byte}
use Rattle.rsp_syntax.specs.Numbers.{constant}
use Rattle.rsp_syntax.specs.SourceLine.{split_line, label_in, label_of, statement_size, parts_size, line_size, has_bad_number, statement_fault, parts_fault, first_fault, statement_words, parts_words, line_words}
use Rattle.rsp_syntax.specs.Statement.{OperandValue, ranged_value, read_all, zero_expression, number_fails, append, all_fields, Statement, numbers, instruction, readings, size, one_word, words_of, statement_of, form_named, with_operands, with_form}
use Rattle.rsp_syntax.specs.Disassembly.{hex, operand_fields, operand_text, has_text, row_text, word_directive, row_disassembly, disassembly}
use Rattle.rsp_dis.proofs.Pieces.{is_piece, Piece, Pieces, piece_from}
use Rattle.rsp_dis.proofs.SpelledNumbers.{IsNumber, hex_number, word_of, number_fields, number_fits}
use Rattle.rsp_dis.proofs.Operands.{kind_spelled}
use Rattle.rsp_dis.proofs.Names.{name_piece, table_kinds, few_operands, form_back}
use Rattle.rsp_dis.proofs.Lines.{line_is_plain, parts_back, statement_back}

-- a line at an address that gives this one word
pub record Gives (line : List ℕ) (address word : ℕ) : Type 0 where
  pub no_label : label_of line ≡ None
  pub one_word : line_size line ≡ 1
  pub no_fault : first_fault [] address line ≡ None
  pub gives : line_words [] address line ≡ Ok (word ∷ [])
  pub plain : list_all is_line_byte line ≡ true

module _ (line : List ℕ) (address word : ℕ) (s : Statement) (parts : split_line line ≡ Some (record { label = None; body = line })) (said : statement_of line ≡ Ok s) (one : size s ≡ 1) where
  unlabelled : label_of line ≡ None
  unfolding label_of
  unlabelled = ap label_in parts

  sized : line_size line ≡ 1
  unfolding line_size
  sized = ap parts_size parts ∙ ap statement_size said ∙ one

  faultless : list_any (λ (r : OperandValue). number_fails address r.value) (readings s) ≡ false → address + 4 ≤ 4096 → first_fault [] address line ≡ None
  unfolding first_fault
  faultless fine room =
      ap (parts_fault [] address) parts
      ∙ ap (statement_fault address) said
      ∙ cond-false (has_bad_number address (Ok s)) (Some OutOfRange) _ fine
      ∙ cond-false (nat_lt 4096 (address + 4 * size s)) (Some PastEnd) None (le-ltb _ _ (omega arith))

  worded : words_of [] address s ≡ Ok (word ∷ []) → line_words [] address line ≡ Ok (word ∷ [])
  unfolding line_words
  worded e = ap (parts_words [] address) parts ∙ ap (statement_words [] address) said ∙ e

  statement_gives : list_any (λ (r : OperandValue). number_fails address r.value) (readings s) ≡ false → address + 4 ≤ 4096 → words_of [] address s ≡ Ok (word ∷ []) → list_all is_line_byte line ≡ true → Gives line address word
  statement_gives fine room e printed = record { no_label = unlabelled; one_word = sized; no_fault = faultless fine room; gives = worded e; plain = printed }

-- ---- nop, and .word

nop_gives : (address : ℕ) → address + 4 ≤ 4096 → Gives (codes "nop") address 0
nop_gives address room = statement_gives (codes "nop") address 0 (numbers (ranged_value Word [] zero_expression ∷ [])) refl refl refl refl room refl refl

plain_gives : (w address : ℕ) → w < 4294967296 → address + 4 ≤ 4096 → Gives (word_directive w) address w
plain_gives w address lt room =
    let t = codes "0x" ++ hex 8 w in
    let num : IsNumber (pos w) t = hex_number 8 w refl (leb-true (length (hex 8 w)) 18 refl) lt in
    let name : Piece (codes ".word") = piece_from (codes ".word") refl in
    let pieces : Pieces (t ∷ []) = ap (λ b. b && true) num.piece in
    let asked : List OperandValue = ranged_value Word [] (constant (pos w)) ∷ [] in
    let said : statement_of (word_directive w) ≡ Ok (numbers asked) =
    statement_back (codes ".word") (t ∷ []) name pieces
    ∙ ap (λ o. with_operands (option_map numbers (option_and_then (λ e. option_map (λ rs. ranged_value Word [] e ∷ rs) (Some [])) o))) num.reads in
    let found = word_of w lt in
    statement_gives (word_directive w) address w (numbers asked) (parts_back (codes ".word") (t ∷ []) name pieces (omega arith)) said refl
    (ap (λ b. b || false) (number_fits Word address (pos w) w found)) room
    (ap (λ o. append o (Ok [])) (number_fields Word address [] (pos w) w found))
    (line_is_plain (codes ".word") (t ∷ []) name pieces)

-- ---- the operands of a row

record AllSaid (address : ℕ) (o : Option (List OperandValue)) (vs : List ℕ) : Type 0 where
  said : List OperandValue
  is : o ≡ Some said
  values : all_fields [] address said ≡ Ok vs
  fine : list_any (λ (r : OperandValue). number_fails address r.value) said ≡ false

module _ (w address : ℕ) (aligned : address % 4 ≡ 0) (inside : address < 4096) where
  all_values : List Operand → List ℕ
  all_values ks = flat_map (λ k. operand_fields k w) ks

  values_are_fields : (ks : List Operand) → all_values ks ≡ map (value_at w) (flat_map bit_fields ks)
  unfolding all_values
  values_are_fields [] = refl
  values_are_fields (k ∷ ks) = ap (λ vs. operand_fields k w ++ vs) (values_are_fields ks) ∙ sym (map-append (value_at w) (bit_fields k) (flat_map bit_fields ks))

  pieces_of : (ks : List Operand) → list_all is_row_operand ks ≡ true → list_all (has_text w address) ks ≡ true → Pieces (map (operand_text w address) ks)
  pieces_of [] good near = refl
  pieces_of (k ∷ ks) good near =
      let g = and_parts (is_row_operand k) (list_all is_row_operand ks) good in
      let n = and_parts (has_text w address k) (list_all (has_text w address) ks) near in
      ap (λ b. b && list_all is_piece (map (operand_text w address) ks)) (kind_spelled address w aligned inside k g.0 n.0).piece ∙ pieces_of ks g.1 n.1

  all_said : (ks : List Operand) → list_all is_row_operand ks ≡ true → list_all (has_text w address) ks ≡ true → AllSaid address (read_all ks (map (operand_text w address) ks)) (all_values ks)
  unfolding all_values
  all_said [] good near = record { said = []; is = refl; values = refl; fine = refl }
  all_said (k ∷ ks) good near =
      let g = and_parts (is_row_operand k) (list_all is_row_operand ks) good in
      let n = and_parts (has_text w address k) (list_all (has_text w address) ks) near in
      let here = (kind_spelled address w aligned inside k g.0 n.0).said in
      let rest = all_said ks g.1 n.1 in
      record {
        said = here.reading ∷ rest.said;
        is =
            ap (option_and_then (λ (r : OperandValue). option_map (λ (rs : List OperandValue). r ∷ rs) (read_all ks (map (operand_text w address) ks)))) here.is
            ∙ ap (option_map (λ (rs : List OperandValue). here.reading ∷ rs)) rest.is;
        values = ap (λ x. append x (all_fields [] address rest.said)) here.fields ∙ ap (append (Ok (operand_fields k w))) rest.values;
        fine = ap (λ b. b || list_any (λ (r : OperandValue). number_fails address r.value) rest.said) here.fits ∙ rest.fine;
      }

  row_gives : (r : Row) → row_of w ≡ Some r → word_from r (fields r w) ≡ w → list_all (has_text w address) r.operands ≡ true → address + 4 ≤ 4096 → Gives (row_text w address r) address w
  row_gives r row own near room =
      let kinds = table_kinds w r row in
      let ts = map (operand_text w address) r.operands in
      let name : Piece r.name = piece_from r.name (name_piece w r row) in
      let pieces : Pieces ts = pieces_of r.operands kinds near in
      let count : length ts ≡ length r.operands = length-map r.operands (operand_text w address) in
      let few : length r.operands ≤ 3 = few_operands w r row in
      let all = all_said r.operands kinds near in
      let said : statement_of (row_text w address r) ≡ Ok (instruction r all.said) =
      statement_back r.name ts name pieces
      ∙ ap (λ o. with_form o ts) (ap (form_named r.name) count ∙ form_back w r row)
      ∙ ap (λ o. with_operands (option_map (instruction r) o)) all.is in
      statement_gives (row_text w address r) address w (instruction r all.said) (parts_back r.name ts name pieces (omega arith)) said refl all.fine room
      (ap (one_word r) (all.values ∙ ap Ok (values_are_fields r.operands)) ∙ ap (λ x. Ok (x ∷ [])) own)
      (line_is_plain r.name ts name pieces)

  spelled_row : (o : Option Row) → row_of w ≡ o → w < 4294967296 → address + 4 ≤ 4096 → Gives (row_disassembly w address o) address w
  spelled_row None row lt room = plain_gives w address lt room
  spelled_row (Some r) row lt room = elim (cases_Bool ((word_from r (fields r w) == w) && list_all (has_text w address) r.operands)) [
    | inl y ↦
        let both = and_parts (word_from r (fields r w) == w) (list_all (has_text w address) r.operands) y in
        subst (λ line. Gives line address w) (sym (cond-true ((word_from r (fields r w) == w) && list_all (has_text w address) r.operands) (row_text w address r) (word_directive w) y))
        (row_gives r row (eqb-true _ w both.0) both.1 room)
    | inr n ↦
        subst (λ line. Gives line address w) (sym (cond-false ((word_from r (fields r w) == w) && list_all (has_text w address) r.operands) (row_text w address r) (word_directive w) n))
        (plain_gives w address lt room)
  ]

pub spelled_gives : (w address : ℕ) → address % 4 ≡ 0 → w < 4294967296 → address + 4 ≤ 4096 → Gives (disassembly w address) address w
unfolding disassembly
spelled_gives w address aligned lt room = elim (cases_Bool (w == 0)) [
  | inl y ↦
      subst (λ line. Gives line address w) (sym (cond-true (w == 0) (codes "nop") (row_disassembly w address (row_of w)) y))
      (subst (λ n. Gives (codes "nop") address n) (sym (eqb-true w 0 y)) (nop_gives address room))
  | inr n ↦
      subst (λ line. Gives line address w) (sym (cond-false (w == 0) (codes "nop") (row_disassembly w address (row_of w)) n))
      (spelled_row w address aligned (omega arith) (row_of w) refl lt room)
]
