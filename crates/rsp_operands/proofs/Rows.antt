-- The numbers of each operand in a list.
use Rattle.std.proofs.Common.{◌≡◌, ℕ, zero, suc, ◌<◌, List, [], ◌∷◌, length, get_or, true, arith}
use Rattle.std.specs.List.{list_all}
use Rattle.std.proofs.lemmas.Bool.{and_parts}
use Rattle.rsp_decode.specs.Table.{Operand, is_row_operand}

pub operand_fits : (kinds : List Operand) (i : ℕ) (d : Operand) → i < length kinds → list_all is_row_operand kinds ≡ true → is_row_operand (get_or kinds i d) ≡ true
operand_fits [] i d lt all = absurd (omega arith)
operand_fits (k ∷ ks) zero d lt all = (and_parts (is_row_operand k) (list_all is_row_operand ks) all).0
operand_fits (k ∷ ks) (suc i) d lt all = operand_fits ks i d (omega arith) (and_parts (is_row_operand k) (list_all is_row_operand ks) all).1
