-- The transform.
use Rattle.std.proofs.Common.{◌≡◌, ℕ, ◌+◌, ◌-◌, ◌*◌, ◌%◌, ◌<◌, ℤ, pos, ◌+ℤ◌, ◌*ℤ◌, List, [], ◌∷◌, length, get_or, map, Some, refl, ap, ◌∙◌, arith}
use Rattle.std.proofs.Math.IntN.{+ℤ_idl}
use Rattle.rsp_numbers.specs.Numbers.{s16, s48}
use Rattle.rsp_decode.specs.declared.vector.VectorMultiplyOp.TheVariants.{Vmudn, Vmadn, Vmadh}
use Rattle.rsp_decode.specs.Table.Words.{inst_of, row_of}
use Rattle.rsp_memory.specs.Memory.{byte_at}
use Rattle.rsp_lanes.proofs.Kit.{length_each}
use Rattle.rsp_multiply.specs.Laws.{SumsOfProducts}
use Rattle.rsp_scalar.specs.Registers.{register}
use Rattle.rsp_loadstore.specs.File.{IsFile, vector, with_vector}
use Rattle.rsp_machine.specs.State.{State}
use Rattle.rsp_microcode.specs.Lanes.{lanes_at, with_lanes}
use Rattle.rsp_microcode.specs.Reads.{after_writes}
use Rattle.rsp_microcode.specs.Loads.{WholeLoad, load, loaded, AreAllAligned}
use Rattle.rsp_microcode.specs.Multiplies.{Term, term, sum_writes}
use Rattle.rsp_microcode.specs.Pieces.{Piece, takes, sums, puts, code_of}
use Rattle.rsp_microcode.specs.Fixed.{fixed, limited, plus_times}
use Rattle.rsp_routines.specs.Transform.{TransformsVectors}
use Rattle.rsp_microcode.proofs.Registers.{vector_reads}
use Rattle.rsp_microcode.proofs.Bytes.{has_bytes, lanes_read, lanes_ring, lanes_elsewhere, outside_read, length-with_lanes}
use Rattle.rsp_microcode.proofs.LoadRuns.{loads_run}
use Rattle.rsp_microcode.proofs.Pieces.{pieces_run}
use Rattle.rsp_microcode.proofs.Fixed.{fixed_sum, fixed_times}

abbrev loads : List WholeLoad
loads = load 1 0 1 ∷ load 2 1 1 ∷ load 3 2 1 ∷ load 4 3 1 ∷ load 5 4 1 ∷ load 6 5 1 ∷ load 7 6 1 ∷ load 8 7 1 ∷ load 9 0 2 ∷ []

abbrev terms : List Term
terms =
    term Vmudn 11 5 9 4 ∷ term Vmadh 10 1 9 4 ∷ term Vmadn 11 6 9 5 ∷ term Vmadh 10 2 9 5
    ∷ term Vmadn 11 7 9 6 ∷ term Vmadh 10 3 9 6 ∷ term Vmadn 11 8 9 7 ∷ term Vmadh 10 4 9 7 ∷ term Vmadn 11 0 0 0 ∷ []

abbrev pieces : List Piece
pieces = takes loads ∷ sums terms ∷ puts 10 0 3 ∷ puts 11 1 3 ∷ []

abbrev words : List ℕ
words =
    0xc8212000 ∷ 0xc8222001 ∷ 0xc8232002 ∷ 0xc8242003 ∷ 0xc8252004 ∷ 0xc8262005 ∷ 0xc8272006 ∷ 0xc8282007 ∷ 0xc8492000 ∷ 0x4a892ac6 ∷
    0x4a890a8f ∷ 0x4aa932ce ∷ 0x4aa9128f ∷ 0x4ac93ace ∷ 0x4ac91a8f ∷ 0x4ae942ce ∷ 0x4ae9228f ∷ 0x4a0002ce ∷ 0xe86a2000 ∷ 0xe86b2001 ∷ []

decoded : map inst_of words ≡ map Some (code_of pieces)
unfolding inst_of row_of
decoded = refl

-- a product, by the registers after the loads, and the sum as the multiplies make it
abbrev part : List (List ℕ) → ℕ → ℕ → ℤ
part f k i = fixed (vector f (1 + k)) (vector f (5 + k)) i *ℤ s16 (get_or (vector f 9) (i - i % 4 + k) 0)

abbrev so_far : List (List ℕ) → ℕ → ℤ
so_far f i =
    let one = plus_times (pos 0) (vector f 1) (vector f 5) (vector f 9) 4 i in
    let two = plus_times one (vector f 2) (vector f 6) (vector f 9) 5 i in
    let three = plus_times two (vector f 3) (vector f 7) (vector f 9) 6 i in
    plus_times three (vector f 4) (vector f 8) (vector f 9) 7 i

whole_sum : (f : List (List ℕ)) (i : ℕ) → IsFile f → i < 8 → so_far f i ≡ ((part f 0 i +ℤ part f 1 i) +ℤ part f 2 i) +ℤ part f 3 i
whole_sum f i is h =
    let v = is.registers in
    fixed_times _ _ _ (vector f 9) 7 i (v 4 (omega arith)) (v 8 (omega arith)) h
    ∙ ap (λ z. z +ℤ part f 3 i) (fixed_times _ _ _ (vector f 9) 6 i (v 3 (omega arith)) (v 7 (omega arith)) h
    ∙ ap (λ z. z +ℤ part f 2 i) (fixed_times _ _ _ (vector f 9) 5 i (v 2 (omega arith)) (v 6 (omega arith)) h
    ∙ ap (λ z. z +ℤ part f 1 i) (fixed_times (pos 0) _ _ (vector f 9) 4 i (v 1 (omega arith)) (v 5 (omega arith)) h ∙ +ℤ_idl _)))

pub transforms : SumsOfProducts → TransformsVectors words
transforms law s is at zero (a1, a2, a3) =
    let c = register s.registers 3 in
    let aligned : AreAllAligned loads s.registers = (a1, (a1, (a1, (a1, (a1, (a1, (a1, (a1, (a2, tt))))))))) in
    let end = pieces_run law words pieces decoded refl s is at (aligned, (a3, (a3, tt))) in
    let f = after_writes with_vector (loaded loads s.dmem s.registers) s.vectors in
    let is_f = (loads_run loads s is.vectors (has_bytes s.dmem is.dmem) at.next refl aligned).1 in
    let read = λ (n : ℕ). vector_reads (loaded loads s.dmem s.registers) s.vectors n is.vectors.count refl in
    let result = after_writes with_vector (sum_writes terms f) f in
    let high = vector result 10 in
    let low = vector result 11 in
    let is_high = vector_reads (sum_writes terms f) f 10 is_f.count refl in
    let is_low = vector_reads (sum_writes terms f) f 11 is_f.count refl in
    let eight_high : length high ≡ 8 = ap length is_high ∙ length_each _ in
    let eight_low : length low ≡ 8 = ap length is_low ∙ length_each _ in
    let one = with_lanes s.dmem (c + 16 * 0) high in
    let two = with_lanes one (c + 16 * 1) low in
    let memory = ap (λ (t : State). t.dmem) end.ran in
    let first : lanes_at two c ≡ high =
    lanes_elsewhere one low (c + 16 * 1) c eight_low (omega arith) a3 (omega arith)
    ∙ lanes_ring one c (c + 16 * 0) (omega arith) ∙ lanes_read s.dmem high (c + 16 * 0) is.dmem.count eight_high in
    let second : lanes_at two (c + 16) ≡ low = lanes_read one low (c + 16 * 1) (length-with_lanes s.dmem high (c + 16 * 0) ∙ is.dmem.count) eight_low in
    let x9 : vector f 9 ≡ lanes_at s.dmem (register s.registers 2) = read 9 ∙ ap (lanes_at s.dmem) (omega arith) in
    record {
      product = λ i h.
          ap (λ m. fixed (lanes_at m c) (lanes_at m (c + 16)) i) memory ∙ rw (first, second) (fixed_sum (so_far f) (vector f 0) high low (read 0 ∙ zero) is_high is_low i h)
          ∙ ap (λ z. limited (s48 z)) (whole_sum f i is_f h ∙ rw (read 1, read 2, read 3, read 4, read 5, read 6, read 7, read 8, x9) refl);
      outside = λ x h.
          ap (λ m. byte_at m x) memory
          ∙ outside_read one (c + 16 * 1) x low eight_low (omega arith) ∙ outside_read s.dmem (c + 16 * 0) x high eight_high (omega arith);
      others = end.others [] (1 ∷ 2 ∷ 3 ∷ 4 ∷ 5 ∷ 6 ∷ 7 ∷ 8 ∷ 9 ∷ 10 ∷ 11 ∷ []) refl;
    }
