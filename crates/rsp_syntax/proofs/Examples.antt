-- Worked texts: what the definitions say of them, by computation.
use Rattle.std.proofs.Common.{◌≡◌, refl, [], ◌∷◌}
use Rattle.std.specs.Prelude.{Ok, Err, codes}
use Rattle.rsp_syntax.specs.declared.fault.AsmFaultKind.TheVariants.{LabelMissing, UnknownName, BadOperand, OutOfRange, BadLine, LabelTwice}
use Rattle.rsp_syntax.specs.SourceLine.{label_of, line_size, first_fault, line_words}
use Rattle.rsp_syntax.specs.Statement.{row_named}
use Rattle.rsp_syntax.specs.SourceText.{meaning_of_lines, fault_at}

counting : meaning_of_lines (codes "loop: addiu $1, $1, 1" ∷ codes "bne $1, $2, loop" ∷ codes " nop # done" ∷ codes "break" ∷ []) 0 ≡ Ok (0x24210001 ∷ 0x1422fffe ∷ 0x00000000 ∷ 0x0000000d ∷ [])
unfolding first_fault label_of line_size line_words row_named
counting = refl

missing : meaning_of_lines (codes "loop: addiu $1, $1, 1" ∷ codes "bne $1, $2, lop" ∷ []) 0 ≡ Err (fault_at 2 LabelMissing)
unfolding first_fault label_of line_size line_words row_named
missing = refl

unknown : meaning_of_lines (codes "foo" ∷ []) 0 ≡ Err (fault_at 1 UnknownName)
unfolding first_fault label_of line_size line_words row_named
unknown = refl

too_big : meaning_of_lines (codes "addi $1, $0, 70000" ∷ []) 0 ≡ Err (fault_at 1 OutOfRange)
unfolding first_fault label_of line_size line_words row_named
too_big = refl

no_multiple : meaning_of_lines (codes "lqv $v1, 8($1)" ∷ []) 0 ≡ Err (fault_at 1 OutOfRange)
unfolding first_fault label_of line_size line_words row_named
no_multiple = refl

no_element : meaning_of_lines (codes "vadd $v1, $v2, $v3[8]" ∷ []) 0 ≡ Err (fault_at 1 BadOperand)
unfolding first_fault label_of line_size line_words row_named
no_element = refl

bad_line : meaning_of_lines (codes "1x: nop" ∷ []) 0 ≡ Err (fault_at 1 BadLine)
unfolding first_fault label_of line_size line_words row_named
bad_line = refl

twice : meaning_of_lines (codes "x: nop" ∷ codes "x: nop" ∷ []) 0 ≡ Err (fault_at 2 LabelTwice)
unfolding first_fault label_of line_size line_words row_named
twice = refl

canonical : meaning_of_lines (codes "vadd $v1, $v2, $v3[2h]" ∷ codes "vrcp $v1[3], $v2[5]" ∷ codes "lqv $v4[0], 16($1)" ∷ codes "sdv $v4[8], -8($2)" ∷ codes "mfc0 $1, $c4" ∷ codes "mfc2 $1, $v2[4]" ∷ []) 0 ≡ Ok (0x4ac31050 ∷ 0x4ba21870 ∷ 0xc8242001 ∷ 0xe8441c7f ∷ 0x40012000 ∷ 0x48011200 ∷ [])
unfolding first_fault label_of line_size line_words row_named
canonical = refl

places : meaning_of_lines (codes "x: .word x, x+4, -1" ∷ codes "j x" ∷ codes "nop" ∷ []) 8 ≡ Ok (0x00000008 ∷ 0x0000000c ∷ 0xffffffff ∷ 0x08000002 ∷ 0x00000000 ∷ [])
unfolding first_fault label_of line_size line_words row_named
places = refl

first_pass_first : meaning_of_lines (codes "j a" ∷ codes "foo" ∷ []) 0 ≡ Err (fault_at 2 UnknownName)
unfolding first_fault label_of line_size line_words row_named
first_pass_first = refl

links : meaning_of_lines (codes "jalr $1" ∷ codes "JALR $2, $1" ∷ codes "jr $ra" ∷ []) 0 ≡ Ok (0x0020f809 ∷ 0x00201009 ∷ 0x03e00008 ∷ [])
unfolding first_fault label_of line_size line_words row_named
links = refl

spaces : meaning_of_lines (codes "x:\tsw $t0,4 ( $sp )" ∷ []) 0 ≡ Err (fault_at 1 BadOperand)
unfolding first_fault label_of line_size line_words row_named
spaces = refl

bases : meaning_of_lines (codes "sw $t0, ($sp)" ∷ codes "SLL $1, $2, 31" ∷ codes "vmov $v1[7], $v2[V]" ∷ codes "ctc2 $1, $VCC" ∷ codes "lfv $v1[8], -1024($0)" ∷ []) 0 ≡ Ok (0xafa80000 ∷ 0x00020fc0 ∷ 0x4a223873 ∷ 0x48c10800 ∷ 0xc8014c40 ∷ [])
unfolding first_fault label_of line_size line_words row_named
bases = refl
