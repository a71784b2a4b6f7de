use Rattle.std.proofs.Common.{◌≡◌, ◌∙◌, ap, ◌*◌, ◌-◌, ◌/◌, ◌%◌, ◌^◌, bit_and, arith, one-mul}
use Rattle.std.proofs.lemmas.Nat.{and_mask, shl_whole}
use Rattle.rsp_decode.proofs.bit_fields.bits.Goals as goal

pub returns-clause-value : goal.returns-clause-value
returns-clause-value c =
    let one_bit : 1 * 2 ^ c.args.width % 2 ^ 32 ≡ 2 ^ c.args.width = shl_whole 1 1 c.args.width 32 (omega arith) (omega arith) ∙ one-mul _ in
    ap (λ n. bit_and (c.args.word / 2 ^ c.args.low) (n - 1)) one_bit ∙ and_mask _ _
