use Rattle.std.proofs.Common.{ap, ◌∙◌, sym, ◌∷◌, bit_or}
use Rattle.rsp_decode.specs.Table.{bit_fields, with_fields}
use Rattle.rsp_operands.specs.Fields.{optional}
use Rattle.rsp_operands.proofs.Words.{second_small, first_put}
use Rattle.rsp_operands.proofs.fields.put.Goals as goal

pub second_bits-requires : goal.second_bits-requires
second_bits-requires c = second_small c.args.kind c.args.values.first c.args.values.second c.in-Some.value c.in-Some.is c.requires.fit

pub returns-in-None : goal.returns-in-None
returns-in-None c =
    let ps = bit_fields c.args.kind in
    first_put ps c.args.word c.args.values.first c.first_low.result c.first_low.ensures.bits c.requires.fit.0
    ∙ ap (λ o. with_fields c.args.word ps (c.args.values.first ∷ optional o)) (sym c.in-None.is)

pub returns-in-Some : goal.returns-in-Some
returns-in-Some c =
    let ps = bit_fields c.args.kind in
    ap (λ w. bit_or w c.second_bits.result) (first_put ps c.args.word c.args.values.first c.first_low.result c.first_low.ensures.bits c.requires.fit.0)
    ∙ sym (c.second_bits.ensures c.args.word c.args.values.first)
    ∙ ap (λ o. with_fields c.args.word ps (c.args.values.first ∷ optional o)) (sym c.in-Some.is)
