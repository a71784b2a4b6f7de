use Rattle.std.proofs.Common.{ap, ◌∙◌, sym, arith, rules, w64, FitsSigned, ℤ, pos, ◌≤◌}
use Rattle.std.specs.Prelude.{◌+ℤ◌}
use Rattle.std.specs.Int.{saturate_signed}
use Rattle.std.proofs.lemmas.Int.{to_z-of_z, ints}
use Rattle.rsp_syntax.specs.Statement.{scaled_offset, field}
use Rattle.rsp_operands.proofs.Capping.{scaled_capped}
use Rattle.rsp_operands.proofs.values.field.Goals as goal

pub returns-in-Scaled : goal.returns-in-Scaled
returns-in-Scaled c = λ z e.
    let scale = c.in-Scaled.scale in
    let base = c.args.label_address in
    let small : scale ≤ 255 = omega arith in
    let low : base ≤ 65535 = omega arith in
    let value : ℤ = c.saturating_add-value.result in
    let fits : FitsSigned w64 value = search rules in
    c.scaled_offset.ensures ∙ ap (scaled_offset scale) (to_z-of_z w64 value fits ∙ c.saturating_add-value.ensures ∙ ap (saturate_signed w64) (omega (arith, ints))) ∙ scaled_capped scale base z small low ∙ ap (λ s. field s c.args.address (pos base +ℤ z)) (sym c.in-Scaled.is)
