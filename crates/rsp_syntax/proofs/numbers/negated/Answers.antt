use Rattle.std.proofs.Common.{ap, ◌∙◌, w64, rules, FitsSigned}
use Rattle.std.specs.Prelude.{Some, ℤ}
use Rattle.std.proofs.lemmas.Int.{to_z-of_z}
use Rattle.rsp_syntax.specs.Numbers.{unsigned_of}
use Rattle.rsp_syntax.proofs.Numerals.{negated}
use Rattle.rsp_syntax.proofs.numbers.negated.Goals as goal

pub returns : goal.returns
returns c =
    let z : ℤ = c.negative.result in
    let fits : FitsSigned w64 z = search rules in
    ap Some (to_z-of_z w64 z fits)
    ∙ negated (unsigned_of c.args.digits.now) c.in_ok-read_unsigned.field-0 z c.in_ok-read_unsigned.ensures.value c.negative.ensures
