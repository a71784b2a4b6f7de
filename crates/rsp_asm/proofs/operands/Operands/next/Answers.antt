use Rattle.std.proofs.Common.{ap, ◌∙◌, sym, ◌∷◌, [], List, ℕ, Bor}
use Rattle.std.specs.Prelude.{map, Option, option_map}
use Rattle.std.specs.List.{slice_split}
use Rattle.rsp_syntax.specs.declared.line_bytes.Boundary.TheVariants.{Comma}
use Rattle.rsp_syntax.specs.Chars.{trim}
use Rattle.rsp_syntax.specs.Cuts.{is_boundary}
use Rattle.rsp_asm.specs.Operands.{texts_in}
use Rattle.rsp_asm.proofs.Texts.{first_of_more, only_one}
use Rattle.rsp_asm.proofs.operands.Operands.next.Goals as goal

pub returns-in_default-cut : goal.returns-in_default-cut
returns-in_default-cut c =
    let seen : Option (Bor (List ℕ)) → List (List ℕ) = λ (o : Option (Bor (List ℕ))). texts_in (option_map (λ (t : Bor (List ℕ)). t.now) o) in
    sym c.self.view_is ∙ ap seen c.in-Some.is ∙ only_one c.in-Some.text.now (c.in_default-cut.ensures) ∙ ap (λ t. t ∷ []) (sym c.trim.ensures.value)

pub returns : goal.returns
returns c =
    let seen : Option (Bor (List ℕ)) → List (List ℕ) = λ (o : Option (Bor (List ℕ))). texts_in (option_map (λ (t : Bor (List ℕ)). t.now) o) in
    sym c.self.view_is ∙ ap seen c.in-Some.is
    ∙ first_of_more c.in-Some.text.now c.in-Some-cut.first.now c.in-Some-cut.rest.now c.in-Some-cut.ensures
    ∙ ap (λ t. t ∷ map trim (slice_split (is_boundary Comma) c.in-Some-cut.rest.now)) (sym c.trim-2.ensures.value)
