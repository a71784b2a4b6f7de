use Rattle.std.proofs.Common.{◌++◌, ◌≤◌, length, map, ap, sym, subst, ◌∙◌}
use Rattle.std.specs.Prelude.{IfSome}
use Rattle.std.specs.Str.Lines.{lines}
use Rattle.rsp_asm.specs.LabelList.{listed}
use Rattle.rsp_asm.proofs.LabelWalk.{labels_from, AreClean, labels_whole, clean_whole, short_label}
use Rattle.rsp_asm.proofs.labels.labels_of.Goals as goal

pub loop-line-init : goal.loop-line-init
loop-line-init c =
    let o = c.args.origin in let same = c.as_bytes-rest.ensures.value in let ls = lines c.args.text.now in
    record {
      labels =
          ap (λ x. x ++ map listed (labels_from o (lines c.as_bytes-rest.result.now))) c.new-found.ensures.items
          ∙ ap (λ t. map listed (labels_from o (lines t))) same ∙ ap (map listed) (labels_whole o ls);
      clean = subst (λ t. AreClean o (lines t)) (sym same) (clean_whole o ls c.requires.assembles);
      low = c.requires.origin;
    }

pub add_label-requires : goal.add_label-requires
add_label-requires c = subst (λ o. IfSome o (λ n. length n ≤ 32)) (sym c.in-Ok.ensures.label) (short_label c.in-Some.line.now)
