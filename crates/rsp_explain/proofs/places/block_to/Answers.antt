use Rattle.std.proofs.Common.{refl, ap, ◌∙◌}
use Rattle.rsp_explain.specs.Places.{block}
use Rattle.rsp_explain.proofs.ScriptLines.{range_or_none}
use Rattle.rsp_explain.proofs.places.block_to.Goals as goal

pub returns : goal.returns
returns c =
    ap (λ text. block c.args.block.number c.args.block.origin text c.args.is_closed)
    (ap (λ t. t.now) c.unwrap_or.ensures
    ∙ range_or_none c.get.result _ c.args.script.now c.args.block.start c.args.end c.requires refl c.get.ensures.lookup.0)
