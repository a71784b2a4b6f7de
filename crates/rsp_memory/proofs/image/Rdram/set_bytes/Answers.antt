use Rattle.std.proofs.Common.{◌≡◌, sym, ap, ◌∙◌, arith, length}
use Rattle.std.proofs.lemmas.List.{with_items_is}
use Rattle.rsp_memory.proofs.Runs.{with_image_bytes-spliced}
use Rattle.rsp_memory.proofs.image.Rdram.set_bytes.Goals as goal

pub returns : goal.returns
returns c =
    let n : length c.splice.new.list ≡ c.self.inside.bytes.len = omega (arith, c.splice.auto.list, c.deref_mut.ensures.len) in
    let k : c.len-len.result ≡ length c.self.inside.bytes.items = c.len-len.ensures.value ∙ ap length (sym c.self.view_is) in
    with_items_is c.self.inside.bytes c.splice.new.list n ∙ c.splice.ensures
    ∙ rw (c.deref_mut.ensures.value, ← c.self.view_is) (sym (with_image_bytes-spliced c.self.inside.bytes.items c.args.a c.min-at.result c.min-n.result c.args.bytes.now c.requires (rw k at c.min-at.ensures) (rw k at c.min-n.ensures)))
