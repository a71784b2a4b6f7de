use Rattle.std.proofs.Common.{◌≡◌, sym, ap, ◌∙◌, arith, length}
use Rattle.std.proofs.lemmas.List.{with_items_is}
use Rattle.rsp_memory.specs.Words.{words_bytes}
use Rattle.rsp_memory.proofs.Runs.{with_image_bytes-inside, length-words_bytes, words_bytes-below, spliced-below}
use Rattle.rsp_memory.proofs.image.Rdram.set_words.Goals as goal

pub returns : goal.returns
returns c =
    let m = c.self.inside.bytes in
    let bytes = words_bytes c.args.words.now in
    let n : length c.splice_words.new.list ≡ m.len = omega (arith, c.splice_words.auto.list, c.deref_mut.ensures.len) in
    let image : length m.items ≡ length c.args.self.now = ap length c.self.view_is in
    with_items_is m c.splice_words.new.list n ∙ c.splice_words.ensures
    ∙ rw (c.deref_mut.ensures.value, ← c.self.view_is) (sym (with_image_bytes-inside m.items c.args.a bytes (omega (arith, image, c.requires, length-words_bytes c.args.words.now)) (omega (arith, c.self.invariant.count.at_most))))

pub invariant_of-self : goal.invariant_of-self
invariant_of-self c =
    let m = c.self.inside.bytes in
    let words = c.args.words.now in
    let n : length c.splice_words.new.list ≡ m.len = omega (arith, c.splice_words.auto.list, c.deref_mut.ensures.len) in
    let image : length m.items ≡ length c.args.self.now = ap length c.self.view_is in
    let same : length m.items ≡ length c.splice_words.new.list = omega (arith, ap length c.deref_mut.ensures.value, c.splice_words.auto.list) in
    let below = spliced-below m.items (words_bytes words) c.args.a (omega (arith, image, c.requires, length-words_bytes words)) c.self.invariant.bytes (words_bytes-below words) in
    rw (with_items_is m c.splice_words.new.list n) (record { count = rw (← same) c.self.invariant.count; bytes = rw (c.splice_words.ensures, c.deref_mut.ensures.value) below })
