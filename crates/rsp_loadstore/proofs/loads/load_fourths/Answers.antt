use Rattle.std.proofs.Common.{◌*◌, ◌%◌, ◌∙◌, ap, refl, false, arith}
use Rattle.rsp_lanes.proofs.Kit.{lane_of, each_same}
use Rattle.rsp_loadstore.specs.File.{with_vector}
use Rattle.rsp_loadstore.specs.Loads.{load_pairs}
use Rattle.rsp_loadstore.proofs.BytesLoaded.{fourths_loaded}
use Rattle.rsp_loadstore.proofs.loads.load_fourths.Goals as goal

pub returns : goal.returns
unfolding load_pairs
returns c =
    c.set_reg.ensures.value
    ∙ ap (with_vector c.args.file.now c.args.vt) (c.merge.ensures ∙ each_same _ _ (λ i h.
    rw (lane_of false _ _ c.from_bits-taken.ensures i h, lane_of 0 _ _ c.even_lanes-fourths.ensures i h, lane_of 0 _ _ c.from_halves.ensures (2 * i % 8) (omega arith), c.window-bytes.ensures, c.reg-v.ensures.value) refl))
    ∙ fourths_loaded c.args.memory.now c.args.file.now c.args.vt c.args.e c.args.a (omega (arith, c.set_reg.ensures.within.count, c.requires.register)) (c.set_reg.ensures.within.registers c.args.vt c.requires.register).0 c.requires.element
