use Rattle.std.proofs.Common.{◌∙◌, ◌/◌, ◌%◌, ℕ, List, ◌∷◌, replicate, ap, arith}
use Rattle.rsp_loadstore.specs.File.{vector, with_vector}
use Rattle.rsp_loadstore.proofs.BytesLoaded.{half_placed}
use Rattle.rsp_loadstore.proofs.moves.set_half.Goals as goal

pub returns : goal.returns
returns c =
    let half : List ℕ = (c.args.value % 65536 / 256 % 256) ∷ (c.args.value % 65536 % 256) ∷ replicate 14 0 in
    c.set_reg.ensures.value ∙ rw (c.with_bytes.ensures, c.from_array.ensures, c.write_u16.ensures, c.reg-v.ensures.value)
    (ap (with_vector c.args.file.now c.args.n) (half_placed (vector c.args.file.now c.args.n) half c.args.e c.args.value (c.set_reg.ensures.within.registers c.args.n c.requires.register).0 c.requires.byte (omega arith) (omega arith)))
