use Rattle.std.proofs.Common.{◌≡◌, ◌/◌, ◌<◌, sym, ◌∙◌, arith, length, false}
use Rattle.std.specs.Prelude.{is_err}
use Rattle.std.proofs.lemmas.Grind.{common_steps}
use Rattle.arrayvec.specs.ArrayVec.{array_vec_len, with_items}
use Rattle.rsp_commands.proofs.HexBytes.{bytes_of-decoded}
use Rattle.rsp_commands.proofs.operands.bytes.Goals as goal

pub returns-clause-value : goal.returns-clause-value
returns-clause-value c =
    let full : array_vec_len c.from-bytes.result ≡ 128 = c.from-bytes.ensures.1 in
    let half : length c.truncate.new.self.items ≡ length c.args.word.now / 2 =
    omega (arith, full, c.truncate.ensures.len, c.requires) in
    let ok : is_err c.decode_to_slice.result ≡ false = sym c.is_err.ensures.value ∙ c.if-is_err.false in
    let some : 0 < array_vec_len (with_items c.truncate.new.self c.decode_to_slice.new.out) =
    grind (arith, common_steps, c.is_empty.ensures, c.if-is_empty.false) in
    bytes_of-decoded c.args.word.now c.truncate.new.self.items c.decode_to_slice.new.out c.decode_to_slice.result
    half (rw (← c.as_mut_slice.ensures.value) c.decode_to_slice.ensures.value) ok some
