use Rattle.std.proofs.Common.{◌≡◌, ◌≤◌, true, false, length, vec_len, refl, inl, arith}
use Rattle.std.proofs.lemmas.Grind.{common_steps}
use Rattle.rsp_memory.specs.Image.{IsImageLength}
use Rattle.rsp_cli_files.proofs.Reading.{whole_of_first}
use Rattle.rsp_cli.proofs.Known.{no_image}
use Rattle.rsp_cli.proofs.inputs.read_image_file.Goals as goal

pub returns-in-Ok-clause-ok : goal.returns-in-Ok-clause-ok
returns-in-Ok-clause-ok g c =
    let size : IsImageLength (vec_len c.in_ok-bytes.bytes) = c.in-Ok.ensures.variant.0 refl in
    let few : length c.in_ok-bytes.bytes.items ≤ 8388608 = grind (arith, common_steps, size.at_most) in
    rw c.in-Ok.ensures.ok (whole_of_first _ 8388608 c.in_ok-bytes.bytes.items c.in_ok-bytes.ensures.ok few)

pub returns-in-Err-clause-err : goal.returns-in-Err-clause-err
returns-in-Err-clause-err g c =
    let counted : length c.in_ok-bytes.bytes.items ≡ vec_len c.in_ok-bytes.bytes = grind (arith, common_steps) in
    inl (
      refl,
      no_image _ c.in_ok-bytes.bytes.items c.in_ok-bytes.ensures.ok (λ size.
          let whole : false ≡ true = c.in-Err.ensures.variant.1 (rw counted at size) in cc),
    )
