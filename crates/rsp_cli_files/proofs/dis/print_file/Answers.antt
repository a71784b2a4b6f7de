use Rattle.std.proofs.Common.{◌≡◌, ◌/◌, length, arith}
use Rattle.std.proofs.lemmas.Grind.{common_steps}
use Rattle.rsp_cli_files.proofs.Texts.{listing_printed}
use Rattle.rsp_cli_files.proofs.dis.print_file.Goals as goal

pub returns-else-asked : goal.returns-else-asked
returns-else-asked g c = λ labels plain.
    let count : length c.read_u32_into.new.dst ≡ length c.args.bytes.now / 4 = grind (arith, common_steps) in
    listing_printed _ c.args.bytes.now c.read_u32_into.new.dst _ _ _ count c.read_u32_into.ensures (c.print_plain.ensures (omega (arith, count)) plain)
