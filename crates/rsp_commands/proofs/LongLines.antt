-- A line of more than 256 bytes is too long, whatever it says.
use Rattle.std.proofs.Common.{◌≡◌, ℕ, ◌<◌, List, length, false, true, arith}
use Rattle.std.proofs.lemmas.Bool.Decides.{nat_tests}
use Rattle.std.specs.Prelude.{Ok, Err, codes}
use Rattle.rsp_commands.specs.Line.{command_of, block_command}
use Rattle.rsp_commands.specs.declared.command.Command.TheVariants.{BlockLine}
use Rattle.rsp_commands.specs.declared.fault.LineFault.TheVariants.{LineTooLong}

pub too_long : (line : List ℕ) → 256 < length line → command_of line false ≡ Err LineTooLong
unfolding command_of
too_long line h = grind (arith, nat_tests)

pub too_long_in_block : (line : List ℕ) → 256 < length line → command_of line true ≡ Ok (BlockLine (codes ":"))
unfolding command_of block_command
too_long_in_block line h = grind (arith, nat_tests)
