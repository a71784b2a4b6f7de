-- Why a block can't be assembled.
use Rattle.std.specs.Prelude.{◌≡◌, ℕ, Err}
use Rattle.rsp_asm.specs.AssembleFaults.{HidesNoFault}
use Rattle.rsp_asm.specs.declared.block.BlockFault.{BlockFault}
use Rattle.rsp_asm.specs.declared.block.BlockFault.TheVariants.{Text, OutOfMemory}
use Rattle.rsp_asm.specs.Block.{OpenBlock, meaning_of_block}

-- there was no memory for the label of a line, and that hides no fault of the text
abbrev pub hides_no_fault : OpenBlock → ℕ → Type 0
hides_no_fault b line = HidesNoFault b.origin b.lines line

-- the fault of its text, or OutOfMemory, which hides none
abbrev pub IsBlockFault : OpenBlock → BlockFault → Type 0
IsBlockFault b (Text fault) = meaning_of_block b ≡ Err fault
IsBlockFault b (OutOfMemory line) = hides_no_fault b line
