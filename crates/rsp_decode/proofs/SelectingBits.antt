-- The bits that select an instruction, in groups with more names than a tactic splits.
use Rattle.std.proofs.Common.{◌≡◌, refl, ◌+◌, ◌*◌, ◌^◌, bit_or}
use Rattle.rsp_decode.specs.declared.vector.VectorLogicOp.{VectorLogicOp}
use Rattle.rsp_decode.specs.declared.vector.VectorLogicOp.TheVariants.{Vand}
use Rattle.rsp_decode.specs.declared.vector.VectorDivideOp.{VectorDivideOp}
use Rattle.rsp_decode.specs.declared.vector.VectorDivideOp.TheVariants.{Vrcp}
use Rattle.rsp_decode.specs.contracts.vector.VectorLogicOp as logic_type
use Rattle.rsp_decode.specs.contracts.vector.VectorDivideOp as divide_type
use Rattle.rsp_decode.specs.Table.{vector_logic_selector, divide_selector}
use denote.Enum.Declared.{tag_of}

pub logic_value : (op : VectorLogicOp) → bit_or (18 * 2 ^ 26 + 2 ^ 25) (tag_of logic_type.the_type op + 40) ≡ (vector_logic_selector op).value
logic_value Vand = refl
logic_value _ = refl

pub divide_value : (op : VectorDivideOp) → bit_or (18 * 2 ^ 26 + 2 ^ 25) (tag_of divide_type.the_type op + 48) ≡ (divide_selector op).value
divide_value Vrcp = refl
divide_value _ = refl
