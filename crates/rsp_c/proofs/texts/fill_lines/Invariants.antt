use Rattle.std.proofs.Common.{◌≡◌, length, take}
use Rattle.std.specs.List.{All}
use Rattle.rsp_c.specs.ToC.{c_lines, IsEnded}
use Rattle.rsp_c.proofs.texts.fill_lines.Given as goal

abbrev pub invariant-loop-i : goal.invariant-loop-i
invariant-loop-i l = record {
  value : take l.i l.lines ≡ c_lines l.imem l.address l.i;
  ended : All IsEnded (take l.i l.lines);
  len : length l.lines ≡ length l.fn.lines;
}
