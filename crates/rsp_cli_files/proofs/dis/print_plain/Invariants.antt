use Rattle.std.proofs.Common.{◌≡◌, List, ℕ, ◌+◌, ◌*◌, ◌≤◌, ◌++◌, length, drop, false}
use Rattle.std.specs.Io.KnownBytes.{Appends}
use Rattle.rsp_syntax.specs.SourceLine.{text_of_lines}
use Rattle.rsp_syntax.specs.Disassembly.{listing}
use Rattle.rsp_cli_files.proofs.dis.print_plain.Given as goal

-- what was printed, and the lines that are left, are the whole listing
abbrev pub invariant-loop-index : goal.invariant-loop-index
invariant-loop-index g l = l.origin + 4 * length l.words ≤ 4096 → l.with_addresses ≡ false → (printed : List ℕ) × Appends (g.W.Write.contents l.initial.output) (g.W.Write.contents l.output) printed
    × (printed ++ text_of_lines (listing (l.origin + 4 * l.index) (drop l.index l.words)) ≡ text_of_lines (listing l.origin l.words))
