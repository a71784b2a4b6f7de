-- A line without bytes outside a block.
use Rattle.std.proofs.Common.{◌≡◌, ℕ, List, [], ◌∷◌, length, false, Option, Some, None, refl, ap, arith}
use Rattle.std.specs.Prelude.{is_some}
use Rattle.rsp_commands.specs.Command.{command_of_words}
use Rattle.rsp_commands.specs.Line.{command_of}
use Rattle.rsp_asm.specs.Block.{OpenBlock}
use Rattle.rsp_debug.specs.Debugging.{Debugging}
use Rattle.rsp_bench.specs.Session.{SessionState, same, line_answer, answer_of, in_block}

said : (line : List ℕ) (d : Debugging) (b : Option OpenBlock) → length line ≡ 0 → is_some b ≡ false
    → line_answer line (record { debugging = d; block = b }) ≡ same [] (record { debugging = d; block = b })
unfolding line_answer answer_of command_of command_of_words
said [] d None e f = refl
said [] d (Some x) e f = absurd cc
said (x ∷ line) d b e f = absurd (omega arith)

pub reply : (line : List ℕ) (s : SessionState) → length line ≡ 0 → in_block s ≡ false → (line_answer line s).reply ≡ []
reply line s e f = ap (λ a. a.reply) (said line s.debugging s.block e f)

pub next : (line : List ℕ) (s : SessionState) → length line ≡ 0 → in_block s ≡ false → (line_answer line s).next ≡ s
next line s e f = ap (λ a. a.next) (said line s.debugging s.block e f)
