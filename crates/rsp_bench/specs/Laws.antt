-- What stays the same if lines of a script are exchanged for others.
use Rattle.std.specs.Prelude.{◌≡◌, ◌⊎◌, ℕ, List, [], ◌∷◌, ◌++◌, Bool, true, ◌||◌, None, replicate, codes}
use Rattle.std.specs.List.{before_first}
use Rattle.std.specs.Str.{bytes_eq}
use Rattle.rsp_commands.specs.Line.{is_hash}
use Rattle.rsp_commands.specs.LineWords.{words_in}
use Rattle.rsp_debug.specs.declared.stop.Stop.{Stop}
use Rattle.rsp_script_io.specs.Replies.{replies, final}
use Rattle.rsp_bench.specs.Replies.{stop_text}
use Rattle.rsp_bench.specs.Session.{SessionState, line_answer}

-- ---- looks and runs

-- the names of the commands that look; `read` isn't one, since it can take the semaphore
abbrev pub is_look_name : List ℕ → Bool
is_look_name name =
    bytes_eq name (codes "regs") || bytes_eq name (codes "vregs") || bytes_eq name (codes "acc") || bytes_eq name (codes "flags")
    || bytes_eq name (codes "sp") || bytes_eq name (codes "mem") || bytes_eq name (codes "dis")

abbrev pub is_run_name : List ℕ → Bool
is_run_name name = bytes_eq name (codes "run")

abbrev pub first_word : List (List ℕ) → List ℕ
first_word [] = []
first_word (word ∷ words) = word

-- the first word of a line outside a block, which names its command; no bytes where it has no words
unfoldable pub name_on : List ℕ → List ℕ
name_on line = first_word (words_in (before_first is_hash line))

-- a line that looks, accepted or refused
abbrev pub looks : List ℕ → Bool
looks line = is_look_name (name_on line)

-- a line that runs, accepted or refused
abbrev pub runs : List ℕ → Bool
runs line = is_run_name (name_on line)

-- a reply to a line that runs: it gives k steps, or it is a fault, and k is 0
abbrev pub ReportsSteps : ℕ → List ℕ → Type 0
ReportsSteps k reply =
    ((stop : Stop) × (reply ≡ stop_text stop) × (k ≡ stop.steps))
    ⊎ ((fault : List ℕ) × (reply ≡ codes "fault " ++ fault) × (k ≡ 0))

-- ---- lines that are exchanged

-- Two scripts: the lines p, some lines and the lines q; and the same with others between p and q. The replies to p and to q are
-- the same in both, and so is the session at the end.
pub record IsExchange (p lines others q : List (List ℕ)) (s : SessionState) : Type 0 where
  pub after : SessionState
  pub replies_with : replies line_answer (p ++ (lines ++ q)) s
      ≡ replies line_answer p s ++ (replies line_answer lines (final line_answer p s) ++ replies line_answer q after)
  pub replies_without : replies line_answer (p ++ (others ++ q)) s
      ≡ replies line_answer p s ++ (replies line_answer others (final line_answer p s) ++ replies line_answer q after)
  pub session_with : final line_answer (p ++ (lines ++ q)) s ≡ final line_answer q after
  pub session_without : final line_answer (p ++ (others ++ q)) s ≡ final line_answer q after

-- a line is exchanged for as many lines `step` as its reply gives steps
pub record IsStepLines (p : List (List ℕ)) (line : List ℕ) (q : List (List ℕ)) (s : SessionState) : Type 0 where
  pub count : ℕ
  pub told : ReportsSteps count (line_answer line (final line_answer p s)).reply
  pub exchanged : IsExchange p (line ∷ []) (replicate count (codes "step")) q s

-- The law: outside a block, a line that looks can be taken out, and a line that runs be exchanged for lines `step`.
pub record LinesComeOut (p : List (List ℕ)) (line : List ℕ) (q : List (List ℕ)) (s : SessionState) : Type 0 where
  pub look : looks line ≡ true → IsExchange p (line ∷ []) [] q s
  pub run : runs line ≡ true → IsStepLines p line q s

-- for all lines before and after, and every session at the start
abbrev pub LooksAndRunsComeOut : Type 0
LooksAndRunsComeOut = (p q : List (List ℕ)) (line : List ℕ) (s : SessionState)
    → (final line_answer p s).block ≡ None → LinesComeOut p line q s

-- what a line that looks leaves, outside a block: the session as it was
abbrev pub LooksChangeNothing : Type 0
LooksChangeNothing = (line : List ℕ) (s : SessionState) → s.block ≡ None → looks line ≡ true → (line_answer line s).next ≡ s
