-- Lines that can be exchanged.
use Rattle.std.proofs.Common.{◌≡◌, inl, inr, ℕ, zero, suc, List, [], ◌∷◌, ◌++◌, replicate, refl, ap, sym, ◌∙◌, subst, append_assoc, Bool, true, false, ◌||◌, cond, Option, Some, None, Result, Ok, Err}
use Rattle.std.specs.Prelude.{codes, nat_le, length, is_some, if◌then◌else◌}
use Rattle.std.specs.List.{before_first, list_all}
use Rattle.std.specs.Str.{bytes_eq}
use Rattle.std.proofs.lemmas.Slice.Eq.{bytes_eq-Decides}
use Rattle.rsp_syntax.specs.Chars.{is_line_byte}
use Rattle.rsp_commands.specs.Line.{is_hash}
use Rattle.rsp_commands.specs.LineWords.{words_in}
use Rattle.rsp_commands.specs.Operand.{bank_of, ranged_of, address_of, instruction_address_of}
use Rattle.rsp_commands.specs.Line.{command_of, plain_command}
use Rattle.rsp_commands.specs.Command.{command_named, debug_named, look_named, without_operands, mem, dis, with_both, with_operand, in_bank, one_number, command_of_words}
use Rattle.rsp_commands.specs.declared.command.Command.{Command}
use Rattle.rsp_commands.specs.declared.command.Command.TheVariants.{Step, Run, Show}
use Rattle.rsp_commands.specs.declared.command.Look.{Look}
use Rattle.rsp_commands.specs.declared.command.Look.TheVariants.{Regs, Vregs, Acc, Flags, Sp, Mem, Dis}
use Rattle.rsp_commands.specs.declared.fault.LineFault.{LineFault}
use Rattle.rsp_commands.specs.declared.fault.LineFault.TheVariants.{BadCommand, BadNumber, LineTooLong, NotText}
use Rattle.rsp_memory.specs.declared.bank.Bank.{Bank}
use Rattle.rsp_asm.specs.Block.{OpenBlock}
use Rattle.rsp_debug.specs.Stops.{stop_of}
use Rattle.rsp_debug.specs.Calls.{is_count}
use Rattle.rsp_debug.specs.Debugging.{Debugging, after_debugger_step, after_steps, stop_in, after_run}
use Rattle.rsp_script_io.specs.Replies.{replies, final}
use Rattle.rsp_bench.specs.Replies.{stop_text, count_text}
use Rattle.rsp_bench.specs.Session.{SessionState, same, then_debugging, plain_answer, answer_in, answer_of, parsed_answer, in_block, line_answer, step_answer, run_answer}
use Rattle.rsp_bench.specs.Laws.{is_look_name, is_run_name, first_word, name_on, looks, runs, ReportsSteps, IsExchange, IsStepLines, LinesComeOut}

-- ---- lines after lines
final-append : (p q : List (List ℕ)) (s : SessionState) → final line_answer (p ++ q) s ≡ final line_answer q (final line_answer p s)
final-append [] q s = refl
final-append (l ∷ p) q s = final-append p q (line_answer l s).next

replies-append : (p q : List (List ℕ)) (s : SessionState)
    → replies line_answer (p ++ q) s ≡ replies line_answer p s ++ replies line_answer q (final line_answer p s)
replies-append [] q s = refl
replies-append (l ∷ p) q s =
    ap (λ r. (line_answer l s).reply ++ r) (replies-append p q (line_answer l s).next) ∙ sym (append_assoc (line_answer l s).reply _ _)

replies_between : (p lines q : List (List ℕ)) (s after : SessionState) → final line_answer lines (final line_answer p s) ≡ after
    → replies line_answer (p ++ (lines ++ q)) s
    ≡ replies line_answer p s ++ (replies line_answer lines (final line_answer p s) ++ replies line_answer q after)
replies_between p lines q s after e =
    let t = final line_answer p s in
    replies-append p (lines ++ q) s
    ∙ ap (λ r. replies line_answer p s ++ r) (replies-append lines q t)
    ∙ ap (λ (u : SessionState). replies line_answer p s ++ (replies line_answer lines t ++ replies line_answer q u)) e

session_between : (p lines q : List (List ℕ)) (s after : SessionState) → final line_answer lines (final line_answer p s) ≡ after
    → final line_answer (p ++ (lines ++ q)) s ≡ final line_answer q after
session_between p lines q s after e =
    final-append p (lines ++ q) s ∙ final-append lines q (final line_answer p s) ∙ ap (λ (u : SessionState). final line_answer q u) e

exchange : (p lines others q : List (List ℕ)) (s after : SessionState)
    → final line_answer lines (final line_answer p s) ≡ after → final line_answer others (final line_answer p s) ≡ after → IsExchange p lines others q s
exchange p lines others q s after with_lines without = record {
  after = after;
  replies_with = replies_between p lines q s after with_lines;
  replies_without = replies_between p others q s after without;
  session_with = session_between p lines q s after with_lines;
  session_without = session_between p others q s after without;
}

-- ---- lines outside a block
plainly : (line : List ℕ) (in_it : Bool) → in_it ≡ false → command_of line in_it ≡ plain_command line
unfolding command_of
plainly line true e = cc
plainly line false e = refl

closed_in : (b : Option OpenBlock) → b ≡ None → is_some b ≡ false
closed_in b e = ap is_some e

-- what a line comes to is what its words come to, too long or no text aside
by_command : (line : List ℕ) (s : SessionState) → s.block ≡ None → line_answer line s ≡ parsed_answer (plain_command line) s
unfolding line_answer
by_command line s closed = ap (λ r. parsed_answer r s) (plainly line (in_block s) (closed_in s.block closed))

by_answer : (c : Command) (s : SessionState) → s.block ≡ None → answer_of c s ≡ plain_answer c s
unfolding answer_of
by_answer c s closed = ap (λ (b : Option OpenBlock). answer_in b c s) closed

-- ---- looks
abbrev is_look : Command → Bool
is_look (Show look) = true
is_look _ = false

abbrev is_quiet : Result Command LineFault → Bool
is_quiet (Ok command) = is_look command
is_quiet (Err fault) = true

quiet_plain : (c : Command) (s : SessionState) → is_look c ≡ true → (plain_answer c s).next ≡ s
quiet_plain (Show look) s e = refl
quiet_plain _ s e = cc

quiet_next : (r : Result Command LineFault) (s : SessionState) → s.block ≡ None → is_quiet r ≡ true → (parsed_answer r s).next ≡ s
quiet_next (Ok c) s closed e = ap (λ o. o.next) (by_answer c s closed) ∙ quiet_plain c s e
quiet_next (Err fault) s closed e = refl

quiet_alone : (look : Look) (operands : List (List ℕ)) → is_quiet (without_operands (Show look) operands) ≡ true
quiet_alone look [] = refl
quiet_alone look (w ∷ ws) = refl

quiet_both : (b : Bank) (a n : Option ℕ) → is_quiet (with_both (λ x y. Show (Mem b x y)) a n) ≡ true
quiet_both b (Some a) (Some n) = refl
quiet_both b (Some a) None = refl
quiet_both b None n = refl

quiet_in : (bank : Option Bank) (a n : Option ℕ) → is_quiet (in_bank (λ b. with_both (λ x y. Show (Mem b x y)) a n) bank) ≡ true
quiet_in (Some b) a n = quiet_both b a n
quiet_in None a n = refl

quiet_mem : (operands : List (List ℕ)) → is_quiet (mem operands) ≡ true
unfolding mem
quiet_mem [] = refl
quiet_mem (a ∷ []) = refl
quiet_mem (a ∷ b ∷ []) = refl
quiet_mem (a ∷ b ∷ c ∷ []) = quiet_in (bank_of a) (address_of b) (ranged_of 1 256 c)
quiet_mem (a ∷ b ∷ c ∷ d ∷ more) = refl

quiet_listing : (a n : Option ℕ) → is_quiet (with_both (λ x y. Show (Dis x y)) a n) ≡ true
quiet_listing (Some a) (Some n) = refl
quiet_listing (Some a) None = refl
quiet_listing None n = refl

quiet_dis : (operands : List (List ℕ)) → is_quiet (dis operands) ≡ true
unfolding dis
quiet_dis [] = refl
quiet_dis (a ∷ []) = refl
quiet_dis (a ∷ b ∷ []) = quiet_listing (instruction_address_of a) (ranged_of 1 64 b)
quiet_dis (a ∷ b ∷ c ∷ more) = refl

-- a text that equals another by its bytes is that text
by_name : (name text : List ℕ) (P : List ℕ → Type 0) → P text → bytes_eq name text ≡ true → P name
by_name name text P p e = subst P (sym ((bytes_eq-Decides name text).0 e)) p

either : (a b : Bool) (P : Type 0) → (a ≡ true → P) → (b ≡ true → P) → (a || b) ≡ true → P
either true b P f g e = f refl
either false b P f g e = g e

-- a name that looks is one of seven
look_named_by : (name : List ℕ) (P : List ℕ → Type 0) → P (codes "regs") → P (codes "vregs") → P (codes "acc") → P (codes "flags") → P (codes "sp")
    → P (codes "mem") → P (codes "dis") → is_look_name name ≡ true → P name
look_named_by name P regs vregs acc flags sp mem_ dis_ =
    either _ _ (P name) (either _ _ (P name) (either _ _ (P name) (either _ _ (P name) (either _ _ (P name) (either _ _ (P name)
    (by_name name (codes "regs") P regs) (by_name name (codes "vregs") P vregs)) (by_name name (codes "acc") P acc))
    (by_name name (codes "flags") P flags)) (by_name name (codes "sp") P sp)) (by_name name (codes "mem") P mem_)) (by_name name (codes "dis") P dis_)

quiet_named : (name : List ℕ) (operands : List (List ℕ)) → is_look_name name ≡ true → is_quiet (command_named name operands) ≡ true
unfolding command_named debug_named look_named
quiet_named name operands =
    look_named_by name (λ n. is_quiet (command_named n operands) ≡ true) (quiet_alone Regs operands) (quiet_alone Vregs operands)
    (quiet_alone Acc operands) (quiet_alone Flags operands) (quiet_alone Sp operands) (quiet_mem operands) (quiet_dis operands)

quiet_words : (words : List (List ℕ)) → is_look_name (first_word words) ≡ true → is_quiet (command_of_words words) ≡ true
unfolding command_of_words
quiet_words [] e = cc
quiet_words (name ∷ operands) e = quiet_named name operands e

quiet_refused : (short text : Bool) (r : Result Command LineFault) → is_quiet r ≡ true → is_quiet (cond short (cond text r (Err NotText)) (Err LineTooLong)) ≡ true
quiet_refused true true r e = e
quiet_refused true false r e = refl
quiet_refused false text r e = refl

quiet_line : (line : List ℕ) → looks line ≡ true → is_quiet (plain_command line) ≡ true
unfolding name_on
quiet_line line e = quiet_refused (nat_le (length line) 256) (list_all is_line_byte line) _ (quiet_words (words_in (before_first is_hash line)) e)

pub looks-change-nothing : (line : List ℕ) (s : SessionState) → s.block ≡ None → looks line ≡ true → (line_answer line s).next ≡ s
looks-change-nothing line s closed e =
    ap (λ o. o.next) (by_command line s closed) ∙ quiet_next (plain_command line) s closed (quiet_line line e)

look-comes-out : (p q : List (List ℕ)) (line : List ℕ) (s : SessionState) → (final line_answer p s).block ≡ None → looks line ≡ true
    → IsExchange p (line ∷ []) [] q s
look-comes-out p q line s closed e = exchange p (line ∷ []) [] q s (final line_answer p s) (looks-change-nothing line (final line_answer p s) closed e) refl

-- ---- steps
abbrev at : SessionState → Debugging → SessionState
at s d = record s { debugging = d }

step_command : plain_command (codes "step") ≡ Ok Step
unfolding command_of_words command_named
step_command = refl

step_next : (s : SessionState) → s.block ≡ None → (line_answer (codes "step") s).next ≡ at s (after_debugger_step s.debugging)
unfolding step_answer
step_next s closed =
    ap (λ o. o.next) (by_command (codes "step") s closed)
    ∙ ap (λ r. (parsed_answer r s).next) step_command
    ∙ ap (λ o. o.next) (by_answer Step s closed)

first_step : (k : ℕ) (d : Debugging) → after_steps k (after_debugger_step d) ≡ after_debugger_step (after_steps k d)
unfolding after_steps
first_step zero d = refl
first_step (suc k) d = ap (λ (x : Debugging). after_debugger_step x) (first_step k d)

no_steps : (d : Debugging) → after_steps 0 d ≡ d
unfolding after_steps
no_steps d = refl

one_more : (k : ℕ) (d : Debugging) → after_steps (suc k) d ≡ after_debugger_step (after_steps k d)
unfolding after_steps
one_more k d = refl

step_lines : (k : ℕ) (s : SessionState) → s.block ≡ None → final line_answer (replicate k (codes "step")) s ≡ at s (after_steps k s.debugging)
step_lines zero s closed = ap (at s) (sym (no_steps s.debugging))
step_lines (suc k) s closed =
    ap (λ (u : SessionState). final line_answer (replicate k (codes "step")) u) (step_next s closed)
    ∙ step_lines k (at s (after_debugger_step s.debugging)) closed
    ∙ ap (at s) (first_step k s.debugging ∙ sym (one_more k s.debugging))

-- ---- runs
abbrev is_running : Result Command LineFault → Bool
is_running (Ok (Run n)) = true
is_running (Ok _) = false
is_running (Err fault) = true

-- how many steps a run makes; none where it is refused
abbrev steps_by : Result Command LineFault → Debugging → ℕ
steps_by (Ok (Run n)) d = if is_count n then (stop_in n d).steps else 0
steps_by _ d = 0

-- a session after a run, and what the run is answered
record Ran (k : ℕ) (s next : SessionState) (reply : List ℕ) : Type 0 where
  session : next ≡ at s (after_steps k s.debugging)
  told : ReportsSteps k reply

refused : (s : SessionState) (fault : List ℕ) → Ran 0 s s (codes "fault " ++ fault)
refused s fault = record {
  session = ap (at s) (sym (no_steps s.debugging));
  told = inr (fault, refl, refl);
}

accepted : (accepts : Bool) (n : ℕ) (s : SessionState)
    → Ran (if accepts then (stop_in n s.debugging).steps else 0) s
    (if accepts then then_debugging (stop_text (stop_in n s.debugging)) (after_run n s.debugging) s else same count_text s).next
    (if accepts then then_debugging (stop_text (stop_in n s.debugging)) (after_run n s.debugging) s else same count_text s).reply
unfolding stop_of
accepted true n s = record { session = refl; told = inl (stop_in n s.debugging, refl, refl) }
accepted false n s = refused s (codes "26 Count" ++ 10 ∷ [])

run_fault : (fault : LineFault) (s : SessionState) → Ran 0 s (parsed_answer (Err fault) s).next (parsed_answer (Err fault) s).reply
run_fault BadCommand s = refused s (codes "30 BadCommand" ++ 10 ∷ [])
run_fault BadNumber s = refused s (codes "31 BadNumber" ++ 10 ∷ [])
run_fault LineTooLong s = refused s (codes "32 LineTooLong" ++ 10 ∷ [])
run_fault NotText s = refused s (codes "33 NotText" ++ 10 ∷ [])

ran_by : (r : Result Command LineFault) (s : SessionState) → s.block ≡ None → is_running r ≡ true
    → Ran (steps_by r s.debugging) s (parsed_answer r s).next (parsed_answer r s).reply
unfolding run_answer
ran_by (Ok (Run n)) s closed e =
    subst (λ o. Ran (steps_by (Ok (Run n)) s.debugging) s o.next o.reply) (sym (by_answer (Run n) s closed)) (accepted (is_count n) n s)
ran_by (Ok _) s closed e = cc
ran_by (Err fault) s closed e = run_fault fault s

running_operand : (n : Result ℕ LineFault) → is_running (with_operand (λ k. Run k) n) ≡ true
running_operand (Ok n) = refl
running_operand (Err fault) = refl

running_named : (name : List ℕ) (operands : List (List ℕ)) → is_run_name name ≡ true → is_running (command_named name operands) ≡ true
unfolding command_named debug_named
running_named name operands =
    by_name name (codes "run") (λ n. is_running (command_named n operands) ≡ true) (running_operand (one_number 0 4294967295 operands))

running_words : (words : List (List ℕ)) → is_run_name (first_word words) ≡ true → is_running (command_of_words words) ≡ true
unfolding command_of_words
running_words [] e = cc
running_words (name ∷ operands) e = running_named name operands e

running_refused : (short text : Bool) (r : Result Command LineFault) → is_running r ≡ true → is_running (cond short (cond text r (Err NotText)) (Err LineTooLong)) ≡ true
running_refused true true r e = e
running_refused true false r e = refl
running_refused false text r e = refl

running_line : (line : List ℕ) → runs line ≡ true → is_running (plain_command line) ≡ true
unfolding name_on
running_line line e = running_refused (nat_le (length line) 256) (list_all is_line_byte line) _ (running_words (words_in (before_first is_hash line)) e)

ran_line : (line : List ℕ) (s : SessionState) → s.block ≡ None → runs line ≡ true
    → Ran (steps_by (plain_command line) s.debugging) s (line_answer line s).next (line_answer line s).reply
ran_line line s closed e =
    subst (λ o. Ran (steps_by (plain_command line) s.debugging) s o.next o.reply) (sym (by_command line s closed))
    (ran_by (plain_command line) s closed (running_line line e))

run-comes-out : (p q : List (List ℕ)) (line : List ℕ) (s : SessionState) → (final line_answer p s).block ≡ None → runs line ≡ true → IsStepLines p line q s
run-comes-out p q line s closed e =
    let t : SessionState = final line_answer p s in
    let k : ℕ = steps_by (plain_command line) t.debugging in
    let h : Ran k t (line_answer line t).next (line_answer line t).reply = ran_line line t closed e in
    record {
      count = k;
      told = h.told;
      exchanged = exchange p (line ∷ []) _ q s _ h.session (step_lines k t closed);
    }

pub looks-and-runs-come-out : (p q : List (List ℕ)) (line : List ℕ) (s : SessionState) → (final line_answer p s).block ≡ None → LinesComeOut p line q s
looks-and-runs-come-out p q line s closed = record {
  look = λ e. look-comes-out p q line s closed e;
  run = λ e. run-comes-out p q line s closed e;
}

pub ruleset exchanges = (looks-and-runs-come-out, looks-change-nothing)
