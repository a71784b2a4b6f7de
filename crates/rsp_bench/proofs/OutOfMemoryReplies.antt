-- No reply is fault 17: by the first bytes of each, and since no text means that fault.
use Rattle.std.proofs.Common.{◌≡◌, ◌∙◌, refl, sym, ap, ℕ, zero, suc, ◌+◌, ◌*◌, ◌/◌, ◌%◌, ◌<◌, List, [], ◌∷◌, ◌++◌, length, get_or, arith, Bool, true, false, ◌&&◌}
use Rattle.std.specs.Prelude.{Option, Some, None, Result, Ok, Err, ◌==◌, nat_le, if◌then◌else◌, codes, take, drop}
use Rattle.std.specs.Char.{digit_char}
use Rattle.std.specs.List.{All, flat_map}
use Rattle.std.specs.Str.Lines.{lines}
use Rattle.std.proofs.lemmas.Bool.Decides.{nat_tests}
use Rattle.std.proofs.lemmas.List.{get_or_append_left, length-append, append-nil, append_assoc}
use Rattle.std.proofs.lemmas.List.Elements.{All-nil, All-cons}
use Rattle.rsp_commands.specs.declared.command.Command.{Command}
use Rattle.rsp_commands.specs.declared.command.Command.TheVariants.{Nothing, Load, Step, Run, Break, Unbreak, Watch, Unwatch, Back, Read, Write, SetPc, Task, Show, Asm, BlockLine, End}
use Rattle.rsp_commands.specs.declared.command.Look.{Look}
use Rattle.rsp_commands.specs.declared.command.Look.TheVariants.{Regs, Vregs, Acc, Flags, Sp, Mem, Dis}
use Rattle.rsp_commands.specs.declared.fault.LineFault.{LineFault}
use Rattle.rsp_commands.specs.declared.fault.LineFault.TheVariants.{BadCommand, BadNumber, LineTooLong, NotText}
use Rattle.rsp_commands.specs.Line.{command_of}
use Rattle.rsp_memory.specs.declared.bank.Bank.{Bank}
use Rattle.rsp_syntax.specs.declared.fault.AsmFault.{AsmFault}
use Rattle.rsp_syntax.specs.declared.fault.AsmFaultKind.{AsmFaultKind}
use Rattle.rsp_syntax.specs.declared.fault.AsmFaultKind.TheVariants.{BadLine, UnknownName, BadOperand, OutOfRange, LabelTwice, LabelMissing, PastEnd, OutOfMemory}
use Rattle.rsp_asm.specs.Block.{OpenBlock, meaning_of_block}
use Rattle.rsp_asm.proofs.Faults.{of_text, means_of_text}
use Rattle.rsp_regs.specs.Sp.{read_value}
use Rattle.rsp_machine.specs.State.{State}
use Rattle.rsp_machine.specs.Host.{is_inside, task_fault}
use Rattle.rsp_machine.specs.declared.host.TaskFault.{TaskFault}
use Rattle.rsp_machine.specs.declared.host.TaskFault.TheVariants.{TaskPlace, TaskSize}
use Rattle.rsp_debug.specs.Stops.{is_break}
use Rattle.rsp_debug.specs.Calls.{is_count}
use Rattle.rsp_debug.specs.Breaks.{break_fault}
use Rattle.rsp_debug.specs.Watches.{number_for, has_watch}
use Rattle.rsp_debug.specs.Queries.{ListedWord, memory_of, listing_of}
use Rattle.rsp_debug.specs.declared.breaks.BreakFault.{BreakFault}
use Rattle.rsp_debug.specs.declared.breaks.BreakFault.TheVariants.{BreakTwice, BreakFull}
use Rattle.rsp_debug.specs.declared.watches.WatchFault.{WatchFault}
use Rattle.rsp_debug.specs.declared.watches.WatchFault.TheVariants.{WatchRange, WatchFull}
use Rattle.rsp_debug.specs.declared.debugger.BackFault.{BackFault}
use Rattle.rsp_debug.specs.declared.debugger.BackFault.TheVariants.{Count, ShortHistory}
use Rattle.rsp_script_io.specs.Text.{hex_text, each_text}
use Rattle.rsp_script_io.specs.Replies.{Answer, replies, final}
use Rattle.rsp_bench.specs.Looks.{word_text, registers_text, sp_line, sp_text, dump_line, dump_text, listed_line, listing_text, vector_line, vectors_text, accumulator_line, accumulators_text, flags_text}
use Rattle.rsp_bench.specs.Replies.{line_fault_text, asm_fault_text, range_text}
use Rattle.rsp_bench.specs.Session.{SessionState, plain_answer, block_answer, answer_in, answer_of, load_answer, step_answer, read_answer, task_answer, run_answer, break_answer, watch_answer, back_fault, back_answer, end_answer, parsed_answer, line_answer, look_text, in_block, end_reply, end_reply_of, first_session}
use Rattle.rsp_bench.specs.OutOfMemoryReplies.{is_out_of_memory, reply_list, NoReplyIsOutOfMemory}

abbrev IsOther : List ℕ → Type 0
IsOther reply = is_out_of_memory reply ≡ false

other_if : (b : Bool) (x y : List ℕ) → IsOther x → IsOther y → IsOther (if b then x else y)
other_if true x y p q = p
other_if false x y p q = q

-- ---- texts that differ from `fault 17` in one of the first bytes

-- byte k is there, and is another than that of `fault 17`
abbrev Differs : ℕ → List ℕ → Type 0
Differs k text = (k < length text) × ((get_or text k 0 == get_or (codes "fault 17") k 0) ≡ false)

differs-append : (k : ℕ) (text more : List ℕ) → Differs k text → Differs k (text ++ more)
differs-append k text more h = (omega (arith, h.0, length-append text more), rw (get_or_append_left text more 0 k h.0) h.1)

differs-each : (k : ℕ) (f : ℕ → List ℕ) (n : ℕ) → Differs k (f 0) → Differs k (each_text f (suc n))
unfolding each_text
differs-each k f zero h = h
differs-each k f (suc n) h = differs-append k (each_text f (suc n)) (f (suc n)) (differs-each k f n h)

first_other : (text : List ℕ) → Differs 0 text → IsOther text
first_other [] h = refl
first_other (a ∷ text) h = rw h.1 refl

third_other : (text : List ℕ) → Differs 2 text → IsOther text
third_other [] h = refl
third_other (a ∷ []) h = absurd (omega (arith, h.0))
third_other (a ∷ b ∷ []) h = absurd (omega (arith, h.0))
third_other (a ∷ b ∷ c ∷ text) h = rw h.1 (neither (a == 102) (b == 97))
  where
    neither : (x y : Bool) → (x && (y && false)) ≡ false
    neither true true = refl
    neither true false = refl
    neither false y = refl

-- ---- what is looked at

no_u : (n : ℕ) → (digit_char (n % 16) == 117) ≡ false
no_u n = grind (arith, nat_tests)

dump_differs : (a : ℕ) (bytes : List ℕ) → Differs 2 (dump_line a bytes)
unfolding dump_line hex_text
dump_differs a bytes = (omega arith, no_u (a / 16 / 16 / 16))

listed_differs : (w : ListedWord) → Differs 2 (listed_line w)
unfolding listed_line hex_text
listed_differs w = (omega arith, no_u w.place)

dump_other : (a : ℕ) (bytes : List ℕ) → IsOther (dump_text a bytes)
unfolding dump_text each_text
dump_other a bytes = go ((length bytes + 15) / 16)
  where
    go : (n : ℕ) → IsOther (each_text (λ k. dump_line (a + 16 * k) (take 16 (drop (16 * k) bytes))) n)
    go zero = refl
    go (suc n) = third_other _ (differs-each 2 _ n (dump_differs _ _))

listing_other : (ws : List ListedWord) → IsOther (listing_text ws)
unfolding listing_text
listing_other [] = refl
listing_other (w ∷ ws) = third_other _ (differs-append 2 (listed_line w) (flat_map listed_line ws) (listed_differs w))

registers_other : (s : State) → IsOther (registers_text s)
unfolding registers_text
registers_other s = refl

vector_differs : (n : ℕ) (v : List ℕ) → Differs 0 (vector_line n v)
unfolding vector_line
vector_differs n v = (omega arith, refl)

vectors_other : (file : List (List ℕ)) → IsOther (vectors_text file)
unfolding vectors_text
vectors_other file = first_other _ (differs-each 0 _ 31 (vector_differs _ _))

accumulator_differs : (i h m l : ℕ) → Differs 0 (accumulator_line i h m l)
unfolding accumulator_line
accumulator_differs i h m l = (omega arith, refl)

accumulators_other : (s : State) → IsOther (look_text Acc s)
unfolding accumulators_text
accumulators_other s = first_other _ (differs-each 0 _ 7 (accumulator_differs _ _ _ _))

flags_other : (s : State) → IsOther (look_text Flags s)
unfolding flags_text
flags_other s = refl

sp_differs : (n value : ℕ) → Differs 0 (sp_line n value)
unfolding sp_line
sp_differs n value = (omega arith, refl)

sp_other : (s : State) → IsOther (look_text Sp s)
unfolding sp_text each_text sp_line read_value word_text hex_text
sp_other s =
    let lines = each_text (λ n. sp_line n (read_value n s.sp)) 16 in
    first_other (sp_text s.sp) (differs-append 0 lines (codes "interrupt " ++ (if s.sp.interrupt then 49 else 48) ∷ 10 ∷ []) (differs-each 0 (λ n. sp_line n (read_value n s.sp)) 15 (sp_differs 0 (read_value 0 s.sp))))

look_other : (look : Look) (s : State) → IsOther (look_text look s)
look_other Regs s = registers_other s
look_other Vregs s = vectors_other s.vectors
look_other Acc s = accumulators_other s
look_other Flags s = flags_other s
look_other Sp s = sp_other s
look_other (Mem bank a n) s = other_if (is_inside bank a n s) (dump_text a (memory_of bank s a n)) range_text (dump_other a (memory_of bank s a n)) refl
look_other (Dis address n) s = other_if (nat_le (address + 4 * n) 4096) (listing_text (listing_of s address n)) range_text (listing_other (listing_of s address n)) refl

-- ---- faults

line_other : (fault : LineFault) → IsOther (line_fault_text fault)
line_other BadCommand = refl
line_other BadNumber = refl
line_other LineTooLong = refl
line_other NotText = refl

kind_other : (kind : AsmFaultKind) (n : ℕ) → of_text kind ≡ true → IsOther (asm_fault_text (record { line = n; kind = kind }))
kind_other BadLine n h = refl
kind_other UnknownName n h = refl
kind_other BadOperand n h = refl
kind_other OutOfRange n h = refl
kind_other LabelTwice n h = refl
kind_other LabelMissing n h = refl
kind_other PastEnd n h = refl
kind_other OutOfMemory n h = absurd cc

-- ---- commands

answer_if : (b : Bool) (x y : Answer SessionState) → IsOther x.reply → IsOther y.reply → IsOther (if b then x else y).reply
answer_if true x y p q = p
answer_if false x y p q = q

load_other : (bank : Bank) (a : ℕ) (bytes : List ℕ) (s : SessionState) → IsOther (load_answer bank a bytes s).reply
unfolding load_answer
load_other bank a bytes s = answer_if (is_inside bank a (length bytes) s.debugging.state) _ _ refl refl

step_other : (s : SessionState) → IsOther (step_answer s).reply
unfolding step_answer
step_other s = refl

read_other : (n : ℕ) (s : SessionState) → IsOther (read_answer n s).reply
unfolding sp_line
read_other n s = refl

run_other : (n : ℕ) (s : SessionState) → IsOther (run_answer n s).reply
unfolding run_answer
run_other n s = answer_if (is_count n) _ _ refl refl

task_other : (fault : Option TaskFault) (a : ℕ) (s : SessionState) → IsOther (task_answer fault a s).reply
task_other None a s = refl
task_other (Some TaskPlace) a s = refl
task_other (Some TaskSize) a s = refl

break_other : (fault : Option BreakFault) (address : ℕ) (s : SessionState) → IsOther (break_answer fault address s).reply
break_other None address s = refl
break_other (Some BreakTwice) address s = refl
break_other (Some BreakFull) address s = refl

watch_other : (number : Result ℕ WatchFault) (a n : ℕ) (s : SessionState) → IsOther (watch_answer number a n s).reply
watch_other (Ok k) a n s = refl
watch_other (Err WatchRange) a n s = refl
watch_other (Err WatchFull) a n s = refl

back_other : (fault : Option BackFault) (n : ℕ) (s : SessionState) → IsOther (back_answer fault n s).reply
back_other None n s = refl
back_other (Some Count) n s = refl
back_other (Some ShortHistory) n s = refl

plain_other : (c : Command) (s : SessionState) → IsOther (plain_answer c s).reply
plain_other Nothing s = refl
plain_other (Load bank a bytes) s = load_other bank a bytes.items s
plain_other Step s = step_other s
plain_other (Run n) s = run_other n s
plain_other (Break address) s = break_other (break_fault address s.debugging.breaks) address s
plain_other (Unbreak address) s = answer_if (is_break s.debugging.breaks address) _ _ refl refl
plain_other (Watch a n) s = watch_other (number_for a n s.debugging.watches) a n s
plain_other (Unwatch k) s = answer_if (has_watch k s.debugging.watches) _ _ refl refl
plain_other (Back n) s = back_other (back_fault n s.debugging.past) n s
plain_other (Read n) s = read_other n s
plain_other (Write n value) s = refl
plain_other (SetPc address) s = refl
plain_other (Task a) s = task_other (task_fault a s.debugging.state.rdram) a s
plain_other (Show look) s = look_other look s.debugging.state
plain_other (Asm address) s = refl
plain_other (BlockLine line) s = refl
plain_other End s = refl

end_other : (b : OpenBlock) (r : Result (List ℕ) AsmFault) (s : SessionState) → meaning_of_block b ≡ r → IsOther (end_answer b r s).reply
unfolding meaning_of_block
end_other b (Ok words) s is = refl
end_other b (Err fault) s is = kind_other fault.kind fault.line (means_of_text b.lines b.origin fault is)

block_other : (b : OpenBlock) (c : Command) (s : SessionState) → IsOther (block_answer b c s).reply
block_other b (BlockLine line) s = refl
block_other b End s = end_other b (meaning_of_block b) s refl
block_other b _ s = refl

command_other : (open_block : Option OpenBlock) (c : Command) (s : SessionState) → IsOther (answer_in open_block c s).reply
command_other None c s = plain_other c s
command_other (Some b) c s = block_other b c s

parsed_other : (r : Result Command LineFault) (s : SessionState) → IsOther (parsed_answer r s).reply
unfolding answer_of
parsed_other (Ok c) s = command_other s.block c s
parsed_other (Err fault) s = line_other fault

reply_other : (line : List ℕ) (s : SessionState) → IsOther (line_answer line s).reply
unfolding line_answer
reply_other line s = parsed_other (command_of line (in_block s)) s

closing_other : (open_block : Option OpenBlock) → IsOther (end_reply_of open_block)
closing_other None = refl
closing_other (Some b) = refl

-- ---- a script

all_other : (ls : List (List ℕ)) (s : SessionState) → All (λ reply. is_out_of_memory reply ≡ false) (reply_list ls s)
all_other [] s = All-cons IsOther (end_reply s) [] (closing_other s.block) (All-nil IsOther)
all_other (l ∷ ls) s = All-cons IsOther (line_answer l s).reply (reply_list ls (line_answer l s).next) (reply_other l s) (all_other ls (line_answer l s).next)

all_joined : (ls : List (List ℕ)) (s : SessionState) → flat_map (λ reply. reply) (reply_list ls s) ≡ replies line_answer ls s ++ end_reply (final line_answer ls s)
all_joined [] s = append-nil (end_reply s)
all_joined (l ∷ ls) s = ap (λ text. (line_answer l s).reply ++ text) (all_joined ls (line_answer l s).next) ∙ sym (append_assoc (line_answer l s).reply _ _)

pub none_out_of_memory : (script image : List ℕ) → NoReplyIsOutOfMemory script image
none_out_of_memory script image = record { joined = all_joined (lines script) (first_session image); none = all_other (lines script) (first_session image) }
