-- The numbers of brsp.h: those of the statuses, and how many bytes a buffer for replies needs. Definitions and clauses name them as the code does.
use Rattle.std.specs.Prelude.{◌≡◌}
use Rattle.rsp_c.specs.declared.status.TheConstants.{OK, NO_MACHINE, NO_MEMORY, OUT_OF_RANGE, HALTED, RESERVED, NO_MEANING, TASK_PLACE, TASK_SIZE, BREAK_FULL, BREAK_TWICE, NO_BREAK, WATCH_FULL, NO_WATCH, SHORT_HISTORY, NO_ROOM, ENDED, TOO_LONG, OTHER_WORD}
use Rattle.rsp_c.specs.declared.script.TheConstants.{REPLIES}

pub record AreNumbers : Type 0 where
  pub ok : OK ≡ 0
  pub no_machine : NO_MACHINE ≡ 101
  pub no_memory : NO_MEMORY ≡ 102
  pub out_of_range : OUT_OF_RANGE ≡ 103
  pub halted : HALTED ≡ 104
  pub reserved : RESERVED ≡ 105
  pub no_meaning : NO_MEANING ≡ 106
  pub task_place : TASK_PLACE ≡ 107
  pub task_size : TASK_SIZE ≡ 108
  pub break_full : BREAK_FULL ≡ 109
  pub break_twice : BREAK_TWICE ≡ 110
  pub no_break : NO_BREAK ≡ 111
  pub watch_full : WATCH_FULL ≡ 112
  pub no_watch : NO_WATCH ≡ 113
  pub short_history : SHORT_HISTORY ≡ 114
  pub no_room : NO_ROOM ≡ 115
  pub ended : ENDED ≡ 116
  pub too_long : TOO_LONG ≡ 117
  pub other_word : OTHER_WORD ≡ 118
  pub replies : REPLIES ≡ 16384
