-- Where a run stops.
use Rattle.std.specs.Prelude.{◌≡◌, ◌≤◌, ◌<◌, ◌-◌, ◌/◌, ℕ, zero, suc, List, [], ◌∷◌, take, drop, position, Bool, false, not, nat_lt, ◌==◌, ◌&&◌, bytes_eq, Option, Some, None, option_map, is_none, is_some, unwrap_or, if◌then◌else◌, slice_index_or}
use Rattle.rsp_memory.specs.Memory.{word_at}
use Rattle.rsp_decode.specs.Table.{inst_of}
use Rattle.rsp_machine.specs.State.{State}
use Rattle.rsp_machine.specs.Laws.{steps_of}
use Rattle.rsp_debug.specs.declared.stop.Watch.{Watch}
use Rattle.rsp_debug.specs.declared.stop.Reason.{Reason}
use Rattle.rsp_debug.specs.declared.stop.Reason.TheVariants.{Reserved, Halted, Watched, Break, Limit}
use Rattle.rsp_debug.specs.declared.stop.Stop.{Stop}

-- the bytes of a watch
abbrev pub watched : Watch → List ℕ → List ℕ
watched w dmem = take w.len (drop w.address dmem)

-- whether a byte of a watch isn't what it was
abbrev pub is_changed : List ℕ → List ℕ → Option Watch → Bool
is_changed before dmem None = false
is_changed before dmem (Some w) = not (bytes_eq (watched w before) (watched w dmem))

-- the lowest number of a watch with a byte that isn't what it was
unfoldable pub changed_watch : List (Option Watch) → List ℕ → List ℕ → Option ℕ
changed_watch watches before dmem = position (is_changed before dmem) watches

-- whether an address of IMEM has a breakpoint: `breaks` has a truth value for each of the 1024 words
abbrev pub is_break : List Bool → ℕ → Bool
is_break breaks address = slice_index_or breaks (address / 4) false

-- whether a machine isn't halted and the word at pc is reserved
abbrev pub is_reserved : State → Bool
is_reserved s = not s.sp.halted && is_none (inst_of (word_at s.imem s.pc))

-- a reason, if it holds
abbrev pub when : Bool → Reason → Option Reason
when holds reason = if holds then Some reason else None

-- the first reason of a list of reasons that may hold
abbrev pub first_of : List (Option Reason) → Option Reason
first_of [] = None
first_of (None ∷ others) = first_of others
first_of (Some reason ∷ others) = Some reason

-- Why a run of at most n steps stops in a state, after k steps; the last of them began in the state `before`. Of the reasons that hold it
-- is the first in this order.
abbrev pub reason_in : List Bool → List (Option Watch) → ℕ → ℕ → State → State → Option Reason
reason_in breaks watches n k before s = first_of (
    when (is_reserved s) Reserved
    ∷ when s.sp.halted Halted
    ∷ (if nat_lt 0 k then option_map Watched (changed_watch watches before.dmem s.dmem) else None)
    ∷ when (nat_lt 0 k && is_break breaks s.pc) Break
    ∷ when (k == n) Limit
    ∷ [])

-- why a run of at most n steps from s stops after k of them
unfoldable pub reason_at : List Bool → List (Option Watch) → ℕ → State → ℕ → Option Reason
reason_at breaks watches n s k = reason_in breaks watches n k (steps_of (k - 1) s) (steps_of k s)

-- the least number up to n that passes a test, or n
abbrev pub least : (ℕ → Bool) → ℕ → ℕ
least test zero = zero
least test (suc n) = if test zero then zero else suc (least (λ k. test (suc k)) n)

-- how many steps a run of at most n steps makes: the least number of steps after which there is a reason to stop
unfoldable pub run_steps : List Bool → List (Option Watch) → ℕ → State → ℕ
run_steps breaks watches n s = least (λ k. is_some (reason_at breaks watches n s k)) n

-- where a run of at most n steps stops
unfoldable pub stop_of : List Bool → List (Option Watch) → ℕ → State → Stop
stop_of breaks watches n s =
    let k = run_steps breaks watches n s in
    record {
      reason = unwrap_or (reason_at breaks watches n s k) Limit;
      steps = k;
      pc = (steps_of k s).pc;
    }

-- what it means that a run of at most n steps from s stops so, in the state t
pub record IsStop (breaks : List Bool) (watches : List (Option Watch)) (n : ℕ) (s t : State) (stop : Stop) : Type 0 where
  pub within : stop.steps ≤ n
  pub reached : t ≡ steps_of stop.steps s
  pub reason : reason_at breaks watches n s stop.steps ≡ Some stop.reason
  pub first : (j : ℕ) → j < stop.steps → reason_at breaks watches n s j ≡ None
  pub pc : stop.pc ≡ t.pc
