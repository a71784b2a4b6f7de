-- A bench that is given a script in pieces of any size.
use Rattle.std.specs.Prelude.{◌≡◌, ◌<◌, ℕ, List, ◌++◌, ◌⊎◌}
use Rattle.rsp_script_io.specs.Feeds.{script_limit, FedBytes, no_bytes, bytes_after}
use Rattle.rsp_script_io.specs.Lines.{ended_after, last_line}
use Rattle.rsp_script_io.specs.Replies.{OfFirst, replies, final}
use Rattle.rsp_bench.specs.Session.{SessionState, line_answer, lacks_memory, end_reply, first_session}
use Rattle.rsp_feed.specs.declared.bench.BenchFault.{BenchFault}
use Rattle.rsp_feed.specs.declared.bench.BenchFault.TheVariants as fault
use Rattle.rsp_feed.specs.declared.bench.Stage.{Stage}
use Rattle.rsp_feed.specs.declared.bench.Stage.TheVariants.{Open, Ended, TooLong}

-- a bench: the session that the lines so far left, what is kept of the bytes so far, and whether it takes more
pub record BenchState : Type 0 where
  pub session : SessionState
  pub fed : FedBytes
  pub stage : Stage

-- a bench that was given no bytes
abbrev pub first_bench : List ℕ → BenchState
first_bench image = record { session = first_session image; fed = no_bytes; stage = Open }

-- the replies to the lines that end in some bytes, and the bench after them
abbrev pub reply_to : List ℕ → BenchState → List ℕ
reply_to bytes b = replies line_answer (ended_after b.fed.line bytes) b.session

abbrev pub bench_after : List ℕ → BenchState → BenchState
bench_after bytes b = record {
  session = final line_answer (ended_after b.fed.line bytes) b.session;
  fed = bytes_after bytes b.fed;
  stage = b.stage;
}

-- the session after the line that no newline ended; the reply to that line; what is written at the end of input, and the bench
-- after it
abbrev pub last_session : BenchState → SessionState
last_session b = final line_answer (last_line b.fed.line) b.session

abbrev pub last_line_reply : BenchState → List ℕ
last_line_reply b = replies line_answer (last_line b.fed.line) b.session

abbrev pub last_reply : BenchState → List ℕ
last_reply b = last_line_reply b ++ end_reply (last_session b)

abbrev pub bench_ended : BenchState → BenchState
bench_ended b = record { session = last_session b; fed = b.fed; stage = Ended }

-- There was no memory to answer the first line that ends in some bytes: it is a line of an open block, or the block's end, which hides no
-- fault of the block. And there was none to answer the line that no newline ended.
abbrev pub LacksMemoryFor : List ℕ → BenchState → Type 0
LacksMemoryFor bytes b = OfFirst lacks_memory (ended_after b.fed.line bytes) b.session

abbrev pub LacksMemoryAtEnd : BenchState → Type 0
LacksMemoryAtEnd b = OfFirst lacks_memory (last_line b.fed.line) b.session

-- whether n bytes more make the script too long, or others did before
abbrev pub IsTooLong : ℕ → BenchState → Type 0
IsTooLong n b = (b.stage ≡ TooLong) ⊎ ((b.stage ≡ Open) × (b.fed.count ≡ script_limit) × (0 < n))

-- the bench after a script that is too long: it takes nothing more
abbrev pub bench_too_long : BenchState → BenchState
bench_too_long b = record { session = b.session; fed = b.fed; stage = TooLong }

-- the bench after it refused some bytes
abbrev pub after_refusal : BenchFault → BenchState → BenchState
after_refusal fault.Ended b = b
after_refusal fault.ScriptTooLong b = bench_too_long b
after_refusal fault.OutOfMemory b = b
