-- A run that ends before its first read.
use Rattle.std.proofs.Common.{inl, ℕ, List, [], Option, arith}
use Rattle.std.proofs.KnownBytes.{Consumes-nil}
use Rattle.rsp_script_io.specs.EarlyEnd.{TakesAtMost, PrefixWritten}
use Rattle.rsp_script_io.proofs.Prefixes.{prefix-none}
use Rattle.rsp_bench.specs.Session.{SessionState, line_answer, end_reply}

pub nothing_taken : (n : ℕ) (rest : Option (List ℕ)) → TakesAtMost n rest rest
nothing_taken n rest = ([], Consumes-nil rest, omega arith)

pub nothing_answered : (s : SessionState) (rest old : Option (List ℕ)) → PrefixWritten (record { answer_to = line_answer; end_reply = end_reply; session = s; script = rest; unread = rest; before = old; written = old })
nothing_answered s rest old = record { taken = []; told = Consumes-nil rest; prefix = inl (prefix-none old _) }

pub ruleset starts = (nothing_taken, nothing_answered)
