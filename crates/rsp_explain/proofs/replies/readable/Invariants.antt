use Rattle.std.proofs.Common.{◌≡◌, take}
use Rattle.std.specs.String.{string_bytes}
use Rattle.rsp_explain.specs.Replies.{readable}
use Rattle.rsp_explain.proofs.replies.readable.Given as goal

abbrev pub invariant-loop-byte : goal.invariant-loop-byte
invariant-loop-byte l = string_bytes l.text ≡ readable (take l.byte-index l.bytes)
