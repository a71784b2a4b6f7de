use Rattle.std.proofs.Common.{sym, ◌∙◌, arith}
use Rattle.rsp_memory.specs.Words.{words_bytes}
use Rattle.rsp_memory.proofs.Runs.{with_bytes-spliced, length-words_bytes}
use Rattle.rsp_memory.proofs.memory.SpMem.set_words.Goals as goal

pub returns : goal.returns
returns c =
    let bytes = words_bytes c.args.words.now in
    rw (← c.self.view_is) (c.splice_words.ensures ∙ sym (with_bytes-spliced _ c.args.a bytes (omega (arith, c.requires, length-words_bytes c.args.words.now)) c.self.told))
