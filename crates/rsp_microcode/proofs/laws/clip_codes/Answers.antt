use Rattle.rsp_microcode.proofs.Clips.{clip_codes, code_bits, clips_run}
use Rattle.rsp_microcode.proofs.laws.clip_codes.Goals as goal

pub returns-clause-flags : goal.returns-clause-flags
returns-clause-flags c = clip_codes

pub returns-clause-bits : goal.returns-clause-bits
returns-clause-bits c = code_bits

pub returns-clause-run : goal.returns-clause-run
returns-clause-run c = clips_run
