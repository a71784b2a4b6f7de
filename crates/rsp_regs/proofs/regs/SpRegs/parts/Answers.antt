use Rattle.std.proofs.Common.{◌<◌, ◌^◌, ℕ, List, subst, rules}
use Rattle.std.specs.Prelude.{slice_index}
use Rattle.rsp_regs.specs.Sp.{Sp, IsSp}
use Rattle.rsp_regs.proofs.regs.SpRegs.parts.Goals as goal

pub returns-clause-ranges : goal.returns-clause-ranges
returns-clause-ranges c =
    let below : (i : ℕ) → slice_index c.dpc_words.result i < 2 ^ 32 = search rules in
    let words = subst (λ (s : List ℕ). (i : ℕ) → slice_index s i < 2 ^ 32) c.dpc_words.ensures below in
    subst (λ (s : Sp). ((i : ℕ) → slice_index s.dpc i < 2 ^ 32) → IsSp s) c.self.view_is (λ h. record { kept = c.self.invariant; signals = c.self.told.0; dpc = c.self.told.1; words = h }) words
