-- One VADD.
use Rattle.std.proofs.Common.{◌≡◌, ℕ, List, [], ◌∷◌, map, Some, false, refl, ap, sym, subst, ◌∙◌}
use Rattle.std.proofs.Math.IntN.{+ℤ_idr}
use Rattle.rsp_numbers.specs.Numbers.{sixteen_bits, clamp16}
use Rattle.rsp_decode.specs.declared.inst.Inst.{Inst}
use Rattle.rsp_decode.specs.declared.inst.Inst.TheVariants.{VectorAdd}
use Rattle.rsp_decode.specs.declared.vector.VectorAddOp.TheVariants.{Vadd}
use Rattle.rsp_decode.specs.Table.Words.{inst_of, row_of}
use Rattle.rsp_lanes.specs.Lanes.{each_lane, selected}
use Rattle.rsp_lanes.proofs.Kit.{lane_of, each_same}
use Rattle.rsp_lanes.specs.declared.flags.Flags.{Flags}
use Rattle.rsp_lanes.specs.Outcome.{results_of}
use Rattle.rsp_compare.specs.Adds.{vadd}
use Rattle.rsp_scalar.specs.Flow.{address_after}
use Rattle.rsp_loadstore.specs.File.{vector, with_vector}
use Rattle.rsp_machine.specs.State.{State}
use Rattle.rsp_machine.specs.Step.{executed, instruction_effect}
use Rattle.rsp_machine.specs.Vector.{ruled}
use Rattle.rsp_routines.specs.AddLanes.{limited_sums, Adds, AddsLanes}
use Rattle.rsp_microcode.proofs.Runs.{straight}
use Rattle.rsp_microcode.proofs.Fixed.{itself}

abbrev words : List ℕ
words = 0x4a0208d0 ∷ []

abbrev add : Inst
add = VectorAdd Vadd (record { vd = 3; vs = 1; vt = 2; element = 0 })

decoded : map inst_of words ≡ map Some (add ∷ [])
unfolding inst_of row_of
decoded = refl

-- the results where the carry flags are clear
pub sums_are : (v w : List ℕ) (f : Flags) → f.carry ≡ each_lane (λ _. false) → results_of vadd v (selected w 0) f ≡ limited_sums v w
unfolding results_of
sums_are v w f clear = each_same _ _ (λ i h. rw (lane_of false (λ _. false) f.carry clear i h, itself w i h) (ap (λ z. sixteen_bits (clamp16 z)) (+ℤ_idr _)))

-- the state after the instruction
added : (s : State) → s.npc ≡ address_after s.pc → s.flags.carry ≡ each_lane (λ _. false) → Adds words s (executed add s)
unfolding executed instruction_effect ruled
added s next clear =
    let sum = sums_are (vector s.vectors 1) (vector s.vectors 2) s.flags clear in
    let t = executed add s in
    ap (λ (v : List ℕ). let u : State = record t { vectors = with_vector s.vectors 3 v } in u) sum
    ∙ ap (λ (p : ℕ). let u : State = record t { pc = p; vectors = with_vector s.vectors 3 (limited_sums (vector s.vectors 1) (vector s.vectors 2)) } in u) next

pub adds_lanes : AddsLanes words
adds_lanes s at clear = subst (Adds words s) (sym (straight words (add ∷ []) s decoded refl at)) (added s at.next clear)
