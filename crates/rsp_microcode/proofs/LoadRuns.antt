-- Runs of whole loads.
use Rattle.std.proofs.Common.{◌≡◌, ◌<◌, ℕ, ◌+◌, ◌*◌, List, [], ◌∷◌, map, inl, inr, refl, ap, ◌∙◌}
use Rattle.std.proofs.lemmas.Bool.{and_parts, ltb-true, cases_eq, eq-eqb, ne_eqb}
use Rattle.std.specs.List.{list_all}
use Rattle.std.specs.Prelude.{nat_lt}
use Rattle.rsp_scalar.specs.Registers.{register}
use Rattle.rsp_scalar.specs.Flow.{address_after}
use Rattle.rsp_loadstore.specs.File.{IsFile, with_vector}
use Rattle.rsp_lanes.specs.Lanes.{IsVector}
use Rattle.rsp_machine.specs.State.{State}
use Rattle.rsp_machine.specs.Step.{executed}
use Rattle.rsp_microcode.specs.Runs.{ran_through, address_after_words}
use Rattle.rsp_microcode.specs.Lanes.{lanes_at}
use Rattle.rsp_microcode.specs.Reads.{after_writes}
use Rattle.rsp_microcode.specs.Loads.{WholeLoad, load_of, load_fits, loaded, RunsOfLoads}
use Rattle.rsp_microcode.proofs.Bytes.{lanes_are}
use Rattle.rsp_microcode.proofs.Registers.{one_vector, length-with_vector}
use Rattle.rsp_microcode.proofs.Lanes.{loads_lanes}

pub file_written : (file : List (List ℕ)) (n : ℕ) (v : List ℕ) → n < 32 → IsVector v → IsFile file → IsFile (with_vector file n v)
file_written file n v h k is = record {
  count = length-with_vector file n v ∙ is.count;
  registers = λ i l. elim (cases_eq i n) [
    | inl e ↦ rw (one_vector file n i v is.count h, eq-eqb i n e) k
    | inr ne ↦ rw (one_vector file n i v is.count h, ne_eqb i n ne) (is.registers i l)
  ];
}

abbrev after_loads : List WholeLoad → State → ℕ → ℕ → List (List ℕ) → State
after_loads ls s pc npc file = record s { pc = address_after_words ls pc; npc = address_after_words ls npc; vectors = after_writes with_vector (loaded ls s.dmem s.registers) file }

pub loads_run : RunsOfLoads
loads_run [] s is bytes next fits aligned = (refl, is)
loads_run (l ∷ ls) s is bytes next fits aligned =
    let parts = and_parts (load_fits l) (list_all load_fits ls) fits in
    let field = and_parts (nat_lt l.vt 32) (nat_lt l.offset 64) parts.0 in
    let v = lanes_at s.dmem (register s.registers l.base + 16 * l.offset) in
    let file = with_vector s.vectors l.vt v in
    let t : State = record s { pc = s.npc; npc = address_after s.npc; vectors = file } in
    let one : executed (load_of l) s ≡ t = loads_lanes l.vt l.offset l.base s is (ltb-true _ _ field.0) (ltb-true _ _ field.1) aligned.0 in
    let kept = file_written s.vectors l.vt v (ltb-true _ _ field.0) (lanes_are s.dmem _ bytes) is in
    let ih = loads_run ls t kept bytes refl parts.1 aligned.1 in
    (ap (ran_through (map load_of ls)) one ∙ ih.0 ∙ ap (λ n. after_loads ls s n (address_after s.npc) file) next, ih.1)
