-- LRV: the bytes from the last multiple of 16 to an address, at the end of a register.
use Rattle.std.proofs.Common.{◌≡◌, ℕ, ◌+◌, ◌-◌, ◌*◌, ◌%◌, ◌^◌, ◌<◌, true, min, List, length, nat_lt, ap, sym, ◌∙◌, arith}
use Rattle.std.proofs.lemmas.Bool.Decides.{nat_tests}
use Rattle.rsp_memory.specs.Memory.{bytes_at}
use Rattle.rsp_decode.specs.declared.inst.Inst.{Inst}
use Rattle.rsp_decode.specs.declared.inst.Inst.TheVariants.{VectorLoad}
use Rattle.rsp_decode.specs.declared.vector.VectorLoadOp.TheVariants.{Lrv}
use Rattle.rsp_lanes.specs.Bytes.{with_register_bytes}
use Rattle.rsp_scalar.specs.Registers.{register}
use Rattle.rsp_scalar.specs.Flow.{address_after}
use Rattle.rsp_loadstore.specs.File.{vector, with_vector}
use Rattle.rsp_loadstore.specs.Addresses.{vector_address}
use Rattle.rsp_loadstore.specs.Pairs.{for_each, quadword_start}
use Rattle.rsp_loadstore.specs.Loads.{to_byte, after_load, load_pairs, file_after_load}
use Rattle.rsp_loadstore.proofs.BytesLoaded.{placed_loaded}
use Rattle.rsp_machine.specs.State.{State}
use Rattle.rsp_machine.specs.Step.{executed, instruction_effect}
use Rattle.rsp_machine.specs.Vector.{loads_vector}

-- lrv $vt[0], 16 * offset($base)
abbrev pub lrv : ℕ → ℕ → ℕ → Inst
lrv vt offset base = VectorLoad Lrv (record { vt = vt; element = 0; offset = offset; base = base })

-- the register v after LRV from e
abbrev pub ended_at : List ℕ → List ℕ → ℕ → List ℕ
ended_at v m e = with_register_bytes v (bytes_at m (quadword_start e) 16) (16 - e % 16 + 0) (e % 16 - 0)

address : (vt offset base value : ℕ) → offset < 64 → value + 16 * offset < 2 ^ 32 → vector_address (lrv vt offset base) value ≡ value + 16 * offset
unfolding vector_address
address vt offset base value l h =
    let e : nat_lt offset 64 ≡ true = grind (arith, nat_tests) in
    rw e (omega arith)

load_is : (m : List ℕ) (file : List (List ℕ)) (vt e : ℕ) → vt < length file → length (vector file vt) ≡ 8
    → after_load m file (load_pairs Lrv vt 0 e) ≡ with_vector file vt (ended_at (vector file vt) m e)
unfolding load_pairs
load_is m file vt e h l =
    let n : e % 16 - 0 ≡ min (e % 16 - 0) (16 - (16 - e % 16 + 0)) = omega arith in
    ap (λ n. after_load m file (for_each n (λ k. to_byte vt (16 - e % 16 + 0 + k) (quadword_start e + k)))) n
    ∙ sym (placed_loaded m file vt (16 - e % 16 + 0) (e % 16 - 0) (quadword_start e) h l (omega arith))

pub right_loads : (vt offset base : ℕ) (s : State) → length s.vectors ≡ 32 → length (vector s.vectors vt) ≡ 8 → vt < 32 → offset < 64 → register s.registers base + 16 * offset < 2 ^ 32
    → executed (lrv vt offset base) s
    ≡ record s { pc = s.npc; npc = address_after s.npc; vectors = with_vector s.vectors vt (ended_at (vector s.vectors vt) s.dmem (register s.registers base + 16 * offset)) }
unfolding executed instruction_effect loads_vector file_after_load
right_loads vt offset base s count eight h o small =
    let b = register s.registers base in
    ap (λ v. let t : State = record s { pc = s.npc; npc = address_after s.npc; vectors = v } in t) (
    ap (λ a. after_load s.dmem s.vectors (load_pairs Lrv vt 0 a)) (address vt offset base b o small)
    ∙ load_is s.dmem s.vectors vt (b + 16 * offset) (omega arith) eight
    )
