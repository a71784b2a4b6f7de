use Rattle.std.proofs.Common.{◌≡◌, ◌∙◌, ℕ, List, length, refl, ap, rules}
use Rattle.std.proofs.lemmas.List.{length-replicate}
use Rattle.rsp_memory.specs.Memory.{empty_memory}
use Rattle.rsp_memory.specs.declared.bank.Bank.TheVariants.{Dmem, Imem}
use Rattle.rsp_machine.specs.State.{State, start_of}
use Rattle.rsp_machine.specs.Host.{with_bank_bytes}
use Rattle.rsp_machine.proofs.Copying.{written-whole}
use Rattle.rsp_debug.specs.Debugging.{Debugging, debugging_of, set_by_host}
use Rattle.rsp_c.proofs.life.put_state.Goals as goal

-- the memories of a machine with this image, after both were written whole
record SameMemories (s t : State) : Type 0 where
  dmem : t.dmem ≡ s.dmem
  imem : t.imem ≡ s.imem
  rdram : t.rdram ≡ s.rdram

loaded : (s t u : State) (ds is : List ℕ) → ds ≡ s.dmem → is ≡ s.imem → length ds ≡ 4096 → length is ≡ 4096
    → t ≡ with_bank_bytes Dmem 0 ds (start_of s.rdram) → u ≡ with_bank_bytes Imem 0 is t → SameMemories s u
unfolding with_bank_bytes start_of
loaded s t u ds is d i dl il a b = rw (b, a) (record {
  dmem = written-whole empty_memory ds (length-replicate {A = ℕ} 4096 0) dl ∙ d;
  imem = written-whole empty_memory is (length-replicate {A = ℕ} 4096 0) il ∙ i;
  rdram = refl;
})

-- what the host sets leaves the rest of a debugger that was just made
just_set : (n : ℕ) (s x y z : State) (d e f g : Debugging) → d ≡ debugging_of n (start_of s.rdram) → e ≡ set_by_host x d → f ≡ set_by_host y e → g ≡ set_by_host z f → z ≡ s
    → g ≡ debugging_of n s
just_set n s x y z d e f g hd he hf hg hz = rw (hg, hf, he, hd, hz) refl

pub returns : goal.returns
returns g c =
    let s = c.args.machine.now in let made = c.args.to.now in let first = c.load_bytes.new.self in let second = c.load_bytes-2.new.self in
    let dmem : c.bytes.result.now ≡ s.dmem = c.bytes.ensures ∙ c.dmem.ensures in
    let imem : c.bytes-2.result.now ≡ s.imem = c.bytes-2.ensures ∙ c.imem.ensures in
    let dmem_length : length c.bytes.result.now ≡ 4096 = search rules in
    let imem_length : length c.bytes-2.result.now ≡ 4096 = search rules in
    let one = c.in-Ok.ensures.ok in let two = c.in-Ok-load_bytes.ensures.ok in
    let start = ap (λ (d : Debugging). with_bank_bytes Dmem 0 c.bytes.result.now d.state) c.requires in
    let same = loaded s first.state second.state c.bytes.result.now c.bytes-2.result.now dmem imem dmem_length imem_length (ap (λ (d : Debugging). d.state) one ∙ start) (ap (λ (d : Debugging). d.state) two) in
    just_set made.depth s _ _ _ made first second c.set_all_registers.new.self c.requires one two c.in-Ok-set_all_registers.ensures.ok
    (c.all_registers.ensures.back second.state same.dmem same.imem same.rdram)
