use Rattle.std.proofs.Common.{◌≡◌, rules, subst, sym, refl}
use Rattle.rsp_scalar.specs.Registers.{IsRegisters}
use Rattle.rsp_lanes.specs.Lanes.{each_lane}
use Rattle.rsp_lanes.specs.declared.flags.Flags.{Flags}
use Rattle.rsp_lanes.specs.Flags.{flags_at, all_flags}
use Rattle.rsp_machine.specs.State.{IsState, IsInstructionAddress, AreFlags}
use Rattle.rsp_machine.specs.LoopTests.{IsRanged}
use Rattle.rsp_machine.proofs.machine.Machine.in_range.Goals as goal

eight_each : (f : Flags) → f ≡ all_flags (flags_at f) → AreFlags f
unfolding each_lane
eight_each f e = rw e (record { carry = refl; differ = refl; compare = refl; clip = refl; extra = refl })

pub returns : goal.returns
returns g c =
    let i = c.self.inside in
    let ranged = subst IsRanged (sym c.self.view_is) c.vector_ranges.ensures in
    subst IsState c.self.view_is (record {
      pc = subst IsInstructionAddress c.get-pc.ensures.value (c.get-pc.ensures.below, c.get-pc.ensures.whole);
      npc = subst IsInstructionAddress c.get-npc.ensures.value (c.get-npc.ensures.below, c.get-npc.ensures.whole);
      registers = subst IsRegisters c.words-registers.ensures.value c.words-registers.ensures.within;
      vectors = ranged.vectors;
      accumulators = ranged.accumulators;
      flags = eight_each i.flags ranged.flags;
      divider = search rules;
      dmem = search rules;
      imem = search rules;
      rdram = c.bytes-rdram.ensures.image;
      sp = c.parts-sp.ensures.ranges;
    })
