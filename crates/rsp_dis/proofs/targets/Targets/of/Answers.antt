use Rattle.std.proofs.Common.{◌≡◌, refl, sym, ap, ◌∙◌, ◌/◌, false, true, arith, slice_set, length-set}
use Rattle.rsp_dis.proofs.Marks.{in_words, none_marked, not_led, led_in, led_out, within, below_words, above_words}
use Rattle.rsp_dis.proofs.targets.Targets.of.Goals as goal
use Rattle.rsp_dis.proofs.targets.Targets.of.Goals.{in-Some+then-origin-target+then-target-end, in-Some+else-origin-target, else-origin-target-via-then-origin-target+else-target-end, else-origin-target-via-else-origin-target, in_default}

pub loop-i-init : goal.loop-i-init
loop-i-init c = record { size = refl; marks = none_marked c.args.origin c.args.words.now }

pub loop-i-preserved : goal.loop-i-preserved
loop-i-preserved c =
    let inv = c.loop-i.invariant in
    let inside = c.loop-i-test.true in
    let origin = c.args.origin in
    let ws = c.args.words.now in
    elim c.match-word_target.branch [
      | in-Some+then-origin-target+then-target-end w ↦
          let some = sym c.word_target.ensures ∙ w.in-Some.is in
          let t = w.in-Some.target in
          let near = within origin ws t w.if-origin-target.true w.if-target-end.true in
          rw (w.marks-is ∙ ap (λ n. slice_set c.loop-i.marks n true) w.from.ensures) (record {
            size = length-set c.loop-i.marks (t / 4) true ∙ inv.size;
            marks = led_in origin ws c.loop-i.i inside c.requires.aligned c.loop-i.marks t inv.size some near (omega (arith, c.requires.room, w.if-target-end.true)) inv.marks;
          })
      | in-Some+else-origin-target w ↦
          let some = sym c.word_target.ensures ∙ w.in-Some.is in
          let t = w.in-Some.target in
          let far : in_words origin ws t ≡ false = elim w.else-origin-target.branch [
            | else-origin-target-via-then-origin-target+else-target-end v ↦ above_words origin ws t (omega (arith, v.if-target-end.false))
            | else-origin-target-via-else-origin-target v ↦ below_words origin ws t (omega (arith, v.if-origin-target.false))
          ] in
          rw w.marks-is (record { size = inv.size; marks = led_out origin ws c.loop-i.i inside c.requires.aligned c.loop-i.marks t some far inv.marks })
      | in_default w ↦ rw w.marks-is (record { size = inv.size; marks = not_led origin ws c.loop-i.i inside c.requires.aligned c.loop-i.marks (sym c.word_target.ensures ∙ w.in_default.is) inv.marks })
    ]
