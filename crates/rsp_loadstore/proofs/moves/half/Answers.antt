use Rattle.std.proofs.Common.{◌≡◌, ◌∙◌, ◌+◌, ◌*◌, ◌/◌, ◌%◌, ◌<◌, ℕ, List, get_or, refl, arith}
use Rattle.rsp_loadstore.specs.Moves.{register_half}
use Rattle.rsp_lanes.specs.Lanes.{register_byte}
use Rattle.rsp_loadstore.proofs.moves.half.Goals as goal

-- from an even byte on the two are one lane
even : (v : List ℕ) (e : ℕ) → e < 16 → e % 2 ≡ 0 → get_or v (e / 2) 0 ≡ register_half v e
unfolding register_half register_byte
even v e n h =
    let last : (e + 1) % 16 % 2 ≡ 1 = omega (arith, n, h) in
    let same : (e + 1) % 16 / 2 ≡ e / 2 = omega (arith, n, h) in
    rw (h, last, same) (omega arith)

-- from an odd byte on they are the end of one and the beginning of the next
odd : (v : List ℕ) (e : ℕ) → e < 16 → e % 2 ≡ 1 → get_or v (e / 2) 0 % 256 * 256 + get_or v ((e + 1) / 2 % 8) 0 / 256 ≡ register_half v e
unfolding register_half register_byte
odd v e n h =
    let first : (e + 1) % 16 % 2 ≡ 0 = omega (arith, n, h) in
    let next : (e + 1) % 16 / 2 ≡ (e + 1) / 2 % 8 = omega (arith, n, h) in
    rw (h, first, next) refl

pub returns-then-e-eq0 : goal.returns-then-e-eq0
returns-then-e-eq0 c = c.lane-lane.ensures ∙ even c.args.v.now c.args.e c.requires c.if-e-eq0.true

pub returns-else-e-eq0 : goal.returns-else-e-eq0
returns-else-e-eq0 c =
    let is : c.args.e % 2 ≡ 1 = omega (arith, c.if-e-eq0.false) in
    rw (c.lane-lane.ensures, c.lane.ensures) (odd c.args.v.now c.args.e c.requires is)
