-- The accumulators by the lanes of their parts.
use Rattle.std.proofs.Common.{◌≡◌, ℕ, ℤ, List, refl, get_or}
use Rattle.rsp_lanes.specs.Lanes.{each_lane}
use Rattle.rsp_numbers.specs.Numbers.{number, high, middle, low}
use Rattle.rsp_acc.specs.Parts.{part_of}
use Rattle.rsp_acc.specs.declared.parts.Part.TheVariants.{High, Middle, Low}
use Rattle.rsp_script_io.specs.Text.{each_text}
use Rattle.rsp_bench.specs.Looks.{accumulator_line}

pub accumulators_by_parts : (xs : List ℤ) (h m l : List ℕ)
    → h ≡ each_lane (λ i. part_of High (number xs i)) → m ≡ each_lane (λ i. part_of Middle (number xs i)) → l ≡ each_lane (λ i. part_of Low (number xs i))
    → each_text (λ i. accumulator_line i (get_or h i 0) (get_or m i 0) (get_or l i 0)) 8
    ≡ each_text (λ i. accumulator_line i (high (number xs i)) (middle (number xs i)) (low (number xs i))) 8
unfolding each_lane each_text
accumulators_by_parts xs h m l e f g = rw (e, f, g) refl
