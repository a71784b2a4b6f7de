-- Eight accumulators by their high, middle and low sixteen bits, and operations on all eight.
use Rattle.std.specs.Prelude.{ℕ, ℤ, ◌+ℤ◌, List, slice_index}
use Rattle.rsp_lanes.specs.Lanes.{each_lane, IsVector}
use Rattle.rsp_numbers.specs.Numbers.{s48, number, join, high, middle, low}

-- the accumulators with these high, middle and low sixteen bits
abbrev pub joined : List ℕ → List ℕ → List ℕ → List ℤ
joined h m l = each_lane (λ i. join (slice_index h i) (slice_index m i) (slice_index l i))

-- planes of eight lanes, each of sixteen bits
abbrev pub ArePlanes : List ℕ → List ℕ → List ℕ → Type 0
ArePlanes h m l = IsVector h × IsVector m × IsVector l

-- the sums of two lists of eight numbers, each modulo 2^48 as a signed value
abbrev pub wrapped_sums : List ℤ → List ℤ → List ℤ
wrapped_sums xs ys = each_lane (λ i. s48 (number xs i +ℤ number ys i))

-- an accumulator with its low sixteen bits replaced; the high and middle ones are kept
abbrev pub with_low_bits : ℤ → ℕ → ℤ
with_low_bits x l = join (high x) (middle x) l

-- the same for all eight
unfoldable pub with_low : List ℤ → List ℕ → List ℤ
with_low xs l = each_lane (λ i. with_low_bits (number xs i) (slice_index l i))

-- the low sixteen bits of each of eight accumulators
abbrev pub low_lanes : List ℤ → List ℕ
low_lanes xs = each_lane (λ i. low (number xs i))
