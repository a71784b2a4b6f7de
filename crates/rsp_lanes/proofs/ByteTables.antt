-- The byte tables, and sixteen of their members.
use Rattle.std.proofs.Common.{◌≡◌, ℕ, ◌+◌, ◌-◌, ◌*◌, ◌/◌, ◌%◌, ◌<◌, List, length, map, take, drop, get_or, true, nat_eq, nat_lt, false, leb, ltb, ◌||◌, inl, inr, ltb→lt, subst, T, suc, refl, sym, ap, ◌∙◌, arith, w8}
use Rattle.std.specs.Simd.Lanes.{chunk, number_l, digits_l}
use Rattle.std.proofs.lemmas.Simd.{swz_l, length-swz_l, get_or-swz_l_below, SwzOk, SwzOk-from_below, SwzOk-from_Each1, Each1-from_get_or, length-chunk, get_or-chunk}
use Rattle.std.proofs.lemmas.List.{length-take, length-drop, get_or-take, get_or-drop}
use Rattle.std.proofs.lemmas.Grind.{same_number_lists}
use Rattle.std.proofs.lemmas.Bool.{agree_below_at, eqb-true, cases_lt}
use Rattle.std.proofs.lemmas.Bool.Decides.{nat_tests}
use Rattle.rsp_lanes.specs.Lanes.{each_lane, IsVector, register_byte}
use Rattle.rsp_lanes.specs.Bytes.{each_byte}
use Rattle.rsp_lanes.specs.HostByteOrder.{byte_at_position}
use Rattle.rsp_lanes.specs.declared.bytes.TheConstants.{PLACES, ORDERED_PLACES, DISTANCES, FROM_LAST}
use Rattle.rsp_lanes.proofs.ByteOrder.{swapped, distances, to_le, byte_of, each_byte_same}
use Rattle.rsp_lanes.proofs.ByteLanes.{lanes_of, lanes_are}
use Rattle.rsp_lanes.proofs.Kit.{each_same, map_of_each}

length-each_byte : (f : ℕ → ℕ) → length (each_byte f) ≡ 16
unfolding each_byte
length-each_byte f = refl

-- the tables, tested entry by entry
place_at : (j : ℕ) → j < 31 → get_or PLACES j 0 ≡ j % 16
place_at j h = eqb-true _ _ (agree_below_at (λ j. nat_eq (get_or PLACES j 0) (j % 16)) (λ _. true) 31 j refl h)

ordered_at : (j : ℕ) → j < 31 → get_or ORDERED_PLACES j 0 ≡ swapped (j % 16)
ordered_at j h = eqb-true _ _ (agree_below_at (λ j. nat_eq (get_or ORDERED_PLACES j 0) (swapped (j % 16))) (λ _. true) 31 j refl h)

swapped_twice : (j : ℕ) → j < 16 → swapped (swapped j) ≡ j
swapped_twice j h = eqb-true _ _ (agree_below_at (λ j. nat_eq (swapped (swapped j)) j) (λ _. true) 16 j refl h)

pub swapped_below : (j : ℕ) → j < 16 → swapped j < 16
swapped_below j h = ltb→lt _ _ (subst T (sym (agree_below_at (λ j. nat_lt (swapped j) 16) (λ _. true) 16 j refl h)) tt)

pub places_from : (start : ℕ) → each_byte (λ k. get_or PLACES (start % 16 + k) 0) ≡ each_byte (λ k. (start + k) % 16)
places_from start = each_byte_same _ _ (λ k h. place_at (start % 16 + k) (omega arith) ∙ omega arith)

pub ordered_from : (start : ℕ) → each_byte (λ k. get_or ORDERED_PLACES (start % 16 + k) 0) ≡ each_byte (λ k. swapped ((start + k) % 16))
ordered_from start = each_byte_same _ _ (λ k h. ordered_at (start % 16 + k) (omega arith) ∙ ap swapped (omega arith))

-- sixteen members of a slice
pub cut_out : (xs : List ℕ) (first n : ℕ) → first + 16 < suc (length xs) → n ≡ 16 → chunk 0 16 (take n (drop first xs)) ≡ each_byte (λ k. get_or xs (first + k) 0)
cut_out xs first n h e =
    let l : length (chunk 0 16 (take n (drop first xs))) ≡ 16 = length-chunk 0 16 _ (omega (arith, length-take n (drop first xs), length-drop first xs)) in
    same_number_lists _ _ (l ∙ sym (length-each_byte _)) (λ k b.
    get_or-chunk 0 16 (take n (drop first xs)) k 0 (omega (arith, l, b))
    ∙ get_or-take n (drop first xs) (0 + k) 0 (omega (arith, l, b))
    ∙ get_or-drop first xs (0 + k) 0
    ∙ ap (λ j. get_or xs (first + j) 0) (omega arith)
    ∙ sym (byte_of (λ k. get_or xs (first + k) 0) k (omega (arith, l, b))))

module _ (js : List ℕ) (f : ℕ → ℕ) (e : js ≡ each_byte f) (h : (k : ℕ) → k < 16 → f k < 16) where
  sixteen_places : length js ≡ 16
  sixteen_places = ap length e ∙ length-each_byte f

  place_is : (k : ℕ) → k < 16 → get_or js k 0 ≡ f k
  place_is k l = ap (λ js. get_or js k 0) e ∙ byte_of f k l

  pub places_ok : SwzOk w8 16 16 0 js
  places_ok = SwzOk-from_below w8 16 1 16 0 js refl (omega (arith, sixteen_places)) (Each1-from_get_or (λ j. j < 16) js 0 (λ k l. omega (arith, place_is k (omega (arith, l, sixteen_places)), h k (omega (arith, l, sixteen_places)))))

  pub at_places : (bytes : List ℕ) → swz_l w8 16 bytes 0 js ≡ each_byte (λ k. get_or bytes (f k) 0)
  at_places bytes =
      same_number_lists _ _ (length-swz_l w8 16 bytes 0 js ∙ sixteen_places ∙ sym (length-each_byte _)) (λ k b.
      let l : k < 16 = omega (arith, b, length-swz_l w8 16 bytes 0 js, sixteen_places) in
      get_or-swz_l_below w8 16 bytes 0 js k (omega (arith, l, sixteen_places)) (omega (arith, place_is k l, h k l))
      ∙ ap (λ j. get_or bytes j 0) (omega (arith, place_is k l))
      ∙ sym (byte_of (λ k. get_or bytes (f k) 0) k l))

-- a byte of a register, by its lanes
pub register_places : (v js : List ℕ) (start : ℕ) → IsVector v → js ≡ each_byte (λ k. get_or ORDERED_PLACES (start % 16 + k) 0)
    → swz_l w8 16 (digits_l 256 16 (number_l 65536 v)) 0 js ≡ each_byte (λ k. register_byte v ((start + k) % 16))
register_places v js start h e =
    at_places js (λ k. swapped ((start + k) % 16)) (e ∙ ordered_from start) (λ k l. swapped_below _ (omega arith)) (digits_l 256 16 (number_l 65536 v))
    ∙ each_byte_same _ _ (λ k l.
    let at : (start + k) % 16 < 16 = omega arith in
    ap (λ le. get_or le (swapped ((start + k) % 16)) 0) (to_le v h)
    ∙ byte_of (λ p. register_byte v (swapped p)) (swapped ((start + k) % 16)) (swapped_below ((start + k) % 16) at)
    ∙ ap (register_byte v) (swapped_twice ((start + k) % 16) at))

-- how far the bytes at all positions are after a byte
abbrev pub far_behind : ℕ → List ℕ
far_behind i = each_byte (λ p. (byte_at_position p + (256 - i)) % 256)

distance_at : (j : ℕ) → j < 47 → get_or DISTANCES j 0 ≡ (271 - j) % 256
distance_at j h = eqb-true _ _ (agree_below_at (λ j. nat_eq (get_or DISTANCES j 0) ((271 - j) % 256)) (λ _. true) 47 j refl h)

swapped_at : (p : ℕ) → p < 16 → swapped p ≡ byte_at_position p
swapped_at p h = eqb-true _ _ (agree_below_at (λ p. nat_eq (swapped p) (byte_at_position p)) (λ _. true) 16 p refl h)

from_last : FROM_LAST ≡ each_byte (λ p. 15 - byte_at_position p)
unfolding each_byte
from_last = refl

pub from_last_ok : SwzOk w8 16 16 0 FROM_LAST
from_last_ok = places_ok FROM_LAST (λ p. 15 - byte_at_position p) from_last (λ k h. omega arith)

pub far_behind_is : (numbers : List ℕ) (i : ℕ) → i < 32 → numbers ≡ each_byte (λ k. get_or DISTANCES (i + k) 0) → swz_l w8 16 numbers 0 FROM_LAST ≡ far_behind i
far_behind_is numbers i h e =
    at_places FROM_LAST (λ p. 15 - byte_at_position p) from_last (λ k h. omega arith) numbers
    ∙ each_byte_same _ _ (λ p l.
    ap (λ ns. get_or ns (15 - byte_at_position p) 0) e
    ∙ byte_of (λ k. get_or DISTANCES (i + k) 0) (15 - byte_at_position p) (omega arith)
    ∙ distance_at (i + (15 - byte_at_position p)) (omega (arith, h))
    ∙ omega (arith, h, l))

in_reach : (i p : ℕ) → i < 32 → p < 16 → (leb 128 ((byte_at_position p + (256 - i)) % 256) || ltb ((byte_at_position p + (256 - i)) % 256) 16) ≡ true
in_reach i p h l = elim (cases_lt (byte_at_position p) i) [
  | inl b ↦
      let e : (byte_at_position p + (256 - i)) % 256 ≡ byte_at_position p + 256 - i = omega arith in
      let f : leb 128 (byte_at_position p + 256 - i) ≡ true = grind (arith, nat_tests) in
      rw (e, f) refl
  | inr b ↦
      let e : (byte_at_position p + (256 - i)) % 256 ≡ byte_at_position p - i = omega arith in
      let f : leb 128 (byte_at_position p - i) ≡ false = grind (arith, nat_tests) in
      let g : ltb (byte_at_position p - i) 16 ≡ true = grind (arith, nat_tests) in
      rw (e, f, g) refl
]

pub far_behind_ok : (far : List ℕ) (i : ℕ) → i < 32 → far ≡ far_behind i → SwzOk w8 16 16 0 far
far_behind_ok far i h e =
    let n : length far ≡ 16 = ap length e ∙ length-each_byte _ in
    SwzOk-from_Each1 w8 16 1 16 0 far refl (omega (arith, n)) (Each1-from_get_or (λ j. T (leb 128 j || ltb j 16)) far 0 (λ k l.
    let b : k < 16 = omega (arith, l, n) in
    let at : get_or far k 0 ≡ (byte_at_position k + (256 - i)) % 256 = ap (λ js. get_or js k 0) e ∙ byte_of (λ p. (byte_at_position p + (256 - i)) % 256) k b in
    subst T (sym (ap (λ j. leb 128 j || ltb j 16) at ∙ in_reach i k h b)) tt))

each_distance : (i : ℕ) → each_byte (λ p. (swapped p + (256 - i)) % 256) ≡ distances i
unfolding each_byte
each_distance i = refl

pub far_behind_distances : (i : ℕ) → far_behind i ≡ distances i
far_behind_distances i = each_byte_same _ _ (λ p h. ap (λ b. (b + (256 - i)) % 256) (sym (swapped_at p h))) ∙ each_distance i

-- the low byte of each lane, times 128, of rotated bytes
pub every_second : (source bytes : List ℕ) (start : ℕ) → bytes ≡ each_byte (λ k. get_or source ((start + k) % 16) 0) → ((k : ℕ) → get_or source k 0 < 256)
    → map (λ x. x * 256 % 65536 / 2) (lanes_of bytes) ≡ each_lane (λ i. get_or source ((start + 2 * i) % 16) 0 * 128)
every_second source bytes start e below =
    ap (map (λ x. x * 256 % 65536 / 2)) (lanes_are bytes (ap length e ∙ length-each_byte _) (λ k h. rw (byte k h) (below ((start + k) % 16))))
    ∙ map_of_each (λ x. x * 256 % 65536 / 2) _
    ∙ each_same _ _ (λ i h. rw (byte (2 * i) (omega arith)) (omega (arith, below ((start + 2 * i) % 16))))
  where
    byte : (k : ℕ) → k < 16 → get_or bytes k 0 ≡ get_or source ((start + k) % 16) 0
    byte k h = ap (λ bs. get_or bs k 0) e ∙ byte_of (λ k. get_or source ((start + k) % 16) 0) k h
