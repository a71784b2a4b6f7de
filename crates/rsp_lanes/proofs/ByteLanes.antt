-- Eight lanes as sixteen bytes, the low byte of each lane first.
use Rattle.std.proofs.Common.{◌≡◌, ◌∙◌, ℕ, w8, suc, zero, ◌+◌, ◌*◌, ◌/◌, ◌%◌, ◌<◌, List, [], ◌∷◌, length, get_or, refl, ap, sym, arith}
use Rattle.std.specs.Simd.Lanes.{Each1, number_l, digits_l, chunk}
use Rattle.std.proofs.lemmas.Simd.{swz_l, length-swz_l, get_or-swz_l_below, Each1-from_get_or, get_or_wider, get_or_narrower, length-chunk, get_or-chunk}
use Rattle.rsp_lanes.specs.Lanes.{each_lane, IsVector}
use Rattle.rsp_lanes.proofs.Kit.{eta, each_same}

pub length-digits : (q n x : ℕ) → length (digits_l q n x) ≡ n
length-digits q zero x = refl
length-digits q (suc n) x = ap suc (length-digits q n (x / q))

abbrev pub bytes_of : List ℕ → List ℕ
bytes_of v = digits_l 256 16 (number_l 65536 v)

abbrev pub lanes_of : List ℕ → List ℕ
lanes_of bytes = digits_l 65536 8 (number_l 256 bytes)

pub digit_below : (n x i : ℕ) → get_or (digits_l 256 n x) i 0 < 256
digit_below zero x i = omega arith
digit_below (suc n) x zero = omega arith
digit_below (suc n) x (suc i) = digit_below n (x / 256) i

module _ (v : List ℕ) (h : IsVector v) where
  in_range : Each1 (λ x. x < 65536) v
  in_range = Each1-from_get_or (λ x. x < 65536) v 0 (λ i l. h.1 i)

  -- the low and the high byte of a lane
  pub low_byte : (i : ℕ) → i < 8 → get_or (bytes_of v) (2 * i) 0 ≡ get_or v i 0 % 256
  low_byte i l = ap (λ k. get_or (bytes_of v) k 0) (omega arith) ∙ get_or_narrower 65536 2 256 16 v i 0 refl in_range (omega arith) (omega arith) ∙ omega arith

  pub high_byte : (i : ℕ) → i < 8 → get_or (bytes_of v) (2 * i + 1) 0 ≡ get_or v i 0 / 256
  high_byte i l =
      let b = h.1 i in
      get_or_narrower 65536 2 256 16 v i 1 refl in_range (omega arith) (omega arith) ∙ omega arith

two : (xs : List ℕ) → length xs ≡ 2 → number_l 256 xs ≡ get_or xs 0 0 + 256 * get_or xs 1 0
two [] n = absurd (omega arith)
two (a ∷ []) n = absurd (omega arith)
two (a ∷ b ∷ []) n = omega arith
two (a ∷ b ∷ c ∷ xs) n = absurd (omega arith)

-- the lanes that sixteen bytes make
pub lanes_are : (bs : List ℕ) → length bs ≡ 16 → ((i : ℕ) → i < 16 → get_or bs i 0 < 256) → lanes_of bs ≡ each_lane (λ i. get_or bs (2 * i) 0 + 256 * get_or bs (2 * i + 1) 0)
lanes_are bs n h = eta 0 (lanes_of bs) (length-digits 65536 8 (number_l 256 bs)) ∙ each_same _ _ (λ i l.
    get_or_wider 256 2 65536 8 bs i refl (Each1-from_get_or (λ x. x < 256) bs 0 (λ k m. h k (omega (arith, n)))) l
    ∙ two (chunk (2 * i) 2 bs) (length-chunk (2 * i) 2 bs (omega (arith, n)))
    ∙ rw (get_or-chunk (2 * i) 2 bs 0 0 (omega arith), get_or-chunk (2 * i) 2 bs 1 0 (omega arith)) (ap (λ k. get_or bs k 0 + 256 * get_or bs (2 * i + 1) 0) (omega arith)))

-- the lanes that are made of two bytes each of a vector, if these are the low and the high byte of lane s i
pub lanes_selected : (v js : List ℕ) (s : ℕ → ℕ) → IsVector v → length js ≡ 16 → ((i : ℕ) → i < 16 → get_or js i 0 < 16)
    → ((i : ℕ) → i < 8 → s i < 8) → ((i : ℕ) → i < 8 → get_or js (2 * i) 0 ≡ 2 * s i) → ((i : ℕ) → i < 8 → get_or js (2 * i + 1) 0 ≡ 2 * s i + 1)
    → lanes_of (swz_l w8 16 (bytes_of v) 0 js) ≡ each_lane (λ i. get_or v (s i) 0)
lanes_selected v js s vector n small inside low high =
    lanes_are _ (length-swz_l w8 16 (bytes_of v) 0 js ∙ n) (λ i h. rw (byte i h) (digit_below 16 (number_l 65536 v) (get_or js i 0)))
    ∙ each_same _ _ (λ i h. rw (byte (2 * i) (omega arith), byte (2 * i + 1) (omega arith), low i h, high i h, low_byte v vector (s i) (inside i h), high_byte v vector (s i) (inside i h)) (omega arith))
  where
    byte : (i : ℕ) → i < 16 → get_or (swz_l w8 16 (bytes_of v) 0 js) i 0 ≡ get_or (bytes_of v) (get_or js i 0) 0
    byte i h = get_or-swz_l_below w8 16 (bytes_of v) 0 js i (omega (arith, n)) (small i h) ∙ ap (λ k. get_or (bytes_of v) k 0) (omega arith)

-- the lanes of a vector's bytes are the vector
pub lanes_again : (v : List ℕ) → IsVector v → lanes_of (bytes_of v) ≡ v
lanes_again v h =
    lanes_are (bytes_of v) (length-digits 256 16 (number_l 65536 v)) (λ i l. digit_below 16 (number_l 65536 v) i)
    ∙ each_same (λ i. get_or (bytes_of v) (2 * i) 0 + 256 * get_or (bytes_of v) (2 * i + 1) 0) (λ i. get_or v i 0) (λ i l. rw (low_byte v h i l, high_byte v h i l) (omega arith))
    ∙ sym (eta 0 v h.0)
