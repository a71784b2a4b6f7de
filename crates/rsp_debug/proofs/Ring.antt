-- A ring whose members are in the order of steps.
use Rattle.std.proofs.Common.{◌≡◌, ℕ, zero, suc, ◌+◌, ◌-◌, ◌<◌, ◌≤◌, ◌==◌, Bool, true, false, List, [], ◌∷◌, ◌++◌, length, take, drop, refl, sym, ◌∙◌, ap, arith, add-one, get_or, append_assoc, min, inl, inr}
use Rattle.std.specs.Prelude.{reverse, slice_get}
use Rattle.std.proofs.Math.Seq.{drop-cons, take-append-add, drop-append-add}
use Rattle.std.proofs.lemmas.Option.{slice_get-get_or}
use Rattle.std.proofs.lemmas.List.{take_more, take_all, drop_all, drop-append-le, take-append-le, take-take, drop-drop, take-append-drop, length-take, length-drop, length-append, length-reverse, reverse-append, append-nil}
use Rattle.std.proofs.lemmas.Bool.{cases_lt}
use Rattle.std.proofs.lemmas.Bool.Decides.{nat_tests}
use Rattle.rsp_debug.specs.HistoryRing.{previous_entry, backwards, entries_before}

previous_below : (n i : ℕ) → i ≤ n → 0 < n → previous_entry n i < n
previous_below n i h some = grind (arith, nat_tests)

previous_next : (n i : ℕ) → (i == 0) ≡ false → previous_entry n i + 1 ≡ i
previous_next n i e = grind (arith, nat_tests)

previous_last : (n i : ℕ) → (i == 0) ≡ true → 0 < n → previous_entry n i + 1 ≡ n
previous_last n i e some = grind (arith, nat_tests)

module _ {X : Type 0} where
  take_beyond : (ps qs : List X) (m n : ℕ) → m ≡ length ps + n → take m (ps ++ qs) ≡ ps ++ take n qs
  take_beyond ps qs m n e = ap (λ i. take i (ps ++ qs)) e ∙ take-append-add ps qs n

  drop_beyond : (ps qs : List X) (m n : ℕ) → m ≡ length ps + n → drop m (ps ++ qs) ≡ drop n qs
  drop_beyond ps qs m n e = ap (λ i. drop i (ps ++ qs)) e ∙ drop-append-add ps qs n

  cut : (n count : ℕ) (xs cs : List X) → n ≤ length xs → take (min count n) xs ≡ take n (take count (xs ++ cs))
  cut n count xs cs e = elim (cases_lt count n) [
    | inl h ↦
        let m : min count n ≡ count = omega (arith, h) in
        ap (λ k. take k xs) m ∙ sym (take-append-le count xs cs (omega (arith, h, e))) ∙ sym (take_all n (take count (xs ++ cs)) (omega (arith, h, length-take count (xs ++ cs))))
    | inr h ↦
        let m : min count n ≡ n = omega (arith, h) in
        ap (λ k. take k xs) m ∙ sym (take-append-le n xs cs e) ∙ sym (take-take n count (xs ++ cs) h)
  ]

  -- k members that are written from an entry on, of m that may be
  written_take : (a m k : ℕ) (xs ys : List X) → a + m ≤ length xs → length ys ≡ m → k ≤ m → take (a + k) (take a xs ++ (ys ++ drop (a + m) xs)) ≡ take a xs ++ take k ys
  written_take a m k xs ys room len few =
      take_beyond (take a xs) (ys ++ drop (a + m) xs) (a + k) k (omega (arith, length-take a xs, room))
      ∙ ap (λ l. take a xs ++ l) (take-append-le k ys (drop (a + m) xs) (omega (arith, len, few)))

  written_drop : (a m k : ℕ) (xs ys : List X) → a + m ≤ length xs → length ys ≡ m → k ≤ m → drop k ys ≡ drop k (take m (drop a xs)) → drop (a + k) (take a xs ++ (ys ++ drop (a + m) xs)) ≡ drop (a + k) xs
  written_drop a m k xs ys room len few same =
      let old = take m (drop a xs) in
      drop_beyond (take a xs) (ys ++ drop (a + m) xs) (a + k) k (omega (arith, length-take a xs, room))
      ∙ drop-append-le k ys (drop (a + m) xs) (omega (arith, len, few))
      ∙ ap (λ l. l ++ drop (a + m) xs) same
      ∙ ap (λ l. drop k old ++ l) (sym (drop-drop m a xs))
      ∙ sym (drop-append-le k old (drop m (drop a xs)) (omega (arith, length-take m (drop a xs), length-drop a xs, room, few)))
      ∙ ap (drop k) (take-append-drop m (drop a xs))
      ∙ drop-drop k a xs

  pushed_by : (a k count : ℕ) (xs ys zs : List X) → a + k ≤ length xs → k ≤ length ys → take (a + k) zs ≡ take a xs ++ take k ys → drop (a + k) zs ≡ drop (a + k) xs
      → entries_before (a + k) (min (count + k) (length xs)) zs ≡ take (length xs) (reverse (take k ys) ++ entries_before a count xs)
  pushed_by a k count xs ys zs room some front back =
      let n = length xs in
      let made = reverse (take k ys) in let near = reverse (take a xs) in let far = reverse (drop (a + k) xs) in let gone = reverse (take k (drop a xs)) in
      let long : length made ≡ k = omega (arith, length-reverse (take k ys), length-take k ys, some) in
      let rest : n - k ≤ length (near ++ far) = omega (arith, length-append near far, length-reverse (take a xs), length-take a xs, length-reverse (drop (a + k) xs), length-drop (a + k) xs, room) in
      let behind : reverse (drop a xs) ≡ far ++ gone =
      ap reverse (sym (take-append-drop k (drop a xs)))
      ∙ reverse-append (take k (drop a xs)) (drop k (drop a xs))
      ∙ ap (λ l. reverse l ++ gone) (drop-drop k a xs) in
      let all : backwards (a + k) zs ≡ made ++ (near ++ far) =
      ap (λ l. reverse l ++ reverse (drop (a + k) zs)) front
      ∙ ap (λ l. reverse (take a xs ++ take k ys) ++ reverse l) back
      ∙ ap (λ l. l ++ far) (reverse-append (take a xs) (take k ys))
      ∙ append_assoc made near far in
      let before : backwards a xs ≡ (near ++ far) ++ gone = ap (λ l. near ++ l) behind ∙ sym (append_assoc near far gone) in
      ap (take (min (count + k) n)) all
      ∙ take_beyond made (near ++ far) (min (count + k) n) (min count (n - k)) (omega (arith, long, room))
      ∙ ap (λ l. made ++ l) (cut (n - k) count (near ++ far) gone rest)
      ∙ ap (λ l. made ++ take (n - k) (take count l)) (sym before)
      ∙ sym (take_beyond made (take count (backwards a xs)) n (n - k) (omega (arith, long, room)))

  pub pushed : (a m k count : ℕ) (xs ys : List X) → a + m ≤ length xs → length ys ≡ m → k ≤ m → drop k ys ≡ drop k (take m (drop a xs))
      → entries_before (a + k) (min (count + k) (length xs)) (take a xs ++ (ys ++ drop (a + m) xs)) ≡ take (length xs) (reverse (take k ys) ++ entries_before a count xs)
  pushed a m k count xs ys room len few same =
      pushed_by a k count xs ys (take a xs ++ (ys ++ drop (a + m) xs)) (omega (arith, room, few)) (omega (arith, len, few)) (written_take a m k xs ys room len few) (written_drop a m k xs ys room len few same)

  pub length-put : (a m : ℕ) (xs ys : List X) → a + m ≤ length xs → length ys ≡ m → length (take a xs ++ (ys ++ drop (a + m) xs)) ≡ length xs
  length-put a m xs ys room len = omega (arith, length-append (take a xs) (ys ++ drop (a + m) xs), length-append ys (drop (a + m) xs), length-take a xs, length-drop (a + m) xs, room, len)

  -- the end by its other name
  pub turned : (xs : List X) (i : ℕ) → i ≡ length xs → backwards 0 xs ≡ backwards i xs
  turned xs i e =
      sym (append-nil (reverse xs))
      ∙ ap (λ l. reverse l ++ []) (sym (take_all i xs (omega (arith, e))))
      ∙ ap (λ l. reverse (take i xs) ++ reverse l) (sym (drop_all i xs (omega (arith, e))))

  -- the nearest member, and the others
  abbrev others : ℕ → List X → List X
  others p xs = reverse (take p xs) ++ reverse (drop (p + 1) xs)

  nearest : (xs : List X) (p : ℕ) (d : X) → p < length xs → backwards (p + 1) xs ≡ get_or xs p d ∷ others p xs
  nearest xs p d h = ap (λ l. reverse l ++ reverse (drop (p + 1) xs)) (take_more xs p d h) ∙ ap (λ l. l ++ reverse (drop (p + 1) xs)) (reverse-append (take p xs) (get_or xs p d ∷ []))

  farthest : (xs : List X) (p : ℕ) (d : X) → p < length xs → backwards p xs ≡ others p xs ++ get_or xs p d ∷ []
  farthest xs p d h =
      ap (λ l. reverse (take p xs) ++ reverse l) (drop-cons xs p d h)
      ∙ ap (λ i. reverse (take p xs) ++ reverse (get_or xs p d ∷ drop i xs)) (sym (add-one p))
      ∙ ap (λ l. reverse (take p xs) ++ l) (reverse-append (get_or xs p d ∷ []) (drop (p + 1) xs))
      ∙ sym (append_assoc (reverse (take p xs)) (reverse (drop (p + 1) xs)) (get_or xs p d ∷ []))

  backwards_by : (b : Bool) (xs : List X) (i : ℕ) → (i == 0) ≡ b → i ≤ length xs → 0 < length xs → backwards i xs ≡ backwards (previous_entry (length xs) i + 1) xs
  backwards_by true xs i e h some =
      let z : i ≡ 0 = grind (arith, nat_tests) in
      ap (λ j. backwards j xs) z ∙ turned xs (length xs) refl ∙ ap (λ j. backwards j xs) (sym (previous_last (length xs) i e some))
  backwards_by false xs i e h some = ap (λ j. backwards j xs) (sym (previous_next (length xs) i e))

  length-others : (xs : List X) (p : ℕ) → p < length xs → length (others p xs) + 1 ≡ length xs
  length-others xs p h = omega (arith, length-append (reverse (take p xs)) (reverse (drop (p + 1) xs)), length-reverse (take p xs), length-reverse (drop (p + 1) xs), length-take p xs, length-drop (p + 1) xs, h)

  -- the newest goes
  popped_at : (xs : List X) (i count : ℕ) (d : X) → i ≤ length xs → 0 < count → count ≤ length xs
      → (entries_before (previous_entry (length xs) i) (count - 1) xs ≡ drop 1 (entries_before i count xs)) × (slice_get xs (previous_entry (length xs) i) ≡ slice_get (entries_before i count xs) 0)
  popped_at xs i zero d h c l = absurd (omega (arith, c))
  popped_at xs i (suc k) d h c l =
      let p = previous_entry (length xs) i in
      let below = previous_below (length xs) i h (omega (arith, l)) in
      let here : entries_before i (suc k) xs ≡ get_or xs p d ∷ take k (others p xs) = ap (take (suc k)) (backwards_by (i == 0) xs i refl h (omega (arith, l)) ∙ nearest xs p d below) in
      let one : suc k - 1 ≡ k = omega arith in (
        ap (take (suc k - 1)) (farthest xs p d below)
            ∙ ap (λ j. take j (others p xs ++ get_or xs p d ∷ [])) one
            ∙ take-append-le k (others p xs) (get_or xs p d ∷ []) (omega (arith, length-others xs p below, l))
            ∙ sym (ap (drop 1) here),
        slice_get-get_or xs p d below ∙ sym (ap (λ l. slice_get l 0) here),
      )

  popped_by : (xs ys : List X) (i count : ℕ) → ys ≡ xs → i ≤ length xs → 0 < count → count ≤ length xs
      → (entries_before (previous_entry (length xs) i) (count - 1) xs ≡ drop 1 (entries_before i count xs)) × (slice_get xs (previous_entry (length xs) i) ≡ slice_get (entries_before i count xs) 0)
  popped_by xs [] i count e h c l = let none : 0 ≡ length xs = ap length e in absurd (omega (arith, c, l, none))
  popped_by xs (y ∷ ys) i count e h c l = popped_at xs i count y h c l

  pub popped : (xs : List X) (i count : ℕ) → i ≤ length xs → 0 < count → count ≤ length xs → entries_before (previous_entry (length xs) i) (count - 1) xs ≡ drop 1 (entries_before i count xs)
  popped xs i count h c l = (popped_by xs xs i count refl h c l).0

  pub first_is : (xs : List X) (i count : ℕ) → i ≤ length xs → 0 < count → count ≤ length xs → slice_get xs (previous_entry (length xs) i) ≡ slice_get (entries_before i count xs) 0
  first_is xs i count h c l = (popped_by xs xs i count refl h c l).1

  -- there are so many
  pub length-before : (i count : ℕ) (xs : List X) → count ≤ length xs → length (entries_before i count xs) ≡ count
  length-before i count xs l =
      omega (arith, length-take count (backwards i xs), length-append (reverse (take i xs)) (reverse (drop i xs)), length-reverse (take i xs), length-reverse (drop i xs), length-take i xs, length-drop i xs, l)

  pub previous-within : (i : ℕ) (xs : List X) → i ≤ length xs → 0 < length xs → previous_entry (length xs) i ≤ length xs
  previous-within i xs h some = omega (arith, previous_below (length xs) i h some)

  pub ruleset turns = (popped, first_is, length-before, previous-within)
