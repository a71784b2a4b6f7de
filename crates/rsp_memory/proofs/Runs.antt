-- Consecutive bytes that are written one by one are written at once.
use Rattle.std.proofs.Common.{◌≡◌, ℕ, zero, suc, ◌+◌, ◌-◌, ◌*◌, ◌%◌, ◌<◌, ◌≤◌, ◌^◌, List, [], ◌∷◌, ◌++◌, length, take, drop, get_or, set, get_or-set_same, get_or-set_other, subst, refl, sym, ◌∙◌, ap, arith, add-zero, min, inl, inr, Option, None, Some, MatchOption, Bor}
use Rattle.std.proofs.lemmas.List.{set_past, get_or_past, length-set, length-append, length-take, length-drop, take-append-drop, drop_all, take_all, take_more, take_min, drop_more}
use Rattle.std.proofs.lemmas.List.Edits.{sets, sets-eq}
use Rattle.std.proofs.lemmas.List.Concat.{flat_map-cons}
use Rattle.std.specs.Int.{to_be_bytes, w32}
use Rattle.std.specs.Array.{IsFirstChunk}
use Rattle.std.specs.Prelude.{slice_set}
use Rattle.byteorder.specs.Endian.{big_bytes}
use Rattle.std.proofs.lemmas.Bool.{cases_lt}
use Rattle.rsp_memory.specs.Runs.{write_all}
use Rattle.rsp_memory.specs.Splices.{spliced}
use Rattle.rsp_memory.specs.Words.{words_bytes}
use Rattle.rsp_memory.specs.Memory.{byte_at, bytes_at, with_byte, with_bytes, with_word}
use Rattle.rsp_memory.specs.Image.{with_image_byte, with_image_bytes}

-- two runs, one after the other
pub write_all-append : {X : Type 0} (write : X → ℕ → ℕ → X) (m : X) (a : ℕ) (xs ys : List ℕ)
    → write_all write m a (xs ++ ys) ≡ write_all write (write_all write m a xs) (a + length xs) ys
write_all-append write m a [] ys = rw add-zero refl
write_all-append write m a (x ∷ xs) ys =
    let e : a + 1 + length xs ≡ a + suc (length xs) = omega arith in
    write_all-append write (write m a x) (a + 1) xs ys ∙ ap (λ n. write_all write (write_all write (write m a x) (a + 1) xs) n ys) e

-- if each state writes the next number that `read` gives, n states on are a run of those numbers
run_written : {X : Type 0} (write : X → ℕ → ℕ → X) (read : ℕ → ℕ) (states : ℕ → X) (to from i n : ℕ) (source : List ℕ)
    → ((k : ℕ) → states (k + 1) ≡ write (states k) (to + k) (read (from + k)))
    → ((k : ℕ) → k < n → read (from + i + k) ≡ get_or source k 0)
    → n ≤ length source
    → states (i + n) ≡ write_all write (states i) (to + i) (take n source)
run_written write read states to from i zero source step reads h = rw add-zero refl
run_written write read states to from i (suc n) source step reads h =
    let ih : states (i + n) ≡ write_all write (states i) (to + i) (take n source) = run_written write read states to from i n source step (λ k l. reads k (omega arith)) (omega arith) in
    let l : length (take n source) ≡ n = omega (arith, length-take n source) in
    let more : states (i + n + 1) ≡ write (states (i + n)) (to + (i + n)) (read (from + (i + n))) = step (i + n) in
    let last : read (from + i + n) ≡ get_or source n 0 = reads n (omega arith) in
    let split : write_all write (states i) (to + i) (take n source ++ get_or source n 0 ∷ []) ≡ write (write_all write (states i) (to + i) (take n source)) (to + i + length (take n source)) (get_or source n 0) = write_all-append write (states i) (to + i) (take n source) (get_or source n 0 ∷ []) in
    let t : take (n + 1) source ≡ take n source ++ get_or source n 0 ∷ [] = take_more source n 0 (omega arith) in
    let e : i + suc n ≡ i + n + 1 = omega arith in
    let f : suc n ≡ n + 1 = omega arith in
    let g : to + (i + n) ≡ to + i + length (take n source) = omega arith in
    let k : from + (i + n) ≡ from + i + n = omega arith in
    cc

-- the turn of a loop that writes a run, of at most n numbers, at once
pub run_turn : {X : Type 0} (write : X → ℕ → ℕ → X) (read : ℕ → ℕ) (states : ℕ → X) (to from i n : ℕ) (source run : List ℕ) (now then : X)
    → ((k : ℕ) → states (k + 1) ≡ write (states k) (to + k) (read (from + k)))
    → ((k : ℕ) → k < length source → read (from + i + k) ≡ get_or source k 0)
    → run ≡ take n source → now ≡ states i → then ≡ write_all write now (to + i) run
    → then ≡ states (i + length run)
run_turn write read states to from i n source run now then step reads e f g =
    let k : length run ≡ min n (length source) = ap length e ∙ length-take n source in
    let same : take (length run) source ≡ take n source = ap (λ m. take m source) k ∙ take_min n source in
    let all : states (i + length run) ≡ write_all write (states i) (to + i) (take (length run) source) =
    run_written write read states to from i (length run) source step (λ j l. reads j (omega arith)) (omega arith) in
    cc

-- bytes that don't wrap are a part of the list
with_bytes-sets : (m : List ℕ) (a : ℕ) (bs : List ℕ) → a + length bs ≤ 4096 → with_bytes m a bs ≡ sets m a bs
unfolding with_byte
with_bytes-sets m a [] h = refl
with_bytes-sets m a (b ∷ bs) h =
    let e : a % 4096 ≡ a = omega arith in
    let f : a + 1 ≡ suc a = omega arith in
    let ih = with_bytes-sets (set m a b) (suc a) bs (omega arith) in
    rw (e, f) ih

pub with_bytes-spliced : (m : List ℕ) (a : ℕ) (bs : List ℕ) → a + length bs ≤ 4096 → length m ≡ 4096 → with_bytes m a bs ≡ spliced m a bs
with_bytes-spliced m a bs h n = with_bytes-sets m a bs h ∙ sets-eq bs m a (omega arith)

-- addresses that differ by a multiple of 4096
with_bytes-ring : (m : List ℕ) (a b : ℕ) (bs : List ℕ) → a % 4096 ≡ b % 4096 → with_bytes m a bs ≡ with_bytes m b bs
unfolding with_byte
with_bytes-ring m a b [] e = refl
with_bytes-ring m a b (x ∷ bs) e = rw e (with_bytes-ring (slice_set m (b % 4096) x) (a + 1) (b + 1) bs (omega arith))

pub with_bytes-inside : (m r : List ℕ) (a : ℕ) (bs : List ℕ) → length m ≡ 4096 → length bs ≤ 4096 - a % 4096
    → r ≡ spliced m (a % 4096) bs → r ≡ with_bytes m a bs
with_bytes-inside m r a bs n h e = e ∙ sym (with_bytes-spliced m (a % 4096) bs (omega arith) n) ∙ with_bytes-ring m (a % 4096) a bs (omega arith)

-- the four bytes of a word that doesn't wrap are written at once
with_word-bytes : (m : List ℕ) (a w : ℕ) → w < 2 ^ 32 → with_bytes m a (big_bytes 4 w) ≡ with_word m a w
unfolding with_word
with_word-bytes m a w h = grind arith

pub word_inside : (m r bs : List ℕ) (a w : ℕ) → length m ≡ 4096 → a % 4096 ≤ 4092 → w < 2 ^ 32 → bs ≡ big_bytes 4 w
    → r ≡ spliced m (a % 4096) bs → r ≡ with_word m a w
word_inside m r bs a w n h k e f =
    let l : length bs ≤ 4096 - a % 4096 = omega (arith, ap length e) in
    with_bytes-inside m r a bs n l f ∙ ap (with_bytes m a) e ∙ with_word-bytes m a w k

-- the bytes from an address on, if they don't wrap
bytes_at-from : (m : List ℕ) (a at n : ℕ) → a % 4096 ≡ at → at + n ≤ 4096 → length m ≡ 4096 → bytes_at m a n ≡ take n (drop at m)
unfolding byte_at
bytes_at-from m a at zero e h l = refl
bytes_at-from m a at (suc zero) e h l = rw (e, drop_more m at 0 (omega arith)) refl
bytes_at-from m a at (suc (suc n)) e h l =
    rw (e, drop_more m at 0 (omega arith)) (ap (λ bs. get_or m at 0 ∷ bs) (bytes_at-from m (a + 1) (at + 1) (suc n) (omega arith) (omega arith) l))

pub bytes_at-inside : (m tail window : List ℕ) (a n : ℕ) → length m ≡ 4096 → tail ≡ take (4096 - a % 4096) (drop (a % 4096) m)
    → n ≤ length tail → window ≡ take n tail → window ≡ bytes_at m a n
bytes_at-inside m tail window a n l t h e =
    let all : tail ≡ drop (a % 4096) m = t ∙ take_all (4096 - a % 4096) (drop (a % 4096) m) (omega (arith, length-drop (a % 4096) m)) in
    let room : n ≤ length (drop (a % 4096) m) = rw all at h in
    e ∙ ap (take n) all ∙ sym (bytes_at-from m a (a % 4096) n refl (omega (arith, length-drop (a % 4096) m)) l)

pub window_whole : (m tail : List ℕ) (a : ℕ) (r : Option (Bor (List ℕ))) → length m ≡ 4096 → tail ≡ take (4096 - a % 4096) (drop (a % 4096) m)
    → MatchOption r (length tail < 16) (λ y. IsFirstChunk tail y.now 16)
    → MatchOption r (4080 < a % 4096) (λ y. (a % 4096 ≤ 4080) × (y.now ≡ bytes_at m a 16))
window_whole m tail a None l t h = omega (arith, h, ap length t, length-take (4096 - a % 4096) (drop (a % 4096) m), length-drop (a % 4096) m)
window_whole m tail a (Some y) l t h =
    (omega (arith, h.enough, ap length t, length-take (4096 - a % 4096) (drop (a % 4096) m), length-drop (a % 4096) m), bytes_at-inside m tail y.now a 16 l t h.enough h.same)

-- what wraps is written from 0 on
with_bytes-wrap : (m : List ℕ) (a : ℕ) (bs : List ℕ) (n : ℕ) → n ≡ min (length bs) (4096 - a % 4096)
    → with_bytes m a bs ≡ with_bytes (with_bytes m (a % 4096) (take n bs)) 0 (drop n bs)
with_bytes-wrap m a bs n e =
    with_bytes-ring m a (a % 4096) bs (omega arith)
    ∙ ap (with_bytes m (a % 4096)) (sym (take-append-drop n bs))
    ∙ write_all-append with_byte m (a % 4096) (take n bs) (drop n bs)
    ∙ behind (with_bytes m (a % 4096) (take n bs))
  where
    behind : (w : List ℕ) → with_bytes w (a % 4096 + length (take n bs)) (drop n bs) ≡ with_bytes w 0 (drop n bs)
    behind w = elim (cases_lt n (length bs)) [
      | inl h ↦ with_bytes-ring w _ 0 (drop n bs) (omega (arith, length-take n bs))
      | inr h ↦ rw (drop_all n bs h) refl
    ]

-- a run of bytes in a memory is at most two parts of its list
pub two_pieces : (m w r : List ℕ) (a n : ℕ) (bs front back : List ℕ) → length m ≡ 4096 → length w ≡ length m → length bs ≤ 4096
    → n ≡ min (length bs) (4096 - a % 4096) → front ≡ take n bs → back ≡ drop n bs
    → w ≡ spliced m (a % 4096) front → r ≡ spliced w 0 back → r ≡ with_bytes m a bs
two_pieces m w r a n bs front back lm lw lb e f g p q =
    let x : with_bytes m (a % 4096) front ≡ spliced m (a % 4096) front = rw f (with_bytes-spliced m (a % 4096) (take n bs) (omega (arith, length-take n bs)) lm) in
    let y : with_bytes w 0 back ≡ spliced w 0 back = rw g (with_bytes-spliced w 0 (drop n bs) (omega (arith, length-drop n bs)) (lw ∙ lm)) in
    let z : with_bytes m a bs ≡ with_bytes (with_bytes m (a % 4096) (take n bs)) 0 (drop n bs) = with_bytes-wrap m a bs n e in
    cc

-- the same of an image, which drops what is after its end
with_image_bytes-sets : (m : List ℕ) (a at : ℕ) (bs : List ℕ) → a % 16777216 ≡ at → at + length bs ≤ 16777216 → with_image_bytes m a bs ≡ sets m at bs
unfolding with_image_byte
with_image_bytes-sets m a at [] e h = refl
with_image_bytes-sets m a at (b ∷ []) e h = rw e refl
with_image_bytes-sets m a at (b ∷ c ∷ cs) e h = rw e (with_image_bytes-sets (set m at b) (a + 1) (suc at) (c ∷ cs) (omega arith) (omega arith))

sets-past : (m : List ℕ) (i : ℕ) (bs : List ℕ) → length m ≤ i → sets m i bs ≡ m
sets-past m i [] h = refl
sets-past m i (b ∷ bs) h = rw (set_past m i b h) (sets-past m (suc i) bs (omega arith))

sets-cut : (m : List ℕ) (i n : ℕ) (bs : List ℕ) → length m ≤ i + n → sets m i bs ≡ sets m i (take n bs)
sets-cut m i zero bs h = sets-past m i bs (omega arith)
sets-cut m i (suc n) [] h = refl
sets-cut m i (suc n) (b ∷ bs) h = sets-cut (set m i b) (suc i) n bs (omega (arith, length-set m i b))

sets-kept : (m : List ℕ) (i at n : ℕ) (bs : List ℕ) → at ≡ min (length m) i → n ≡ min (length bs) (length m - at) → sets m i bs ≡ sets m at (take n bs)
sets-kept m i at n bs e f = elim (cases_lt i (length m)) [
  | inl h ↦ let g : at ≡ i = omega arith in rw g (elim (cases_lt (length bs) (length m - at)) [
    | inl k ↦ ap (sets m i) (sym (take_all n bs (omega arith)))
    | inr k ↦ sets-cut m i n bs (omega arith)
  ])
  | inr h ↦ sets-past m i bs h ∙ sym (sets-past m at (take n bs) (omega arith))
]

pub with_image_bytes-spliced : (m : List ℕ) (a at n : ℕ) (bs : List ℕ) → a % 16777216 + length bs ≤ 16777216
    → at ≡ min (length m) (a % 16777216) → n ≡ min (length bs) (length m - at) → with_image_bytes m a bs ≡ spliced m at (take n bs)
with_image_bytes-spliced m a at n bs h e f =
    with_image_bytes-sets m a (a % 16777216) bs refl h ∙ sets-kept m (a % 16777216) at n bs e f
    ∙ sets-eq (take n bs) m at (omega (arith, length-take n bs))

-- bytes that an image has all are a part of its list
pub with_image_bytes-inside : (m : List ℕ) (a : ℕ) (bs : List ℕ) → a + length bs ≤ length m → length m ≤ 8388608 → with_image_bytes m a bs ≡ spliced m a bs
with_image_bytes-inside m a bs h n = with_image_bytes-sets m a a bs (omega arith) (omega arith) ∙ sets-eq bs m a (omega arith)

-- a word has four bytes
pub length-words_bytes : (words : List ℕ) → length (words_bytes words) ≡ 4 * length words
length-words_bytes [] = refl
length-words_bytes (w ∷ ws) =
    ap length (flat_map-cons (to_be_bytes w32) w ws)
    ∙ length-append (to_be_bytes w32 w) (words_bytes ws)
    ∙ omega (arith, length-words_bytes ws)

four_below : (w : ℕ) (bs : List ℕ) (i : ℕ) → ((j : ℕ) → get_or bs j 0 < 256) → get_or (to_be_bytes w32 w ++ bs) i 0 < 256
four_below w bs zero h = omega arith
four_below w bs (suc zero) h = omega arith
four_below w bs (suc (suc zero)) h = omega arith
four_below w bs (suc (suc (suc zero))) h = omega arith
four_below w bs (suc (suc (suc (suc j)))) h = h j

pub words_bytes-below : (words : List ℕ) (i : ℕ) → get_or (words_bytes words) i 0 < 256
words_bytes-below [] i = omega arith
words_bytes-below (w ∷ ws) i =
    subst (λ (xs : List ℕ). get_or xs i 0 < 256) (sym (flat_map-cons (to_be_bytes w32) w ws)) (four_below w (words_bytes ws) i (words_bytes-below ws))

-- bytes below 256 that are written over others
pub spliced-below : (m bs : List ℕ) (at : ℕ) → at + length bs ≤ length m → ((i : ℕ) → get_or m i 0 < 256) → ((i : ℕ) → get_or bs i 0 < 256)
    → (i : ℕ) → get_or (spliced m at bs) i 0 < 256
spliced-below m bs at h below new i = rw (← sets-eq bs m at h) (sets-below bs m at i below new)
  where
    sets-below : (bs m : List ℕ) (at i : ℕ) → ((j : ℕ) → get_or m j 0 < 256) → ((j : ℕ) → get_or bs j 0 < 256) → get_or (sets m at bs) i 0 < 256
    sets-below [] m at i below new = below i
    sets-below (b ∷ bs) m at i below new =
        sets-below bs (set m at b) (suc at) i (λ j. grind (arith, get_or-set_same m at b 0, get_or-set_other m at j b 0, below j, new 0, get_or_past (set m at b) j 0, length-set m at b, below at)) (λ j. new (suc j))
