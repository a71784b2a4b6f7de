-- Looks, item by item.
use Rattle.std.proofs.Common.{◌≡◌, ℕ, ◌+◌, ◌*◌, ◌%◌, ◌≤◌, List, [], ◌∷◌, ◌++◌, length, map, take, drop, get_or, length-take, length-drop, ap, sym, ◌∙◌, arith}
use Rattle.std.specs.List.{range_with_len}
use Rattle.std.proofs.lemmas.List.{get_or-take, get_or-drop}
use Rattle.std.proofs.lemmas.List.FromFn.{map-range_with_len_more, length-map-range_with_len, fill_by_all}
use Rattle.rsp_memory.specs.Memory.{byte_at}
use Rattle.rsp_memory.specs.Image.{image_byte}
use Rattle.rsp_memory.specs.declared.bank.Bank.TheVariants.{Dmem, Imem, Rdram}
use Rattle.rsp_memory.specs.declared.bank.Bank.{Bank}
use Rattle.rsp_machine.specs.State.{State}
use Rattle.rsp_debug.specs.Queries.{bank_byte, memory_of, listing_line, listing_of}

-- the bytes of a memory, or of an image, from an address on
run-memory : (bs : List ℕ) (a n : ℕ) → length bs ≡ 4096 → 1 ≤ n → a + n ≤ 4096 → take n (drop (a % 4096) bs) ≡ map (λ i. byte_at bs (a + i)) (range_with_len 0 n)
unfolding byte_at
run-memory bs a n whole some inside =
    fill_by_all (λ i. byte_at bs (a + i)) (take n (drop (a % 4096) bs)) n 0
    (omega (arith, length-take n (drop (a % 4096) bs), length-drop (a % 4096) bs, whole))
    (λ k h.
    let e : a % 4096 + k ≡ (a + k) % 4096 = omega arith in
    get_or-take n (drop (a % 4096) bs) k 0 h ∙ get_or-drop (a % 4096) bs k 0 ∙ ap (λ j. get_or bs j 0) e)

run-image : (bs : List ℕ) (a n : ℕ) → length bs ≤ 8388608 → 1 ≤ n → a + n ≤ length bs → take n (drop (a % 16777216) bs) ≡ map (λ i. image_byte bs (a + i)) (range_with_len 0 n)
unfolding image_byte
run-image bs a n limit some inside =
    fill_by_all (λ i. image_byte bs (a + i)) (take n (drop (a % 16777216) bs)) n 0
    (omega (arith, length-take n (drop (a % 16777216) bs), length-drop (a % 16777216) bs))
    (λ k h.
    let e : a % 16777216 + k ≡ (a + k) % 16777216 = omega arith in
    get_or-take n (drop (a % 16777216) bs) k 0 h ∙ get_or-drop (a % 16777216) bs k 0 ∙ ap (λ j. get_or bs j 0) e)

pub run-dmem : (s : State) (a n : ℕ) → length s.dmem ≡ 4096 → 1 ≤ n → a + n ≤ 4096 → take n (drop (a % 4096) s.dmem) ≡ memory_of Dmem s a n
unfolding memory_of
run-dmem s a n whole some inside = run-memory s.dmem a n whole some inside

pub run-imem : (s : State) (a n : ℕ) → length s.imem ≡ 4096 → 1 ≤ n → a + n ≤ 4096 → take n (drop (a % 4096) s.imem) ≡ memory_of Imem s a n
unfolding memory_of
run-imem s a n whole some inside = run-memory s.imem a n whole some inside

pub run-rdram : (s : State) (a n : ℕ) → length s.rdram ≤ 8388608 → 1 ≤ n → a + n ≤ length s.rdram → take n (drop (a % 16777216) s.rdram) ≡ memory_of Rdram s a n
unfolding memory_of
run-rdram s a n limit some inside = run-image s.rdram a n limit some inside

pub ruleset runs = (run-dmem, run-imem, run-rdram)

pub length-bytes : (bank : Bank) (s : State) (a n : ℕ) → length (memory_of bank s a n) ≡ n
unfolding memory_of
length-bytes bank s a n = length-map-range_with_len (λ i. bank_byte bank s (a + i)) 0 n

pub ruleset bytes = (length-bytes)

pub words-none : (s : State) (address n : ℕ) → n ≡ 0 → [] ≡ listing_of s address n
unfolding listing_of
words-none s address n e = sym (ap (λ k. map (λ i. listing_line s (address + 4 * i)) (range_with_len 0 k)) e)

pub words-more : (s : State) (address i : ℕ) → listing_of s address i ++ listing_line s (address + 4 * i) ∷ [] ≡ listing_of s address (i + 1)
unfolding listing_of
words-more s address i = sym (map-range_with_len_more (λ i. listing_line s (address + 4 * i)) 0 i i (omega arith))

pub length-words : (s : State) (address n : ℕ) → length (listing_of s address n) ≡ n
unfolding listing_of
length-words s address n = length-map-range_with_len (λ i. listing_line s (address + 4 * i)) 0 n

pub ruleset words = (words-none, words-more, length-words)
