-- One more pair, one more row, and runs of pairs.
use Rattle.std.proofs.Common.{◌≡◌, ℕ, ◌+◌, ◌%◌, ◌<◌, ◌≤◌, List, [], ◌∷◌, ◌++◌, map, length, take, drop, get_or, replicate, refl, sym, ap, ◌∙◌, arith, add-zero}
use Rattle.std.specs.List.{range_with_len, flat_map, fold}
use Rattle.std.proofs.lemmas.List.{map-id, flat_map_more, length-take, length-drop, take_all, get_or-drop, get_or-take, get_or_past, get_or-replicate}
use Rattle.std.proofs.lemmas.List.Sums.{fold_push, fold-append}
use Rattle.std.proofs.lemmas.List.FromFn.{map-range_with_len_more}
use Rattle.rsp_memory.specs.Memory.{byte_at, with_byte, with_bytes}
use Rattle.rsp_memory.specs.Image.{image_byte, with_image_byte, with_image_bytes}
use Rattle.rsp_memory.proofs.Runs.{run_turn}
use Rattle.rsp_regs.specs.declared.transfer.Transfer.{Transfer}
use Rattle.rsp_regs.specs.Dma.{row_pairs, row, first_rows, bank_after_pair, image_after_pair, copied_in, copied_out}

-- a fold over f of the numbers below i + 1
fold_map_more : {A B : Type 0} (step : B → A → B) (s : B) (f : ℕ → A) (i : ℕ)
    → fold step s (map f (range_with_len 0 (i + 1))) ≡ step (fold step s (map f (range_with_len 0 i))) (f i)
fold_map_more step s f i = ap (fold step s) (map-range_with_len_more f 0 i i (omega arith)) ∙ fold_push step s (map f (range_with_len 0 i)) (f i)

range_more : (i : ℕ) → range_with_len 0 (i + 1) ≡ range_with_len 0 i ++ i ∷ []
range_more i =
    sym (map-id (range_with_len 0 (i + 1))) ∙ map-range_with_len_more (λ x. x) 0 i i (omega arith)
    ∙ ap (λ xs. xs ++ i ∷ []) (map-id (range_with_len 0 i))

fold_flat_map_more : {A B : Type 0} (step : B → A → B) (s : B) (f : ℕ → List A) (i : ℕ)
    → fold step s (flat_map f (range_with_len 0 (i + 1))) ≡ fold step (fold step s (flat_map f (range_with_len 0 i))) (f i)
fold_flat_map_more step s f i =
    ap (λ xs. fold step s (flat_map f xs)) (range_more i)
    ∙ ap (fold step s) (sym (flat_map_more f [] (range_with_len 0 i) i))
    ∙ fold-append step s (flat_map f (range_with_len 0 i)) (f i)

-- no pair, and one more, of a row
pub row_in-none : (image bank : List ℕ) (sp dram : ℕ) → copied_in image bank (row_pairs sp dram 0) ≡ bank
unfolding copied_in row_pairs
row_in-none image bank sp dram = refl

pub row_out-none : (bank image : List ℕ) (sp dram : ℕ) → copied_out bank image (row_pairs sp dram 0) ≡ image
unfolding copied_out row_pairs
row_out-none bank image sp dram = refl

pub row_in-more : (image bank : List ℕ) (sp dram i : ℕ)
    → copied_in image bank (row_pairs sp dram (i + 1)) ≡ with_byte (copied_in image bank (row_pairs sp dram i)) (sp + i) (image_byte image (dram + i))
unfolding copied_in row_pairs
row_in-more image bank sp dram i = fold_map_more (bank_after_pair image) bank (λ k. (sp + k, dram + k)) i

pub row_out-more : (bank image : List ℕ) (sp dram i : ℕ)
    → copied_out bank image (row_pairs sp dram (i + 1)) ≡ with_image_byte (copied_out bank image (row_pairs sp dram i)) (dram + i) (byte_at bank (sp + i))
unfolding copied_out row_pairs
row_out-more bank image sp dram i = fold_map_more (image_after_pair bank) image (λ k. (sp + k, dram + k)) i

-- the bytes of a run, in the image and in a bank
image_byte-at : (image : List ℕ) (a at n : ℕ) → a % 16777216 ≡ at + n → image_byte image a ≡ get_or (drop at image) n 0
unfolding image_byte
image_byte-at image a at n e = ap (λ k. get_or image k 0) e ∙ sym (get_or-drop at image n 0)

byte_at-at : (bank : List ℕ) (a at n : ℕ) → a % 4096 ≡ at + n → byte_at bank a ≡ get_or (drop at bank) n 0
unfolding byte_at
byte_at-at bank a at n e = ap (λ k. get_or bank k 0) e ∙ sym (get_or-drop at bank n 0)

-- a run of a row's pairs at once
pub row_in-run : (image bank : List ℕ) (sp dram i : ℕ) (run now then : List ℕ)
    → ((k : ℕ) → k < length run → image_byte image (dram + i + k) ≡ get_or run k 0)
    → now ≡ copied_in image bank (row_pairs sp dram i) → then ≡ with_bytes now (sp + i) run
    → then ≡ copied_in image bank (row_pairs sp dram (i + length run))
row_in-run image bank sp dram i run now then bytes =
    run_turn with_byte (image_byte image) (λ k. copied_in image bank (row_pairs sp dram k)) sp dram i (length run) run run now then
    (row_in-more image bank sp dram) bytes (sym (take_all (length run) run (omega arith)))

pub row_out-turn : (bank image : List ℕ) (sp dram i n : ℕ) (run now then : List ℕ) → length bank ≡ 4096
    → run ≡ take n (drop ((sp + i) % 4096) bank) → now ≡ copied_out bank image (row_pairs sp dram i)
    → then ≡ with_image_bytes now (dram + i) run → then ≡ copied_out bank image (row_pairs sp dram (i + length run))
row_out-turn bank image sp dram i n run now then s =
    run_turn with_image_byte (byte_at bank) (λ k. copied_out bank image (row_pairs sp dram k)) dram sp i n _ run now then
    (row_out-more bank image sp dram)
    (λ k l. byte_at-at bank (sp + i + k) ((sp + i) % 4096) k (omega (arith, length-drop ((sp + i) % 4096) bank)))

-- the bytes of a run that the image has, of a row that is inside it, and of a run after its end
pub image_byte-run : (image : List ℕ) (a n k : ℕ) (run : List ℕ) → length image ≤ 16777216
    → run ≡ take n (drop (a % 16777216) image) → k < length run → image_byte image (a + k) ≡ get_or run k 0
image_byte-run image a n k run s e h =
    let l = length-take n (drop (a % 16777216) image) in
    image_byte-at image (a + k) (a % 16777216) k (omega (arith, ap length e, l, length-drop (a % 16777216) image))
    ∙ sym (get_or-take n (drop (a % 16777216) image) k 0 (omega (arith, ap length e, l)))
    ∙ ap (λ xs. get_or xs k 0) (sym e)

pub row_in-inside : (image bank : List ℕ) (sp dram n : ℕ) (run then : List ℕ) → length image ≤ 16777216
    → dram % 16777216 + n ≤ length image → run ≡ take n (drop (dram % 16777216) image)
    → then ≡ with_bytes bank sp run → then ≡ copied_in image bank (row_pairs sp dram n)
row_in-inside image bank sp dram n run then s inside e f =
    let l : 0 + length run ≡ n = omega (arith, ap length e, length-take n (drop (dram % 16777216) image), length-drop (dram % 16777216) image) in
    row_in-run image bank sp dram 0 run bank then (λ k h. rw add-zero (image_byte-run image dram n k run s e h)) (sym (row_in-none image bank sp dram)) (rw add-zero f)
    ∙ ap (λ k. copied_in image bank (row_pairs sp dram k)) l

pub image_byte-past : (image : List ℕ) (a k n : ℕ) (run : List ℕ) → run ≡ take n (drop (a % 16777216) image) → length run ≡ 0
    → a % 16777216 + n ≤ 16777216 → k < n → image_byte image (a + k) ≡ get_or (replicate n 0) k 0
unfolding image_byte
image_byte-past image a k n run e z room h =
    let past : length image ≤ a % 16777216 = omega (arith, ap length e, length-take n (drop (a % 16777216) image), length-drop (a % 16777216) image) in
    get_or_past image ((a + k) % 16777216) 0 (omega arith) ∙ sym (get_or-replicate n k 0 0 h)

-- no row, and one more
pub rows_in-none : (image bank : List ℕ) (t : Transfer) → copied_in image bank (first_rows t 0) ≡ bank
unfolding copied_in first_rows
rows_in-none image bank t = refl

pub rows_out-none : (bank image : List ℕ) (t : Transfer) → copied_out bank image (first_rows t 0) ≡ image
unfolding copied_out first_rows
rows_out-none bank image t = refl

pub rows_in-more : (image bank : List ℕ) (t : Transfer) (r : ℕ)
    → copied_in image bank (first_rows t (r + 1)) ≡ copied_in image (copied_in image bank (first_rows t r)) (row t r)
unfolding copied_in first_rows
rows_in-more image bank t r = fold_flat_map_more (bank_after_pair image) bank (row t) r

pub rows_out-more : (bank image : List ℕ) (t : Transfer) (r : ℕ)
    → copied_out bank image (first_rows t (r + 1)) ≡ copied_out bank (copied_out bank image (first_rows t r)) (row t r)
unfolding copied_out first_rows
rows_out-more bank image t r = fold_flat_map_more (image_after_pair bank) image (row t) r

pub ruleset copies = (row_in-none, row_out-none, row_in-more, row_out-more, rows_in-none, rows_out-none, rows_in-more, rows_out-more)
