-- The number at the end of a reply.
use Rattle.std.proofs.Common.{◌≡◌, ℕ, ◌+◌, ◌-◌, ◌*◌, ◌^◌, ◌/◌, ◌%◌, ◌<◌, ◌≤◌, ◌==◌, min, List, [], ◌∷◌, ◌++◌, length, take, true, arith, sym, ap, ◌∙◌, length-append}
use Rattle.std.specs.Prelude.{decimal, slice_index_or, cond}
use Rattle.std.specs.List.{fold}
use Rattle.std.specs.Char.{is_ascii_digit}
use Rattle.std.proofs.lemmas.Bool.Decides.{nat_tests}
use Rattle.std.proofs.lemmas.List.{take_at, get_or_push}
use Rattle.std.proofs.lemmas.List.Sums.{fold_push, fold-append}
use Rattle.std.proofs.lemmas.Fmt.{decimal_by_steps}
use Rattle.rsp_explain.specs.Places.{without_newline, number_after, last_number, EndsWithNumber}

after_digit : (m d : ℕ) → d < 10 → 10 * m + d < 2 ^ 64 → number_after m (48 + d) ≡ 10 * m + d
after_digit m d h k =
    let t : is_ascii_digit (48 + d) ≡ true = grind (arith, nat_tests) in
    ap (λ b. cond b (min (10 * m + ((48 + d) - 48)) (2 ^ 64 - 1)) 0) t ∙ omega arith

of_decimal : (n : ℕ) → n < 2 ^ 64 → fold number_after 0 (decimal n) ≡ n
of_decimal n h = decimal_by_steps (λ n ds. n < 2 ^ 64 → fold number_after 0 ds ≡ n) one more n h h
  where
    one : (n : ℕ) → n < 10 → n < 2 ^ 64 → fold number_after 0 ((48 + n) ∷ []) ≡ n
    one n h k = let e : 10 * 0 + n ≡ n = omega arith in after_digit 0 n h (omega arith) ∙ e

    more : (n : ℕ) (ds : List ℕ) → 10 ≤ n → (n / 10 < 2 ^ 64 → fold number_after 0 ds ≡ n / 10) → n < 2 ^ 64 → fold number_after 0 (ds ++ (48 + n % 10) ∷ []) ≡ n
    more n ds h e k =
        let whole : 10 * (n / 10) + n % 10 ≡ n = omega arith in
        fold_push number_after 0 ds (48 + n % 10)
        ∙ ap (λ m. number_after m (48 + n % 10)) (e (omega arith))
        ∙ after_digit (n / 10) (n % 10) (omega arith) (omega arith)
        ∙ whole

stripped : (text : List ℕ) → without_newline (text ++ 10 ∷ []) ≡ text
stripped text =
    let reply = text ++ 10 ∷ [] in
    let count : length reply - 1 ≡ length text = omega (arith, length-append text (10 ∷ [])) in
    let last : slice_index_or reply (length reply - 1) 0 ≡ 10 = get_or_push text 10 0 (length reply - 1) (sym count) in
    ap (λ b. cond (b == 10) (take (length reply - 1) reply) reply) last ∙ take_at text (10 ∷ []) (length reply - 1) (sym count)

pub number_named : (n : ℕ) (reply : List ℕ) → n < 2 ^ 64 → EndsWithNumber n reply → last_number reply ≡ n
number_named n reply h (front, e) =
    let text : without_newline reply ≡ front ++ 32 ∷ decimal n = ap without_newline e ∙ stripped (front ++ 32 ∷ decimal n) in
    ap (fold number_after 0) text ∙ fold-append number_after 0 front (32 ∷ decimal n) ∙ of_decimal n h
