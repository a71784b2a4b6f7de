-- The first index of a byte.
use Rattle.std.proofs.Common.{◌≡◌, ℕ, ◌<◌, Bool, List, length, Some, None, sym, arith}
use Rattle.std.specs.List.{position_or_len}
use Rattle.std.proofs.lemmas.Bool.{false_from_ne_true}
use Rattle.std.proofs.lemmas.List.Sums.{position_or_len_is}
use Rattle.memchr.specs.Find.{IsFirstByte}

pub first_found : (test : ℕ → Bool) (text : List ℕ) (k : ℕ) → IsFirstByte test text (Some k) → (k ≡ position_or_len test text) × (k < length text)
first_found test text k h = (
  sym (position_or_len_is test text k 0 (omega (arith, h.0.high)) (λ j lt. false_from_ne_true _ (h.0.before j (omega arith) lt)) (λ _. h.1)),
  h.0.high,
)

pub first_missed : (test : ℕ → Bool) (text : List ℕ) → IsFirstByte test text None → length text ≡ position_or_len test text
first_missed test text h =
    sym (position_or_len_is test text (length text) 0 (omega arith) (λ j lt. false_from_ne_true _ (h j (omega arith) lt)) (λ lt. absurd (omega (arith, lt))))

pub ruleset first_places = (first_found, first_missed)
