-- Texts, a digit or a part at a time.
use Rattle.std.proofs.Common.{◌≡◌, ℕ, ◌+◌, ◌-◌, ◌≤◌, List, ◌++◌, take, drop, refl, append_assoc, add-one}
use Rattle.std.proofs.lemmas.List.{append-nil}
use Rattle.rsp_syntax.proofs.HexDigits.{hex_last as last_digits}
use Rattle.rsp_script_io.specs.Text.{hex_text, each_text}

pub hex_last : (k n : ℕ) → k ≤ 8 → take (8 - (8 - k)) (drop (8 - k) (hex_text 8 n)) ≡ hex_text k n
unfolding hex_text
hex_last k n h = last_digits k n h

-- no part, and one part more, after a text
pub each_text-none : (bs : List ℕ) (f : ℕ → List ℕ) → bs ++ each_text f 0 ≡ bs
unfolding each_text
each_text-none bs f = append-nil bs

pub each_text-more : (bs : List ℕ) (f : ℕ → List ℕ) (n : ℕ) → bs ++ each_text f (n + 1) ≡ (bs ++ each_text f n) ++ f n
unfolding each_text
each_text-more bs f n = rw (add-one, append_assoc) refl

pub ruleset parts = (each_text-none, each_text-more, append_assoc, append-nil)
