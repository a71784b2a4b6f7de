-- The bytes of hexadecimal digits.
use Rattle.std.proofs.Common.{◌≡◌, ℕ, ◌*◌, ◌/◌, ◌<◌, List, [], ◌∷◌, length, Result, Ok, Err, Some, refl, sym, ap, ◌∙◌, arith, false, take_all, append-nil}
use Rattle.std.specs.Prelude.{MatchResult, is_err}
use Rattle.std.specs.List.{refill}
use Rattle.std.proofs.lemmas.List.{drop_all}
use Rattle.std.proofs.lemmas.Grind.{common_steps}
use Rattle.hex.specs.Hex.{decode_of, decode_sized}
use Rattle.hex.specs.declared.error.FromHexError.{FromHexError}
use Rattle.hex.proofs.HexLemmas.{decode_of-ok}
use Rattle.rsp_commands.specs.Operand.{bytes_of, some_bytes}

-- a text that is decoded into room for half as many bytes
decode_sized-half : (word : List ℕ) (n : ℕ) → n ≡ length word / 2 → decode_sized word n ≡ decode_of word
decode_sized-half word n h = grind (arith, common_steps)

-- what was written where the decoding did not fail
written : (d : Result (List ℕ) FromHexError) (r : Result Unit FromHexError) (new : List ℕ)
    → MatchResult d (λ bytes. (r ≡ Ok tt) × (new ≡ bytes)) (λ e. r ≡ Err e) → is_err r ≡ false → d ≡ Ok new
written (Ok bytes) r new h ok = ap Ok (sym h.1)
written (Err e) r new h ok = cc

-- new bytes over as many old ones
refill-whole : (old new : List ℕ) → length old ≡ length new → refill (length old) old new ≡ new
refill-whole old new h =
    rw (drop_all (length new) old (omega arith), append-nil new) (take_all (length old) new (omega arith))

-- one or more bytes
some_bytes-ok : (new : List ℕ) → 0 < length new → Some (record { items = new }) ≡ some_bytes (Ok new)
some_bytes-ok [] h = absurd (omega arith)
some_bytes-ok (b ∷ bs) h = refl

-- what the room holds is what the digits say
pub bytes_of-decoded : (word old new : List ℕ) (r : Result Unit FromHexError) → length old ≡ length word / 2
    → MatchResult (decode_sized word (length old)) (λ bytes. (r ≡ Ok tt) × (new ≡ bytes)) (λ e. r ≡ Err e)
    → is_err r ≡ false → 0 < length (refill (length old) old new)
    → Some (record { items = refill (length old) old new }) ≡ bytes_of word
unfolding bytes_of
bytes_of-decoded word old new r half h ok some =
    let decoded : decode_of word ≡ Ok new = sym (decode_sized-half word (length old) half) ∙ written _ r new h ok in
    let long : length word ≡ 2 * length new = (decode_of-ok word new decoded).2 in
    let whole : refill (length old) old new ≡ new = refill-whole old new (omega arith) in
    rw (whole, decoded) (some_bytes-ok new (rw whole at some))
