-- Text is ASCII.
use Rattle.std.proofs.Common.{◌≡◌, ℕ, ◌<◌, List, [], ◌∷◌, true, arith}
use Rattle.std.specs.Prelude.{IsUtf8}
use Rattle.std.specs.List.{list_all}
use Rattle.std.specs.Str.{IsAscii}
use Rattle.std.proofs.lemmas.Str.{IsUtf8-from_ascii}
use Rattle.std.proofs.lemmas.Str.Ascii.{IsAscii-nil, IsAscii-cons}
use Rattle.std.proofs.lemmas.Bool.{and_parts}
use Rattle.std.proofs.lemmas.Grind.{common_steps}
use Rattle.rsp_syntax.specs.Chars.{is_line_byte}

byte_is_ascii : (b : ℕ) → is_line_byte b ≡ true → b < 128
byte_is_ascii b h = grind (arith, common_steps)

text_is_ascii : (bs : List ℕ) → list_all is_line_byte bs ≡ true → IsAscii bs
text_is_ascii [] h = IsAscii-nil
text_is_ascii (b ∷ bs) h =
    let parts = and_parts (is_line_byte b) (list_all is_line_byte bs) h in
    IsAscii-cons b bs (byte_is_ascii b parts.0) (text_is_ascii bs parts.1)

pub text_is_utf8 : (bs : List ℕ) → list_all is_line_byte bs ≡ true → IsUtf8 bs
text_is_utf8 bs h = IsUtf8-from_ascii bs (text_is_ascii bs h)
