-- Scaffolding of the contracts: the operands of a statement that the code hasn't taken yet.
use Rattle.std.specs.Prelude.{ℕ, List, [], Option, Some, None, map}
use Rattle.std.specs.List.{slice_split}
use Rattle.rsp_syntax.specs.Chars.{trim}
use Rattle.rsp_syntax.specs.Cuts.{is_boundary}
use Rattle.rsp_syntax.specs.declared.line_bytes.Boundary.TheVariants.{Comma}

-- their texts, given the rest of the statement's text, or None if it is all taken
abbrev pub texts_in : Option (List ℕ) → List (List ℕ)
texts_in None = []
texts_in (Some bs) = map trim (slice_split (is_boundary Comma) bs)
