-- Scaffolding of the contracts: the code's map of labels.
use Rattle.std.specs.Prelude.{◌≡◌, ℕ, List, map}
use Rattle.std.specs.Borrow.{Bor}
use Rattle.rsp_syntax.specs.Statement.{Labels, find_label}

-- the names and addresses of a map's entries, in the order of the names
abbrev pub named_addresses : List (Bor (List ℕ) × ℕ) → Labels
named_addresses es = map (λ (e : Bor (List ℕ) × ℕ). (e.0.now, e.1)) es

-- both have the same address for each name, or neither has one
abbrev pub SameAddresses : Labels → Labels → Type 0
SameAddresses xs ys = (name : List ℕ) → find_label xs name ≡ find_label ys name
