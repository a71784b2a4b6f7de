-- The name of a new file beside the one that is saved.
use Rattle.std.specs.Prelude.{ℕ, List, [], ◌++◌, ◌≡◌, ◌≤◌, length, take, codes, decimal, unwrap_or}
use Rattle.std.specs.Path.{path_file_name, path_with_file_name}

-- how a file's name begins: the whole name if it has at most 100 bytes
abbrev pub IsNameStart : List ℕ → List ℕ → Type 0
IsNameStart start name = (length start ≤ 100) × (start ≡ take (length start) name) × (length name ≤ 100 → start ≡ name)

-- `.START.rsp-save-NUMBER`
abbrev pub save_name : List ℕ → ℕ → List ℕ
save_name start number = codes "." ++ start ++ codes ".rsp-save-" ++ decimal number

-- the new path differs from the other in the file's name alone, which names the other's
abbrev pub IsBeside : List ℕ → List ℕ → ℕ → Type 0
IsBeside new path number = (start : List ℕ) × IsNameStart start (unwrap_or (path_file_name path) []) × (new ≡ path_with_file_name path (save_name start number))
