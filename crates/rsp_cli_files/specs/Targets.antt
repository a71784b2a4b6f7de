-- What a new file may replace.
use Rattle.std.specs.Prelude.{ℕ, List, ◌++◌, ◌≡◌, ⊤, Some, MatchOption}
use Rattle.std.specs.Fs.{file_type, IsFile}
use Rattle.std.specs.Path.{path_file_name, path_buf_bytes}
use Rattle.rsp_cli_files.specs.declared.target.Target.{Target}
use Rattle.rsp_cli_files.specs.declared.target.Found.{Found}
use Rattle.rsp_cli_files.specs.declared.target.Found.TheVariants.{Link, File, Nothing, Fixed}

-- the text of the path ends with the name of a file, and no slash or dot follows it
abbrev pub EndsInName : List ℕ → Type 0
EndsInName path = (folder name : List ℕ) × (path_file_name path ≡ Some name) × (path ≡ folder ++ name)

-- a regular file, or a path that is free for one
abbrev pub IsTarget : Target → Type 0
IsTarget target = MatchOption target.old (EndsInName (path_buf_bytes target.path)) (λ old. IsFile (file_type old))

-- what is found at a path is a file only if it is a regular one, and nothing only if a file can have the path
abbrev pub IsFound : Found → List ℕ → Type 0
IsFound (Link _) path = ⊤
IsFound (File found) path = IsFile (file_type found)
IsFound Nothing path = EndsInName path
IsFound Fixed path = ⊤
