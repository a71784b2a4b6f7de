-- Whether a command line would overwrite what it reads. `None` is a store of files that doesn't tell it.
use Rattle.std.specs.Prelude.{ℕ, List, Bool, false, Option, None, Some, option_map, codes}
use Rattle.rsp_cli_args.specs.declared.Request.{Request}
use Rattle.rsp_cli_args.specs.declared.Request.TheVariants.{Run, Assemble, Disassemble}

-- what the script is read from: the file with this name, or standard input
abbrev pub script_name : Option (List ℕ) → List ℕ
script_name None = codes "/dev/stdin"
script_name (Some name) = name

-- whether the file that is written, if there is one, is the one that is read
abbrev pub saves_over : (List ℕ → List ℕ → Option Bool) → List ℕ → Option (List ℕ) → Option Bool
saves_over same read None = Some false
saves_over same read (Some written) = same read written

-- whether the command line asks for this: the contents of RDRAM over the script, or the words over their source text
abbrev pub overwrites : (List ℕ → List ℕ → Option Bool) → Request → Option Bool
overwrites same (Run asked) = saves_over same (script_name (option_map (λ name. name.now) asked.script)) (option_map (λ name. name.now) asked.save)
overwrites same (Assemble asked) = same asked.source.now asked.out.now
overwrites same (Disassemble asked) = Some false
