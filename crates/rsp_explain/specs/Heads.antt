-- What a message on a line begins with.
use Rattle.std.specs.Prelude.{ℕ, List, ◌++◌, codes, decimal}
use Rattle.rsp_explain.specs.declared.head.Head.{Head}
use Rattle.rsp_explain.specs.declared.head.Head.TheVariants.{File, Input}

-- the line of this number, in a file or on standard input
abbrev pub head_text : Head → ℕ → List ℕ
head_text (File name) number = name.now ++ codes ":" ++ decimal number
head_text Input number = codes "line " ++ decimal number
