-- What is said of the faults of a source text.
use Rattle.std.specs.Prelude.{ℕ, zero, suc, ◌≡◌, ◌+◌, ◌-◌, ◌^◌, min, List, [], ◌∷◌, ◌++◌, length, take, codes, decimal, Result, Ok, Err, MatchResult}
use Rattle.std.specs.Str.Lines.{lines}
use Rattle.rsp_syntax.specs.declared.fault.AsmFault.{AsmFault}
use Rattle.rsp_syntax.specs.Faults.{kind_name}
use Rattle.rsp_syntax.specs.SourceText.{meaning_of_text}
use Rattle.rsp_asm.specs.TextFaults.{all_faults}
use Rattle.rsp_explain.specs.declared.head.Head.{Head}
use Rattle.rsp_explain.specs.Heads.{head_text}

-- ---- which faults

-- the fault of a text with this meaning, if it has one
abbrev pub fault_in : Result (List ℕ) AsmFault → List AsmFault
fault_in (Ok words) = []
fault_in (Err fault) = fault ∷ []

abbrev pub or_else : List AsmFault → List AsmFault → List AsmFault
or_else [] others = others
or_else (fault ∷ faults) others = fault ∷ faults

-- the faults of a text whose first word is at the origin: all that the first pass finds, or if it finds none that of the second
abbrev pub text_faults : List ℕ → ℕ → List AsmFault
text_faults text origin = or_else (all_faults origin (lines text)) (fault_in (meaning_of_text text origin))

-- ---- what is said of them

-- the line of a fault, and the fault as the assembler reports it, of a text that has so many lines before it
abbrev pub heading : Head → ℕ → AsmFault → List ℕ
heading head before fault = head_text head (min (before + fault.line) (2 ^ 64 - 1)) ++ codes ": fault " ++ kind_name fault.kind ++ codes " line " ++ decimal fault.line

-- the same, with what is wrong there
abbrev pub fault_said : Head → ℕ → AsmFault → List ℕ → List ℕ
fault_said head before fault reason = heading head before fault ++ (reason ++ 10 ∷ [])

-- each of these faults is said, one after another, for some reason
abbrev pub AreSaid : Head → ℕ → List AsmFault → List ℕ → Type 0
AreSaid head before [] said = said ≡ []
AreSaid head before (fault ∷ faults) said = (reason : List ℕ) × (others : List ℕ) × (said ≡ fault_said head before fault reason ++ others) × AreSaid head before faults others

-- how many more there are, if there are any
abbrev pub count_said : ℕ → List ℕ
count_said zero = []
count_said (suc more) = codes ".. and " ++ decimal (suc more) ++ codes " more\n"

-- what is said of faults: each of the first twenty, and how many more there are
abbrev pub AreExplained : Head → ℕ → List AsmFault → List ℕ → Type 0
AreExplained head before faults said = (first : List ℕ) × AreSaid head before (take 20 faults) first × (said ≡ first ++ count_said (length faults - 20))

-- ---- what is said of a text

-- a text begins with another
abbrev pub BeginsWith : List ℕ → List ℕ → Type 0
BeginsWith prefix whole = (others : List ℕ) × (whole ≡ prefix ++ others)

-- what is said of a text with this meaning: nothing, or first the fault for which the assembler refuses it
abbrev pub IsExplained : Head → ℕ → Result (List ℕ) AsmFault → List ℕ → Type 0
IsExplained head before meaning said = MatchResult meaning (λ _. said ≡ []) (λ fault. BeginsWith (heading head before fault) said)
