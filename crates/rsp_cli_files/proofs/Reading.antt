-- A file that is read to one byte more than it may have, and what is known of it then.
use Rattle.std.proofs.Common.{◌≡◌, ◌<◌, ◌≤◌, ◌∙◌, ◌⊎◌, ℕ, suc, List, length, take, Option, None, Some, Result, Ok, Err, sym, ap, subst, arith}
use Rattle.std.proofs.lemmas.List.{length-take, take_all}
use Rattle.rsp_cli_files.specs.declared.files.FileFault.{FileFault}
use Rattle.rsp_cli_files.specs.Files.{BeginsWith, Holds, IsLonger, IfHeld, IsWritten, SameFiles, IsSavedAs}

-- if no more were read than it may have, these are all its bytes
pub whole_of_first : (held : Option (Result (List ℕ) FileFault)) (limit : ℕ) (bytes : List ℕ) → BeginsWith held (suc limit) bytes → length bytes ≤ limit → Holds held (Ok bytes)
whole_of_first None limit bytes first few = tt
whole_of_first (Some (Ok held)) limit bytes first few =
    let counted : length bytes ≡ length (take (suc limit) held) = ap length first in
    let all : length held ≤ suc limit = omega (arith, counted, length-take (suc limit) held) in
    ap Ok (sym (first ∙ take_all (suc limit) held all))
whole_of_first (Some (Err fault)) limit bytes first few = absurd first

-- if more were read, it has more
pub longer_of_first : (held : Option (Result (List ℕ) FileFault)) (limit : ℕ) (bytes : List ℕ) → BeginsWith held (suc limit) bytes → limit < length bytes → IsLonger held limit
longer_of_first None limit bytes first more = tt
longer_of_first (Some (Ok held)) limit bytes first more = omega (arith, ap length first, length-take (suc limit) held)
longer_of_first (Some (Err fault)) limit bytes first more = absurd first

-- what holds of all its bytes
pub held_of_whole : (held : Option (Result (List ℕ) FileFault)) (bytes : List ℕ) (P : List ℕ → Type 0) → Holds held (Ok bytes) → P bytes → IfHeld held P
held_of_whole None bytes P whole p = tt
held_of_whole (Some (Ok held)) bytes P whole p = let same : bytes ≡ held = cc in subst P same p
held_of_whole (Some (Err fault)) bytes P whole p = cc

-- what follows from what holds of its bytes
pub held_more : (held : Option (Result (List ℕ) FileFault)) (P Q : List ℕ → Type 0) → ((bytes : List ℕ) → P bytes → Q bytes) → IfHeld held P → IfHeld held Q
held_more None P Q more p = tt
held_more (Some (Ok bytes)) P Q more p = more bytes p
held_more (Some (Err fault)) P Q more p = absurd p

-- a save after which files are as they were before
pub saved_since : (name : List ℕ) (before now after : List ℕ → Option (Result (List ℕ) FileFault)) (bytes : List ℕ) → SameFiles before now → IsSavedAs name now after bytes → IsSavedAs name before after bytes
saved_since name before now after bytes same saved = (
  subst (λ (held : Option (Result (List ℕ) FileFault)). IsWritten held (after name) bytes) (same name) saved.0,
  λ n. subst (λ (held : Option (Result (List ℕ) FileFault)). (after n ≡ held) ⊎ (after n ≡ Some (Ok bytes))) (same n) (saved.1 n),
)
