-- The script and the image of a run, where they are known.
use Rattle.std.proofs.Common.{◌≡◌, ◌∙◌, ◌≤◌, ℕ, List, length, Option, None, Some, IfSome, MatchOption, Result, Ok, Err, OnOk, subst, arith}
use Rattle.std.proofs.lemmas.List.{take_all}
use Rattle.std.specs.Io.KnownBytes.{Appends}
use Rattle.rsp_memory.specs.Image.{IsImageLength}
use Rattle.rsp_script_io.specs.Feeds.{script_limit}
use Rattle.rsp_cli_files.specs.declared.files.FileFault.{FileFault}
use Rattle.rsp_cli_files.specs.Files.{BeginsWith, Holds, SameFiles}
use Rattle.rsp_cli_files.proofs.Reading.{saved_since}
use Rattle.rsp_cli.specs.Inputs.{default_image, IsNoImage}
use Rattle.rsp_cli.specs.Runs.{told_bytes, bytes_or, IsSaved, IsUnfit, IfKnown}

-- what holds of both parts of a success
pub both_ok : {T E A B C : Type 0} → (r : Result T E) → OnOk r A → OnOk r B → (A → B → C) → OnOk r C
both_ok (Ok x) a b f = f a b
both_ok (Err e) a b f = tt

-- P of what a file holds, if the store tells it
pub told : (held : Option (Result (List ℕ) FileFault)) (bytes : List ℕ) (P : List ℕ → Type 0) → Holds held (Ok bytes) → P bytes → IfSome (told_bytes held) P
told None bytes P whole p = tt
told (Some (Ok held)) bytes P whole p = let same : bytes ≡ held = cc in subst P same p
told (Some (Err fault)) bytes P whole p = cc

-- the same of the file with this name, or of the image without it
pub told_or : (name : Option (List ℕ)) (content : List ℕ → Option (Result (List ℕ) FileFault)) (image : List ℕ) (P : List ℕ → Type 0)
    → MatchOption name (image ≡ default_image) (λ named. Holds (content named) (Ok image)) → P image → IfSome (bytes_or name content (Some default_image)) P
told_or None content image P same p = subst P same p
told_or (Some name) content image P whole p = told (content name) image P whole p

-- a save over files that are as they were before
pub saved_over : (name : Option (List ℕ)) (before now after : List ℕ → Option (Result (List ℕ) FileFault)) (image : List ℕ) → SameFiles before now → IsSaved name now after image → IsSaved name before after image
saved_over None before now after image same saved = λ n. saved n ∙ same n
saved_over (Some name) before now after image same saved = saved_since name before now after image same saved

-- a file whose first bytes are no image is none as a whole
pub no_image : (held : Option (Result (List ℕ) FileFault)) (bytes : List ℕ) → BeginsWith held 8388609 bytes → ¬ IsImageLength (length bytes) → IsNoImage held
no_image None bytes first bad = tt
no_image (Some (Ok held)) bytes first bad = λ size. bad (rw (first ∙ take_all 8388609 held (omega (arith, size.at_most))) size)
no_image (Some (Err fault)) bytes first bad = absurd first

-- a file that was read as a script is fit to be one
pub fit : {A : Type 0} (held : Option (Result (List ℕ) FileFault)) (script : List ℕ) → Holds held (Ok script) → length script ≤ script_limit → IsUnfit held → A
fit None script whole few unfit = absurd unfit
fit (Some (Ok held)) script whole few unfit = let same : held ≡ script = cc in absurd (omega (arith, rw same at unfit))
fit (Some (Err fault)) script whole few unfit = cc

-- what a run leaves whose script and image were read from files, or are known without one
pub answered : {E : Type 0} (ended : Result (Unit {0}) E) (out image_after : List ℕ → List ℕ → List ℕ) (rdram saved : Option (List ℕ))
    (before now after : List ℕ → Option (Result (List ℕ) FileFault)) (script image : List ℕ) (old new : Option (List ℕ)) (name : List ℕ)
    → SameFiles before now → Holds (before name) (Ok script)
    → MatchOption rdram (image ≡ default_image) (λ named. Holds (before named) (Ok image))
    → OnOk ended (Appends old new (out script image)) → OnOk ended (IsSaved saved now after (image_after script image))
    → OnOk ended (IfKnown (told_bytes (before name)) (bytes_or rdram before (Some default_image)) (λ s i. Appends old new (out s i) × IsSaved saved before after (image_after s i)))
answered ended out image_after rdram saved before now after script image old new name same read loaded replies kept =
    let P : List ℕ → List ℕ → Type 0 = λ s i. Appends old new (out s i) × IsSaved saved before after (image_after s i) in
    both_ok ended replies kept (λ a k. told (before name) script (λ s. IfSome (bytes_or rdram before (Some default_image)) (P s)) read
    (told_or rdram before image (P script) loaded (a, saved_over saved before now after (image_after script image) same k)))

-- the same of a script that the input gives, if it is known
pub answered_input : {E : Type 0} (ended : Result (Unit {0}) E) (out image_after : List ℕ → List ℕ → List ℕ) (rdram saved : Option (List ℕ))
    (before now after : List ℕ → Option (Result (List ℕ) FileFault)) (input : Option (List ℕ)) (image : List ℕ) (old new : Option (List ℕ))
    → SameFiles before now → MatchOption rdram (image ≡ default_image) (λ named. Holds (before named) (Ok image))
    → OnOk ended (IfSome input (λ script. Appends old new (out script image))) → OnOk ended (IfSome input (λ script. IsSaved saved now after (image_after script image)))
    → OnOk ended (IfKnown input (bytes_or rdram before (Some default_image)) (λ s i. Appends old new (out s i) × IsSaved saved before after (image_after s i)))
answered_input ended out image_after rdram saved before now after None image old new same loaded replies kept = both_ok ended replies kept (λ a k. tt)
answered_input ended out image_after rdram saved before now after (Some script) image old new same loaded replies kept =
    let P : List ℕ → Type 0 = λ i. Appends old new (out script i) × IsSaved saved before after (image_after script i) in
    both_ok ended replies kept (λ a k. told_or rdram before image P loaded (a, saved_over saved before now after (image_after script image) same k))
