-- Files in memory after a write.
use Rattle.std.proofs.Common.{◌≡◌, ◌⊎◌, ℕ, List, true, false, Option, None, Some, Result, Ok, if◌then◌else◌, refl, subst, inl, inr}
use Rattle.std.specs.Str.{bytes_eq}
use Rattle.std.proofs.lemmas.Slice.Eq.{bytes_eq-Decides}
use Rattle.rsp_cli_files.specs.declared.files.FileFault.{FileFault}
use Rattle.rsp_cli_files.specs.Files.{WritesOneFile}
use Rattle.rsp_tests_cli.specs.Files.{may_save, image_file, file_of}

-- every other name holds what it held
pub others : (saved_name : Option (List ℕ)) (name saved bytes : List ℕ) (fault : Option FileFault) (image : List ℕ) → may_save saved_name name ≡ true
    → WritesOneFile (λ n. Some (file_of saved_name saved fault image n)) (λ n. Some (file_of (Some name) bytes fault image n)) bytes
others None name saved bytes fault image room = λ n. elim (bytes_eq name n) as
    (λ b. (Some (if b then Ok bytes else image_file fault image n) ≡ Some (image_file fault image n)) ⊎ (Some (if b then Ok bytes else image_file fault image n) ≡ Some (Ok bytes)))
    [ true ↦ inr refl | false ↦ inl refl ]
others (Some old) name saved bytes fault image room =
    let same : old ≡ name = (bytes_eq-Decides old name).0 room in
    subst (λ (first : List ℕ). WritesOneFile (λ n. Some (file_of (Some old) saved fault image n)) (λ n. Some (file_of (Some first) bytes fault image n)) bytes) same
    (λ n. elim (bytes_eq old n) as
    (λ b. (Some (if b then Ok bytes else image_file fault image n) ≡ Some (if b then Ok saved else image_file fault image n)) ⊎ (Some (if b then Ok bytes else image_file fault image n) ≡ Some (Ok bytes)))
    [ true ↦ inr refl | false ↦ inl refl ])
