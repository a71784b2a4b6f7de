use Rattle.std.proofs.Common.{◌≡◌, ℕ, List, [], ◌∷◌, refl, ap, sym, ◌∙◌, subst}
use Rattle.rsp_memory.specs.Memory.{word_at, byte_at, with_byte}
use Rattle.rsp_memory.specs.declared.bank.Bank.TheVariants.{Imem}
use Rattle.rsp_lanes.specs.Lanes.{each_lane}
use Rattle.rsp_loadstore.specs.File.{vector, empty_file}
use Rattle.rsp_machine.specs.State.{State, start_of}
use Rattle.rsp_machine.specs.Host.{with_bank_bytes}
use Rattle.rsp_routines.specs.Multiply.{words}
use Rattle.rsp_microcode.specs.Runs.{IsAt}
use Rattle.rsp_routines.proofs.running.ready_to_multiply.Goals as goal

abbrev bytes : List ℕ
bytes = 0x4a ∷ 0x04 ∷ 0x12 ∷ 0x84 ∷ 0x4a ∷ 0x04 ∷ 0x0a ∷ 0x8d ∷ 0x4a ∷ 0x03 ∷ 0x12 ∷ 0x8e ∷ 0x4a ∷ 0x03 ∷ 0x0a ∷ 0x4f ∷ 0x4a ∷ 0 ∷ 0x02 ∷ 0x8e ∷ []

abbrev loaded : List ℕ → State
loaded image = with_bank_bytes Imem 0 bytes (start_of image)

is_at : (image : List ℕ) → IsAt words (loaded image)
unfolding word_at byte_at with_byte start_of with_bank_bytes
is_at image = record { goes = refl; runs = refl; next = refl; stand = (refl, (refl, (refl, (refl, (refl, tt))))) }

is_zero : (image : List ℕ) → vector (loaded image).vectors 0 ≡ each_lane (λ _. 0)
unfolding start_of with_bank_bytes vector empty_file
is_zero image = refl

pub returns-in-Ok-clause-at : goal.returns-in-Ok-clause-at
returns-in-Ok-clause-at g c =
    subst (λ (s : State). IsAt words s) (sym (c.in-Ok.ensures.ok ∙ ap (with_bank_bytes Imem 0 bytes) c.new-machine.ensures)) (is_at _)

pub returns-in-Ok-clause-zero : goal.returns-in-Ok-clause-zero
returns-in-Ok-clause-zero g c =
    ap (λ (s : State). vector s.vectors 0) (c.in-Ok.ensures.ok ∙ ap (with_bank_bytes Imem 0 bytes) c.new-machine.ensures) ∙ is_zero _
