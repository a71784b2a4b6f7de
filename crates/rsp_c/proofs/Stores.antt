-- What the changes of a store show.
use Rattle.std.proofs.Common.{◌≡◌, ◌∙◌, refl, ap, ℕ, ◌+◌, ◌*◌, ◌/◌, ◌%◌, List, [], ◌∷◌, Bool, true, arith}
use Rattle.rsp_memory.specs.Memory.{bytes_at}
use Rattle.rsp_loadstore.specs.Pairs.{quadword_start}
use Rattle.rsp_machine.specs.Footprints.{IsPastQuadwords}
use Rattle.rsp_machine.specs.Writes.{writes_of}
use Rattle.rsp_machine.proofs.Footprints.{writes_hold}
use Rattle.rsp_debug.proofs.Traces.{is_stored}
use Rattle.rsp_c.specs.Changes.{quadwords_of, ChangesShowStores}

quadwords_are : (stored : Bool) (a : ℕ) (dmem : List ℕ) → stored ≡ true → quadwords_of stored a dmem ≡ bytes_at dmem a 16 ∷ bytes_at dmem (a + 16) 16 ∷ []
quadwords_are stored a dmem e = rw e refl

past_address : (address x : ℕ) → IsPastQuadwords (address / 16 * 16) x → IsPastQuadwords address x
past_address address x past k lt e =
    let same : quadword_start address ≡ quadword_start (address / 16 * 16) = omega arith in
    past k lt (e ∙ ap (λ q. (q + k) % 4096) same)

pub stores_shown : ChangesShowStores
stores_shown s h done told =
    let stored = is_stored (writes_of s).stored told in
    record {
      bytes = quadwords_are _ _ _ stored;
      others = λ x past. (writes_hold s h done).bytes stored x (past_address (writes_of s).address x past);
    }
