-- Buffers that are filled vector by vector.
use Rattle.std.proofs.Common.{◌+◌, ◌*◌, refl, ◌∙◌, arith, inl, inr}
use Rattle.std.proofs.lemmas.Bool.{cases_eq}
use Rattle.rsp_microcode.specs.Buffers.{FilledNone, FilledOne, FilledSpares}
use Rattle.rsp_microcode.proofs.Bytes.{lanes_read, lanes_elsewhere, same_lanes, outside_read}

pub filled_none : FilledNone
filled_none f m a = record { vectors = λ j h. absurd (omega arith); outside = λ x h. refl }

pub filled_one : FilledOne
filled_one f m t a n k is h size eight filled =
    let inside = is.inside in
    let flat = is.aligned in
    record {
      vectors = λ j l. elim (cases_eq j k) [
        | inl e ↦ rw e (lanes_read t (f k) (a + 16 * k) size eight)
        | inr ne ↦ lanes_elsewhere t (f k) (a + 16 * k) (a + 16 * j) eight (omega arith) (omega arith) (omega arith) ∙ filled.vectors j (omega arith)
      ];
      outside = λ x l. outside_read t (a + 16 * k) x (f k) eight (omega arith) ∙ filled.outside x (omega arith);
    }

pub filled_spares : FilledSpares
filled_spares f m t a b n k is other (inl below) h filled =
    let i = is.inside in
    let j = other.inside in
    same_lanes m t (b + 16 * k) (λ x q. filled.outside (b + 16 * k + x) (omega arith))
filled_spares f m t a b n k is other (inr above) h filled =
    let i = is.inside in
    let j = other.inside in
    same_lanes m t (b + 16 * k) (λ x q. filled.outside (b + 16 * k + x) (omega arith))
