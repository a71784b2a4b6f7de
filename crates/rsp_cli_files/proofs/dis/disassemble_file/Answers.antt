use Rattle.std.proofs.Common.{◌≡◌, true, refl, inl, inr}
use Rattle.rsp_cli_files.proofs.Texts.{misfit, fits_whole, printed_whole}
use Rattle.rsp_cli_files.proofs.dis.disassemble_file.Goals as goal

pub returns-then-not-fits-clause-err : goal.returns-then-not-fits-clause-err
returns-then-not-fits-clause-err g c =
    inr (inr (inl (
      refl,
      misfit _ _ c.in_ok-origin.origin c.in_ok-bytes.bytes.items c.in_ok-bytes.ensures.ok c.in_ok-origin.ensures.value
          (λ whole. let yes : c.fits.result ≡ true = c.fits.ensures.1 (rw c.as_slice-bytes.ensures.value whole) in cc),
    )))

pub returns-in-Ok-clause-fits : goal.returns-in-Ok-clause-fits
returns-in-Ok-clause-fits g c =
    let whole = rw c.as_slice-bytes.ensures.value at (c.fits.ensures.0 c.if-not-fits.false) in
    fits_whole _ _ c.in_ok-origin.origin c.in_ok-bytes.bytes.items c.in_ok-bytes.ensures.ok c.in_ok-origin.ensures.value whole

pub returns-in-Ok-clause-printed : goal.returns-in-Ok-clause-printed
returns-in-Ok-clause-printed g c = λ labels plain.
    let whole = rw c.as_slice-bytes.ensures.value at (c.fits.ensures.0 c.if-not-fits.false) in
    printed_whole _ _ c.in_ok-origin.origin c.in_ok-bytes.bytes.items _ _ c.in_ok-bytes.ensures.ok c.in_ok-origin.ensures.value whole
    (rw c.as_slice-bytes.ensures.value at (c.in-Ok.ensures labels plain))
