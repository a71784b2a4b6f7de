-- Each addend is a number of 48 bits.
use Rattle.std.proofs.Common.{◌≡◌, ℕ, ◌<◌, pos, ◌*ℤ◌, arith, refl}
use Rattle.std.proofs.lemmas.Int.{ints}
use Rattle.std.proofs.lemmas.Nat.{mul-lt}
use Rattle.rsp_numbers.specs.Numbers.{IsNumber, s16, s48}
use Rattle.rsp_numbers.proofs.Wrap.{s48_is}
use Rattle.rsp_multiply.specs.MultiplyRules.{multiply_rule}
use Rattle.rsp_multiply.specs.declared.op.MultiplyOp.{MultiplyOp}
use Rattle.rsp_multiply.specs.declared.op.MultiplyOp.TheVariants.{Vmulf, Vmulu, Vmudl, Vmudm, Vmudn, Vmudh, Vmacf, Vmacu, Vmadl, Vmadm, Vmadn, Vmadh}
use Rattle.rsp_multiply.proofs.Signs.{mixed, signed}

module _ (a b : ℕ) (h : a < 65536) (k : b < 65536) where
  two : IsNumber (pos 2 *ℤ (s16 a *ℤ s16 b))
  two = let s = (signed a b h k).1 in (omega (arith, ints, s.low, s.high), omega (arith, ints, s.low, s.high))

  pub addend_fits : (op : MultiplyOp) → IsNumber ((multiply_rule op).addend a b)
  addend_fits Vmulf = let s = (signed a b h k).1 in (omega (arith, ints, s.low, s.high), omega (arith, ints, s.low, s.high))
  addend_fits Vmulu = let s = (signed a b h k).1 in (omega (arith, ints, s.low, s.high), omega (arith, ints, s.low, s.high))
  addend_fits Vmacf = two
  addend_fits Vmacu = two
  addend_fits Vmudl = let s = mul-lt a b 65536 65536 h k in (omega (arith, ints), omega (arith, ints))
  addend_fits Vmadl = let s = mul-lt a b 65536 65536 h k in (omega (arith, ints), omega (arith, ints))
  addend_fits Vmudm = let s = mixed a b h k in (omega (arith, ints, s.low, s.high), omega (arith, ints, s.low, s.high))
  addend_fits Vmadm = let s = mixed a b h k in (omega (arith, ints, s.low, s.high), omega (arith, ints, s.low, s.high))
  addend_fits Vmudn = let s = mixed b a k h in (omega (arith, ints, s.low, s.high), omega (arith, ints, s.low, s.high))
  addend_fits Vmadn = let s = mixed b a k h in (omega (arith, ints, s.low, s.high), omega (arith, ints, s.low, s.high))
  addend_fits Vmudh = let s = (signed a b h k).1 in (omega (arith, ints, s.low, s.high), omega (arith, ints, s.low, s.high))
  addend_fits Vmadh = let s = (signed a b h k).1 in (omega (arith, ints, s.low, s.high), omega (arith, ints, s.low, s.high))

  -- so it is its own number of 48 bits
  pub addend_again : (op : MultiplyOp) → s48 ((multiply_rule op).addend a b) ≡ (multiply_rule op).addend a b
  addend_again op = let f = addend_fits op in s48_is _ _ 0 0 refl f.0 f.1
