-- The number of digits that bytes have.
use Rattle.hex.proofs.HexLemmas.{length-encode_with}

pub ruleset digits = (length-encode_with)
