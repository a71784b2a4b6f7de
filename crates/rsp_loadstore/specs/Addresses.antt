-- The address of a vector load or store.
-- Sources: Nintendo's RSP Programmer's Guide, chapter on vector unit instructions; the N64brew Wiki's page "Reality Signal Processor/CPU Core".
use Rattle.std.specs.Prelude.{ℕ, ℤ, pos, ◌^◌, ◌+ℤ◌, ◌-ℤ◌, ◌*ℤ◌, nat_lt, if◌then◌else◌}
use Rattle.rsp_numbers.specs.Numbers.{modulo}
use Rattle.rsp_decode.specs.Table.{vector_load_scale, vector_store_scale}
use Rattle.rsp_decode.specs.declared.inst.Inst.{Inst}
use Rattle.rsp_decode.specs.declared.inst.Inst.TheVariants.{VectorLoad, VectorStore}

-- the seven bits of an offset as a signed value
abbrev pub signed_offset : ℕ → ℤ
signed_offset n = if nat_lt n 64 then pos n else pos n -ℤ pos 128

-- the base plus the offset times the scale, modulo 2^32
abbrev pub displaced : ℕ → ℕ → ℕ → ℕ
displaced base offset scale = modulo (pos base +ℤ (signed_offset offset *ℤ pos scale)) (2 ^ 32)

-- the address, from the value of the base register; for another instruction that value
unfoldable pub vector_address : Inst → ℕ → ℕ
vector_address (VectorLoad op f) value = displaced value f.offset (vector_load_scale op)
vector_address (VectorStore op f) value = displaced value f.offset (vector_store_scale op)
vector_address _ value = value
