-- Fields that instructions share: from their list, in the order of the operands, and back.
use Rattle.std.specs.Prelude.{ℕ, ◌<◌, List, [], ◌∷◌, slice_index}
use Rattle.rsp_decode.specs.declared.fields.RegisterFields.{RegisterFields}
use Rattle.rsp_decode.specs.declared.fields.ScalarMemoryFields.{ScalarMemoryFields}
use Rattle.rsp_decode.specs.declared.fields.VectorFields.{VectorFields}
use Rattle.rsp_decode.specs.declared.fields.VectorMemoryFields.{VectorMemoryFields}
use Rattle.rsp_decode.specs.Table.BitFields.{value_at, whole}

-- $d, $s, $t
abbrev pub register_fields : List ℕ → RegisterFields
register_fields values = record { rd = slice_index values 0; rs = slice_index values 1; rt = slice_index values 2 }

abbrev pub register_values : RegisterFields → List ℕ
register_values f = f.rd ∷ f.rs ∷ f.rt ∷ []

-- $d, $t, $s
abbrev pub shift_by_fields : List ℕ → RegisterFields
shift_by_fields values = record { rd = slice_index values 0; rs = slice_index values 2; rt = slice_index values 1 }

abbrev pub shift_by_values : RegisterFields → List ℕ
shift_by_values f = f.rd ∷ f.rt ∷ f.rs ∷ []

-- $t, offset($base)
abbrev pub scalar_memory_fields : List ℕ → ScalarMemoryFields
scalar_memory_fields values = record { rt = slice_index values 0; offset = slice_index values 1; base = slice_index values 2 }

abbrev pub scalar_memory_values : ScalarMemoryFields → List ℕ
scalar_memory_values f = f.rt ∷ f.offset ∷ f.base ∷ []

-- $vD, $vS, $vT[e]
abbrev pub vector_fields : List ℕ → VectorFields
vector_fields values = record { vd = slice_index values 0; vs = slice_index values 1; vt = slice_index values 2; element = slice_index values 3 }

abbrev pub vector_values : VectorFields → List ℕ
vector_values f = f.vd ∷ f.vs ∷ f.vt ∷ f.element ∷ []

-- their ranges
abbrev pub IsVectorFields : VectorFields → Type 0
IsVectorFields f = (f.vd < 32) × (f.vs < 32) × (f.vt < 32) × (f.element < 16)

-- $vT[e], offset($base)
abbrev pub vector_memory_fields : List ℕ → VectorMemoryFields
vector_memory_fields values = record { vt = slice_index values 0; element = slice_index values 1; offset = slice_index values 2; base = slice_index values 3 }

abbrev pub vector_memory_values : VectorMemoryFields → List ℕ
vector_memory_values f = f.vt ∷ f.element ∷ f.offset ∷ f.base ∷ []

-- those of a word, with any element
abbrev pub vector_memory_in : ℕ → VectorMemoryFields
vector_memory_in w = record { vt = value_at w (whole 16 5); element = value_at w (whole 7 4); offset = value_at w (whole 0 7); base = value_at w (whole 21 5) }
