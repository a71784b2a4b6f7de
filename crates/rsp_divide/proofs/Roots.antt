-- Both tables are tested entry by entry.
use Rattle.std.proofs.Common.{◌≡◌, ℕ, ◌+◌, ◌*◌, ◌/◌, ◌%◌, ◌^◌, ◌<◌, ◌≤◌, inl, inr, Bool, true, ◌&&◌, refl, sym, ◌∙◌, ap, subst, arith, nat_lt, nat_le, nat_eq, get_or}
use Rattle.std.proofs.lemmas.Bool.{cases_lt, ltb-true, leb-true, eqb-true, and_parts, agree_below_at}
use Rattle.rsp_numbers.specs.Roots.{radicand, IsRoot}
use Rattle.rsp_numbers.proofs.Roots.{one_root}
use Rattle.rsp_divide.specs.Entries.{root_entry, reciprocal_entry}
use Rattle.rsp_divide.specs.declared.tables.TheConstants.{ROOTS, RECIPROCALS}

-- the entry, by a root that is known
entry_of : (i b : ℕ) → IsRoot (radicand i) b → root_entry i ≡ b / 2 % 65536
unfolding root_entry
entry_of i b r = ap (λ k. k / 2 % 65536) (sym ((one_root i).2 b r))

-- a list of entries, tested: e is half of b, or of b + 1, without its highest bit
abbrev is_root_entry : ℕ → ℕ → Bool
is_root_entry i e =
    nat_lt e 65536 && (nat_lt (radicand i * ((131072 + 2 * e) * (131072 + 2 * e))) (2 ^ 44) && nat_le (2 ^ 44) (radicand i * ((131074 + 2 * e) * (131074 + 2 * e))))

-- e is the entry if b or b + 1 is the root
entry_by : (i b c e : ℕ) → c ≡ b + 1 → b / 2 % 65536 ≡ e → radicand i * (b * b) < 2 ^ 44 → 2 ^ 44 ≤ radicand i * (c * c) → root_entry i ≡ e
entry_by i b c e one half below above =
    let P : ℕ → Type 0 = λ c. 2 ^ 44 ≤ radicand i * (c * c) in
    entry_of i b (record { below = below; above = subst P one above }) ∙ half

entry_between : (i e : ℕ) → e < 65536 → radicand i * ((131072 + 2 * e) * (131072 + 2 * e)) < 2 ^ 44 → 2 ^ 44 ≤ radicand i * ((131074 + 2 * e) * (131074 + 2 * e)) → root_entry i ≡ e
entry_between i e small below above =
    elim (cases_lt (radicand i * ((131073 + 2 * e) * (131073 + 2 * e))) (2 ^ 44)) [
      | inl l ↦ entry_by i (131073 + 2 * e) (131074 + 2 * e) e (omega arith) (omega arith) l above
      | inr g ↦ entry_by i (131072 + 2 * e) (131073 + 2 * e) e (omega arith) (omega arith) below g
    ]

-- the table's entry is the computed one
root_tested : (i e : ℕ) → is_root_entry i e ≡ true → root_entry i ≡ e
root_tested i e h =
    let first = and_parts (nat_lt e 65536) _ h in
    let second = and_parts _ _ first.1 in
    entry_between i e (ltb-true _ _ first.0) (ltb-true _ _ second.0) (leb-true _ _ second.1)

pub root_table : (k : ℕ) → k < 512 → root_entry k ≡ get_or ROOTS k 0
root_table k lt = root_tested k _ (agree_below_at (λ k. is_root_entry k (get_or ROOTS k 0)) (λ _. true) 512 k refl lt)

pub reciprocal_table : (k : ℕ) → k < 512 → get_or RECIPROCALS k 0 ≡ reciprocal_entry k
reciprocal_table k lt = eqb-true _ _ (agree_below_at (λ k. nat_eq (get_or RECIPROCALS k 0) (reciprocal_entry k)) (λ _. true) 512 k refl lt)
