-- Look-ups in a table that is kept in the order of the names.
use Rattle.std.proofs.Common.{◌≡◌, refl, sym, ap, ◌∙◌, ℕ, List, [], ◌∷◌, Bor, arith}
use Rattle.std.specs.Prelude.{Some, if◌then◌else◌}
use Rattle.std.specs.Str.{bytes_eq}
use Rattle.std.specs.Map.{lookup}
use Rattle.std.specs.Ordering.{nat_cmp}
use Rattle.std.specs.Cmp.Lexicographic.{slice_cmp}
use Rattle.std.specs.BTreeMap.{BTreeMap, UpdatesBy, is_at}
use Rattle.std.proofs.lemmas.Map.Text.{is_eq-slice_cmp, btree_map_updates_str}
use Rattle.std.proofs.lemmas.Slice.Eq.{bytes_eq-Decides}
use Rattle.std.proofs.lemmas.Grind.{common_steps}
use Rattle.rsp_syntax.specs.Statement.{find_label}
use Rattle.rsp_operands.specs.Labels.{named_addresses, SameAddresses}

bytes_either : (xs ys : List ℕ) → bytes_eq xs ys ≡ bytes_eq ys xs
bytes_either xs ys = grind (arith, common_steps, bytes_eq-Decides xs ys, bytes_eq-Decides ys xs)

-- a look-up by the order finds what a look-up by the names finds
pub found_in : (name : List ℕ) (es : List (Bor (List ℕ) × ℕ)) → lookup (is_at (λ (k : Bor (List ℕ)). slice_cmp nat_cmp name k.now)) es ≡ find_label (named_addresses es) name
found_in name [] = refl
found_in name (e ∷ es) =
    ap (λ b. if b then Some e.1 else lookup (is_at (λ (k : Bor (List ℕ)). slice_cmp nat_cmp name k.now)) es) (is_eq-slice_cmp name e.0.now ∙ bytes_either name e.0.now)
    ∙ ap (λ o. if bytes_eq e.0.now name then Some e.1 else o) (found_in name es)

-- a label that was put into a map is found before the others
pub put_in : (name : List ℕ) (address : ℕ) (m n : BTreeMap (Bor (List ℕ)) ℕ) → UpdatesBy (λ x y. slice_cmp nat_cmp x.now y.now) (λ k. slice_cmp nat_cmp name k.now) m n (Some address) → SameAddresses (named_addresses n.entries) ((name, address) ∷ named_addresses m.entries)
put_in name address m n h q =
    sym (found_in q n.entries)
    ∙ btree_map_updates_str name m n (Some address) h q
    ∙ ap (λ o. if bytes_eq name q then Some address else o) (found_in q m.entries)
