-- Vector registers that a load wrote, written back.
use Rattle.std.proofs.Common.{◌≡◌, ◌≢◌, ℕ, zero, suc, ◌+◌, ◌-◌, ◌%◌, ◌<◌, Bool, true, false, List, [], ◌∷◌, length, ◌∙◌, arith, add-zero, get_or}
use Rattle.std.specs.Prelude.{if◌then◌else◌}
use Rattle.std.proofs.Math.Nat.{add_assoc}
use Rattle.rsp_memory.proofs.PutBack.{IsElsewhere}
use Rattle.rsp_decode.specs.declared.vector.VectorLoadOp.{VectorLoadOp}
use Rattle.rsp_loadstore.specs.File.{vector, with_vector}
use Rattle.rsp_loadstore.specs.Loads.{after_load, load_pairs}
use Rattle.rsp_loadstore.specs.Windows.{writes_group}
use Rattle.rsp_loadstore.proofs.Windows.{first_of, count_of, length-load, load-elsewhere}
use Rattle.rsp_machine.specs.Undo.{group_at, with_group}
use Rattle.rsp_machine.proofs.Back.{back_is}

-- what a load may have written of the file, written back: a group, or one register
abbrev pub put_back : Bool → ℕ → List (List ℕ) → List (List ℕ) → List (List ℕ)
put_back group vt file now =
    if group then with_group now (vt - vt % 8) (group_at file (vt - vt % 8)) else with_vector now vt (vector file vt)

-- the registers of a group
abbrev from_on : ℕ → ℕ → List ℕ
from_on n zero = []
from_on n (suc k) = n ∷ from_on (n + 1) k

apart : (r n k j : ℕ) → IsElsewhere r (from_on n k) → j < k → r ≢ n + j
apart r n zero j there h = absurd (omega arith)
apart r n (suc k) zero there h = rw add-zero there.0
apart r n (suc k) (suc j) there h =
    let e : n + suc j ≡ n + 1 + j = omega arith in
    rw e (apart r (n + 1) k j there.1 (omega arith))

-- a file that differs from another in the group alone
with_group-back : (file now : List (List ℕ)) (n : ℕ) → length now ≡ length file
    → ((r : ℕ) → IsElsewhere r (from_on n 8) → get_or now r [] ≡ get_or file r []) → with_group now n (group_at file n) ≡ file
unfolding with_vector vector
with_group-back file now n l h = simp add_assoc at (back_is [] file (from_on n 8) now l h)

-- a file that differs from another in these registers alone
put_back-is : (group : Bool) (vt : ℕ) (file now : List (List ℕ)) → length now ≡ length file
    → ((r : ℕ) → ((j : ℕ) → j < count_of group → r ≢ first_of group vt + j) → get_or now r [] ≡ get_or file r []) → put_back group vt file now ≡ file
unfolding with_vector vector
put_back-is true vt file now l h = with_group-back file now (vt - vt % 8) l (λ r there. h r (λ j k. apart r (vt - vt % 8) 8 j there k))
put_back-is false vt file now l h = back_is [] file (vt ∷ []) now l (λ r there. h r (λ j k e. there.0 (e ∙ omega arith)))

pub loaded-back : (op : VectorLoadOp) (m : List ℕ) (file : List (List ℕ)) (vt e a : ℕ)
    → put_back (writes_group op) vt file (after_load m file (load_pairs op vt e a)) ≡ file
loaded-back op m file vt e a = put_back-is (writes_group op) vt file _ (length-load op m file vt e a) (load-elsewhere op m file vt e a)
