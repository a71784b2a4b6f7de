-- The table of the bytes that each element selects, tested entry by entry.
use Rattle.std.proofs.Common.{◌≡◌, ℕ, ◌+◌, ◌*◌, ◌<◌, [], get_or, Bool, true, nat_eq, nat_lt, ltb→lt, T, refl, subst, sym}
use Rattle.std.proofs.lemmas.Bool.{agree_below, agree_below_at, eqb-true}
use Rattle.rsp_lanes.specs.Lanes.{source_lane}
use Rattle.rsp_lanes.specs.declared.shuffle.TheConstants.{SOURCES}

-- byte i of the entry of e
abbrev pub source : ℕ → ℕ → ℕ
source e i = get_or (get_or SOURCES.entries e []) i 0

-- whether a test passes at each element and each number below n
abbrev passes : (ℕ → ℕ → Bool) → ℕ → Bool
passes test n = agree_below (λ e. agree_below (test e) (λ _. true) n) (λ _. true) 16

passes_at : (test : ℕ → ℕ → Bool) (n : ℕ) → passes test n ≡ true → (e i : ℕ) → e < 16 → i < n → test e i ≡ true
passes_at test n t e i h k = agree_below_at (test e) (λ _. true) n i (agree_below_at (λ e. agree_below (test e) (λ _. true) n) (λ _. true) 16 e t h) k

pub source_low : (e i : ℕ) → e < 16 → i < 8 → source e (2 * i) ≡ 2 * source_lane e i
source_low e i h k = eqb-true _ _ (passes_at (λ e i. nat_eq (source e (2 * i)) (2 * source_lane e i)) 8 refl e i h k)

pub source_high : (e i : ℕ) → e < 16 → i < 8 → source e (2 * i + 1) ≡ 2 * source_lane e i + 1
source_high e i h k = eqb-true _ _ (passes_at (λ e i. nat_eq (source e (2 * i + 1)) (2 * source_lane e i + 1)) 8 refl e i h k)

pub source_below : (e i : ℕ) → e < 16 → i < 16 → source e i < 16
source_below e i h k = ltb→lt _ _ (subst T (sym (passes_at (λ e i. nat_lt (source e i) 16) 16 refl e i h k)) tt)

pub source_lane_below : (e i : ℕ) → e < 16 → i < 8 → source_lane e i < 8
source_lane_below e i h k = ltb→lt _ _ (subst T (sym (passes_at (λ e i. nat_lt (source_lane e i) 8) 8 refl e i h k)) tt)
