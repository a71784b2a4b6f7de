-- What a call with a handle comes to: the status that it returns, what the handle holds afterwards, and what the call fills. A handle holds
-- a machine in its debugger, or a bench; `D` is what it is seen as.
use Rattle.std.specs.Prelude.{ℕ, ◌≡◌, ◌↔◌, ◌⊎◌, Option, None, Some, IfSome, option_map}
use Rattle.rsp_c.specs.declared.status.TheConstants.{OK, NO_MACHINE, OUT_OF_RANGE}

-- the status: NO_MACHINE if the handle holds nothing, else that of what it holds
abbrev pub status_of : {D : Type 0} → (D → ℕ) → Option D → ℕ
status_of f None = NO_MACHINE
status_of f (Some d) = f d

-- the status is OK exactly if the arguments are in their ranges, for what the handle holds, and else OUT_OF_RANGE; if it holds nothing it is NO_MACHINE
abbrev pub IsDoneIf : {D : Type 0} → (D → Type 0) → Option D → ℕ → Type 0
IsDoneIf P None status = status ≡ NO_MACHINE
IsDoneIf P (Some d) status = ((status ≡ OK) ↔ P d) × ((status ≡ OK) ⊎ (status ≡ OUT_OF_RANGE))

-- what the handle holds afterwards: if the status is OK what the call makes of it, else it is as it was
abbrev pub IsNext : {D : Type 0} → ℕ → (D → D) → Option D → Option D → Type 0
IsNext status f old new = (status ≡ OK → new ≡ option_map f old) × ((status ≡ OK → ⊥) → new ≡ old)

-- what a call fills: if the status is OK with this of what the handle holds, else it is as it was
abbrev pub IsFilled : {A D : Type 0} → ℕ → (D → A) → Option D → A → A → Type 0
IsFilled status f held old new = (status ≡ OK → IfSome held (λ d. new ≡ f d)) × ((status ≡ OK → ⊥) → new ≡ old)
