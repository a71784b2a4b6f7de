-- Laws of `each_lane`.
use Rattle.std.proofs.Common.{◌≡◌, ℕ, ◌<◌, List, [], ◌∷◌, length, get_or, map, replicate, refl, ap, ◌∙◌, arith, zero, suc, Bool, cond}
use Rattle.std.specs.Simd.Lanes.{zip2, sel_l, Each1}
use Rattle.rsp_lanes.specs.Lanes.{each_lane}

-- what holds of each list of eight
pub eight : {X : Type 0} (P : List X → Type 0) → ((a b c d e f g h : X) → P (a ∷ b ∷ c ∷ d ∷ e ∷ f ∷ g ∷ h ∷ [])) → (xs : List X) → length xs ≡ 8 → P xs
eight P p [] n = absurd (omega arith)
eight P p (a ∷ []) n = absurd (omega arith)
eight P p (a ∷ b ∷ []) n = absurd (omega arith)
eight P p (a ∷ b ∷ c ∷ []) n = absurd (omega arith)
eight P p (a ∷ b ∷ c ∷ d ∷ []) n = absurd (omega arith)
eight P p (a ∷ b ∷ c ∷ d ∷ e ∷ []) n = absurd (omega arith)
eight P p (a ∷ b ∷ c ∷ d ∷ e ∷ f ∷ []) n = absurd (omega arith)
eight P p (a ∷ b ∷ c ∷ d ∷ e ∷ f ∷ g ∷ []) n = absurd (omega arith)
eight P p (a ∷ b ∷ c ∷ d ∷ e ∷ f ∷ g ∷ h ∷ []) n = p a b c d e f g h
eight P p (a ∷ b ∷ c ∷ d ∷ e ∷ f ∷ g ∷ h ∷ i ∷ xs) n = absurd (omega arith)

-- what holds of each number below eight
pub below_eight : (P : ℕ → Type 0) → P 0 → P 1 → P 2 → P 3 → P 4 → P 5 → P 6 → P 7 → (i : ℕ) → i < 8 → P i
below_eight P a b c d e f g h zero n = a
below_eight P a b c d e f g h (suc zero) n = b
below_eight P a b c d e f g h (suc (suc zero)) n = c
below_eight P a b c d e f g h (suc (suc (suc zero))) n = d
below_eight P a b c d e f g h (suc (suc (suc (suc zero)))) n = e
below_eight P a b c d e f g h (suc (suc (suc (suc (suc zero))))) n = f
below_eight P a b c d e f g h (suc (suc (suc (suc (suc (suc zero)))))) n = g
below_eight P a b c d e f g h (suc (suc (suc (suc (suc (suc (suc zero))))))) n = h
below_eight P a b c d e f g h (suc (suc (suc (suc (suc (suc (suc (suc i)))))))) n = absurd (omega arith)

-- a list of eight by its members
pub eta : {X : Type 0} (d : X) (xs : List X) → length xs ≡ 8 → xs ≡ each_lane (λ i. get_or xs i d)
unfolding each_lane
eta d = eight (λ xs. xs ≡ each_lane (λ i. get_or xs i d)) (λ a b c d e f g h. refl)

-- a member of what was made lane by lane
pub lane_of : {X : Type 0} (d : X) (f : ℕ → X) (xs : List X) → xs ≡ each_lane f → (i : ℕ) → i < 8 → get_or xs i d ≡ f i
unfolding each_lane
lane_of d f xs e = below_eight (λ i. get_or xs i d ≡ f i) (rw e refl) (rw e refl) (rw e refl) (rw e refl) (rw e refl) (rw e refl) (rw e refl) (rw e refl)

pub length_each : {X : Type 0} (f : ℕ → X) → length (each_lane f) ≡ 8
unfolding each_lane
length_each f = refl

pub length_of : {X : Type 0} (f : ℕ → X) (xs : List X) → xs ≡ each_lane f → length xs ≡ 8
length_of f xs e = ap length e ∙ length_each f

-- two functions that agree below eight
pub each_same : {X : Type 0} (f g : ℕ → X) → ((i : ℕ) → i < 8 → f i ≡ g i) → each_lane f ≡ each_lane g
unfolding each_lane
each_same f g e = rw (e 0 (omega arith), e 1 (omega arith), e 2 (omega arith), e 3 (omega arith), e 4 (omega arith), e 5 (omega arith), e 6 (omega arith), e 7 (omega arith)) refl

-- an operation on two vectors, on one, a splat and a selection
pub zip2_each : {X Y Z : Type 0} (f : X → Y → Z) (c : X) (d : Y) (xs : List X) (ys : List Y) → length xs ≡ 8 → length ys ≡ 8 → zip2 f xs ys ≡ each_lane (λ i. f (get_or xs i c) (get_or ys i d))
unfolding each_lane
zip2_each f c d xs ys m n = eight (λ xs. zip2 f xs ys ≡ each_lane (λ i. f (get_or xs i c) (get_or ys i d)))
    (λ p q r s t u v w. eight (λ ys. zip2 f (p ∷ q ∷ r ∷ s ∷ t ∷ u ∷ v ∷ w ∷ []) ys ≡ each_lane (λ i. f (get_or (p ∷ q ∷ r ∷ s ∷ t ∷ u ∷ v ∷ w ∷ []) i c) (get_or ys i d))) (λ p q r s t u v w. refl) ys n) xs m

pub map_each : {X Y : Type 0} (f : X → Y) (d : X) (xs : List X) → length xs ≡ 8 → map f xs ≡ each_lane (λ i. f (get_or xs i d))
unfolding each_lane
map_each f d = eight (λ xs. map f xs ≡ each_lane (λ i. f (get_or xs i d))) (λ p q r s t u v w. refl)

pub map_of_each : {X Y : Type 0} (f : X → Y) (g : ℕ → X) → map f (each_lane g) ≡ each_lane (λ i. f (g i))
unfolding each_lane
map_of_each f g = refl

pub zip2_of_each : {X Y Z : Type 0} (f : X → Y → Z) (g : ℕ → X) (h : ℕ → Y) → zip2 f (each_lane g) (each_lane h) ≡ each_lane (λ i. f (g i) (h i))
unfolding each_lane
zip2_of_each f g h = refl

pub sel_of_each : {X : Type 0} (m : ℕ → Bool) (g h : ℕ → X) → sel_l (each_lane m) (each_lane g) (each_lane h) ≡ each_lane (λ i. cond (m i) (g i) (h i))
unfolding each_lane
sel_of_each m g h = refl

pub replicate_each : {X : Type 0} (a : X) → replicate 8 a ≡ each_lane (λ _. a)
unfolding each_lane
replicate_each a = refl

-- a fact of each lane
pub each1_of : {X : Type 0} (P : X → Type 0) (f : ℕ → X) (xs : List X) → xs ≡ each_lane f → ((i : ℕ) → i < 8 → P (f i)) → Each1 P xs
unfolding each_lane
each1_of P f xs e p = rw e (p 0 (omega arith), (p 1 (omega arith), (p 2 (omega arith), (p 3 (omega arith), (p 4 (omega arith), (p 5 (omega arith), (p 6 (omega arith), (p 7 (omega arith), tt))))))))

-- a cast that loses nothing
pub cast_each : (f : ℕ → ℕ) (xs : List ℕ) → xs ≡ each_lane f → map (λ x. x) xs ≡ each_lane f
cast_each f xs e = ap (map (λ x. x)) e ∙ map_of_each (λ x. x) f
