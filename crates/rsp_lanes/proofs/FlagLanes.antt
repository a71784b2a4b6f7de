-- Flags by their lanes.
use Rattle.std.proofs.Common.{◌≡◌, ℕ, ◌<◌, Bool, false, List, length, get_or, refl, ap}
use Rattle.rsp_lanes.proofs.Kit.{eta, lane_of, each_same}
use Rattle.rsp_lanes.specs.declared.flags.Flags.{Flags}
use Rattle.rsp_lanes.specs.Flags.{LaneFlags, flags_at, all_flags}

abbrev five : List Bool → List Bool → List Bool → List Bool → List Bool → Flags
five a b c d e = record { carry = a; differ = b; compare = c; clip = d; extra = e }

same : (a b c d e p q r s t : List Bool) → a ≡ p → b ≡ q → c ≡ r → d ≡ s → e ≡ t → five a b c d e ≡ five p q r s t
same a b c d e p q r s t i j k l m = rw (i, j, k, l, m) refl

-- flags are those of their lanes
pub whole : (f : Flags) → length f.carry ≡ 8 → length f.differ ≡ 8 → length f.compare ≡ 8 → length f.clip ≡ 8 → length f.extra ≡ 8 → f ≡ all_flags (flags_at f)
whole f a b c d e = same _ _ _ _ _ _ _ _ _ _ (eta false f.carry a) (eta false f.differ b) (eta false f.compare c) (eta false f.clip d) (eta false f.extra e)

-- flags with VCO, and with VCC, written
pub whole_vco : (f : Flags) (carry differ : List Bool) → length carry ≡ 8 → length differ ≡ 8 → f ≡ all_flags (flags_at f)
    → (record f { carry = carry; differ = differ }) ≡ all_flags (λ i. record (flags_at f i) { carry = get_or carry i false; differ = get_or differ i false })
whole_vco f x y a b e = same _ _ _ _ _ _ _ _ _ _ (eta false x a) (eta false y b) (ap (λ g. g.compare) e) (ap (λ g. g.clip) e) (ap (λ g. g.extra) e)

pub whole_vcc : (f : Flags) (compare clip : List Bool) → length compare ≡ 8 → length clip ≡ 8 → f ≡ all_flags (flags_at f)
    → (record f { compare = compare; clip = clip }) ≡ all_flags (λ i. record (flags_at f i) { compare = get_or compare i false; clip = get_or clip i false })
whole_vcc f x y a b e = same _ _ _ _ _ _ _ _ _ _ (ap (λ g. g.carry) e) (ap (λ g. g.differ) e) (eta false x a) (eta false y b) (ap (λ g. g.extra) e)

-- two rules that agree below eight
pub all_same : (f g : ℕ → LaneFlags) → ((i : ℕ) → i < 8 → f i ≡ g i) → all_flags f ≡ all_flags g
all_same f g e = same _ _ _ _ _ _ _ _ _ _
    (each_same _ _ (λ i h. ap (λ x. x.carry) (e i h)))
    (each_same _ _ (λ i h. ap (λ x. x.differ) (e i h)))
    (each_same _ _ (λ i h. ap (λ x. x.compare) (e i h)))
    (each_same _ _ (λ i h. ap (λ x. x.clip) (e i h)))
    (each_same _ _ (λ i h. ap (λ x. x.extra) (e i h)))

abbrev lane : Bool → Bool → Bool → Bool → Bool → LaneFlags
lane a b c d e = record { carry = a; differ = b; compare = c; clip = d; extra = e }

lane_same : (a b c d e p q r s t : Bool) → a ≡ p → b ≡ q → c ≡ r → d ≡ s → e ≡ t → lane a b c d e ≡ lane p q r s t
lane_same a b c d e p q r s t i j k l m = rw (i, j, k, l, m) refl

-- a lane of flags that were made lane by lane
pub flags_of : (f : ℕ → LaneFlags) (x : Flags) → x ≡ all_flags f → (i : ℕ) → i < 8 → flags_at x i ≡ f i
flags_of f x e i h = lane_same _ _ _ _ _ _ _ _ _ _
    (lane_of false _ _ (ap (λ y. y.carry) e) i h)
    (lane_of false _ _ (ap (λ y. y.differ) e) i h)
    (lane_of false _ _ (ap (λ y. y.compare) e) i h)
    (lane_of false _ _ (ap (λ y. y.clip) e) i h)
    (lane_of false _ _ (ap (λ y. y.extra) e) i h)

-- a lane's flags with another compare and clip
pub with_vcc : (x y : LaneFlags) (compare clip : Bool) → x ≡ y → (record x { compare = compare; clip = clip }) ≡ record y { compare = compare; clip = clip }
with_vcc x y compare clip e = lane_same _ _ _ _ _ _ _ _ _ _ (ap (λ z. z.carry) e) (ap (λ z. z.differ) e) refl refl (ap (λ z. z.extra) e)
