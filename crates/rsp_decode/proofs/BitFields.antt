-- Fields put into a word are read back.
use Rattle.std.proofs.Common.{◌≡◌, refl, sym, ap, ◌∙◌, ℕ, ◌+◌, ◌-◌, ◌*◌, ◌/◌, ◌%◌, ◌^◌, ◌<◌, ◌≤◌, min, List, [], ◌∷◌, Bool, true, ◌&&◌, bit_and, bit_or, arith, pow_pos}
use Rattle.std.specs.Prelude.{◌==◌, map}
use Rattle.std.specs.List.{list_all}
use Rattle.std.proofs.lemmas.Nat.{and_assoc, and_comm, or_comm, and_or_apart, mod_below, shl-shr}
use Rattle.std.proofs.lemmas.Nat.Bits.{and_high}
use Rattle.std.specs.Int.Bits.{and_zero_r}
use Rattle.std.proofs.Math.Nat.{mod-eq_of_lt}
use Rattle.std.proofs.lemmas.Bool.{eqb-true, and_parts}
use Rattle.rsp_decode.specs.Table.{BitField, whole, capped, stepped, value_at, at_bit_field, FitsBitField, FitBitFields, with_fields}

-- the bits of a place
abbrev pub mask_of : BitField → ℕ
mask_of (whole low width) = 2 ^ (width + low) - 2 ^ low
mask_of (capped low width most) = 2 ^ (width + low) - 2 ^ low
mask_of (stepped low width shift) = 2 ^ (width + low) - 2 ^ low

-- no place has a bit of the mask
abbrev pub apart_from : ℕ → List BitField → Bool
apart_from m ps = list_all (λ p. bit_and m (mask_of p) == 0) ps

abbrev pub all_apart : List BitField → Bool
all_apart [] = true
all_apart (p ∷ ps) = apart_from (mask_of p) ps && all_apart ps

-- a field shifted to its place is within the bits of the place
within : (v low width : ℕ) → v < 2 ^ width → bit_and (v * 2 ^ low) (2 ^ (width + low) - 2 ^ low) ≡ v * 2 ^ low
within v low width fits =
    and_high (v * 2 ^ low) width low ∙ ap (λ n. n % 2 ^ width * 2 ^ low) (shl-shr v low) ∙ ap (λ n. n * 2 ^ low) (mod-eq_of_lt fits)

pub within_place : (p : BitField) (v : ℕ) → FitsBitField p v → bit_and (at_bit_field p v) (mask_of p) ≡ at_bit_field p v
within_place (whole low width) v f = within v low width f
within_place (capped low width most) v f = within v low width f.0
within_place (stepped low width shift) v f = within (v / 2 ^ shift) low width f.0

cancel : (a b k : ℕ) → a * 2 ^ k ≡ b * 2 ^ k → a ≡ b
cancel a b k e = sym (shl-shr a k) ∙ ap (λ n. n / 2 ^ k) e ∙ shl-shr b k

pub read_back : (w : ℕ) (p : BitField) (v : ℕ) → FitsBitField p v → bit_and w (mask_of p) ≡ at_bit_field p v → value_at w p ≡ v
read_back w (whole low width) v f e = cancel _ _ low (sym (and_high w width low) ∙ e)
read_back w (capped low width most) v f e =
    let same : w / 2 ^ low % 2 ^ width ≡ v = cancel _ _ low (sym (and_high w width low) ∙ e) in
    let small : v ≤ most = f.1 in
    ap (min most) same ∙ omega arith
read_back w (stepped low width shift) v f e =
    ap (λ n. n * 2 ^ shift) (cancel _ _ low (sym (and_high w width low) ∙ e)) ∙ f.1

-- what a mask apart from a place has of a value there
nothing_there : (p : BitField) (v m : ℕ) → FitsBitField p v → bit_and (mask_of p) m ≡ 0 → bit_and (at_bit_field p v) m ≡ 0
nothing_there p v m f e =
    ap (λ n. bit_and n m) (sym (within_place p v f)) ∙ and_assoc m (at_bit_field p v) (mask_of p) ∙ ap (bit_and (at_bit_field p v)) e ∙ and_zero_r (at_bit_field p v)

-- under a mask that no place has a bit of, nothing changes
pub under_others : (ps : List BitField) (vs : List ℕ) (w m : ℕ) → FitBitFields ps vs → apart_from m ps ≡ true → bit_and (with_fields w ps vs) m ≡ bit_and w m
under_others [] vs w m f e = refl
under_others (p ∷ ps) [] w m f e = refl
under_others (p ∷ ps) (v ∷ vs) w m f e =
    let both = and_parts _ _ e in
    under_others ps vs (bit_or w (at_bit_field p v)) m f.1 both.1
    ∙ and_or_apart m w (at_bit_field p v) (nothing_there p v m f.0 (and_comm (mask_of p) m ∙ eqb-true _ _ both.0))

-- a word without any bit of the places
abbrev pub Clear : ℕ → List BitField → Type 0
Clear w [] = Unit {0}
Clear w (p ∷ ps) = (bit_and w (mask_of p) ≡ 0) × Clear w ps

still_clear : (w : ℕ) (q : BitField) (v : ℕ) (ps : List BitField) → FitsBitField q v → apart_from (mask_of q) ps ≡ true → Clear w ps → Clear (bit_or w (at_bit_field q v)) ps
still_clear w q v [] f e c = tt
still_clear w q v (p ∷ ps) f e c =
    let both = and_parts _ _ e in
    (and_or_apart (mask_of p) w (at_bit_field q v) (nothing_there q v (mask_of p) f (eqb-true _ _ both.0)) ∙ c.0, still_clear w q v ps f both.1 c.1)

pub fields_back : (ps : List BitField) (vs : List ℕ) (w : ℕ) → FitBitFields ps vs → all_apart ps ≡ true → Clear w ps → map (value_at (with_fields w ps vs)) ps ≡ vs
fields_back [] [] w f e c = refl
fields_back [] (v ∷ vs) w f e c = absurd f
fields_back (p ∷ ps) [] w f e c = absurd f
fields_back (p ∷ ps) (v ∷ vs) w f e c =
    let both = and_parts _ _ e in
    let next = bit_or w (at_bit_field p v) in
    let here : bit_and (with_fields next ps vs) (mask_of p) ≡ at_bit_field p v =
    under_others ps vs next (mask_of p) f.1 both.0
    ∙ ap (λ n. bit_and n (mask_of p)) (or_comm w (at_bit_field p v))
    ∙ and_or_apart (mask_of p) (at_bit_field p v) w c.0
    ∙ within_place p v f.0 in
    let head : value_at (with_fields next ps vs) p ≡ v = read_back (with_fields next ps vs) p v f.0 here in
    let tail : map (value_at (with_fields next ps vs)) ps ≡ vs = fields_back ps vs next f.1 both.1 (still_clear w p v ps f.0 both.0 c.1) in
    ap (λ x. x ∷ map (value_at (with_fields next ps vs)) ps) head ∙ ap (λ xs. v ∷ xs) tail

pub clear_from : (m w : ℕ) (ps : List BitField) → bit_and w m ≡ w → apart_from m ps ≡ true → Clear w ps
clear_from m w [] e a = tt
clear_from m w (p ∷ ps) e a =
    let both = and_parts _ _ a in
    (ap (λ n. bit_and n (mask_of p)) (sym e) ∙ and_assoc (mask_of p) w m ∙ ap (bit_and w) (eqb-true _ _ both.0) ∙ and_zero_r w, clear_from m w ps e both.1)

-- what is read fits
fits_read : (w : ℕ) (p : BitField) → FitsBitField p (value_at w p)
fits_read w (whole low width) = mod_below _ (2 ^ width) (pow_pos width)
fits_read w (capped low width most) =
    let small : w / 2 ^ low % 2 ^ width < 2 ^ width = mod_below _ (2 ^ width) (pow_pos width) in
    (omega arith, omega arith)
fits_read w (stepped low width shift) =
    let same : w / 2 ^ low % 2 ^ width * 2 ^ shift / 2 ^ shift ≡ w / 2 ^ low % 2 ^ width = shl-shr _ shift in
    let small : w / 2 ^ low % 2 ^ width < 2 ^ width = mod_below _ (2 ^ width) (pow_pos width) in
    (omega arith, ap (λ n. n * 2 ^ shift) same)

pub fit_read : (w : ℕ) (ps : List BitField) → FitBitFields ps (map (value_at w) ps)
fit_read w [] = tt
fit_read w (p ∷ ps) = (fits_read w p, fit_read w ps)
