-- How far a writer came, piece by piece.
use Rattle.std.proofs.Common.{◌≡◌, ℕ, List, [], ◌++◌, ◌-◌, Option, length, refl, sym, ◌∙◌, ap, take, drop, append_assoc, subst, Result, Ok, Err, OnErr}
use Rattle.std.proofs.lemmas.List.{take-append-drop, take_rest}
use Rattle.std.proofs.KnownBytes.{Appends-nil, Appends-trans}
use Rattle.std.specs.Io.KnownBytes.{Appends}
use Rattle.rsp_script_io.specs.EarlyEnd.{WritesPrefix}

-- of these bytes all but a rest were written after the old ones
pub record Leaves (old new : Option (List ℕ)) (bytes rest : List ℕ) : Type 0 where
  pub prefix : List ℕ
  pub grows : Appends old new prefix
  pub whole : prefix ++ rest ≡ bytes

-- a piece more is written
pub leaves-less : {old now new : Option (List ℕ)} {bytes rest : List ℕ} (piece more : List ℕ)
    → Leaves old now bytes rest → Appends now new piece → piece ++ more ≡ rest → Leaves old new bytes more
leaves-less {old = old} {now = now} {new = new} piece more h e w = record {
  prefix = h.prefix ++ piece;
  grows = Appends-trans old now new h.prefix piece h.grows e;
  whole = append_assoc h.prefix piece more ∙ ap (λ t. h.prefix ++ t) w ∙ h.whole;
}

pub taken-whole : (n : ℕ) (bs : List ℕ) → take n bs ++ take (length bs - n) (drop n bs) ≡ bs
taken-whole n bs = rw (take_rest bs n) (take-append-drop n bs)

pub prefix-none : (old : Option (List ℕ)) (bytes : List ℕ) → WritesPrefix old old bytes
prefix-none old bytes = record { prefix = []; others = bytes; grows = Appends-nil old; whole = refl }

-- a front of what comes first
pub prefix-first : {old new : Option (List ℕ)} {bytes : List ℕ} (more : List ℕ) → WritesPrefix old new bytes → WritesPrefix old new (bytes ++ more)
prefix-first more f = record {
  prefix = f.prefix;
  others = f.others ++ more;
  grows = f.grows;
  whole = sym (append_assoc f.prefix f.others more) ∙ ap (λ t. t ++ more) f.whole;
}

-- what comes first, and then a front of the others
pub prefix-then : {old now new : Option (List ℕ)} {more : List ℕ} (bytes : List ℕ) → Appends old now bytes → WritesPrefix now new more
    → WritesPrefix old new (bytes ++ more)
prefix-then {old = old} {now = now} {new = new} bytes e f = record {
  prefix = bytes ++ f.prefix;
  others = f.others;
  grows = Appends-trans old now new bytes f.prefix e f.grows;
  whole = append_assoc bytes f.prefix f.others ∙ ap (λ t. bytes ++ t) f.whole;
}

pub prefix-along : {old new : Option (List ℕ)} {bytes same : List ℕ} → bytes ≡ same → WritesPrefix old new bytes → WritesPrefix old new same
prefix-along {old = old} {new = new} e f = subst (λ b. WritesPrefix old new b) e f

pub on_err : {T E : Type 0} (r : Result T E) (P : Type 0) → P → OnErr r P
on_err (Ok x) P h = tt
on_err (Err e) P h = h
