-- Writing back what was in a list before gives the list back, for lists of any members.
use Rattle.std.proofs.Common.{◌≡◌, ◌≢◌, ℕ, inl, inr, List, [], ◌∷◌, length, sym, ◌∙◌, arith, get_or, set, get_or-set_same, get_or-set_other}
use Rattle.std.proofs.lemmas.List.{ext_get_or, length-set}
use Rattle.std.proofs.Math.ListN.{get_or-eq_default}
use Rattle.std.proofs.lemmas.Bool.{cases_lt}
use Rattle.rsp_memory.proofs.PutBack.{IsElsewhere}

module _ {A : Type 0} (d : A) where
  abbrev pub put_back : List A → List ℕ → List A → List A
  put_back m [] n = n
  put_back m (p ∷ ps) n = put_back m ps (set n p (get_or m p d))

  same_here : (m n : List A) (p : ℕ) → length n ≡ length m → get_or (set n p (get_or m p d)) p d ≡ get_or m p d
  same_here m n p e = elim (cases_lt p (length n)) [
    | inl h ↦ get_or-set_same n p (get_or m p d) d h
    | inr h ↦ get_or-eq_default (set n p (get_or m p d)) d (omega (arith, length-set n p (get_or m p d))) ∙ sym (get_or-eq_default m d (omega arith))
  ]

  same_there : (m n : List A) (p q : ℕ) (ps : List ℕ) → length n ≡ length m
      → ((r : ℕ) → IsElsewhere r (p ∷ ps) → get_or n r d ≡ get_or m r d)
      → IsElsewhere q ps → get_or (set n p (get_or m p d)) q d ≡ get_or m q d
  same_there m n p q ps e h there = grind (arith, same_here m n p e, get_or-set_other n p q (get_or m p d) d, λ (ne : q ≢ p). h q (ne, there))

  -- a list that differs from m in these places alone becomes m
  pub back_is : (m : List A) (ps : List ℕ) (n : List A) → length n ≡ length m
      → ((r : ℕ) → IsElsewhere r ps → get_or n r d ≡ get_or m r d) → put_back m ps n ≡ m
  back_is m [] n e h = ext_get_or d n m e (λ i lt. h i tt)
  back_is m (p ∷ ps) n e h =
      back_is m ps (set n p (get_or m p d)) (length-set n p (get_or m p d) ∙ e) (λ q there. same_there m n p q ps e h there)
