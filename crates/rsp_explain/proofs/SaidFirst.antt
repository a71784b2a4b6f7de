-- What is said of the faults of a text, and that it begins with the first.
use Rattle.std.proofs.Common.{◌≡◌, refl, sym, ap, ◌∙◌, subst, ℕ, zero, suc, ◌+◌, ◌-◌, ◌<◌, List, [], ◌∷◌, ◌++◌, length, take, append_assoc, get_or, arith, inl, inr}
use Rattle.std.specs.Prelude.{slice_get, Result, Ok, Err}
use Rattle.std.specs.Str.Lines.{lines}
use Rattle.std.proofs.lemmas.List.{append-nil}
use Rattle.rsp_syntax.specs.declared.fault.AsmFault.{AsmFault}
use Rattle.rsp_syntax.specs.declared.fault.AsmFaultKind.TheVariants.{OutOfMemory}
use Rattle.rsp_syntax.specs.SourceText.{fault_before, meaning_of_text}
use Rattle.rsp_asm.specs.AssembleFaults.{IsFault}
use Rattle.rsp_asm.specs.TextFaults.{all_faults}
use Rattle.rsp_asm.proofs.FaultWalk.{first_fault_ends}
use Rattle.rsp_asm.proofs.Passes.{fault_means}
use Rattle.rsp_explain.specs.declared.head.Head.{Head}
use Rattle.rsp_explain.specs.Said.{BeginsWith, IsExplained, AreSaid, AreExplained, count_said, fault_in, or_else, text_faults, heading, fault_said}

-- ---- one fault after another

pub said_more : (head : Head) (before : ℕ) (faults : List AsmFault) (fault : AsmFault) (said reason : List ℕ) → AreSaid head before faults said → AreSaid head before (faults ++ fault ∷ []) (said ++ fault_said head before fault reason)
said_more head before [] fault said reason e = (reason, [], ap (λ xs. xs ++ fault_said head before fault reason) e ∙ sym (append-nil (fault_said head before fault reason)), refl)
said_more head before (f ∷ fs) fault said reason s =
    (s.0, s.1 ++ fault_said head before fault reason, ap (λ xs. xs ++ fault_said head before fault reason) s.2 ∙ append_assoc (fault_said head before f s.0) s.1 (fault_said head before fault reason), said_more head before fs fault s.1 reason s.3)

take_next : (faults : List AsmFault) (i : ℕ) (d : AsmFault) → i < length faults → take (suc i) faults ≡ take i faults ++ get_or faults i d ∷ []
take_next [] i d h = absurd (omega (arith, h))
take_next (f ∷ fs) zero d h = refl
take_next (f ∷ fs) (suc i) d h = let rest = take_next fs i d (omega (arith, h)) in ap (λ xs. f ∷ xs) rest

-- after the fault of an index
pub said_next : (head : Head) (before : ℕ) (faults : List AsmFault) (i : ℕ) (d : AsmFault) (said new reason : List ℕ) → i < length faults → AreSaid head before (take i faults) said
    → new ≡ said ++ fault_said head before (get_or faults i d) reason → AreSaid head before (take (i + 1) faults) new
said_next head before faults i d said new reason h s e =
    let next : suc i ≡ i + 1 = omega arith in
    subst (AreSaid head before (take (i + 1) faults)) (sym e)
    (subst (λ n. AreSaid head before (take n faults) (said ++ fault_said head before (get_or faults i d) reason)) next
    (subst (λ fs. AreSaid head before fs (said ++ fault_said head before (get_or faults i d) reason)) (sym (take_next faults i d h)) (said_more head before (take i faults) (get_or faults i d) said reason s)))

-- ---- the faults of a text

pub said_all : (head : Head) (before origin : ℕ) (text first said : List ℕ) (faults : List AsmFault) (count more : ℕ)
    → faults ≡ take 20 (all_faults origin (lines text)) → count ≡ length (all_faults origin (lines text)) → ¬ (count ≡ 0) → more ≡ count - 20
    → AreSaid head before faults first → said ≡ first ++ count_said more → AreExplained head before (text_faults text origin) said
said_all head before origin text first said faults count more faults_are count_is some more_is s e = go (all_faults origin (lines text)) faults_are count_is
  where
    go : (all : List AsmFault) → faults ≡ take 20 all → count ≡ length all → AreExplained head before (or_else all (fault_in (meaning_of_text text origin))) said
    go [] f c = absurd (some c)
    go (x ∷ xs) f c = (first, subst (λ fs. AreSaid head before fs first) f s, e ∙ ap (λ n. first ++ count_said n) (more_is ∙ ap (λ n. n - 20) c))

pub said_none : (head : Head) (before origin : ℕ) (text said : List ℕ) (count : ℕ) → count ≡ length (all_faults origin (lines text)) → count ≡ 0
    → AreExplained head before (fault_in (meaning_of_text text origin)) said → AreExplained head before (text_faults text origin) said
said_none head before origin text said count count_is none s = go (all_faults origin (lines text)) (sym count_is ∙ none)
  where
    go : (all : List AsmFault) → length all ≡ 0 → AreExplained head before (or_else all (fault_in (meaning_of_text text origin))) said
    go [] e = s
    go (x ∷ xs) e = absurd (omega (arith, e))

-- without a fault of the first pass
pub said_second : (head : Head) (before origin : ℕ) (text said new reason : List ℕ) (f : AsmFault)
    → IsFault origin text f → ¬ (f.kind ≡ OutOfMemory) → said ≡ [] → new ≡ said ++ fault_said head before f reason
    → AreExplained head before (fault_in (meaning_of_text text origin)) new
said_second head before origin text said new reason f (inl means) other empty e =
    rw means (new, (reason, [], e ∙ ap (λ xs. xs ++ fault_said head before f reason) empty ∙ sym (append-nil (fault_said head before f reason)), refl), sym (append-nil new))
said_second head before origin text said new reason f (inr short) other empty e = absurd (other short.kind)

-- ---- the first fault

begins : (head : Head) (before : ℕ) (fault : AsmFault) (faults : List AsmFault) (said : List ℕ) → AreExplained head before (fault ∷ faults) said → BeginsWith (heading head before fault) said
begins head before fault faults said s =
    let reason = s.1.0 in let others = s.1.1 in let more = count_said (length (fault ∷ faults) - 20) in (
      (reason ++ 10 ∷ []) ++ (others ++ more),
      s.2 ∙ ap (λ xs. xs ++ more) s.1.2 ∙ append_assoc (fault_said head before fault reason) others more ∙ append_assoc (heading head before fault) (reason ++ 10 ∷ []) (others ++ more),
    )

pub first_said : (head : Head) (before origin : ℕ) (text said : List ℕ) → AreExplained head before (text_faults text origin) said → IsExplained head before (meaning_of_text text origin) said
first_said head before origin text said = go (all_faults origin (lines text)) (first_fault_ends origin (lines text))
  where
    second : (meaning : Result (List ℕ) AsmFault) → AreExplained head before (fault_in meaning) said → IsExplained head before meaning said
    second (Ok words) s = s.2 ∙ ap (λ xs. xs ++ []) s.1
    second (Err fault) s = begins head before fault [] said s

    go : (faults : List AsmFault) → slice_get faults 0 ≡ fault_before origin (lines text) (length (lines text))
        → AreExplained head before (or_else faults (fault_in (meaning_of_text text origin))) said → IsExplained head before (meaning_of_text text origin) said
    go [] first s = second (meaning_of_text text origin) s
    go (fault ∷ faults) first s = rw (fault_means origin (lines text) fault (sym first)) (begins head before fault faults said s)
