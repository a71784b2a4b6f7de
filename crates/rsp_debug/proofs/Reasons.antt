-- Which reason holds, by what a step answers.
use Rattle.std.proofs.Common.{◌≡◌, ℕ, ◌+◌, ◌-◌, ◌<◌, List, [], ◌∷◌, refl, ap, sym, ◌∙◌, arith, Bool, true, false, cond, Option, Some, None, add-one}
use Rattle.std.specs.Prelude.{is_none, nat_lt, nat_eq, ◌==◌, option_map, ◌&&◌, not}
use Rattle.std.proofs.lemmas.Grind.{common_steps}
use Rattle.rsp_memory.specs.Memory.{word_at}
use Rattle.rsp_debug.proofs.WatchChanges.{differs-since}
use Rattle.rsp_decode.specs.declared.inst.Inst.{Inst}
use Rattle.rsp_decode.specs.Table.{inst_of}
use Rattle.rsp_machine.specs.State.{State}
use Rattle.rsp_machine.specs.Step.{step_of, step_by}
use Rattle.rsp_machine.specs.Laws.{steps_of, done_steps}
use Rattle.rsp_machine.specs.declared.step.StepEnd.{StepEnd}
use Rattle.rsp_machine.specs.declared.step.StepEnd.TheVariants as end
use Rattle.rsp_debug.specs.Stops.{changed_watch, is_break, is_reserved, when, first_of, reason_at}
use Rattle.rsp_debug.specs.Runs.{step_refusal, hit_in}
use Rattle.rsp_debug.specs.Snapshots.{differs, watches_of}
use Rattle.rsp_debug.specs.declared.snapshot.Snapshot.{Snapshot}
use Rattle.rsp_debug.specs.declared.stop.Watch.{Watch}
use Rattle.rsp_debug.specs.declared.stop.Reason.{Reason}
use Rattle.rsp_debug.specs.declared.stop.Reason.TheVariants.{Reserved, Halted, Watched, Break, Limit}

-- why a machine can't make a step, by what the step returns
abbrev refusal_of : StepEnd → Option Reason
refusal_of end.Done = None
refusal_of end.Halted = Some Halted
refusal_of (end.Reserved w) = Some Reserved

-- the watch or the breakpoint that k steps have come to
abbrev pub hit_of : List Bool → List (Option Watch) → ℕ → State → State → Option Reason
hit_of breaks watches k before s = first_of (
    cond (nat_lt 0 k) (option_map Watched (changed_watch watches before.dmem s.dmem)) None
    ∷ when (nat_lt 0 k && is_break breaks s.pc) Break
    ∷ [])

refusal_by : (halted : Bool) (i : Option Inst) (w : ℕ) (s : State)
    → first_of (when (not halted && is_none i) Reserved ∷ when halted Halted ∷ []) ≡ refusal_of (cond halted (end.Halted, s) (step_by i w s)).0
refusal_by true None w s = refl
refusal_by true (Some i) w s = refl
refusal_by false None w s = refl
refusal_by false (Some i) w s = refl

refusal-is : (s : State) → step_refusal s ≡ refusal_of (step_of s).0
unfolding step_of
refusal-is s = refusal_by s.sp.halted (inst_of (word_at s.imem s.pc)) (word_at s.imem s.pc) s

pub step-done : (s : State) → (step_of s).0 ≡ end.Done → step_refusal s ≡ None
step-done s e = refusal-is s ∙ ap refusal_of e

goes_by : (e : StepEnd) → refusal_of e ≡ None → e ≡ end.Done
goes_by end.Done h = refl
goes_by end.Halted h = cc
goes_by (end.Reserved w) h = cc

pub goes-on : (s : State) → step_refusal s ≡ None → (step_of s).0 ≡ end.Done
goes-on s free = goes_by (step_of s).0 (sym (refusal-is s) ∙ free)

-- a step that isn't Done is refused, and leaves the machine
pub stuck : (s : State) → done_steps (step_of s).0 ≡ 0 → step_refusal s ≡ None → ⊥
stuck s none free = omega (arith, none, ap done_steps (goes-on s free))

still_by : (halted : Bool) (i : Option Inst) (w : ℕ) (s : State) → done_steps (cond halted (end.Halted, s) (step_by i w s)).0 ≡ 0
    → (cond halted (end.Halted, s) (step_by i w s)).1 ≡ s
still_by true i w s none = refl
still_by false None w s none = refl
still_by false (Some i) w s none = absurd (omega (arith, none))

pub step-still : (s : State) → done_steps (step_of s).0 ≡ 0 → (step_of s).1 ≡ s
unfolding step_of
step-still s none = still_by s.sp.halted (inst_of (word_at s.imem s.pc)) (word_at s.imem s.pc) s none

-- the five reasons: why no step can be made, then what the last step has come to, then the limit
grouped : (a b c d e : Option Reason) → first_of (a ∷ b ∷ c ∷ d ∷ e ∷ []) ≡ first_of (first_of (a ∷ b ∷ []) ∷ first_of (c ∷ d ∷ []) ∷ e ∷ [])
grouped (Some r) b c d e = refl
grouped None (Some r) c d e = refl
grouped None None (Some r) d e = refl
grouped None None None (Some r) e = refl
grouped None None None None e = refl

reason-is : (b : List Bool) (w : List (Option Watch)) (n : ℕ) (s : State) (k : ℕ)
    → reason_at b w n s k ≡ first_of (step_refusal (steps_of k s) ∷ hit_of b w k (steps_of (k - 1) s) (steps_of k s) ∷ when (k == n) Limit ∷ [])
unfolding reason_at
reason-is b w n s k =
    let before = steps_of (k - 1) s in let t = steps_of k s in
    grouped (when (is_reserved t) Reserved) (when t.sp.halted Halted) (cond (nat_lt 0 k) (option_map Watched (changed_watch w before.dmem t.dmem)) None)
    (when (nat_lt 0 k && is_break b t.pc) Break) (when (k == n) Limit)

pub reason-by : (b : List Bool) (w : List (Option Watch)) (n : ℕ) (s t : State) (k : ℕ) (refusal hit : Option Reason)
    → t ≡ steps_of k s → step_refusal t ≡ refusal → hit_of b w k (steps_of (k - 1) s) (steps_of k s) ≡ hit → reason_at b w n s k ≡ first_of (refusal ∷ hit ∷ when (k == n) Limit ∷ [])
reason-by b w n s t k refusal hit same e f =
    reason-is b w n s k
    ∙ ap (λ o. first_of (o ∷ hit_of b w k (steps_of (k - 1) s) (steps_of k s) ∷ when (k == n) Limit ∷ [])) (ap step_refusal (sym same) ∙ e)
    ∙ ap (λ o. first_of (refusal ∷ o ∷ when (k == n) Limit ∷ [])) f

first_none : (a b c : Option Reason) → first_of (a ∷ b ∷ c ∷ []) ≡ None → a ≡ None
first_none None b c e = refl
first_none (Some r) b c e = cc

pub reason-goes : (b : List Bool) (w : List (Option Watch)) (n : ℕ) (s : State) (k : ℕ) → reason_at b w n s k ≡ None → step_refusal (steps_of k s) ≡ None
reason-goes b w n s k e = first_none _ (hit_of b w k (steps_of (k - 1) s) (steps_of k s)) (when (k == n) Limit) (sym (reason-is b w n s k) ∙ e)

pub limit-not : (k n : ℕ) → k < n → first_of (when (k == n) Limit ∷ []) ≡ None
limit-not k n h = let f : nat_eq k n ≡ false = grind (arith, common_steps) in rw f refl

pub limit-is : (k n : ℕ) → k ≡ n → first_of (when (k == n) Limit ∷ []) ≡ Some Limit
limit-is k n h = let f : nat_eq k n ≡ true = grind (arith, common_steps) in rw f refl

-- one more step
pub steps-none : (s : State) → steps_of 0 s ≡ s
unfolding steps_of
steps-none s = refl

pub steps-more : (k : ℕ) (s : State) → steps_of (k + 1) s ≡ (step_of (steps_of k s)).1
unfolding steps_of
steps-more k s = rw add-one refl

-- the watch or the breakpoint, by the watch that changed
abbrev hit_by : List Bool → Option ℕ → State → Option Reason
hit_by b o s = first_of (option_map Watched o ∷ when (is_break b s.pc) Break ∷ [])

hit_later : (b : List Bool) (o : Option ℕ) (positive : Bool) (s : State) → positive ≡ true
    → first_of (cond positive (option_map Watched o) None ∷ when (positive && is_break b s.pc) Break ∷ []) ≡ hit_by b o s
hit_later b o true s e = refl
hit_later b o false s e = cc

pub next-hit : (b : List Bool) (snapshots : List (Option Snapshot)) (s m t : State) (k : ℕ)
    → m ≡ steps_of k s → t ≡ steps_of (k + 1) s → differs snapshots m.dmem ≡ None
    → hit_of b (watches_of snapshots) (k + 1) (steps_of (k + 1 - 1) s) (steps_of (k + 1) s) ≡ hit_in b snapshots t
next-hit b snapshots s m t k here there same =
    let positive : nat_lt 0 (k + 1) ≡ true = grind (arith, common_steps) in
    let before : k + 1 - 1 ≡ k = omega arith in
    let back : steps_of (k + 1 - 1) s ≡ m = ap (λ i. steps_of i s) before ∙ sym here in
    let w = watches_of snapshots in
    hit_later b (changed_watch w (steps_of (k + 1 - 1) s).dmem (steps_of (k + 1) s).dmem) (nat_lt 0 (k + 1)) (steps_of (k + 1) s) positive
    ∙ ap (λ (x : State). hit_by b (changed_watch w (steps_of (k + 1 - 1) s).dmem x.dmem) x) (sym there)
    ∙ ap (λ (x : State). hit_by b (changed_watch w x.dmem t.dmem) t) back
    ∙ ap (λ o. hit_by b o t) (sym (differs-since snapshots m.dmem t.dmem same))

hit_nothing : (o : Option ℕ) (d : Option Reason) → first_of (option_map Watched o ∷ d ∷ []) ≡ None → o ≡ None
hit_nothing None d e = refl
hit_nothing (Some k) d e = cc

pub nothing-differs : (b : List Bool) (snapshots : List (Option Snapshot)) (t : State) → hit_in b snapshots t ≡ None → differs snapshots t.dmem ≡ None
nothing-differs b snapshots t e = hit_nothing (differs snapshots t.dmem) (when (is_break b t.pc) Break) e
