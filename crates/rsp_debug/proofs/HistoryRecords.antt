-- Records stand for states.
use Rattle.std.proofs.Common.{◌≡◌, ◌⊎◌, ℕ, zero, suc, ◌+◌, ◌-◌, ◌<◌, ◌≤◌, inl, inr, min, Bool, true, false, not, List, [], ◌∷◌, ◌++◌, length, take, drop, refl, sym, ◌∙◌, ap, arith, add-one, Option, Some, None}
use Rattle.std.specs.Prelude.{reverse, slice_get, slice_set, slice_index_or}
use Rattle.std.proofs.lemmas.Option.{none-some, slice_get-get_or, get_or_from_slice_get}
use Rattle.std.proofs.Math.Seq.{drop-cons}
use Rattle.std.proofs.lemmas.List.{drop-drop, drop-set, set-get_or, length-drop, length-take, drop_all, take_more, take_all, take-take, take-set, take-append-drop, reverse-append}
use Rattle.rsp_machine.specs.State.{State}
use Rattle.rsp_machine.specs.Step.{step_of}
use Rattle.rsp_machine.specs.Laws.{steps_of}
use Rattle.rsp_machine.specs.Undo.{Saved, blank, record_at, undone}
use Rattle.rsp_machine.specs.Footprint.{makes_no_dma}
use Rattle.rsp_machine.specs.declared.step.StepEnd.TheVariants.{Done, Halted, Reserved}
use Rattle.rsp_machine.specs.declared.step.StepEnd.{StepEnd}
use Rattle.rsp_machine.specs.Transfers.{starts_dma_at}
use Rattle.rsp_machine.specs.Loop.{AreRecorded}
use Rattle.rsp_debug.specs.History.{history_after_steps, history_by, history_after}
use Rattle.rsp_debug.specs.HistoryRing.{backwards, entries_before, states_before}
use Rattle.std.proofs.lemmas.Bool.{cases_lt}
use Rattle.rsp_machine.proofs.Records.{done-each}
use Rattle.rsp_debug.proofs.Ring.{pushed, length-before}

pub states_before-take : (s : State) (n : ℕ) (rs : List Saved) → states_before s (take n rs) ≡ take n (states_before s rs)
states_before-take s zero rs = refl
states_before-take s (suc n) [] = refl
states_before-take s (suc n) (r ∷ rs) = ap (λ l. undone r s ∷ l) (states_before-take (undone r s) n rs)

pub length-states_before : (s : State) (rs : List Saved) → length (states_before s rs) ≡ length rs
length-states_before s [] = refl
length-states_before s (r ∷ rs) = ap suc (length-states_before (undone r s) rs)

-- the past after steps that started no DMA, by their records
take_once : {X : Type 0} (n : ℕ) (x : X) (l : List X) → take n (x ∷ l) ≡ take n (x ∷ take n l)
take_once zero x l = refl
take_once (suc n) x l = ap (λ r. x ∷ r) (sym (take-take n (suc n) l (omega arith)))

past_plain : (n : ℕ) (s : State) (past : List State) → (step_of s).0 ≡ Done → starts_dma_at s ≡ false → history_after n s past ≡ take n (s ∷ past)
unfolding history_after
past_plain n s past d none = ap (λ b. history_by (step_of s).0 b n s past) none ∙ ap (λ e. history_by e false n s past) d

past_gone : (n : ℕ) (s : State) (past : List State) → (step_of s).0 ≡ Done → starts_dma_at s ≡ true → history_after n s past ≡ []
unfolding history_after
past_gone n s past d dma = ap (λ b. history_by (step_of s).0 b n s past) dma ∙ ap (λ e. history_by e true n s past) d

next_reversed : (ys : List Saved) (k : ℕ) → k < length ys → reverse (take (suc k) ys) ≡ record_at ys k ∷ reverse (take k ys)
next_reversed ys k h = ap (λ i. reverse (take i ys)) (sym (add-one k)) ∙ ap reverse (take_more ys k blank h) ∙ reverse-append (take k ys) (record_at ys k ∷ [])

pub past-made : (k n : ℕ) (s : State) (ys rs : List Saved) → length rs ≤ n → k ≤ length ys → ((i : ℕ) → i < k → (step_of (steps_of i s)).0 ≡ Done)
    → ((i : ℕ) → i < k → starts_dma_at (steps_of i s) ≡ false) → ((i : ℕ) → i < k → undone (record_at ys i) (steps_of (i + 1) s) ≡ steps_of i s)
    → states_before (steps_of k s) (take n (reverse (take k ys) ++ rs)) ≡ history_after_steps k n s (states_before s rs)
unfolding steps_of history_after_steps
past-made zero n s ys rs few inside done none back = ap (states_before s) (take_all n rs few)
past-made (suc k) n s ys rs few inside done none back =
    let t : State = steps_of (suc k) s in let m : State = steps_of k s in let l = reverse (take k ys) ++ rs in let y = record_at ys k in
    let here : undone y t ≡ m = ap (λ i. undone y (steps_of i s)) (sym (add-one k)) ∙ back k (omega arith) in
    ap (λ r. states_before t (take n (r ++ rs))) (next_reversed ys k (omega (arith, inside)))
    ∙ states_before-take t n (y ∷ l)
    ∙ ap (λ (x : State). take n (x ∷ states_before x l)) here
    ∙ take_once n m (states_before m l)
    ∙ ap (λ p. take n (m ∷ p)) (sym (states_before-take m n l))
    ∙ ap (λ p. take n (m ∷ p)) (past-made k n s ys rs few (omega (arith, inside)) (λ i h. done i (omega (arith, h))) (λ i h. none i (omega (arith, h))) (λ i h. back i (omega (arith, h))))
    ∙ sym (past_plain n m (history_after_steps k n s (states_before s rs)) (done k (omega arith)) (none k (omega arith)))

-- and where the last one started a DMA
pub past-cleared : (k n : ℕ) (s : State) (past : List State) → 0 < k → (step_of (steps_of (k - 1) s)).0 ≡ Done → starts_dma_at (steps_of (k - 1) s) ≡ true → [] ≡ history_after_steps k n s past
unfolding history_after_steps
past-cleared zero n s past some done dma = absurd (omega (arith, some))
past-cleared (suc k) n s past some done dma =
    let one : suc k - 1 ≡ k = omega arith in
    sym (past_gone n (steps_of k s) (history_after_steps k n s past) (ap (λ i. (step_of (steps_of i s)).0) (sym one) ∙ done) (ap (λ i. starts_dma_at (steps_of i s)) (sym one) ∙ dma))

-- A stretch has made k steps from s to t. Its records are ys, which were the m entries of xs from a on.
pub record IsStretch (a m k count : ℕ) (s t : State) (xs ys : List Saved) : Type 0 where
  pub room : a + m ≤ length xs
  pub held : count ≤ length xs
  pub recorded : AreRecorded k s t (take m (drop a xs)) ys

dma_is : (b d : Bool) → b ≡ not d → d ≡ not b
dma_is b true e = sym (ap not e)
dma_is b false e = sym (ap not e)

module _ (a m k count more : ℕ) (s t : State) (xs ys zs : List Saved) (h : IsStretch a m k count s t xs ys) where
  entries : length (take m (drop a xs)) ≡ m
  entries = omega (arith, length-take m (drop a xs), length-drop a xs, h.room)

  last_dma : (b : Bool) → 0 < k → b ≡ makes_no_dma (record_at ys (k - 1)).footprint → starts_dma_at (steps_of (k - 1) s) ≡ not b
  last_dma b some e = dma_is b _ (e ∙ h.recorded.which (k - 1) (omega (arith, some)))

  pub stretch-kept : zs ≡ take a xs ++ (ys ++ drop (a + m) xs) → more ≡ min (count + k) (length xs) → (0 < k → true ≡ makes_no_dma (record_at ys (k - 1)).footprint)
      → states_before t (entries_before (a + k) more zs) ≡ history_after_steps k (length xs) s (states_before s (entries_before a count xs))
  stretch-kept written up leads =
      let len : length ys ≡ m = h.recorded.len ∙ entries in
      let few : k ≤ m = omega (arith, h.recorded.within, entries) in
      let within : k ≤ length ys = omega (arith, len, few) in
      let held : length (entries_before a count xs) ≤ length xs = omega (arith, length-before a count xs h.held, h.held) in
      ap (λ (x : State). states_before x (entries_before (a + k) more zs)) h.recorded.made.state
      ∙ ap (λ l. states_before (steps_of k s) (take more (backwards (a + k) l))) written
      ∙ ap (λ i. states_before (steps_of k s) (take i (backwards (a + k) (take a xs ++ (ys ++ drop (a + m) xs))))) up
      ∙ ap (states_before (steps_of k s)) (pushed a m k count xs ys h.room len few h.recorded.rest)
      ∙ past-made k (length xs) s ys (entries_before a count xs) held within (λ i l. done-each k s h.recorded.made.done i l) none (λ i l. h.recorded.back i l (none i l))
    where
      none : (i : ℕ) → i < k → starts_dma_at (steps_of i s) ≡ false
      none i l = elim (cases_lt (i + 1) k) [
        | inl early ↦ h.recorded.before i early
        | inr late ↦
            let last : k - 1 ≡ i = omega (arith, l, late) in
            ap (λ j. starts_dma_at (steps_of j s)) (sym last) ∙ last_dma true (omega (arith, l)) (leads (omega (arith, l)))
      ]

  pub stretch-cleared : more ≡ 0 → 0 < k → false ≡ makes_no_dma (record_at ys (k - 1)).footprint
      → states_before t (entries_before (a + k) more zs) ≡ history_after_steps k (length xs) s (states_before s (entries_before a count xs))
  stretch-cleared zeroed some leads =
      ap (λ i. states_before t (entries_before (a + k) i zs)) zeroed
      ∙ past-cleared k (length xs) s (states_before s (entries_before a count xs)) some (done-each k s h.recorded.made.done (k - 1) (omega (arith, some))) (last_dma false some leads)

-- what the ring is that such a stretch leaves
pub written-items : (a m j : ℕ) (xs ls ys zs : List Saved) → ls ≡ xs → j ≡ m → zs ≡ take a ls ++ (ys ++ drop j (drop a ls)) → zs ≡ take a xs ++ (ys ++ drop (a + m) xs)
written-items a m j xs ls ys zs same e is =
    is ∙ ap (λ l. take a l ++ (ys ++ drop j (drop a l))) same ∙ ap (λ i. take a xs ++ (ys ++ drop i (drop a xs))) e ∙ ap (λ l. take a xs ++ (ys ++ l)) (drop-drop m a xs)

-- if no record is kept
past_none : (k : ℕ) (s : State) (past : List State) → past ≡ [] → history_after_steps k 0 s past ≡ []
unfolding history_after_steps history_after
past_none zero s past e = e
past_none (suc k) s past e = ap (history_after 0 (steps_of k s)) (past_none k s past e) ∙ none_by (step_of (steps_of k s)).0 (starts_dma_at (steps_of k s)) (steps_of k s)
  where
    none_by : (e : StepEnd) (b : Bool) (s : State) → history_by e b 0 s [] ≡ []
    none_by Done true s = refl
    none_by Done false s = refl
    none_by Halted b s = refl
    none_by (Reserved w) b s = refl

pub past-unkept : (k n : ℕ) (s t : State) (rs : List Saved) → n ≡ 0 → rs ≡ [] → states_before t rs ≡ history_after_steps k n s (states_before s rs)
past-unkept k n s t rs z e = rw (z, e) (sym (past_none k s [] refl))

-- back by one
pub back_here : (s : State) (rs : List Saved) (r : Saved) → Some r ≡ slice_get rs 0 → undone r s ≡ slice_index_or (states_before s rs) 0 s
back_here s [] r e = cc
back_here s (x ∷ rs) r e = let same : r ≡ x = cc in rw same refl

pub back_rest : (s : State) (rs : List Saved) (r : Saved) → Some r ≡ slice_get rs 0 → states_before (undone r s) (drop 1 rs) ≡ drop 1 (states_before s rs)
back_rest s [] r e = cc
back_rest s (x ∷ rs) r e = let same : r ≡ x = cc in rw same refl

pub ruleset backs = (back_here, back_rest)

-- one more state back
pub past_more : (past : List State) (i : ℕ) → drop 1 (drop i past) ≡ drop (i + 1) past
past_more past i = drop-drop 1 i past

pub state_more : (m s : State) (past : List State) (i : ℕ) → i < length past → slice_index_or (drop i past) 0 s ≡ slice_index_or (m ∷ past) (i + 1) m
state_more m s past i h = rw (add-one, drop-cons past i m h) refl

-- and the state that n of them lead to
pub state_back : (s : State) (past : List State) (n : ℕ) → 0 < n → slice_index_or past (n - 1) s ≡ slice_index_or (s ∷ past) n s
state_back s past zero h = absurd (omega arith)
state_back s past (suc n) h = let e : suc n - 1 ≡ n = omega arith in ap (λ i. slice_index_or past i s) e

pub ruleset more = (past_more, state_more, state_back, length-states_before, length-drop)

-- one step, whose record is written at an entry
length_one : {X : Type 0} (k : ℕ) (ys zs : List X) → k ≡ 1 → length ys ≡ 1 → length zs ≡ 1 → drop k ys ≡ drop k zs
length_one k ys zs e f h = drop_all k ys (omega (arith, e, f)) ∙ sym (drop_all k zs (omega (arith, e, h)))

pub one-written : (a k count : ℕ) (s t : State) (xs old ys : List Saved) → a < length xs → count ≤ length xs → k ≡ 1 → length old ≡ 1 → AreRecorded k s t old ys → IsStretch a 1 k count s t xs ys
one-written a k count s t xs old ys room held one len r =
    let entry : length (take 1 (drop a xs)) ≡ 1 = omega (arith, length-take 1 (drop a xs), length-drop a xs, room) in
    record {
      room = omega (arith, room);
      held = held;
      recorded = record {
        within = omega (arith, one, entry);
        made = r.made;
        before = r.before;
        which = r.which;
        back = r.back;
        rest = length_one k ys (take 1 (drop a xs)) one (r.len ∙ len) entry;
        len = r.len ∙ len ∙ sym entry;
      };
    }

-- the ring after that
one_item : (ys : List Saved) (d : Saved) → length ys ≡ 1 → ys ≡ slice_index_or ys 0 d ∷ []
one_item [] d e = absurd (omega (arith, e))
one_item (y ∷ []) d e = refl
one_item (y ∷ z ∷ ys) d e = absurd (omega (arith, e))

pub one-put : (a : ℕ) (d : Saved) (xs ys : List Saved) → a < length xs → length ys ≡ 1 → slice_set xs a (slice_index_or ys 0 d) ≡ take a xs ++ (ys ++ drop (a + 1) xs)
one-put a d xs ys room one =
    let r = slice_index_or ys 0 d in
    sym (take-append-drop a (slice_set xs a r)) ∙ ap (λ l. l ++ drop a (slice_set xs a r)) (take-set xs a r) ∙ ap (λ l. take a xs ++ l) (drop-set xs a r room)
    ∙ ap (λ l. take a xs ++ (l ++ drop (a + 1) xs)) (sym (one_item ys d one))

pub one-record : (k : ℕ) (d : Saved) (ys : List Saved) → k ≡ 1 → length ys ≡ 1 → slice_index_or ys 0 d ≡ record_at ys (k - 1)
one-record k d [] one len = absurd (omega (arith, len))
one-record k d (y ∷ ys) one len = ap (λ i. record_at (y ∷ ys) (i - 1)) (sym one)

pub one-more : (k n : ℕ) (s : State) (past : List State) → k ≡ 1 → history_after_steps k n s past ≡ history_after n s past
unfolding history_after_steps steps_of
one-more k n s past e = ap (λ i. history_after_steps i n s past) e

-- and if there was no step
none_kept : (k : ℕ) (ys zs : List Saved) → k ≡ 0 → drop k ys ≡ drop k zs → ys ≡ zs
none_kept k ys zs none e = ap (λ i. drop i ys) (sym none) ∙ e ∙ ap (λ i. drop i zs) none

pub none-put : (a k : ℕ) (d : Saved) (xs ys zs : List Saved) → slice_get xs a ≡ Some d → k ≡ 0 → drop k ys ≡ drop k zs → zs ≡ d ∷ [] → slice_set xs a (slice_index_or ys 0 d) ≡ xs
none-put a k d xs ys zs here none same old =
    ap (λ l. slice_set xs a (slice_index_or l 0 d)) (none_kept k ys zs none same ∙ old)
    ∙ ap (slice_set xs a) (sym (get_or_from_slice_get xs a d d here)) ∙ set-get_or xs a d

-- a ring without this entry has none
pub no-entry : (xs : List Saved) (a : ℕ) → slice_get xs a ≡ None → (a ≡ 0) ⊎ (a < length xs) → length xs ≡ 0
no-entry [] a e at = refl
no-entry (x ∷ xs) zero e at = cc
no-entry (x ∷ xs) (suc a) e (inl start) = absurd (omega (arith, start))
no-entry (x ∷ xs) (suc a) e (inr inside) = absurd (none-some _ (sym e ∙ slice_get-get_or (x ∷ xs) (suc a) x inside))
