-- Straight microcode by pieces.
use Rattle.std.proofs.Common.{◌≡◌, ℕ, List, [], ◌∷◌, ◌++◌, length, map, Some, arith, true, refl, ap, sym, subst, ◌∙◌}
use Rattle.std.proofs.lemmas.Bool.{and_parts, ltb-true}
use Rattle.rsp_decode.specs.declared.inst.Inst.{Inst}
use Rattle.rsp_decode.specs.Table.Words.{inst_of}
use Rattle.std.proofs.lemmas.List.{length-map}
use Rattle.rsp_scalar.specs.Registers.{register}
use Rattle.rsp_loadstore.specs.File.{vector}
use Rattle.rsp_multiply.specs.Laws.{SumsOfProducts}
use Rattle.rsp_scalar.specs.Flow.{address_after}
use Rattle.rsp_machine.specs.State.{State, IsState}
use Rattle.rsp_machine.specs.Step.{executed}
use Rattle.rsp_machine.specs.Laws.{steps_of}
use Rattle.rsp_microcode.specs.Runs.{goes_on, all_go_on, ran_through, address_after_words}
use Rattle.rsp_microcode.specs.Frames.{of_rows, with_parts, all_stay}
use Rattle.rsp_microcode.specs.Ranges.{fits_word, all_fit}
use Rattle.rsp_microcode.specs.Lanes.{sqv}
use Rattle.rsp_microcode.specs.Loads.{WholeLoad, load_of}
use Rattle.rsp_microcode.specs.Multiplies.{Term, instruction}
use Rattle.rsp_microcode.specs.Kept.{Spares}
use Rattle.rsp_microcode.specs.Clips.{clip_code}
use Rattle.rsp_microcode.specs.Pieces.{Piece, takes, sums, clips, puts, rows, code_of, pieces_fit, RunsOfPieces, PiecesRun}
use Rattle.rsp_microcode.proofs.Runs.{gone, ran_on, straight}
use Rattle.rsp_microcode.proofs.Frames.{framed, scalars_spared, vectors_spared}
use Rattle.rsp_microcode.proofs.Ranges.{ranges}
use Rattle.rsp_microcode.proofs.Kept.{changed_is}
use Rattle.rsp_microcode.proofs.Bytes.{has_bytes}
use Rattle.rsp_microcode.proofs.Lanes.{stores_lanes}
use Rattle.rsp_microcode.proofs.LoadRuns.{loads_run}
use Rattle.rsp_microcode.proofs.Multiplies.{sums as sums_run}
use Rattle.rsp_microcode.proofs.Clips.{clips_run}

-- straight code leaves pc where it goes on to
pub addresses_run : (is : List Inst) (s : State) → all_go_on is ≡ true → s.npc ≡ address_after s.pc
    → ((ran_through is s).pc ≡ address_after_words is s.pc) × ((ran_through is s).npc ≡ address_after (address_after_words is s.pc))
addresses_run [] s h n = (refl, n)
addresses_run (i ∷ is) s h n =
    let parts = and_parts (goes_on i) (all_go_on is) h in
    let g = gone i s parts.0 in
    let more = addresses_run is (executed i s) parts.1 (g.npc ∙ ap address_after (sym g.pc)) in
    let e : (executed i s).pc ≡ address_after s.pc = g.pc ∙ n in
    (more.0 ∙ ap (address_after_words is) e, more.1 ∙ ap (λ p. address_after (address_after_words is p)) e)

-- it stays, and so do pieces
pub stay_all : (is : List Inst) → all_go_on is ≡ true → all_stay is ≡ true
stay_all [] h = refl
stay_all (i ∷ is) h = let parts = and_parts (goes_on i) (all_go_on is) h in rw (parts.0, stay_all is parts.1) refl

abbrev IsStraight : List Inst → Type 0
IsStraight is = (all_go_on is ≡ true) × (all_fit is ≡ true)

both_straight : (a b : List Inst) → IsStraight a → IsStraight b → IsStraight (a ++ b)
both_straight [] b h k = k
both_straight (i ∷ is) b h k =
    let g = and_parts (goes_on i) (all_go_on is) h.0 in
    let f = and_parts (fits_word i) (all_fit is) h.1 in
    let more = both_straight is b (g.1, f.1) k in
    (rw (g.0, more.0) refl, rw (f.0, more.1) refl)

loads_straight : (ls : List WholeLoad) → IsStraight (map load_of ls)
loads_straight [] = (refl, refl)
loads_straight (l ∷ ls) = loads_straight ls

sums_straight : (ms : List Term) → IsStraight (map instruction ms)
sums_straight [] = (refl, refl)
sums_straight (m ∷ ms) = sums_straight ms

pub pieces_straight : (ps : List Piece) → pieces_fit ps ≡ true → IsStraight (code_of ps)
pieces_straight [] h = (refl, refl)
pieces_straight (takes ls ∷ ps) h = let parts = and_parts _ _ h in both_straight (map load_of ls) _ (loads_straight ls) (pieces_straight ps parts.1)
pieces_straight (sums ms ∷ ps) h = let parts = and_parts _ _ h in both_straight (map instruction ms) _ (sums_straight ms) (pieces_straight ps parts.1)
pieces_straight (clips high low ∷ ps) h = let parts = and_parts _ _ h in pieces_straight ps parts.1
pieces_straight (puts vt offset base ∷ ps) h = let parts = and_parts _ _ h in pieces_straight ps parts.1
pieces_straight (rows is ∷ ps) h = let parts = and_parts _ _ h in both_straight is _ (and_parts _ _ parts.0) (pieces_straight ps parts.1)

-- what a straight run to a known state hands on
handed_on : (is : List Inst) (s t : State) → IsStraight is → ran_through is s ≡ t → IsState s → s.npc ≡ address_after s.pc → IsState t × (t.npc ≡ address_after t.pc)
handed_on is s t h e ok next =
    let p = addresses_run is s h.0 next in
    subst (λ (x : State). IsState x × (x.npc ≡ address_after x.pc)) e (ranges is s (stay_all is h.0) h.1 ok, p.1 ∙ ap address_after (sym p.0))

pub pieces : SumsOfProducts → RunsOfPieces
pieces law [] s ok next h a = (refl, ok)
pieces law (takes ls ∷ ps) s ok next h a =
    let parts = and_parts _ _ h in
    let one = (loads_run ls s ok.vectors (has_bytes s.dmem ok.dmem) next parts.0 a.0).0 in
    let more = handed_on (map load_of ls) s _ (loads_straight ls) one ok next in
    let rest = pieces law ps _ more.0 more.1 parts.1 a.1 in
    (ran_on (map load_of ls) (code_of ps) s ∙ ap (ran_through (code_of ps)) one ∙ rest.0, rest.1)
pieces law (sums ms ∷ ps) s ok next h a =
    let parts = and_parts _ _ h in
    let test = and_parts _ _ parts.0 in
    let one = sums_run law ms s ok.vectors next test.0 test.1 in
    let more = handed_on (map instruction ms) s _ (sums_straight ms) one ok next in
    let rest = pieces law ps _ more.0 more.1 parts.1 a in
    (ran_on (map instruction ms) (code_of ps) s ∙ ap (ran_through (code_of ps)) one ∙ rest.0, rest.1)
pieces law (clips high low ∷ ps) s ok next h a =
    let parts = and_parts _ _ h in
    let one = clips_run high low s ok.vectors parts.0 in
    let more = handed_on (clip_code high low) s _ (refl, refl) one ok next in
    let rest = pieces law ps _ more.0 more.1 parts.1 a in
    (ap (ran_through (code_of ps)) one ∙ rest.0, rest.1)
pieces law (puts vt offset base ∷ ps) s ok next h a =
    let parts = and_parts _ _ h in
    let field = and_parts _ _ parts.0 in
    let one = stores_lanes vt offset base s (ok.vectors.registers vt (ltb-true _ _ field.0)).0 (ltb-true _ _ field.1) a.0 in
    let more = handed_on (sqv vt offset base ∷ []) s _ (refl, refl) one ok next in
    let rest = pieces law ps _ more.0 more.1 parts.1 a.1 in
    (ap (ran_through (code_of ps)) one ∙ rest.0, rest.1)
pieces law (rows is ∷ ps) s ok next h a =
    let parts = and_parts _ _ h in
    let more = handed_on is s _ (and_parts _ _ parts.0) refl ok next in
    let rest = pieces law ps _ more.0 more.1 parts.1 a in
    (ran_on is (code_of ps) s ∙ rest.0, rest.1)

-- lists of the same length lead to the same address
same_addresses : {X Y : Type 0} (xs : List X) (ys : List Y) (p : ℕ) → length xs ≡ length ys → address_after_words xs p ≡ address_after_words ys p
same_addresses [] [] p e = refl
same_addresses [] (y ∷ ys) p e = absurd (omega arith)
same_addresses (x ∷ xs) [] p e = absurd (omega arith)
same_addresses (x ∷ xs) (y ∷ ys) p e = same_addresses xs ys (address_after p) (omega arith)

pub placed : {X : Type 0} (xs : List X) (p : ℕ) → address_after_words xs (address_after p) ≡ address_after (address_after_words xs p)
placed [] p = refl
placed (x ∷ xs) p = placed xs (address_after p)

pub pieces_run : SumsOfProducts → PiecesRun
pieces_run law words ps decoded fits s ok at aligned =
    let code = code_of ps in
    let t = steps_of (length words) s in
    let h = pieces_straight ps fits in
    let stay = stay_all code h.0 in
    let ran : t ≡ ran_through code s = straight words code s decoded h.0 at in
    let long : length words ≡ length code = sym (length-map words inst_of) ∙ ap length decoded ∙ length-map code Some in
    let addresses = addresses_run code s h.0 at.next in
    let pc : t.pc ≡ address_after_words words s.pc = ap (λ (x : State). x.pc) ran ∙ addresses.0 ∙ sym (same_addresses words code s.pc long) in
    let npc : t.npc ≡ address_after_words words s.npc =
    ap (λ (x : State). x.npc) ran ∙ addresses.1 ∙ sym (ap address_after (same_addresses words code s.pc long)) ∙ sym (placed words s.pc) ∙ ap (address_after_words words) (sym at.next) in
    let frame : t ≡ with_parts (of_rows code) s t = subst (λ (x : State). x ≡ with_parts (of_rows code) s x) (sym ran) (framed code s stay) in
    let kept : IsState t = subst IsState (sym ran) (ranges code s stay h.1 ok) in
    let spares : Spares code s t = record {
      scalars = λ i spare. ap (λ (x : State). register x.registers i) ran ∙ scalars_spared code i s stay spare;
      vectors = λ i spare. ap (λ (x : State). vector x.vectors i) ran ∙ vectors_spared code i s stay spare;
    } in
    record {
      ran = ran ∙ (pieces law ps s ok at.next fits aligned).0;
      ranges = kept;
      spares = spares;
      frame = frame;
      others = changed_is _ _ code s t ok kept spares pc npc frame;
    }
