-- The steps of a handle's walks. Assumes `Logic`.
use Rattle.rsp_c.proofs.Walks.{◌≡◌, refl, subst, List, [], ◌∷◌, ◌++◌, Ura, bare, Val, vcons, vnil, vstruct, of_list, SProp, ent, never, fst∗, Logic, sem, Item, Goal, Seq, ‵, ◌$◌, move, drop, use1, fsplit, fjoin, fpick, feq_i, feq_l, Ptr, RawPtr, block_ptr, null_ptr, ptr_val, in_a_block, nothing, Option, None, Some}
use Prim.Native.Nat.{ℕ}
use base.Fraction.{full_share}
use base.Logic.{guard, snd∗, via, guard_i}
use contract.Monad.{fact_use}
use denote.Memory.{lone}
use denote.RattleType.{RattleType, Valss}
use denote.RawPtr.{lies_at, Testable}
use denote.Struct.Struct.{within}
use denote.Struct.Owning.{shape}
use types.Kit.{Step, step, given, fpack, learn}
use Rattle.std.specs.Box.Ownership.{box_owns}
use Rattle.std.specs.Global.{Global}
use Rattle.std.proofs.GlobalToken.{dealloc_token-Testable}
use Rattle.std.proofs.alloc.Calls.{Fits, handle_tells}
use Rattle.std_heap.specs.contracts.GlobalAllocator.TheImpl.{ghosts}
use Rattle.rsp_c.specs.Holding.{holding}
use Rattle.rsp_c.specs.contracts.handle.RspMachine as RspMachine
use Rattle.rsp_c.specs.contracts.handle.RspSession as RspSession
use Rattle.rsp_c.proofs.AsBox.{E, EB}

abbrev pub boxed : (row : RattleType) → Global → Ptr → row.Denot → base.Fml.Fml
boxed row a p x = box_owns (ghosts.dealloc_token a) row p x

abbrev pub pair : Val → Val → Val
pair v w = vstruct (vcons v (vcons w vnil))

module _ {M : Type 1} {𝓤 : Ura M} (𝓛 : Logic 𝓤) (row : RattleType) where
  -- a block may be compared with null
  pub tested : (a : Global) (p : Ptr) (x : row.Denot) → ent 𝓤 (sem 𝓛 (boxed row a p x)) (guard 𝓤 (Testable p) (sem 𝓛 (boxed row a p x)))
  tested a p x = let B : SProp 𝓤 = sem 𝓛 (boxed row a p x) in
      fact_use 𝓤 (Testable p) (via 𝓤 _ (snd∗ 𝓤 (sem 𝓛 (lies_at row full_share p x)) (sem 𝓛 (ghosts.dealloc_token a (bare (lone row.mir)) p))) (dealloc_token-Testable 𝓛 a (bare (lone row.mir)) p)) (guard_i 𝓤 (Testable p) B)

module _ {M : Type 1} {𝓤 : Ura M} {𝓛 : Logic 𝓤} {K : Type 0} {Γ : List (Item 𝓤)} {G : Goal 𝓤 𝓛.H} where
  -- a handle is null and holds nothing, or leads to a block
  pub either : (row : RattleType) → K → (a : Global) (p : Ptr) (s : Option row.Denot) → (p ≡ null_ptr → s ≡ None → Seq K 𝓛 Γ G)
      → ((b o : ℕ) (x : row.Denot) → p ≡ block_ptr b o → s ≡ Some x → Testable (block_ptr b o) → Seq K 𝓛 (‵ (boxed row a (block_ptr b o) x) ∷ Γ) G) → Seq K 𝓛 (‵ (holding row a p s) ∷ Γ) G
  either row t a p None none one = feq_l t (λ e. none e refl)
  either row t a p (Some x) none one =
      in_a_block t p (λ q. boxed row a q x) (fst∗ 𝓤 (never 𝓤) (sem 𝓛 (ghosts.dealloc_token a (bare (lone row.mir)) null_ptr))) (λ b o e.
      use1 𝓛 (given (Testable (block_ptr b o)) (‵ (boxed row a (block_ptr b o) x))) (tested 𝓛 row a (block_ptr b o) x) $ learn t (λ test. one b o x e refl test))

  -- a handle by value is [what it holds; the allocator]
  pub held_out : K → (d : RspMachine.the_row.Denot) (vs : List Val)
      → ((h : Val) → vs ≡ pair (ptr_val d.at) h ∷ [] → Fits E.al h → Seq K 𝓛 (‵ (holding E.row d.alloc d.at d.debugger) ∷ ‵ (E.al.row.own_val d.alloc (h ∷ [])) ∷ Γ) G) → Seq K 𝓛 (‵ (RspMachine.the_row.own_val d vs) ∷ Γ) G
  held_out t d vs k =
      fsplit t $ fpick t (λ vss. fsplit t $ feq_l t (λ ev. fsplit t $ feq_l t (λ ep. fsplit t $ handle_tells E.al t d.alloc vss.1.0 (λ h ea fits. move t (1 ∷ []) $ drop t $ move t (1 ∷ []) $ k h
      (subst (λ (ws : List Val). vs ≡ vstruct (of_list (ptr_val d.at ∷ (ws ++ []))) ∷ []) ea (subst (λ (ps : List Val). vs ≡ vstruct (of_list (ps ++ (vss.1.0 ++ []))) ∷ []) ep ev)) fits))))

  pub held_in : K → (d : RspMachine.the_row.Denot) (h : Val)
      → Step K 𝓛 (‵ (RspMachine.the_row.own_val d (pair (ptr_val d.at) h ∷ [])) ∷ Γ) G (‵ (holding E.row d.alloc d.at d.debugger) ∷ ‵ (E.al.row.own_val d.alloc (h ∷ [])) ∷ Γ) G
  held_in t d h = step (λ s. let v : Val = pair (ptr_val d.at) h in let p : List Val = ptr_val d.at ∷ [] in
      nothing t $ move t (2 ∷ 0 ∷ []) $ fjoin t $ feq_i t (List Val) p p refl $ fjoin t $ feq_i t (List Val) (v ∷ []) (v ∷ []) refl $ fjoin t $
      fpack t (Valss (RawPtr ∷ E.al.row ∷ [])) (within (shape RspMachine.the_type) (d.at, (((tt, tt), tt), tt)) (v ∷ [])) (p, (h ∷ [], tt)) $ fjoin t $ s)

  -- the same of a bench's handle
  pub session_out : K → (d : RspSession.the_row.Denot) (vs : List Val)
      → ((h : Val) → vs ≡ pair (ptr_val d.at) h ∷ [] → Fits EB.al h → Seq K 𝓛 (‵ (holding EB.row d.alloc d.at d.bench) ∷ ‵ (EB.al.row.own_val d.alloc (h ∷ [])) ∷ Γ) G) → Seq K 𝓛 (‵ (RspSession.the_row.own_val d vs) ∷ Γ) G
  session_out t d vs k =
      fsplit t $ fpick t (λ vss. fsplit t $ feq_l t (λ ev. fsplit t $ feq_l t (λ ep. fsplit t $ handle_tells EB.al t d.alloc vss.1.0 (λ h ea fits. move t (1 ∷ []) $ drop t $ move t (1 ∷ []) $ k h
      (subst (λ (ws : List Val). vs ≡ vstruct (of_list (ptr_val d.at ∷ (ws ++ []))) ∷ []) ea (subst (λ (ps : List Val). vs ≡ vstruct (of_list (ps ++ (vss.1.0 ++ []))) ∷ []) ep ev)) fits))))

  pub session_in : K → (d : RspSession.the_row.Denot) (h : Val)
      → Step K 𝓛 (‵ (RspSession.the_row.own_val d (pair (ptr_val d.at) h ∷ [])) ∷ Γ) G (‵ (holding EB.row d.alloc d.at d.bench) ∷ ‵ (EB.al.row.own_val d.alloc (h ∷ [])) ∷ Γ) G
  session_in t d h = step (λ s. let v : Val = pair (ptr_val d.at) h in let p : List Val = ptr_val d.at ∷ [] in
      nothing t $ move t (2 ∷ 0 ∷ []) $ fjoin t $ feq_i t (List Val) p p refl $ fjoin t $ feq_i t (List Val) (v ∷ []) (v ∷ []) refl $ fjoin t $
      fpack t (Valss (RawPtr ∷ EB.al.row ∷ [])) (within (shape RspSession.the_type) (d.at, (((tt, tt), tt), tt)) (v ∷ [])) (p, (h ∷ [], tt)) $ fjoin t $ s)
