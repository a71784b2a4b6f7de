-- `into_parts` tests the pointer, and what the handle held goes with it.
use Rattle.rsp_c.proofs.Walks.{refl, sym, ap, subst, ◌∙◌, List, [], ◌∷◌, ◌++◌, lit<, Val, vnull, vcons, vnil, has_ty, SProp, ent, emp, id⊢, ftrue, fsep, tables, WpFn, Item, ‵, raw, at_ret, ◌⊛◌, ◌$◌, ◌∵◌, !, qed, by, move, drop, use0, use1, split, join, fsplit, fjoin, suffices, done, live, whole, sub, agg, stop, fld, lit, bin, no_more, and_then, of_opd, first, branches, skips, exec, returns, returns_within, enter, alloc_all, pass_all, free_all, look_at, get, get_in, sets, env, yes, Ptr, block_ptr, ptr_val, tests_null, plain, type_at, nothing, says, Stays, stay_dropped, walk_of, ends_at, Goes-dropped, None, Some, proved_at, and_tt}
use Rattle.core.proofs.option.Made.{Some-of, none_of}
use Rattle.std.proofs.alloc.Calls.{α}
use Rattle.std.proofs.BoxSteps.Form.{D, B, word, box_typed}
use Rattle.std.proofs.BoxSteps.Steps.{box_in}
use Rattle.rsp_c.proofs.AsBox.{EB, parts_row}
use Rattle.rsp_c.proofs.Holding.{pair, either, session_out}
use Rattle.rsp_c.specs.contracts.handle.RspSession as RspSession
use Rattle.rsp_c.specs.contracts.handle.RspSession.into_parts as F
use Rattle.rsp_c.specs.contracts.handle.RspSession.into_parts.Key.{name as #self}
use Rattle.rsp_c.proofs.handle.RspSession.into_parts.Statement.{statement}
use Rattle.rsp_c.proofs.handle.RspSession.into_parts.Code as code

pub into_parts_spec : {M : Type 1} → statement M
into_parts_spec 𝓤 𝓛 𝓜 𝓡 wired =
    let st : Stays F.ended.signature.params F.ended.kept = (stay_dropped _ yes, tt) in
    let c = F.clauses 𝓛 𝓜.mem 𝓡.returns in let W = walk_of 𝓛 F.ended st c in let 𝓣 = tables 𝓤 𝓛.H 𝓜 𝓡 𝓡.env in
    proved_at 𝓛 F.ended st c 𝓜 𝓡 (Goes-dropped 𝓛 0 (plain (λ _. RspSession.the_row)) yes (λ κs x f. refl), tt) #self code.function (code.unfolded 𝓤 𝓛.H 𝓜 𝓡 wired) (λ z are.
    let d = z.0.3.0 in
    let Out = type_at F.signature.result tt in
    qed 𝓛 ((‵ ftrue ⊛ ‵ (fsep (RspSession.the_row.own_val d z.0.4.0) ftrue)) ∷ raw (emp 𝓤) ∷ []) ∵ split ! $ drop ! $ fsplit ! $
    session_out ! d z.0.4.0 (λ hv ws fa. move ! (2 ∷ 3 ∷ []) $ drop ! $ drop ! $
    let Goes : List Val → SProp 𝓤 = λ us. WpFn 𝓤 𝓛.H 𝓣.C 𝓣.Λ code.function (us ++ []) (W.post z) in
    either EB.row ! d.alloc d.at d.bench
    (λ e ed.
    let Γ : List (Item 𝓤) = ‵ (EB.al.row.own_val d.alloc (hv ∷ [])) ∷ [] in
    let v₀ : Val = live 0 vnil in
    by ! (subst (λ (us : List Val). ent 𝓤 (types.Kit.⋆ 𝓛 Γ) (Goes us)) (sym (ws ∙ ap (λ (p : Ptr). pair (ptr_val p) hv ∷ []) e))
    (qed 𝓛 Γ ∵ drop ! $ enter ! 𝓣.C 𝓣.Λ code.function (pair vnull hv ∷ []) _ $ alloc_all ! (λ ls. pass_all ! refl ((and_tt (has_ty (α EB.al) hv) fa.0, (record { fits = lit< tt }, (fa.1, tt))), tt) $
    sets ! (of_opd ! (get_in ! (fld ! refl (stop !)) (sub ! 0 refl (whole !)))) refl (tt, record { fits = lit< tt }) $ sets ! (of_opd ! (get_in ! (fld ! refl (stop !)) (sub ! 1 refl (whole !)))) refl fa $
    sets ! (bin ! (get ! refl) (lit ! tt) tt) refl (tt, tt) $ first ! $ branches ! (get ! refl)
    (λ _. sets ! (agg ! (and_then ! (lit ! tt) (no_more !))) refl (tt, (record { fits = lit< tt }, tt)) $ returns_within ! (W.post z) refl (look_at ! 0 refl) $ free_all ! refl $
    suffices ! _ (ends_at 𝓛 F.ended st c z v₀ None (tt, tt) (tt, tt)) $ says ! ed $
    use0 𝓛 (‵ (Out.own_val None (v₀ ∷ []))) (none_of 𝓛 (parts_row EB)) $ nothing ! $ nothing ! $ fjoin ! $ join ! $ nothing ! $ join ! $ done !)
    (λ wrong. absurd wrong)))))
    (λ b o x e ed t.
    let v : D EB = record { ptr = block_ptr b o; alloc = d.alloc; value = x } in
    let made : (parts_row EB).Denot = record { ptr = block_ptr b o; alloc = d.alloc; value = x } in
    let w = word EB hv b o in
    let v₁ : Val = live 1 (vcons w vnil) in
    let typed = box_typed EB hv b o fa in
    let Γ : List (Item 𝓤) = ‵ ((B EB).own_val v (w ∷ [])) ∷ [] in
    fsplit ! $ box_in EB ! v b o x refl refl $
    by ! (subst (λ (us : List Val). ent 𝓤 (types.Kit.⋆ 𝓛 Γ) (Goes us)) (sym (ws ∙ ap (λ (p : Ptr). pair (ptr_val p) hv ∷ []) e))
    (qed 𝓛 Γ ∵ use1 𝓛 (‵ ((parts_row EB).own_val made (w ∷ []))) (id⊢ 𝓤 _) $ enter ! 𝓣.C 𝓣.Λ code.function (w ∷ []) _ $ alloc_all ! (λ ls. pass_all ! refl (typed, tt) $
    sets ! (of_opd ! (get_in ! (fld ! refl (stop !)) (sub ! 0 refl (whole !)))) refl (tt, tt) $ sets ! (of_opd ! (get_in ! (fld ! refl (stop !)) (sub ! 1 refl (whole !)))) refl fa $
    sets ! (bin ! (get ! refl) (lit ! tt) (tests_null (block_ptr b o) t)) refl (tt, tt) $ first ! $ branches ! (get ! refl) (λ wrong. absurd wrong)
    (λ _. skips ! $ exec ! 𝓣.C 𝓣.Λ (env code.Mir.locals ls) code.Mir.t-5 (at_ret _ (W.post z)) $
    sets ! (of_opd ! (get ! refl)) refl (tt, tt) $ sets ! (agg ! (and_then ! (get ! refl) (and_then ! (get ! refl) (no_more !)))) refl typed $
    sets ! (agg ! (and_then ! (lit ! tt) (and_then ! (get ! refl) (no_more !)))) refl (and_tt _ typed.0, (record { fits = lit< tt }, (typed.1, tt))) $
    returns ! (look_at ! 0 refl) $ free_all ! refl $
    suffices ! _ (ends_at 𝓛 F.ended st c z v₁ (Some made) (tt, tt) (tt, tt)) $ says ! ed $
    use1 𝓛 (‵ (Out.own_val (Some made) (v₁ ∷ []))) (Some-of 𝓛 (parts_row EB) made w) $ nothing ! $ nothing ! $ fjoin ! $ join ! $ nothing ! $ join ! $ done !)))))))
