-- `none` makes a null pointer, which owns nothing.
use Rattle.rsp_c.proofs.Walks.{refl, sym, subst, List, [], ◌∷◌, ◌++◌, lit<, Val, vnull, has_ty, ent, emp, ftrue, fsep, tables, WpFn, Item, ‵, raw, ◌⊛◌, ◌$◌, ◌∵◌, !, qed, by, move, drop, split, join, fsplit, fjoin, feq_i, suffices, done, agg, lit, no_more, and_then, returns, enter, alloc_all, pass_all, free_all, look_at, get, sets, yes, Ptr, null_ptr, plain, type_at, nothing, says, Stays, stay_dropped, walk_of, ends_at, Goes-dropped, None, proved_at, and_tt}
use Rattle.std.proofs.alloc.Calls.{α, handle_tells}
use Rattle.rsp_c.proofs.AsBox.{EB}
use Rattle.rsp_c.proofs.Holding.{pair, session_in}
use Rattle.rsp_c.specs.contracts.handle.RspSession.none as F
use Rattle.rsp_c.specs.contracts.handle.RspSession.none.Key.{name as #self}
use Rattle.rsp_c.proofs.handle.RspSession.none.Statement.{statement}
use Rattle.rsp_c.proofs.handle.RspSession.none.Code as code

pub none_spec : {M : Type 1} → statement M
none_spec 𝓤 𝓛 𝓜 𝓡 wired =
    let st : Stays F.ended.signature.params F.ended.kept = (stay_dropped _ yes, tt) in
    let c = F.clauses 𝓛 𝓜.mem 𝓡.returns in let W = walk_of 𝓛 F.ended st c in let 𝓣 = tables 𝓤 𝓛.H 𝓜 𝓡 𝓡.env in
    proved_at 𝓛 F.ended st c 𝓜 𝓡 (Goes-dropped 𝓛 0 (plain (λ _. EB.al.row)) yes (λ κs x f. refl), tt) #self code.function (code.unfolded 𝓤 𝓛.H 𝓜 𝓡 wired) (λ z are.
    let a = z.0.3.0 in
    let To = type_at F.signature.result tt in
    let made : To.Denot = record { at = null_ptr; alloc = a; bench = None } in
    qed 𝓛 ((‵ ftrue ⊛ ‵ (fsep (EB.al.row.own_val a z.0.4.0) ftrue)) ∷ raw (emp 𝓤) ∷ []) ∵ split ! $ drop ! $ fsplit ! $
    handle_tells EB.al ! a z.0.4.0 (λ hv ws fa. move ! (1 ∷ 2 ∷ []) $ drop ! $ drop ! $
    let w = pair vnull hv in
    let Γ : List (Item 𝓤) = ‵ (EB.al.row.own_val a (hv ∷ [])) ∷ [] in
    by ! (subst (λ (us : List Val). ent 𝓤 (types.Kit.⋆ 𝓛 Γ) (WpFn 𝓤 𝓛.H 𝓣.C 𝓣.Λ code.function (us ++ []) (W.post z))) (sym ws)
    (qed 𝓛 Γ ∵ enter ! 𝓣.C 𝓣.Λ code.function (hv ∷ []) _ $ alloc_all ! (λ ls. pass_all ! refl (fa, tt) $
    sets ! (agg ! (and_then ! (lit ! tt) (and_then ! (get ! refl) (no_more !)))) refl (and_tt (has_ty (α EB.al) hv) fa.0, (record { fits = lit< tt }, (fa.1, tt))) $ returns ! (look_at ! 0 refl) $ free_all ! refl $
    feq_i ! Ptr null_ptr null_ptr refl $ session_in ! made hv $
    suffices ! _ (ends_at 𝓛 F.ended st c z w made (tt, tt) (tt, tt)) $ says ! refl $
    nothing ! $ nothing ! $ fjoin ! $ join ! $ nothing ! $ join ! $ done !)))))
