-- `none` makes the null pointer, which owns nothing.
use Rattle.std.proofs.Common.{List, [], ◌∷◌, ◌++◌, refl, sym, subst, lit<}
use Rattle.std.specs.Prelude.{◌≡◌, Option, None}
use base.Logic.{emp}
use contract.Monad.{fact, fact_i}
use types.Kit.{use0, use1, feq_i, fpack}
use denote.RattleType.{Valss}
use denote.RawPtr.{RawPtr}
use denote.Struct.Struct.{within}
use denote.Struct.Owning.{shape}
use Rattle.ordup_shared.specs.contracts.held.Held as Held
use Rattle.ordup_shared.specs.declared.thing.Thing.{Thing}
use mir.Val.{Val, vnull, vstruct, vcons, vnil, has_ty}
use Rattle.std.proofs.ResultValues.{and_tt}
use base.Logic.{SProp, ent, id⊢}
use prog.Wp.{WpFn}
use types.Kit.{‵, raw, ◌⊛◌, ◌$◌, ◌∵◌, !, qed, move, keep, split, fsplit, fjoin, suffices, by}
use types.Run.{lit, no_more, and_then, returns, enter}
use types.ByLocal.{alloc_all, pass_all, free_all, look_at, get, sets}
use types.Part.{agg}
use contract.Running.{tables}
use denote.Exit.{yes}
use denote.RawPtr.{null_ptr}
use denote.RattleType.{owns}
use denote.Signature.{types_at, plain}
use denote.Steps.{nothing}
use denote.Triple.Entry.{alive}
use denote.Triple.Walked.{Stays, stay_dropped, walk_of, Goes-dropped}
use Rattle.std.proofs.raw_atomic.Walks.{proved_at, leaves}
use denote.Param.{layout}
use types.Kit.{rewrite}
use Rattle.std.specs.contracts.alloc.Global as heap
use Rattle.std.proofs.alloc.Global.TheLaws as heap_laws
use Rattle.std.proofs.cell.Inside.{one}
use Rattle.ordup_shared.specs.contracts.held.Held.none.{ended, clauses}
use Rattle.ordup_shared.specs.contracts.held.Held.none.Key.{name as #self}
use Rattle.ordup_shared.proofs.held.Held.none.Statement.{statement}
use Rattle.ordup_shared.proofs.held.Held.none.Code as code

pub none_spec : {M : Type 1} → statement M
none_spec 𝓤 𝓛 𝓜 𝓡 wired =
    let H = 𝓛.H in let 𝓣 = tables 𝓤 H 𝓜 𝓡 𝓡.env in let c = clauses 𝓛 𝓜.mem 𝓡.returns in let fn = code.function in
    let hs : Stays ended.signature.params ended.kept = (stay_dropped (plain (λ _. heap.the_row)) yes, tt) in
    proved_at 𝓛 ended hs c 𝓜 𝓡 (Goes-dropped 𝓛 0 (plain (λ _. heap.the_row)) yes (λ κs x f. refl), tt) #self fn (code.unfolded 𝓤 H 𝓜 𝓡 wired) (λ z are.
    let Post : Val → SProp 𝓤 = (walk_of 𝓛 ended hs c).post z in
    let held : Option Thing = None in
    let h = one (layout heap.the_row) z.0.4.0 ((heap_laws.the_row_laws.lawful 𝓛).typed z.0.3.0 z.0.4.0 are.0) in let w : Val = vstruct (vcons vnull (vcons h.0 vnil)) in
    qed 𝓛 ((raw (alive 𝓛 ended.signature z.0.0 z.0.1) ⊛ ‵ (owns (types_at ended.signature.params z.0.0) z.0.3 z.0.4)) ∷ raw ((c z.0.0 z.0.3).requires z.1) ∷ []) ∵ split ! $
    move ! (1 ∷ []) $ fsplit ! $ rewrite ! 0 (λ (us : List Val). ‵ (heap.the_row.own_val z.0.3.0 us)) h.1 refl $
    suffices ! (WpFn 𝓤 H 𝓣.C 𝓣.Λ fn (h.0 ∷ []) Post) (subst (λ (us : List Val). ent 𝓤 (WpFn 𝓤 H 𝓣.C 𝓣.Λ fn (h.0 ∷ []) Post) (WpFn 𝓤 H 𝓣.C 𝓣.Λ fn us Post)) (sym (λ i. h.1 i ++ [])) (id⊢ 𝓤 (WpFn 𝓤 H 𝓣.C 𝓣.Λ fn (h.0 ∷ []) Post))) $
    enter ! 𝓣.C 𝓣.Λ fn (h.0 ∷ []) Post $ alloc_all ! (λ l. pass_all ! refl (h.2, tt) $
    sets ! (agg ! (and_then ! (lit ! tt) (and_then ! (get ! refl) (no_more !)))) refl (and_tt (has_ty (layout heap.the_row) h.0) h.2.0, (record { fits = lit< tt }, (h.2.1, tt))) $
    nothing ! $ nothing ! $ move ! (2 ∷ 0 ∷ []) $ fjoin ! $ feq_i ! (List Val) (vnull ∷ []) (vnull ∷ []) refl $ fjoin ! $ feq_i ! (List Val) (w ∷ []) (w ∷ []) refl $ fjoin ! $
    fpack ! (Valss (RawPtr ∷ heap.the_row ∷ [])) (within (shape Held.the_type) (null_ptr, (((z.0.3.0.memory.seal, tt), tt), tt)) (w ∷ [])) (vnull ∷ [], (h.0 ∷ [], tt)) $ fjoin ! $
    use1 𝓛 (‵ (Held.the_row.own_val (record { at = null_ptr; alloc = z.0.3.0; thing = held }) (w ∷ []))) (id⊢ 𝓤 _) $
    use0 𝓛 (raw (fact 𝓤 (held ≡ held))) (fact_i 𝓤 (held ≡ held) (emp 𝓤) refl) $ nothing ! $ nothing ! $ fjoin ! $
    returns ! (look_at ! 0 refl) $ free_all ! refl $ keep ! (4 ∷ 0 ∷ 2 ∷ 1 ∷ []) $ by ! (leaves 𝓛 ended hs c z w (record { at = null_ptr; alloc = z.0.3.0; thing = held }) (tt, tt) (tt, tt))))
