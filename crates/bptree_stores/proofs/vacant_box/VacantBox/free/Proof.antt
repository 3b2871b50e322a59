-- `free` borrows the allocator for the call that deallocates the memory.
use Rattle.std.proofs.Common.{◌≡◌, ℕ, ◌+◌, List, [], ◌∷◌, ◌++◌, refl, sym, ap, subst}
use mir.Syntax.{Tys, a_type, dcons, dnil, tcons, tnil, ty_ptr, ty_unit}
use mir.Raw.{raw as bare}
use mir.Val.{Val, Vals, vptr, vunit, vcons, vnil}
use mir.MapTy.{inst_fn}
use base.Logic.{SProp, ent, emp, id⊢}
use base.Fml.{Lft, ftrue, flft, Incl-trans}
use prog.Memory.{size, align, capped, up}
use prog.Capped.{capped_fits}
use prog.RawLaws.{size-raw, align-raw}
use prog.Wp.{WpFn}
use types.Kit.{‵, raw, ◌⊛◌, later, given, at_ret, ◌$◌, ◌∵◌, !, qed, by, move, keep, drop, split, split3, join, fsplit, fjoin, learn, suffices, use0, use1, use3, await}
use types.Run.{stop, fld, from, addr, size_word, align_word, of_opd, no_more, and_then, first, blocks, exec, returns, enter}
use types.ByLocal.{alloc_all, pass_all, free_all, look_at, take_at, give_at, get, get_in, sets, lands_last, env}
use types.Part.{sub, whole}
use contract.Monad.{fact, fact_i}
use contract.BorrowLft.{◌⊑◌, meet_⊑_right}
use contract.Running.{tables}
use denote.Exit.{no}
use denote.RattleType.{owns}
use denote.Signature.{types_at, plain}
use denote.Steps.{nothing, heard}
use denote.Param.{bounded}
use denote.Triple.Call.{calls_at_last}
use denote.Triple.Walked.{Stays, stay_dropped, walk_of}
use denote.Triple.Table.{framed}
use Rattle.std.proofs.alloc.Calls.{α, Gives, at_gives, Gives-goes, Gives-Gives, lends_field, takes_back, Goes-blank}
use Rattle.std.proofs.alloc.Shapes.{after}
use Rattle.std.proofs.BoxSteps.Form.{Bx, τ, word, box_typed}
use Rattle.std.proofs.raw_atomic.Walks.{proved_at, leaves}
use Rattle.bptree_stores.proofs.EmptiedValues.{Fitting, owning, VacantBox, emptied_out}
use Rattle.bptree_stores.specs.contracts.vacant_box.VacantBox.free.{ended, clauses}
use Rattle.bptree_stores.specs.contracts.vacant_box.VacantBox.free.Key.{name as #self}
use Rattle.bptree_stores.proofs.vacant_box.VacantBox.free.Statement.{statement}
use Rattle.bptree_stores.proofs.vacant_box.VacantBox.free.Code as code

pub free_spec : {M : Type 1} → statement M
free_spec 𝓤 𝓛 𝓜 𝓡 wired T A L LA g d dd allocator glued =
    let H = 𝓛.H in let 𝓣 = tables 𝓤 H 𝓜 𝓡 𝓡.env in let En = ended T A g d dd in let c = clauses T A g d dd 𝓛 𝓜.mem 𝓡.returns in
    let E : Bx = record { row = T; laws = L; al = record { row = A; laws = LA; g = g; d = d; drops = dd } } in let args = bounded (a_type ∷ a_type ∷ []) (T, (A, tt)) (dcons d (dcons dd dnil)) in let fn = inst_fn args code.function in
    let hs : Stays En.signature.params En.kept = (stay_dropped (plain (λ _. VacantBox E)) no, tt) in
    proved_at 𝓛 En hs c 𝓜 𝓡 (Goes-blank 𝓛 2 (plain (λ _. VacantBox E)) no (λ κs x f. tt), tt) (#self args) fn (code.unfolded 𝓤 H 𝓜 𝓡 wired (T, (A, tt)) d dd) (λ z are.
    let κs = z.0.0 in let qs = z.0.1 in let v = z.0.3.0 in let a = v.alloc in let ρ = κs.1.0 in let q = qs.1.0 in let Post : Val → SProp 𝓤 = (walk_of 𝓛 En hs c).post z in let Run : List Val → SProp 𝓤 = λ ws. WpFn 𝓤 H 𝓣.C 𝓣.Λ fn ws Post in
    let toks = ‵ (flft κs.0 qs.0) ⊛ ‵ (flft ρ q) ⊛ ‵ ftrue in let asked = raw ((c κs z.0.3).requires z.1) in
    qed 𝓛 ((toks ⊛ ‵ (owns (types_at En.signature.params κs) z.0.3 z.0.4)) ∷ asked ∷ []) ∵ split ! $ move ! (2 ∷ []) $
    use1 𝓛 (raw (fact 𝓤 (κs.0 ⊑ T.lives)) ⊛ raw (fact 𝓤 (ρ ⊑ A.lives)) ⊛ ‵ ftrue) (id⊢ 𝓤 _) $ split3 ! $ drop ! $ heard ! (ρ ⊑ A.lives) (λ within.
    move ! (2 ∷ []) $ fsplit ! $ emptied_out E ! v z.0.4.0 (λ b o h e ws fits. move ! (5 ∷ []) $ split3 ! $ keep ! (3 ∷ 4 ∷ 5 ∷ 1 ∷ 0 ∷ []) $
    -- [the room; the right to free; the allocator; its token; the other token]
    let w : Val = word E h b o in
    suffices ! (Run (w ∷ [])) (subst (λ (us : List Val). ent 𝓤 (Run (w ∷ [])) (Run us)) (sym (λ i. ws i ++ [])) (id⊢ 𝓤 (Run (w ∷ [])))) $
    enter ! 𝓣.C 𝓣.Λ fn (w ∷ []) Post $ alloc_all ! (λ l. pass_all ! refl (box_typed E h b o fits, tt) $ let Ev = env fn.locals l in
    let bytes = capped (size (τ E)) in let line = capped (align (τ E)) in let id_state : ℕ = up (align (α E.al)) 8 in
    let words : Vals = vcons (vptr b o) (vcons h vnil) in let fields : Tys = tcons ty_ptr (tcons (α E.al) tnil) in
    sets ! (of_opd ! (get ! refl)) refl (box_typed E h b o fits) $ first ! $ blocks ! $ sets ! (addr ! (from ! (fld ! refl (stop !)))) refl (tt, tt) $
    sets ! (of_opd ! (get_in ! (fld ! refl (stop !)) (sub ! 0 refl (whole !)))) refl (tt, tt) $ sets ! (of_opd ! (get ! refl)) refl (tt, tt) $
    take_at ! 2 $ move ! (0 ∷ 3 ∷ 4 ∷ []) $ lends_field E.al (owning E).name fields 1 id_state (l 2) 0 words a ρ q ! tt refl within (λ m.
    let κ : Lft = m.0 ∷ ρ in let there : ℕ × ℕ = (l 2, 0 + id_state) in let k = Gives E.al 𝓛 𝓜.mem 𝓡.returns in
    let y : k.Ghost = at_gives E.al 𝓛 𝓜.mem 𝓡.returns κ m.1 there a b o bytes line (bare (τ E)) in
    join ! $ move ! (2 ∷ 3 ∷ 0 ∷ []) $ use3 𝓛 (raw (k.pre y)) (Gives-goes E.al 𝓛 𝓜.mem 𝓡.returns κ m.1 there a (Incl-trans (meet_⊑_right (m.0 ∷ []) ρ) within) b o bytes line (bare (τ E))
    (ap capped (size-raw (τ E))) (ap capped (align-raw (τ E))) (capped_fits (size (τ E))) (capped_fits (align (τ E)))) $
    calls_at_last ! (framed 𝓤 𝓛.H 𝓜 𝓣) k (allocator.deallocate dd) y (and_then ! (get ! refl) (and_then ! (get ! refl) (and_then ! (size_word !) (and_then ! (align_word !) (no_more !))))) (λ n.
    use1 𝓛 (later (given (n ≡ vunit) (‵ (flft κ m.1)))) (Gives-Gives E.al 𝓛 𝓜.mem 𝓡.returns κ m.1 there a b o bytes line (bare (τ E)) n) $ await ! tt $ learn ! (λ is_unit.
    takes_back E.al (owning E).name fields 1 id_state (l 2) 0 words a ρ q ! tt m (λ h' fits'. give_at ! 2 $
    lands_last ! refl (subst (Fitting ty_unit) (sym is_unit) (tt, tt)) $ exec ! 𝓣.C 𝓣.Λ Ev (after 2 fn.body) (at_ret Ev Post) $
    sets ! (of_opd ! (get_in ! (fld ! refl (stop !)) (sub ! 1 refl (whole !)))) refl fits' $ sets ! (of_opd ! (get ! refl)) refl fits' $
    -- [the allocator; its token; the other token]
    returns ! (look_at ! 0 refl) $ free_all ! refl $ keep ! (0 ∷ 1 ∷ 2 ∷ []) $
    use0 𝓛 (raw (fact 𝓤 (a ≡ a))) (fact_i 𝓤 (a ≡ a) (emp 𝓤) refl) $ nothing ! $ nothing ! $ fjoin ! $
    nothing ! $ move ! (4 ∷ 0 ∷ []) $ join ! $ move ! (4 ∷ 0 ∷ []) $ join ! $ move ! (0 ∷ 1 ∷ 3 ∷ 2 ∷ []) $
    by ! (leaves 𝓛 En hs c z h' a ((tt, (tt, tt)), tt) (tt, tt))))))))))
