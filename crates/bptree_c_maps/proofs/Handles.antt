-- Lemmas that prove `empty`, `from_raw`, `into_raw` and `peek` of a handle. Variables are the handle's
-- name, its type, and the type that its pointer points to. Assumes `Logic`.
use Rattle.std.proofs.Common.{◌≡◌, ℕ, List, [], ◌∷◌, ◌++◌, map, refl, sym, ap, ◌∙◌, subst, Option, Some, None, IsSome, lit<}
use seplogic.Ra.Ura.{Ura}
use mir.Raw.{raw as bare}
use mir.Syntax.{Callee, Sym, Ty, ty_ptr, ty_ref, ty_named, ty_struct, named, erased, mut, tcons, tnil, Fn, Body, local, value_local, place, deref, field, copy, int, w64, rv_opd, addr_of, aggregate, assign, seq, block, return, impl, dnil}
use mir.Val.{Val, vptr, vstruct, vcons, vnil, of_list}
use base.Fraction.{full_share}
use base.Logic.{SProp, ent, sep, emp, id⊢, never, fst∗}
use base.Fml.{Fml, GName, ftrue, fsep, flft}
use prog.Model.{Model}
use prog.Wp.{Env, WpFn, Calls, Loops, Closed}
use types.Logic.{Logic, sem}
use types.Kit.{Item, Goal, Seq, Step, step, ‵, raw, ◌⊛◌, some, later, at_ret, ⋆, ◌$◌, ◌∵◌, !, qed, by, done, move, keep, drop, split, split3, join, group, fsplit, fsplit3, fjoin, fpick, fpack, pick, suffices, frame, await, use0, use1, rewrite, feq_i, feq_l}
use types.Run.{stop, fld, load, addr, of_opd, no_more, and_then, first, blocks, exec, returns, enter, lit}
use types.ByLocal.{alloc_all, pass_all, free_all, look_at, get, get_in, through, sets, sets_last, env}
use types.Part.{agg, sub, whole, look_in}
use contract.Monad.{fact, fact_i}
use contract.Running.{Running, MachineTables, tables}
use denote.Exit.{Last, yes, no}
use denote.Follow.{follows, Part, lends_Part}
use denote.RattleType.{RattleType, Valss, owns}
use denote.Builtin.{RawPtr}
use denote.RawPtr.{Ptr, block_ptr, null_ptr, ptr_val, in_a_block}
use denote.Memory.{lone, pointee, mem, cell_at, part_at, part_of}
use denote.Ref.{MutRef, MutBor, mut_vals, mut_Tells}
use denote.Signature.{plain, mut_ref_to}
use denote.Steps.{nothing, heard, opens}
use denote.Param.{layout}
use denote.Struct.Struct.{Shape, Struct, within}
use denote.Triple.Clauses.{Ended, Clauses, closing}
use denote.Triple.Spec.{Meets}
use denote.Triple.Walked.{says, Stays, Silent, walk_of, ends_at, stay_dropped, Goes-dropped, Goes-spent_ref}
use Rattle.std.proofs.alloc.Calls.{Al, handle_tells}
use Rattle.std.proofs.alloc.Shapes.{after}
use Rattle.std.proofs.raw_atomic.Walks.{proved, proved_at, leaves}
use Rattle.std.proofs.alloc.Global.TheLaws.{the_row_laws}
use Rattle.std.specs.contracts.alloc.Global.{the_row as Heap}
use Rattle.std.specs.contracts.impls.GlobalAllocator.TheImpl.{ghosts}
use Rattle.std.specs.Box.Ownership.{box_owns}
use Rattle.bptree_c_maps.specs.Held.{the_heap, held_owns}
use Rattle.bptree_c_maps.proofs.Values.{both, RawBox, loose_good, loose_out, loose_in}

unsome : {X : Type 0} (o : Option X) → IsSome o → (x : X) × (o ≡ Some x)
unsome (Some x) h = (x, refl)
unsome None h = cc

abbrev word : Ptr → Val
word p = vstruct (vcons (ptr_val p) vnil)

-- a handle by its field alone: what it owns does not depend on its name
abbrev alone : Shape
alone = record { name = []; args = []; types = []; fields = RawPtr ∷ [] }

abbrev owned : Ptr → Fml → List Val → Fml
owned p held vs = fsep ((Struct alone).own_val (p, tt) vs) held

module _ {M : Type 1} {𝓤 : Ura M} {𝓛 : Logic 𝓤} {K : Type 0} {Γ : List (Item 𝓤)} {G : Goal 𝓤 𝓛.H} where
  handle_in : K → (p : Ptr) (held : Fml) → Step K 𝓛 (‵ (owned p held (word p ∷ [])) ∷ Γ) G (‵ held ∷ Γ) G
  handle_in t p held = step (λ s.
      nothing t $ feq_i t (List Val) (ptr_val p ∷ []) (ptr_val p ∷ []) refl $ fjoin t $ feq_i t (List Val) (word p ∷ []) (word p ∷ []) refl $ fjoin t $
      fpack t (Valss (RawPtr ∷ [])) (within alone (p, tt) (word p ∷ [])) (ptr_val p ∷ [], tt) $ fjoin t $ s)

  handle_out : K → (p : Ptr) (held : Fml) (vs : List Val) → (vs ≡ word p ∷ [] → Seq K 𝓛 (‵ held ∷ Γ) G) → Seq K 𝓛 (‵ (owned p held vs) ∷ Γ) G
  handle_out t p held vs k =
      fsplit t $ fpick t (λ vss. fsplit t $ feq_l t (λ ev. fsplit t $ feq_l t (λ ep. drop t $ k (ev ∙ ap (λ (ps : List Val). vstruct (of_list (ps ++ [])) ∷ []) ep))))

abbrev al : Al
al = record { row = Heap; laws = the_row_laws; g = ghosts; d = impl [] tnil dnil; drops = impl [] tnil dnil }

-- a box of the C library's heap, taken apart
abbrev Apart : RattleType → RattleType
Apart R = RawBox R Heap the_row_laws ghosts

-- code with no lifetimes and no type parameters
abbrev code_of : ℕ → List Ty → Body → Fn
code_of params types body = record {
  lifetimes = 0;
  outlives = [];
  ty_params = [];
  givens = 0;
  params = params;
  locals = map (λ τ. local τ value_local) types;
  body = body;
}

-- the code of `empty`, `from_raw`, `into_raw` and `peek`, at the handle's name
module _ (name : Sym) where
  abbrev handle_ty : Ty
  handle_ty = ty_struct name (tcons ty_ptr tnil)

  abbrev empty_fn : Fn
  empty_fn = code_of 0 (handle_ty ∷ []) (seq (assign (place 0 []) (aggregate (int w64 0 ∷ []))) return)

  abbrev from_raw_fn : RattleType → Fn
  from_raw_fn R = code_of 1 (handle_ty ∷ layout (Apart R) ∷ ty_ptr ∷ ty_ptr ∷ [])
      (seq (assign (place 2 []) (rv_opd (copy (place 1 (field 0 ∷ []))))) (seq (assign (place 3 []) (rv_opd (copy (place 2 []))))
      (seq (assign (place 0 []) (aggregate (copy (place 3 []) ∷ []))) return)))

  abbrev into_raw_fn : RattleType → Fn
  into_raw_fn R = code_of 2 (layout (Apart R) ∷ handle_ty ∷ layout Heap ∷ ty_ptr ∷ ty_ptr ∷ [])
      (seq (assign (place 3 []) (rv_opd (copy (place 1 (field 0 ∷ []))))) (seq (assign (place 4 []) (rv_opd (copy (place 3 []))))
      (seq (assign (place 0 []) (aggregate (copy (place 4 []) ∷ copy (place 2 []) ∷ []))) return)))

  abbrev peek_fn : RattleType → Fn
  peek_fn R = record {
    lifetimes = 1;
    outlives = [];
    ty_params = [];
    givens = 0;
    params = 1;
    locals = map (λ τ. local τ value_local) (ty_ref (named 0) mut (pointee R.written) ∷ ty_ref (named 0) mut (ty_named (name, []) tnil) ∷ ty_ptr ∷ ty_ptr ∷ ty_ref erased mut (pointee R.written) ∷ []);
    body = seq (assign (place 3 []) (rv_opd (copy (place 1 (deref handle_ty ∷ field 0 ∷ []))))) (seq (assign (place 2 []) (rv_opd (copy (place 3 []))))
        (seq (block (assign (place 4 []) (addr_of (place 2 (deref (layout R) ∷ []))))) (seq (assign (place 0 []) (rv_opd (copy (place 4 [])))) return)));
  }

module _ {M : Type 1} {𝓤 : Ura M} (𝓛 : Logic 𝓤) where
  abbrev Says : {X : Type 0} → X → X → Item 𝓤
  Says x y = raw (fact 𝓤 (x ≡ y))

  module _ (name : Sym) (R : RattleType) (C : Calls 𝓤 𝓛.H) (Λ : Loops 𝓤 𝓛.H) (Post : Val → SProp 𝓤) where
    -- the null pointer owns nothing
    empty_walk : let none : Option R.Denot = None in ent 𝓤 (⋆ 𝓛 (‵ ftrue ∷ ‵ ftrue ∷ ‵ (owned null_ptr (held_owns R null_ptr none) (word null_ptr ∷ [])) ∷ Says none none ∷ [])) (Post (word null_ptr))
        → ent 𝓤 (⋆ 𝓛 ((‵ ftrue ⊛ ‵ ftrue) ∷ ‵ ftrue ∷ [])) (WpFn 𝓤 𝓛.H C Λ (empty_fn name) [] Post)
    empty_walk then = let none : Option R.Denot = None in
        qed 𝓛 ((‵ ftrue ⊛ ‵ ftrue) ∷ ‵ ftrue ∷ []) ∵ split ! $ drop ! $
        enter ! C Λ (empty_fn name) [] Post $ alloc_all ! (λ l. pass_all ! refl tt $
        sets ! (agg ! (and_then ! (lit ! tt) (no_more !))) refl (tt, (record { fits = lit< tt }, tt)) $
        handle_in ! null_ptr (held_owns R null_ptr none) $ use0 𝓛 (Says none none) (fact_i 𝓤 (none ≡ none) (emp 𝓤) refl) $
        returns ! (look_at ! 0 refl) $ free_all ! refl $ keep ! (2 ∷ 3 ∷ 1 ∷ 0 ∷ []) $ by ! then)

    -- the type behind the pointer is erased
    lower_walk : (v : (Apart R).Denot) (vs : List Val)
        → ((b o : ℕ) → let p : Ptr = block_ptr b o in let held : Option R.Denot = Some v.value in
        ent 𝓤 (⋆ 𝓛 (‵ ftrue ∷ ‵ (fsep ftrue ftrue) ∷ ‵ (owned p (held_owns R p held) (word p ∷ [])) ∷ Says held held ∷ [])) (Post (word p)))
        → ent 𝓤 (⋆ 𝓛 ((‵ ftrue ⊛ ‵ (fsep ((Apart R).own_val v vs) ftrue)) ∷ ‵ ftrue ∷ [])) (WpFn 𝓤 𝓛.H C Λ (from_raw_fn name R) (vs ++ []) Post)
    lower_walk v vs then = let held : Option R.Denot = Some v.value in let fn = from_raw_fn name R in let Run : List Val → SProp 𝓤 = λ us. WpFn 𝓤 𝓛.H C Λ fn us Post in
        qed 𝓛 ((‵ ftrue ⊛ ‵ (fsep ((Apart R).own_val v vs) ftrue)) ∷ ‵ ftrue ∷ []) ∵ split ! $ move ! (1 ∷ []) $ fsplit ! $
        loose_out R Heap the_row_laws ghosts ! v vs (λ b o h e ws fits.
        let w : Val = both (vptr b o) h in let typed = loose_good R Heap the_row_laws ghosts b o h fits in
        suffices ! (Run (w ∷ [])) (subst (λ (us : List Val). ent 𝓤 (Run (w ∷ [])) (Run us)) (sym (λ i. ws i ++ [])) (id⊢ 𝓤 (Run (w ∷ [])))) $
        enter ! C Λ fn (w ∷ []) Post $ alloc_all ! (λ l. pass_all ! refl (typed, tt) $
        sets ! (of_opd ! (get_in ! (fld ! refl (stop !)) (sub ! 0 refl (whole !)))) refl (tt, tt) $
        sets ! (of_opd ! (get ! refl)) refl (tt, tt) $
        sets ! (agg ! (and_then ! (get ! refl) (no_more !))) refl (tt, (tt, tt)) $
        handle_in ! (block_ptr b o) (held_owns R (block_ptr b o) held) $
        use0 𝓛 (Says held held) (fact_i 𝓤 (held ≡ held) (emp 𝓤) refl) $ nothing ! $ nothing ! $ fjoin ! $
        returns ! (look_at ! 0 refl) $ free_all ! refl $ keep ! (4 ∷ 0 ∷ 2 ∷ 1 ∷ []) $ by ! (then b o)))

    -- the pointer gets its type again
    raise_walk : (p : Ptr) (held : Option R.Denot) (a : Heap.Denot) (vs us : List Val)
        → ((b o : ℕ) (h : Val) (x : R.Denot) → let v : (Apart R).Denot = record { at = block_ptr b o; alloc = a; value = x } in
        ent 𝓤 (⋆ 𝓛 (‵ ftrue ∷ ‵ (fsep ftrue (fsep ftrue ftrue)) ∷ ‵ ((Apart R).own_val v (both (vptr b o) h ∷ [])) ∷ Says (Some x) held ∷ [])) (Post (both (vptr b o) h)))
        → ent 𝓤 (⋆ 𝓛 ((‵ ftrue ⊛ ‵ (fsep (owned p (held_owns R p held) vs) (fsep (Heap.own_val a us) ftrue))) ∷ raw (fact 𝓤 (IsSome held)) ∷ [])) (WpFn 𝓤 𝓛.H C Λ (into_raw_fn name R) (vs ++ (us ++ [])) Post)
    raise_walk p held a vs us then = let fn = into_raw_fn name R in let Run : List Val → SProp 𝓤 = λ us. WpFn 𝓤 𝓛.H C Λ fn us Post in
        qed 𝓛 ((‵ ftrue ⊛ ‵ (fsep (owned p (held_owns R p held) vs) (fsep (Heap.own_val a us) ftrue))) ∷ raw (fact 𝓤 (IsSome held)) ∷ []) ∵ split ! $ move ! (1 ∷ []) $ fsplit ! $
        handle_out ! p (held_owns R p held) vs (λ ws. move ! (3 ∷ []) $ heard ! (IsSome held) (λ is. let x = (unsome held is).0 in let eh : held ≡ Some x = (unsome held is).1 in
        rewrite ! 0 (λ (l : Option R.Denot). ‵ (held_owns R p l)) eh refl $
        in_a_block ! p (λ p. box_owns (ghosts.dealloc_token the_heap) R p x) (fst∗ 𝓤 (never 𝓤) (sem 𝓛 (ghosts.dealloc_token the_heap (bare (lone R.mir)) null_ptr))) (λ b o e.
        move ! (1 ∷ []) $ fsplit ! $ handle_tells al ! a us (λ h ea fits. move ! (2 ∷ 0 ∷ []) $
        let w : Val = word (block_ptr b o) in let all : List Val = w ∷ h ∷ [] in let ew : vs ≡ w ∷ [] = ws ∙ ap (λ (p : Ptr). word p ∷ []) e in
        suffices ! (Run all) (subst (λ (vs : List Val). ent 𝓤 (Run all) (Run vs)) (sym (λ i. ew i ++ (ea i ++ []))) (id⊢ 𝓤 (Run all))) $
        enter ! C Λ fn all Post $ alloc_all ! (λ l. pass_all ! refl ((tt, (tt, tt)), (fits, tt)) $
        sets ! (of_opd ! (get_in ! (fld ! refl (stop !)) (sub ! 0 refl (whole !)))) refl (tt, tt) $
        sets ! (of_opd ! (get ! refl)) refl (tt, tt) $
        sets ! (agg ! (and_then ! (get ! refl) (and_then ! (get ! refl) (no_more !)))) refl (loose_good R Heap the_row_laws ghosts b o h fits) $
        loose_in R Heap the_row_laws ghosts ! b o h a x $
        use0 𝓛 (Says (Some x) held) (fact_i 𝓤 (Some x ≡ held) (emp 𝓤) (sym eh)) $ nothing ! $ nothing ! $ fjoin ! $ nothing ! $ fjoin ! $
        returns ! (look_at ! 0 refl) $ free_all ! refl $ keep ! (3 ∷ 0 ∷ 2 ∷ 1 ∷ []) $ by ! (then b o h x))))))

  module _ (𝓜 : Model 𝓤 𝓛.H) (𝓡 : Running 𝓤 𝓛.H 𝓜) (name : Sym) (R H : RattleType) where
    abbrev 𝓣 : MachineTables 𝓤 𝓛.H 𝓜
    𝓣 = tables 𝓤 𝓛.H 𝓜 𝓡 𝓡.env

    -- H is a handle that `make` makes of a pointer and of the value that is held
    module _ (make : Ptr → Option R.Denot → H.Denot) (held : H.Denot → Option R.Denot)
        (own : (p : Ptr) (o : Option R.Denot) (vs : List Val) → owned p (held_owns R p o) vs ≡ H.own_val (make p o) vs) (same : (p : Ptr) (o : Option R.Denot) → o ≡ held (make p o)) where
      -- the facts at the end, stated of the handle that was made
      at_end : (has : Fml) (p : Ptr) (o : Option R.Denot) (P : SProp 𝓤) → ent 𝓤 (⋆ 𝓛 (‵ ftrue ∷ ‵ has ∷ ‵ (H.own_val (make p o) (word p ∷ [])) ∷ Says (held (make p o)) o ∷ [])) P
          → ent 𝓤 (⋆ 𝓛 (‵ ftrue ∷ ‵ has ∷ ‵ (owned p (held_owns R p o) (word p ∷ [])) ∷ Says o o ∷ [])) P
      at_end has p o P then =
          subst (λ (F : Fml). ent 𝓤 (⋆ 𝓛 (‵ ftrue ∷ ‵ has ∷ ‵ F ∷ Says o o ∷ [])) P) (sym (own p o (word p ∷ [])))
          (subst (λ (l : Option R.Denot). ent 𝓤 (⋆ 𝓛 (‵ ftrue ∷ ‵ has ∷ ‵ (H.own_val (make p o) (word p ∷ [])) ∷ Says l o ∷ [])) P) (sym (same p o)) then)

      abbrev empty_ended : Ended
      empty_ended = record { signature = record { lifetimes = 0; outlives = []; params = []; result = plain (λ _. H) }; kept = tt }

      abbrev empty_clauses : Clauses 𝓤 empty_ended
      empty_clauses κs args = record { ghost = Unit {0}; requires = λ g. sem 𝓛 ftrue; ensures = λ g res end. fact 𝓤 (held res ≡ None) }

      pub empty_met : (k : Callee) → Closed 𝓤 𝓛.H 𝓣.C 𝓣.Λ k (empty_fn name) → Meets 𝓛 empty_ended.signature (𝓣.C k) (closing 𝓛 empty_ended empty_clauses)
      empty_met k closed = let c = empty_clauses in
          proved_at 𝓛 empty_ended tt c 𝓜 𝓡 tt k (empty_fn name) closed (λ z are.
          empty_walk name R _ _ _ (at_end ftrue null_ptr None _ (leaves 𝓛 empty_ended tt c z (word null_ptr) (make null_ptr None) tt tt)))

      abbrev lower_ended : Ended
      lower_ended = record { signature = record { lifetimes = 0; outlives = []; params = plain (λ _. Apart R) ∷ []; result = plain (λ _. H) }; kept = (yes, tt) }

      abbrev lower_clauses : Clauses 𝓤 lower_ended
      lower_clauses κs args = record { ghost = Unit {0}; requires = λ g. sem 𝓛 ftrue; ensures = λ g res end. fact 𝓤 (held res ≡ Some args.0.value) }

      pub from_raw_met : (k : Callee) → Closed 𝓤 𝓛.H 𝓣.C 𝓣.Λ k (from_raw_fn name R) → Meets 𝓛 lower_ended.signature (𝓣.C k) (closing 𝓛 lower_ended lower_clauses)
      from_raw_met k closed = let hs : Stays lower_ended.signature.params lower_ended.kept = (stay_dropped (plain (λ _. Apart R)) yes, tt) in let c = lower_clauses in
          proved_at 𝓛 lower_ended hs c 𝓜 𝓡 (Goes-dropped 𝓛 0 (plain (λ _. Apart R)) yes (λ κs x f. refl), tt) k (from_raw_fn name R) closed (λ z are. let v = z.0.3.0 in
          lower_walk name R _ _ _ v z.0.4.0 (λ b o. let p : Ptr = block_ptr b o in
          at_end (fsep ftrue ftrue) p (Some v.value) _ (leaves 𝓛 lower_ended hs c z (word p) (make p (Some v.value)) (tt, tt) (tt, tt))))

    -- H is a handle that `at` and `held` read, and that is consumed
    module _ (at : H.Denot → Ptr) (held : H.Denot → Option R.Denot) (own : (d : H.Denot) (vs : List Val) → owned (at d) (held_owns R (at d) (held d)) vs ≡ H.own_val d vs)
        (last : (d : H.Denot) → Last (H.exit yes) d) (silent : Silent 𝓛 0 (plain (λ _. H)) yes) where
      abbrev raise_ended : Ended
      raise_ended = record { signature = record { lifetimes = 0; outlives = []; params = plain (λ _. H) ∷ plain (λ _. Heap) ∷ []; result = plain (λ _. Apart R) }; kept = (yes, (yes, tt)) }

      abbrev raise_clauses : Clauses 𝓤 raise_ended
      raise_clauses κs args = record { ghost = Unit {0}; requires = λ g. fact 𝓤 (IsSome (held args.0)); ensures = λ g res end. fact 𝓤 (Some res.value ≡ held args.0) }

      pub into_raw_met : (k : Callee) → Closed 𝓤 𝓛.H 𝓣.C 𝓣.Λ k (into_raw_fn name R) → Meets 𝓛 raise_ended.signature (𝓣.C k) (closing 𝓛 raise_ended raise_clauses)
      into_raw_met k closed = let hs : Stays raise_ended.signature.params raise_ended.kept = (stay_dropped (plain (λ _. H)) yes, (stay_dropped (plain (λ _. Heap)) yes, tt)) in let c = raise_clauses in
          proved_at 𝓛 raise_ended hs c 𝓜 𝓡 (Goes-dropped 𝓛 0 (plain (λ _. H)) yes silent, (Goes-dropped 𝓛 0 (plain (λ _. Heap)) yes (λ κs x f. refl), tt)) k (into_raw_fn name R) closed (λ z are.
          let d = z.0.3.0 in let a = z.0.3.1.0 in let vs = z.0.4.0 in let us = z.0.4.1.0 in let P : SProp 𝓤 = WpFn 𝓤 𝓛.H 𝓣.C 𝓣.Λ (into_raw_fn name R) (vs ++ (us ++ [])) ((walk_of 𝓛 raise_ended hs c).post z) in
          subst (λ (F : Fml). ent 𝓤 (⋆ 𝓛 ((‵ ftrue ⊛ ‵ (fsep F (fsep (Heap.own_val a us) ftrue))) ∷ raw (fact 𝓤 (IsSome (held d))) ∷ [])) P) (own d vs)
          (raise_walk name R _ _ _ (at d) (held d) a vs us (λ b o h x.
          leaves 𝓛 raise_ended hs c z (both (vptr b o) h) (record { at = block_ptr b o; alloc = a; value = x }) (last d, (tt, tt)) (tt, (tt, tt)))))

    -- H is a handle that `make` makes of a pointer and of the value that is held, and that `at` and
    -- `held` read
    module _ (make : Ptr → Option R.Denot → H.Denot) (at : H.Denot → Ptr) (held : H.Denot → Option R.Denot) (own : (p : Ptr) (o : Option R.Denot) (vs : List Val) → owned p (held_owns R p o) vs ≡ H.own_val (make p o) vs)
        (same : (d : H.Denot) → make (at d) (held d) ≡ d) (mir : H.mir ≡ handle_ty name ∷ []) where
      -- the handle with w behind its pointer
      abbrev left : H.Denot → R.Denot → H.Denot
      left d w = make (at d) (Some w)

      abbrev peek_ended : Ended
      peek_ended = record { signature = record { lifetimes = 1; outlives = []; params = mut_ref_to (0 ∷ []) tt (plain (λ _. H)) ∷ []; result = mut_ref_to (0 ∷ []) tt (plain (λ _. R)) }; kept = (no, tt) }

      abbrev peek_clauses : Clauses 𝓤 peek_ended
      peek_clauses κs args = let s = args.0 in record {
        ghost = Unit {0};
        requires = λ g. fact 𝓤 (IsSome (held s.now));
        ensures = λ g res end. sep 𝓤 (sem 𝓛 (follows H R s.ghost_name res.ghost_name (left s.now))) (fact 𝓤 (Some res.now ≡ held s.now));
      }

      -- the parts of a handle without the value
      abbrev Rest : ℕ → ℕ → ℕ → ℕ → Fml
      Rest b o rb ro = fsep (ghosts.dealloc_token the_heap (bare (lone R.mir)) (block_ptr b o)) (cell_at full_share (handle_ty name ∷ []) (word (block_ptr b o) ∷ []) rb ro)

      back : (d : H.Denot) (b o rb ro : ℕ) → at d ≡ block_ptr b o → (w : R.Denot) → ent 𝓤 (sep 𝓤 (sem 𝓛 ((mem R).own_at w b o)) (sem 𝓛 (Rest b o rb ro))) (sem 𝓛 ((mem H).own_at (left d w) rb ro))
      unfolding part_of
      back d b o rb ro e w = let p : Ptr = block_ptr b o in let us : List Val = word p ∷ [] in
          qed 𝓛 (‵ (part_at R full_share w b o) ∷ ‵ (Rest b o rb ro) ∷ []) ∵ move ! (1 ∷ []) $ fsplit ! $ move ! (2 ∷ 0 ∷ []) $ fjoin ! $ handle_in ! p (held_owns R p (Some w)) $
          rewrite ! 0 (λ (F : Fml). ‵ F) (own p (Some w) us) refl $ rewrite ! 0 (λ (r : Ptr). ‵ (H.own_val (make r (Some w)) us)) (sym e) refl $ move ! (1 ∷ []) $
          rewrite ! 0 (λ (τs : List Ty). ‵ (cell_at full_share τs us rb ro)) (sym mir) refl $ fjoin ! $ fpack ! (List Val) (λ ws. fsep (cell_at full_share H.mir ws rb ro) (H.own_val (left d w) ws)) us $ done !

      pub peek_met : (k : Callee) → Closed 𝓤 𝓛.H 𝓣.C 𝓣.Λ k (peek_fn name R) → Meets 𝓛 peek_ended.signature (𝓣.C k) (closing 𝓛 peek_ended peek_clauses)
      peek_met k closed = let hs : Stays peek_ended.signature.params peek_ended.kept = (stay_dropped (mut_ref_to (0 ∷ []) tt (plain (λ _. H))) no, tt) in let c = peek_clauses in let fn = peek_fn name R in
          proved 𝓛 peek_ended hs c 𝓜 𝓡 (Goes-spent_ref 𝓛 1 (0 ∷ []) tt (plain (λ _. H)), tt) k fn closed (λ κs. (mut_vals, tt)) (λ κs. (mut_Tells (named 0) κs.0 H, tt)) (λ κs qs bounds a g are.
          let κ = κs.0 in let q = qs.0 in let s : MutBor H.Denot = a.0 in let d : H.Denot = s.now in let rb : ℕ = s.ref_ptr.0 in let ro : ℕ = s.ref_ptr.1 in let γ : GName = s.ghost_name in
          let z : (walk_of 𝓛 peek_ended hs c).Ghost = ((κs, qs, bounds, a, (mut_vals s, tt)), g) in let Post : Val → SProp 𝓤 = (walk_of 𝓛 peek_ended hs c).post z in
          qed 𝓛 (((‵ (flft κ q) ⊛ ‵ ftrue) ⊛ ‵ (owns (MutRef (named 0) κ H ∷ []) a (mut_vals s, tt))) ∷ raw (fact 𝓤 (IsSome (held d))) ∷ []) ∵ move ! (1 ∷ []) $ heard ! (IsSome (held d)) (λ is.
          let x : R.Denot = (unsome (held d) is).0 in let eh : held d ≡ Some x = (unsome (held d) is).1 in
          split ! $ split ! $ move ! (2 ∷ []) $ fsplit ! $ fsplit3 ! $ keep ! (1 ∷ 2 ∷ 4 ∷ []) $
          enter ! 𝓣.C 𝓣.Λ fn (vptr rb ro ∷ []) Post $ alloc_all ! (λ l. pass_all ! refl ((tt, tt), tt) $ let En : Env 𝓤 𝓛.H = env fn.locals l in
          opens ! tt H {h = d} rb ro (λ vs. rewrite ! 0 (λ (τs : List Ty). ‵ (cell_at full_share τs vs rb ro)) mir refl $ move ! (1 ∷ []) $
          rewrite ! 0 (λ (y : H.Denot). ‵ (H.own_val y vs)) (sym (same d)) refl $ rewrite ! 0 (λ (F : Fml). ‵ F) (sym (own (at d) (held d) vs)) refl $
          handle_out ! (at d) (held_owns R (at d) (held d)) vs (λ ws. rewrite ! 0 (λ (l : Option R.Denot). ‵ (held_owns R (at d) l)) eh refl $
          in_a_block ! (at d) (λ p. box_owns (ghosts.dealloc_token the_heap) R p x) (fst∗ 𝓤 (never 𝓤) (sem 𝓛 (ghosts.dealloc_token the_heap (bare (lone R.mir)) null_ptr))) (λ b o e.
          fsplit ! $ rewrite ! 2 (λ (us : List Val). ‵ (cell_at full_share (handle_ty name ∷ []) us rb ro)) (ws ∙ ap (λ (p : Ptr). word p ∷ []) e) refl $
          -- [the value; the right to free it; the pointer; the open borrow; obs; auth]
          sets ! (of_opd ! (load ! (through ! refl (fld ! refl (stop !))) (look_in ! 2 (sub ! 0 refl (whole !))))) refl (tt, tt) $ sets ! (of_opd ! (get ! refl)) refl (tt, tt) $
          first ! $ blocks ! $ sets_last ! (addr ! (through ! refl (stop !))) refl (tt, tt) $ exec ! 𝓣.C 𝓣.Λ En (after 3 fn.body) (at_ret En Post) $ sets ! (of_opd ! (get ! refl)) refl (tt, tt) $
          move ! (1 ∷ 2 ∷ []) $ fjoin ! $ move ! (2 ∷ 3 ∷ 4 ∷ 1 ∷ 0 ∷ []) $ group ! 5 $
          let P : R.Denot → GName → SProp 𝓤 = Part 𝓛 H R (left d) (named 0) κ q rb ro b o γ (sem 𝓛 (Rest b o rb ro)) (back d b o rb ro e) in
          use1 𝓛 (later (some (λ (δ : GName). raw (P x δ))))
          (lends_Part 𝓛 H R (left d) (named 0) κ q rb ro b o γ (sem 𝓛 (Rest b o rb ro)) (back d b o rb ro e) (H.coded.code d) (H.coded.code d) x) $ await ! tt $ pick ! (λ δ.
          returns ! (look_at ! 0 refl) $ free_all ! refl $ keep ! (0 ∷ []) $ let r : MutBor R.Denot = record { ref_ptr = (b, o); ghost_name = δ; now = x } in
          use1 𝓛 (‵ ((MutRef (named 0) κ R).own_val r (vptr b o ∷ [])) ⊛ ‵ (flft κ q) ⊛ ‵ (follows H R γ δ (left d))) (id⊢ 𝓤 _) $ split3 ! $
          suffices ! _ (ends_at 𝓛 peek_ended hs c z (vptr b o) r (tt, tt) (tt, tt)) $
          nothing ! $ nothing ! $ fjoin ! $ join ! $ nothing ! $ move ! (2 ∷ 0 ∷ []) $ join ! $ join ! $ frame ! $ says ! (sym eh) $ done !)))))))
