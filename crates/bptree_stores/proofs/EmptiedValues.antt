-- The machine values of an `VacantBox`, and of a pair. Assumes `Logic`.
use Rattle.std.proofs.Common.{◌≡◌, ℕ, List, [], ◌∷◌, ◌++◌, refl, subst}
use lib.Dec.{T}
use seplogic.Ra.Ura.{Ura}
use mir.Syntax.{Ty, tcons, tnil}
use mir.Raw.{raw as bare}
use mir.Val.{Val, vptr, vstruct, vcons, vnil, of_list, has_ty, has_tys, WT}
use base.Logic.{ent, sep, never, fst∗}
use base.Fml.{froom}
use types.Logic.{Logic, sem}
use types.Kit.{Item, Goal, Seq, Step, step, ‵, ◌$◌, ◌∵◌, !, qed, done, move, drop, fsplit, fjoin, fpick, fpack, feq_i, feq_l}
use denote.RattleType.{RattleType, Valss}
use denote.Builtin.{RawPtr}
use denote.RawPtr.{Ptr, block_ptr, null_ptr, ptr_val, in_a_block}
use denote.Steps.{nothing}
use denote.Struct.Struct.{within, as_fields}
use denote.Struct.Owning.{Owning, shape}
use denote.Struct.Declared as Declared
use denote.Struct.Tuple.{Tuple, tuple_type}
use Rattle.std.specs.Vacant.{vacant}
use Rattle.std.proofs.alloc.Calls.{token, Fits, handle_tells}
use Rattle.std.proofs.BoxSteps.Form.{Bx, R, P, τ, handle, word}
use Rattle.bptree_stores.specs.contracts.vacant_box.VacantBox as vacant_box

abbrev pub Fitting : Ty → Val → Type 0
Fitting σ v = T (has_ty σ v) × WT v

module _ (E : Bx) where
  abbrev pub owning : Owning
  owning = vacant_box.the_type (R E) (P E) E.al.g

  abbrev pub VacantBox : RattleType
  VacantBox = vacant_box.the_row (R E) (P E) E.al.g

  module _ {M : Type 1} {𝓤 : Ura M} {𝓛 : Logic 𝓤} {K : Type 0} {Γ : List (Item 𝓤)} {G : Goal 𝓤 𝓛.H} where
    pub emptied_out : K → (d : VacantBox.Denot) (vs : List Val)
        → ((b o : ℕ) (h : Val) → d.at ≡ block_ptr b o → vs ≡ word E h b o ∷ [] → Fits E.al h
        → Seq K 𝓛 (‵ (froom (bare (τ E)) b o) ∷ ‵ (token E.al d.alloc (bare (τ E)) (block_ptr b o)) ∷ ‵ (handle E d.alloc h) ∷ Γ) G)
        → Seq K 𝓛 (‵ (VacantBox.own_val d vs) ∷ Γ) G
    emptied_out t d vs k =
        fsplit t $ fpick t (λ vss. fsplit t $ feq_l t (λ ev. fsplit t $ feq_l t (λ ep. fsplit t $ handle_tells E.al t d.alloc vss.1.0 (λ h ea fits. move t (1 ∷ []) $ drop t $ move t (1 ∷ []) $
        in_a_block t d.at (vacant (token E.al d.alloc) (R E)) (fst∗ 𝓤 (never 𝓤) (sem 𝓛 (token E.al d.alloc (bare (τ E)) null_ptr))) (λ b o e. fsplit t $ k b o h e
        (subst (λ (p : Ptr). vs ≡ vstruct (of_list (ptr_val p ∷ h ∷ [])) ∷ []) e
        (subst (λ (ws : List Val). vs ≡ vstruct (of_list (ptr_val d.at ∷ (ws ++ []))) ∷ []) ea (subst (λ (ps : List Val). vs ≡ vstruct (of_list (ps ++ (vss.1.0 ++ []))) ∷ []) ep ev))) fits)))))

    pub emptied_in : K → {h : Val} (a : E.al.row.Denot) (b o : ℕ)
        → Step K 𝓛 (‵ (VacantBox.own_val (record { at = block_ptr b o; alloc = a }) (word E h b o ∷ [])) ∷ Γ) G (‵ (froom (bare (τ E)) b o) ∷ ‵ (token E.al a (bare (τ E)) (block_ptr b o)) ∷ ‵ (handle E a h) ∷ Γ) G
    emptied_in t {h} a b o = step (λ s.
        fjoin t $ nothing t $ move t (2 ∷ 0 ∷ []) $ fjoin t $ feq_i t (List Val) (vptr b o ∷ []) (vptr b o ∷ []) refl $ fjoin t $ feq_i t (List Val) (word E h b o ∷ []) (word E h b o ∷ []) refl $ fjoin t $
        fpack t (Valss (RawPtr ∷ P E ∷ [])) (within (shape owning) (block_ptr b o, (a, tt)) (word E h b o ∷ [])) (vptr b o ∷ [], (h ∷ [], tt)) $ fjoin t $ s)

abbrev pub pair : Val → Val → Val
pair u v = vstruct (vcons u (vcons v vnil))

pub pair_good : (σ ρ : Ty) (u v : Val) → Fitting σ u → Fitting ρ v → T (has_tys (tcons σ (tcons ρ tnil)) (vcons u (vcons v vnil))) × WT (pair u v)
pair_good σ ρ u v s t = as_fields (σ ∷ ρ ∷ []) (u ∷ v ∷ []) (s, (t, tt))

pub pair_in : {M : Type 1} {𝓤 : Ura M} (𝓛 : Logic 𝓤) (R S : RattleType) (x : R.Denot) (y : S.Denot) (u v : Val)
    → ent 𝓤 (sep 𝓤 (sem 𝓛 (R.own_val x (u ∷ []))) (sem 𝓛 (S.own_val y (v ∷ [])))) (sem 𝓛 ((Tuple (R ∷ S ∷ [])).own_val (x, y) (pair u v ∷ [])))
pair_in 𝓛 R S x y u v =
    qed 𝓛 (‵ (R.own_val x (u ∷ [])) ∷ ‵ (S.own_val y (v ∷ [])) ∷ []) ∵ nothing ! $ move ! (2 ∷ 0 ∷ []) $ fjoin ! $ move ! (1 ∷ 0 ∷ []) $ fjoin ! $ feq_i ! (List Val) (pair u v ∷ []) (pair u v ∷ []) refl $ fjoin ! $
    fpack ! (Valss (R ∷ S ∷ [])) (within (Declared.shape (tuple_type (R ∷ S ∷ []))) (x, (y, tt)) (pair u v ∷ [])) (u ∷ [], (v ∷ [], tt)) $ done !
