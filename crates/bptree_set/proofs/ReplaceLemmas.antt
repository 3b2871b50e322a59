-- A key that replaces one that equals it, or is added if there is none.
use Rattle.std.proofs.Common.{◌≡◌, ◌∙◌, ◌||◌, Bool, true, false, None, Some, List, [], ◌∷◌, ap, refl, subst, sym}
use Rattle.std.specs.declared.cmp.Ordering.{Ordering}
use Rattle.std.specs.Map.{keys_of}
use Rattle.std.specs.Ordering.{is_eq}
use Rattle.bptree_keys.specs.Contents.{del, has}
use Rattle.bptree_map.specs.Keys.{holds, key_found, with_key, without_key}
use Rattle.bptree_map.specs.KeyChanges.{ReplacesKey}
use Rattle.bptree_map.proofs.KeyLemmas.{holds_keys, keys_del, keys_put}
use Rattle.bptree_set.proofs.EntryKeys.{entry_key, key_of}
use Rattle.bptree_tree.specs.Changes.{IsReplaceFailure, ReplacesKeyOf}
use Rattle.bptree_tree.specs.Returning.{ReturnsKey}
use Rattle.bptree_tree.specs.declared.ReplaceError.{ReplaceError}
use Rattle.bptree_tree.specs.declared.ReplaceError.TheVariants.{Absent}

module _ {K : Type 0} (cmp : K → K → Ordering) (k : K) where
  -- no key of the list equals k
  abbrev HasNone : List K → Type 0
  HasNone keys = (key_found cmp keys k ≡ None) × (without_key cmp keys k ≡ keys)

  none_with : (b : Bool) (x : K) (keys : List K) → is_eq (cmp x k) ≡ b → (b || holds cmp keys k) ≡ false → (holds cmp keys k ≡ false → HasNone keys) → HasNone (x ∷ keys)
  none_with true x keys is absent rest = absurd (let z : true ≡ false = absent in cc)
  none_with false x keys is absent rest = let none = rest absent in rw (is, none.0, none.1) (refl, refl)

  none_if_absent : (keys : List K) → holds cmp keys k ≡ false → HasNone keys
  none_if_absent [] absent = (refl, refl)
  none_if_absent (x ∷ keys) absent = none_with (is_eq (cmp x k)) x keys refl absent (none_if_absent keys)

  -- if no key equals k, k is added
  pub replaces_none : (keys new : List K) → holds cmp keys k ≡ false → new ≡ with_key cmp keys k → ReplacesKey cmp k keys new None
  replaces_none keys new absent is = let none = none_if_absent keys absent in (sym none.0, is ∙ ap (λ l. with_key cmp l k) (sym none.1))

-- the keys of pairs after one key was replaced
pub replaces_one : {K V : Type 0} (cmp : K → K → Ordering) (k gone : K) (old new : List (K × V)) → ReplacesKeyOf cmp k old new gone → ReplacesKey cmp k (keys_of old) (keys_of new) (Some gone)
replaces_one cmp k gone old new (v, was, is) = (
  sym (ap key_of was) ∙ entry_key cmp old k,
  ap keys_of is ∙ (keys_put cmp (del cmp old k) k v ∙ ap (λ l. with_key cmp l k) (keys_del cmp old k)),
)

-- the keys of pairs after a key that replaced no other was added
pub replaces_absent : {K V : Type 0} (cmp : K → K → Ordering) (k j : K) (old now : List (K × V)) (error : ReplaceError K) → error ≡ Absent j → ReturnsKey k old now error → IsReplaceFailure cmp old error → (new : List K) → new ≡ with_key cmp (keys_of now) j → ReplacesKey cmp k (keys_of old) new None
replaces_absent cmp k j old now error is back kind new put =
    let came : ReturnsKey k old now (Absent j) = subst (ReturnsKey k old now) is back in
    let absent : has cmp old j ≡ false = subst (IsReplaceFailure cmp old) is kind in
    replaces_none cmp k (keys_of old) new (sym (holds_keys cmp old k) ∙ (ap (λ x. has cmp old x) (sym came.0) ∙ absent)) (put ∙ (ap (λ l. with_key cmp (keys_of l) j) came.1 ∙ ap (λ x. with_key cmp (keys_of old) x) came.0))
