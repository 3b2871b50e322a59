-- Members of a list that are put into another, one after another.
use Rattle.std.proofs.Common.{◌≡◌, ◌∙◌, sym, ap, List, [], ◌∷◌, ◌++◌, refl}
use Rattle.std.specs.declared.cmp.Ordering.{Ordering}
use Rattle.std.specs.Map.{keys_of}
use Rattle.bptree_bulk.proofs.Weaves.{put_one_more}
use Rattle.bptree_bulk.specs.Weave.{put_all, put_pair}
use Rattle.bptree_map.specs.Keys.{with_key}
use Rattle.bptree_map.proofs.KeyLemmas.{keys_put}

module _ {X : Type 0} (put_one : List X → X → List X) where
  pub put_on : (old given cur new : List X) (x : X) → cur ≡ put_all put_one old given → new ≡ put_one cur x → new ≡ put_all put_one old (given ++ x ∷ [])
  put_on old given cur new x is put = put ∙ ap (λ l. put_one l x) is ∙ sym (put_one_more put_one old given x)

-- the keys of a list after pairs were put are its keys after the pairs' keys were put
pub keys_put_all : {K V : Type 0} (cmp : K → K → Ordering) (l m : List (K × V)) → keys_of (put_all (put_pair cmp) l m) ≡ put_all (with_key cmp) (keys_of l) (keys_of m)
keys_put_all cmp l [] = refl
keys_put_all cmp l (p ∷ m) = keys_put_all cmp (put_pair cmp l p) m ∙ ap (λ keys. put_all (with_key cmp) keys (keys_of m)) (keys_put cmp l p.0 p.1)
