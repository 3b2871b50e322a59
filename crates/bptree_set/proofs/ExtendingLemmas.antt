-- The keys of pairs that are gathered and then put.
use Rattle.std.proofs.Common.{◌≡◌, ◌∙◌, ℕ, List, length, ap, arith}
use Rattle.std.proofs.lemmas.Map.Entries.{length-keys_of}
use Rattle.std.specs.declared.cmp.Ordering.{Ordering}
use Rattle.std.specs.declared.cmp.Ordering.TheVariants.{Equal}
use Rattle.std.specs.Cmp.{IsTotalOrder}
use Rattle.std.specs.List.{AllZip}
use Rattle.std.specs.Map.{keys_of}
use Rattle.bptree_bulk.specs.Weave.{put_all}
use Rattle.bptree_keys.specs.Contents.{gather}
use Rattle.bptree_map.specs.Keys.{gathered, with_key}
use Rattle.bptree_map.specs.Moving.{AreTooMany, AreTooManyKeys, PutsAll, PutsAllKeys}
use Rattle.bptree_map.proofs.ExtendingLemmas.{clones_equal, gathered_alike, length_gather}
use Rattle.bptree_map.proofs.KeyLemmas.{keys_gather}
use Rattle.bptree_map.proofs.MovingLemmas.{keys_put_all}

module _ {K V : Type 0} (cmp : K → K → Ordering) (pairs old : List (K × V)) (keys : List K) (is : keys_of pairs ≡ keys) where
  -- if pairs are put, their keys are put
  pub keys_put_gathered : (new : List (K × V)) → PutsAll cmp pairs old new → PutsAllKeys cmp keys (keys_of old) (keys_of new)
  keys_put_gathered new put =
      ap keys_of put ∙ (keys_put_all cmp old (gather cmp pairs) ∙ ap (put_all (with_key cmp) (keys_of old)) (keys_gather cmp pairs ∙ ap (gathered cmp) is))

  -- if there are too many pairs, there are too many keys
  pub too_many_keys : (most : ℕ) → AreTooMany cmp most pairs old → AreTooManyKeys cmp most keys (keys_of old)
  too_many_keys most many =
      let as_many = length_gather cmp pairs ∙ ap (λ l. length (gathered cmp l)) is in
      omega (arith, many, as_many, length-keys_of old)

-- if there are too many clones, there are too many keys that they are clones of
pub too_many_cloned : {K : Type 0} {cmp : K → K → Ordering} → IsTotalOrder cmp → (is_clone : K → K → Type 0) → ((k c : K) → is_clone k c → cmp k c ≡ Equal)
    → (keys clones old : List K) → AllZip is_clone keys clones → (most : ℕ) → AreTooManyKeys cmp most clones old → AreTooManyKeys cmp most keys old
too_many_cloned total is_clone equal keys clones old all most many =
    let as_many = gathered_alike total keys clones (clones_equal is_clone equal keys clones all) in
    omega (arith, many, as_many)
