-- The key of a pair that is found, or `None`.
use Rattle.std.proofs.Common.{◌≡◌, List, [], ◌∷◌, Bool, true, false, cond, Option, Some, refl}
use Rattle.std.specs.declared.cmp.Ordering.{Ordering}
use Rattle.std.specs.Map.{keys_of}
use Rattle.std.specs.Option.{option_map}
use Rattle.std.specs.Ordering.{is_eq}
use Rattle.bptree_map.specs.Keys.{key_found}
use Rattle.bptree_tree.specs.Entries.{entry}

module _ {K V : Type 0} where
  abbrev pub key_of : Option (K × V) → Option K
  key_of = option_map (λ (p : K × V). p.0)

  here : (test : Bool) (p : K × V) (found : Option (K × V)) (key : Option K) → key_of found ≡ key → key_of (cond test (Some p) found) ≡ cond test (Some p.0) key
  here true p found key same = refl
  here false p found key same = same

  -- the key of the pair that is found by a key is the key that is found
  pub entry_key : (cmp : K → K → Ordering) (l : List (K × V)) (k : K) → key_of (entry cmp l k) ≡ key_found cmp (keys_of l) k
  entry_key cmp [] k = refl
  entry_key cmp (p ∷ l) k = here (is_eq (cmp p.0 k)) p (entry cmp l k) (key_found cmp (keys_of l) k) (entry_key cmp l k)

  -- pairs without keys are no pairs
  pub no_pairs : (l : List (K × V)) → keys_of l ≡ [] → l ≡ []
  no_pairs [] none = refl
  no_pairs (p ∷ l) none = absurd (let z : p.0 ∷ keys_of l ≡ [] = none in cc)
