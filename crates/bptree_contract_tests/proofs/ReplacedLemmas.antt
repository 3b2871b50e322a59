-- A key that replaced an equal key is stored.
use Rattle.std.proofs.Common.{◌≡◌, ◌∙◌, false, List, Option, Some, None, ap, refl, sym}
use Rattle.std.specs.Cmp.{IsTotalOrder}
use Rattle.std.specs.declared.cmp.Ordering.{Ordering}
use Rattle.std.specs.declared.cmp.Ordering.TheVariants.{Equal}
use Rattle.std.specs.Option.{option_map}
use Rattle.bptree_contract_tests.specs.Words.{StoresKey}
use Rattle.bptree_keys.specs.Contents.{IsAscending, del, has, pairs_above, pairs_below}
use Rattle.bptree_keys.specs.Keys.{equal_if_same}
use Rattle.bptree_keys.specs.Indexes.{IsHit}
use Rattle.bptree_keys.proofs.Ascending.{gap_if_absent}
use Rattle.bptree_keys.proofs.Parted.{put_gap}
use Rattle.bptree_keys.proofs.Updates.{del_ascending, has_del}
use Rattle.bptree_tree.specs.Changes.{ReplacesKeyOf}
use Rattle.bptree_tree.specs.Entries.{entry}
use Rattle.bptree_tree.proofs.EntryLemmas.{entry_absent, entry_hit, entry_value}

module _ {K V : Type 0} (cmp : K → K → Ordering) (k gone : K) (old new : List (K × V)) (done : ReplacesKeyOf cmp k old new gone) where
  pub stores : IsTotalOrder cmp → IsAscending cmp old → StoresKey cmp k old new
  stores total sorted =
      let v = done.0 in
      let itself : cmp k k ≡ Equal = equal_if_same total k k refl in
      let left = del cmp old k in
      let absent : has cmp left k ≡ false = has_del cmp total old sorted k k ∙ rw itself refl in
      let gap = gap_if_absent cmp total left k (del_ascending cmp old k sorted) absent in
      let hit : IsHit cmp new (pairs_below cmp left k) (k, v) (pairs_above cmp left k) k = record { parts = done.2 ∙ put_gap cmp left _ _ k gap v; smaller = gap.smaller; equal = itself; greater = gap.greater } in
      (v, entry_hit cmp new _ (k, v) _ k hit, sym (entry_value cmp old k) ∙ ap (option_map (λ (pair : K × V). pair.1)) done.1)

  -- A replaced key was present.
  pub never_absent : has cmp old k ≡ false → ⊥
  never_absent absent = let z : ◌≡◌ {A = Option (K × V)} (Some (gone, done.0)) None = sym done.1 ∙ entry_absent cmp old k absent in cc
