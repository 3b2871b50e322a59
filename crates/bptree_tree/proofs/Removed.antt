-- A pair was removed from a list: what a tree's contract states of it.
use Rattle.std.proofs.Common.{◌∙◌, ℕ, List, Option, Some, None, refl, sym}
use Rattle.std.specs.Prelude.{Bool}
use Rattle.std.specs.declared.cmp.Ordering.{Ordering}
use Rattle.std.specs.Cmp.{IsTotalOrder}
use Rattle.bptree_keys.specs.Contents.{IsAscending}
use Rattle.bptree_keys.proofs.Ascending.{gap_if_absent}
use Rattle.bptree_keys.proofs.Parted.{del_gap}
use Rattle.bptree_search.specs.ByArgument.{IsTaken}
use Rattle.bptree_removal.proofs.Deleted.{deleted_at}
use Rattle.bptree_removal.specs.Removal.{RemovesEnd, RemovesKeyFrom, RemovesSelected}
use Rattle.bptree_removal.specs.Replacement.{RekeysPairs}
use Rattle.bptree_invariant.proofs.ListReads.{read_below}
use Rattle.bptree_tree.proofs.EndLemmas.{end_taken, none_taken}
use Rattle.bptree_tree.proofs.EntryLemmas.{entry_absent, entry_at}
use Rattle.bptree_tree.specs.Changes.{PopsEnd, RemovesEntry, RemovesReported, ReplacesKeyOf}

pub entry_removed : {K V : Type 0} {cmp : K → K → Ordering} → IsTotalOrder cmp → (k : K) (old new : List (K × V)) → IsAscending cmp old → (gone : Option (K × V)) → RemovesKeyFrom old new cmp k gone → RemovesEntry cmp k old new gone
entry_removed {cmp = cmp} total k old new sorted None (absent, same) = (sym (entry_absent cmp old k absent), same ∙ sym (del_gap cmp old _ _ k (gap_if_absent cmp total old k sorted absent)))
entry_removed {cmp = cmp} total k old new sorted (Some pair) (index, was, equal, is) = (sym (entry_at total old index pair k sorted was equal), is)

pub key_replaced : {K V : Type 0} {cmp : K → K → Ordering} → IsTotalOrder cmp → (k : K) (old new : List (K × V)) → IsAscending cmp old → (gone : K) → RekeysPairs cmp k old new gone → ReplacesKeyOf cmp k old new gone
key_replaced total k old new sorted gone (index, v, was, equal, is) = (v, entry_at total old index (gone, v) k sorted was equal, is)

pub end_removed : {K V : Type 0} (is_last : Bool) (old new : List (K × V)) (gone : Option (K × V)) → RemovesEnd old new is_last gone → PopsEnd is_last old new gone
end_removed is_last old new None (none, same) = none_taken is_last old new none (same ∙ none)
end_removed is_last old new (Some pair) (was, is) = end_taken new pair is_last old was is

module _ {K V Q : Type 0} (selects : Q → List K → Option ℕ → Type 0) (query : Q) where
  pub selected_removed : (old new : List (K × V)) (gone : Option (K × V)) → RemovesSelected old new selects query gone → IsTaken selects query old new gone
  selected_removed old new None (none, same) = (None, tt, none, refl, same)
  selected_removed old new (Some pair) (index, selected, (was, is)) = (Some index, read_below old index pair was, selected, sym was, is)

  pub reported_removed : {cmp : K → K → Ordering} → IsTotalOrder cmp → (old new : List (K × V)) → IsAscending cmp old → (gone : Option (K × V)) → RemovesSelected old new selects query gone → RemovesReported cmp old new gone
  reported_removed total old new sorted None (none, same) = same
  reported_removed total old new sorted (Some pair) (index, selected, (was, is)) = is ∙ deleted_at total old index pair sorted was
