-- Leaves that are planned one after another, and the frame of them all.
use Rattle.std.proofs.Common.{◌≡◌, ◌<◌, ◌≤◌, ◌^◌, ℕ, suc, sym, ap, refl, List, [], ◌∷◌, ◌++◌, length, arith}
use Rattle.std.specs.List.{AllByRecursion}
use Rattle.std.specs.Map.{keys_of}
use Rattle.std.specs.declared.cmp.Ordering.{Ordering}
use Rattle.bptree_propagation.specs.Change.{StartsAt}
use Rattle.bptree_keys.specs.declared.node_id.LeafNodeId.{LeafNodeId}
use Rattle.bptree_nodes.specs.Inner.{Inner}
use Rattle.bptree_nodes.specs.Leaf.{Leaf}
use Rattle.bptree_nodes.specs.Slot.{Slots}
use Rattle.bptree_bulk_load.specs.Layer.{RaisesAll}
use Rattle.bptree_bulk_load.specs.Rooms.{joined, AddsRoom, AreAllPlanned, ArePlanned, FitsRoom, IsFrame}
use Rattle.bptree_bulk_load.specs.Steps.{leaf_tree}
use Rattle.bptree_bulk_load.specs.declared.building.Built.{Built}
use Rattle.bptree_bulk_load.specs.declared.subtree.Subtree.{Subtree}
use Rattle.bptree_bulk_load.proofs.Planted.{fits_end, ready_more}

module _ {K V A : Type 0} (cmp : K → K → Ordering) (is_summary : A → List K → Type 0) where
  pub planned_more : (old new : Slots (Inner K A) (Leaf K V)) (ids ids' : List LeafNodeId) (trees trees' : List (Subtree K A)) (first : K) (summary : A) → AddsRoom old new ids ids' trees trees' first summary → (parts : List (List (K × V))) (part : List (K × V)) → ArePlanned cmp is_summary old ids trees parts → length part ≤ 64
      → StartsAt cmp first part → is_summary summary (keys_of part) → ArePlanned cmp is_summary new ids' trees' (parts ++ part ∷ [])
  planned_more old new ids ids' trees trees' first summary (id, added) parts part planned most starts reported = record {
    ready = ready_more cmp is_summary old new ids ids' trees trees' first summary id added planned.ready;
    fits = rw (added.trees_are, added.ids_are) (fits_end cmp is_summary 0 trees ids parts (leaf_tree id first summary) id part planned.fits (record { root = refl; enough = omega arith; most = most; starts = starts; reported = reported }));
  }

  trees_long : (least : ℕ) (trees : List (Subtree K A)) (ids : List LeafNodeId) (parts : List (List (K × V))) → FitsRoom cmp is_summary least trees ids parts → length trees ≡ length parts
  trees_long least [] [] [] fits = refl
  trees_long least [] [] (part ∷ parts) fits = absurd fits
  trees_long least [] (id ∷ ids) parts fits = absurd fits
  trees_long least (tree ∷ trees) [] parts fits = absurd fits
  trees_long least (tree ∷ trees) (id ∷ ids) [] fits = absurd fits
  trees_long least (tree ∷ trees) (id ∷ ids) (part ∷ parts) fits = ap suc (trees_long least trees ids parts fits.1)

  fits_with : (least : ℕ) (trees : List (Subtree K A)) (ids : List LeafNodeId) (parts : List (List (K × V))) → FitsRoom cmp is_summary 0 trees ids parts → AllByRecursion (λ (part : List (K × V)). least ≤ length part) parts → FitsRoom cmp is_summary least trees ids parts
  fits_with least [] [] [] fits enough = tt
  fits_with least [] [] (part ∷ parts) fits enough = absurd fits
  fits_with least [] (id ∷ ids) parts fits enough = absurd fits
  fits_with least (tree ∷ trees) [] parts fits enough = absurd fits
  fits_with least (tree ∷ trees) (id ∷ ids) [] fits enough = absurd fits
  fits_with least (tree ∷ trees) (id ∷ ids) (part ∷ parts) fits enough = (
    record { root = fits.0.root; enough = enough.0; most = fits.0.most; starts = fits.0.starts; reported = fits.0.reported },
    fits_with least trees ids parts fits.1 enough.1,
  )

  module _ (old new : Slots (Inner K A) (Leaf K V)) (ids : List LeafNodeId) (trees : List (Subtree K A)) (built : Built A) where
    fits_all : (parts : List (List (K × V))) → AreAllPlanned cmp is_summary old ids trees parts → (least : ℕ) × (1 < length trees → 16 ≤ least) × FitsRoom cmp is_summary least trees ids parts
    fits_all [] all = absurd (omega (arith, all.some))
    fits_all (part ∷ []) all = (0, (λ several. absurd (omega (arith, several, trees_long 0 trees ids (part ∷ []) all.planned.fits))), all.planned.fits)
    fits_all (part ∷ next ∷ parts) all = (16, (λ several. omega arith), fits_with 16 trees ids (part ∷ next ∷ parts) all.planned.fits (all.many (omega arith)))

    pub framed : RaisesAll cmp is_summary old new trees built → (parts : List (List (K × V))) → AreAllPlanned cmp is_summary old ids trees parts → IsFrame cmp is_summary new ids built parts
    framed raises parts all =
        let fits = fits_all parts all in
        record {
          least = fits.0;
          trees = trees;
          many = fits.1;
          fits = fits.2;
          base = old;
          ready = all.planned.ready;
          same = raises.0;
          raises = λ leaves layer. raises.1 leaves (joined parts) all.ascending all.few layer;
        }
