-- How pairs that were put are taken back.
use Rattle.std.specs.Prelude.{◌≡◌, ◌+◌, ◌≤◌, false, List, [], ◌∷◌, ◌++◌, length, reverse, vec_capacity, vec_len, Some}
use Rattle.std.specs.declared.cmp.Ordering.{Ordering}
use Rattle.std.specs.declared.cmp.Ordering.TheVariants.{Equal}
use Rattle.std.specs.declared.vec.Vec.{Vec}
use Rattle.bptree_bulk.specs.Weave.{put_pair}
use Rattle.bptree_keys.specs.Contents.{has, value, IsAscending}
use Rattle.bptree_invariant.specs.NodeTree.{NodeTree}
use Rattle.bptree_tree.specs.declared.tree.merging.Undo.{Undo}
use Rattle.bptree_tree.specs.declared.tree.merging.Undo.TheVariants.{Inserted, Replaced}

module _ {K V : Type 0} (cmp : K → K → Ordering) where
  -- a pair that is put into a list can be taken back: by a key that equals its key, or with the
  -- value that was there
  abbrev pub CanUndo : Undo K V → K × V → List (K × V) → Type 0
  CanUndo (Inserted c) pair l = (has cmp l pair.0 ≡ false) × (cmp pair.0 c ≡ Equal)
  CanUndo (Replaced k old) pair l = (pair.0 ≡ k) × (value cmp l k ≡ Some old)

  -- pairs that are put one after another can be taken back
  abbrev pub CanUndoAll : List (Undo K V) → List (K × V) → List (K × V) → List (K × V) → Type 0
  CanUndoAll [] [] l new = new ≡ l
  CanUndoAll [] (p ∷ ps) l new = ⊥
  CanUndoAll (e ∷ es) [] l new = ⊥
  CanUndoAll (e ∷ es) (p ∷ ps) l new = CanUndo e p l × CanUndoAll es ps (put_pair cmp l p) new

  -- the entry that takes a pair back is appended to the other entries
  abbrev pub Notes : {Z : Type 0} → K × V → List (K × V) → Vec (Undo K V) Z → Vec (Undo K V) Z → Type 0
  Notes pair l old new = (entry : Undo K V) × (new.items ≡ old.items ++ entry ∷ []) × CanUndo entry pair l

  -- a pair was put, and the entry that takes it back is appended to the other entries
  pub record NotesPut {Z : Type 0} (l new : List (K × V)) (undo undo' : Vec (Undo K V) Z) : Type 0 where
    pub pair : K × V
    pub put : new ≡ put_pair cmp l pair
    pub noted : Notes pair l undo undo'

  module _ (entry : Undo K V) (now : List (K × V)) where
    -- a pair was put into an ascending list, and the entry takes it back
    abbrev pub WasPut : Type 0
    WasPut = (pair : K × V) × (l : List (K × V)) × IsAscending cmp l × CanUndo entry pair l × (now ≡ put_pair cmp l pair)

    -- the result is the pair that was put, or the list that it was put into
    abbrev pub Returns : K × V → Type 0
    Returns found = (pair : K × V) (l : List (K × V)) → IsAscending cmp l → CanUndo entry pair l → now ≡ put_pair cmp l pair → found ≡ pair

    abbrev pub Undoes : List (K × V) → Type 0
    Undoes new = (pair : K × V) (l : List (K × V)) → IsAscending cmp l → CanUndo entry pair l → now ≡ put_pair cmp l pair → new ≡ l

  -- pairs were put into an ascending list, and the entries take them back
  abbrev pub WerePut : List (Undo K V) → List (K × V) → Type 0
  WerePut undo now = (moved : List (K × V)) × (l : List (K × V)) × IsAscending cmp l × CanUndoAll undo moved l now

  module _ {S A Z : Type 0} (undo : Vec (Undo K V) Z) (old new : NodeTree S K V A) where
    -- the tree has the pairs that it had before these were put; these move behind others, the last
    -- one first
    abbrev pub UndoesAll : {Y : Type 0} → Vec (K × V) Y → Vec (K × V) Y → Type 0
    UndoesAll pairs pairs' =
        (moved : List (K × V)) (l : List (K × V)) → IsAscending cmp l → CanUndoAll undo.items moved l old.contents
        → (new.contents ≡ l) × (pairs'.items ≡ pairs.items ++ reverse moved)

    -- the pairs before this one were put, and can be taken back
    abbrev pub StopsAt : List (K × V) → List (K × V) → K × V → Type 0
    StopsAt rest rest' pair =
        (moved : List (K × V)) × (rest ≡ moved ++ pair ∷ rest') × CanUndoAll undo.items moved old.contents new.contents × (length undo.items ≡ length moved)

    -- some pairs were put and can be taken back, and a vector has room for them
    abbrev pub StopsWithin : {Y : Type 0} → Vec (K × V) Y → Type 0
    StopsWithin rest =
        (moved : List (K × V)) × CanUndoAll undo.items moved old.contents new.contents × (vec_len rest + length undo.items ≤ vec_capacity rest)
