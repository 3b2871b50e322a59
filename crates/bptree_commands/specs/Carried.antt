-- What requests do to the pairs of a tree, if they succeed.
use Rattle.std.specs.Prelude.{◌≡◌, ℕ, List, Option, Result, OnOk}
use Rattle.bptree_propagation.specs.NodeTree.{NodeTree}
use Rattle.bptree_protocol.specs.declared.Request.{Request}
use Rattle.bptree_commands.specs.ReplyLists.{pairs_with, pairs_after_all}
use Rattle.bptree_commands.specs.Clipped.{clipped_after}

module _ {S A T E : Type 0} (old new : NodeTree S ℕ ℕ A) where
  -- If the result is `Ok`, the tree has the pairs after the request.
  abbrev pub CarriesOut : Option Request → Result T E → Type 0
  CarriesOut request r = OnOk r (new.contents ≡ pairs_with old.contents request)

  -- If the result is `Ok`, the tree has the pairs after the lines that end in these bytes, where
  -- the first line begins with the kept bytes.
  abbrev pub CarriesOutAll : List ℕ → List ℕ → Result T E → Type 0
  CarriesOutAll kept bytes r = OnOk r (new.contents ≡ pairs_after_all old.contents (clipped_after kept bytes))
