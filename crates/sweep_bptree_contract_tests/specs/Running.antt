-- The list that commands leave in the nodes of a tree.
use Rattle.std.specs.Prelude.{ℕ, List, [], Option}
use Rattle.std.specs.declared.cmp.Ordering.{Ordering}
use Rattle.bptree_nodes.specs.Inner.{Inner}
use Rattle.bptree_nodes.specs.Leaf.{Leaf}
use Rattle.bptree_nodes.specs.Slot.{Slots}
use Rattle.bptree_invariant.specs.NodeTree.{NodeTree}
use Rattle.bptree_invariant.specs.Shape.{pairs_at}
use Rattle.bptree_commands.specs.Steps.{Run}
use Rattle.bptree_commands.specs.declared.commands.Command.{Command}
use Rattle.bptree_commands.specs.declared.commands.Reply.{Reply}

-- The commands may have these replies, and the nodes then have the list that the commands leave.
abbrev pub EndsInNodes : {S K V A Q R : Type 0} → (S → Slots (Inner K A) (Leaf K V)) → (K → K → Ordering) → (Q → List K → Option ℕ → Type 0) → (K → List K → R → Type 0) → NodeTree S K V A → NodeTree S K V A → List (Command K V Q) → List (Reply K V R) → Type 0
EndsInNodes {K = K} slots cmp selects ranks old new commands replies =
    (held : List K) × Run cmp selects ranks old.contents [] commands replies (pairs_at (slots new.store) new.height new.root) held
