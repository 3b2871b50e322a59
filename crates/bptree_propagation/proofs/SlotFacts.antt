-- Facts of a slot that is present, or that is not held.
use Rattle.std.proofs.Common.{◌≡◌, false, refl, ap}
use Rattle.bptree_propagation.specs.Climb.{is_held}
use Rattle.bptree_nodes.specs.Leaf.{Leaf}
use Rattle.bptree_nodes.specs.Slot.{Slot, Free, Held, Present, IsPresent}
use Rattle.bptree_invariant.specs.Shape.{leaf_next}

pub node_of : {N : Type 0} (s : Slot N) → IsPresent s → (node : N) × (s ≡ Present node)
node_of Free there = absurd there
node_of Held there = absurd there
node_of (Present node) there = (node, refl)

pub none_is : {N : Type 0} (slot : Slot N) → (slot ≡ Held → ⊥) → is_held slot ≡ false
none_is Free none = refl
none_is Held none = absurd (none refl)
none_is (Present node) none = refl

pub next_seen : {K V : Type 0} (slot : Slot (Leaf K V)) (leaf : Leaf K V) → slot ≡ Present leaf → leaf_next slot ≡ leaf.next
next_seen slot leaf e = ap leaf_next e
