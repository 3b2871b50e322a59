-- The clones of nodes.
use Rattle.std.specs.Prelude.{◌≡◌, length}
use Rattle.std.specs.List.{AllZip}
use Rattle.bptree_nodes.specs.Inner.{Inner}
use Rattle.bptree_nodes.specs.Leaf.{Leaf}

-- the copy has clones of the pairs in their order, and the same links
pub record IsLeafClone {K V : Type 0} (key_clone : K → K → Type 0) (value_clone : V → V → Type 0) (leaf copy : Leaf K V) : Type 0 where
  pub pairs : AllZip (λ p q. key_clone p.0 q.0 × value_clone p.1 q.1) leaf.pairs copy.pairs
  pub len : length copy.pairs ≡ length leaf.pairs
  pub links : (copy.prev ≡ leaf.prev) × (copy.next ≡ leaf.next)

-- the copy has clones of the keys and of the arguments in their order, and the same children
pub record IsInnerClone {K A : Type 0} (key_clone : K → K → Type 0) (argument_clone : A → A → Type 0) (node copy : Inner K A) : Type 0 where
  pub keys : AllZip key_clone node.keys copy.keys
  pub arguments : AllZip argument_clone node.arguments copy.arguments
  pub children : copy.children ≡ node.children
  pub len : length copy.keys ≡ length node.keys
