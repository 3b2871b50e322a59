use Rattle.std.proofs.Common.{◌≡◌, ◌∙◌, ap, arith, reverse}
use Rattle.std.specs.List.{zip}
use Rattle.bptree_nodes.specs.Leaf.{Leaf}
use Rattle.bptree_nodes.proofs.Reversed.{reversed_pairs}
use Rattle.bptree_nodes.proofs.leaf_node.LeafNode.reverse.Goals as goal

pub returns : goal.returns
returns g c =
    let inside = c.self.inside in
    let pairs : zip c.reverse.new.self.items c.reverse-2.new.self.items ≡ reverse (zip inside.keys.items inside.values.items) =
    rw (c.reverse.ensures.items, c.reverse-2.ensures.items) (reversed_pairs inside.keys.items inside.values.items (omega (arith, c.self.invariant.0))) in
    ap (λ l. record { pairs = l; prev = inside.prev; next = inside.next }) pairs ∙ ap (λ (l : Leaf g.row.K.Denot g.row.V.Denot). record l { pairs = reverse l.pairs }) c.self.view_is
