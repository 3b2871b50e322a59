use Rattle.std.proofs.Common.{◌≡◌, ◌∷◌, [], ◌++◌, length, length-append, ap, subst, ◌∙◌, arith, rules}
use Rattle.std.specs.Option.{option_to_list}
use Rattle.std.specs.Vec.Iter.{into_iter_items}
use Rattle.bptree_nodes.specs.Inner.{Inner}
use Rattle.bptree_bulk_load.specs.Steps.{IsLayerAbove}
use Rattle.bptree_bulk_load.proofs.Gathered.{above_first, above_more}
use Rattle.bptree_bulk_load.proofs.inner_layer.take_trees.Goals as goal

pub children-init : goal.children-init
children-init g c = record {
  above = above_first _ c.adopt.new.self c.unwrap-root.result _ (c.next.ensures.items ∙ ap (λ r. option_to_list r ++ into_iter_items c.next.new.self) c.unwrap-root.ensures) c.adopt.ensures;
  some = rw c.adopt.ensures (omega arith);
  within = rw c.adopt.ensures (omega (arith, c.requires.count.0));
  counted = search rules;
}

pub children-preserved : goal.children-preserved
children-preserved g c =
    let long = ap (λ (n : Inner _ _). length n.children) c.push.ensures in
    let more = length-append c.children.node.children (c.unwrap-child.result.root ∷ []) in
    record {
      above = above_more _ c.children.node c.push.new.self _ _ c.unwrap-child.result _ c.children.invariant.above (c.next-in-children.ensures.items ∙ ap (λ r. option_to_list r ++ into_iter_items c.next-in-children.new.self) c.unwrap-child.ensures) c.push.ensures;
      some = omega (arith, long, more);
      within = omega (arith, long, more, c.children.invariant.some, c.len.ensures.value, c.len.ensures.fits.children, c.children-test.true);
      counted = search rules;
    }

pub returns-clause-above : goal.returns-clause-above
returns-clause-above g c =
    let all : length c.children.node.children ≡ c.args.count = omega (arith, c.children.invariant.within, c.children.invariant.some, c.len.ensures.value, c.len.ensures.fits.children, c.children-test.false) in
    subst (λ n. IsLayerAbove (into_iter_items c.args.trees.now) n c.children.node c.unwrap-root.result.first (into_iter_items c.children.trees)) all c.children.invariant.above
