use Rattle.std.proofs.Common.{ap, ◌∙◌, ◌++◌, arith, rules}
use Rattle.std.specs.Option.{option_to_list}
use Rattle.std.specs.Vec.Iter.{into_iter_items}
use Rattle.bptree_nodes.proofs.Pairs.{pair_moved}
use Rattle.bptree_nodes.proofs.moves.move_pairs.Goals as goal

pub unwrap-key-requires : goal.unwrap-key-requires
unwrap-key-requires g c =
    c.next.ensures.variant.1 (omega (arith, c.pairs.invariant.left, c.len.ensures, c.pairs-test.true, c.requires.some, c.requires.counted))

pub pairs-preserved : goal.pairs-preserved
pairs-preserved g c = record {
  moved = rw (c.push_reserved.ensures.items, c.push_reserved-in-pairs.ensures.items)
      (pair_moved (into_iter_items c.args.pairs.now) c.pairs.first.items c.pairs.second.items (into_iter_items c.pairs.rest) (into_iter_items c.next.new.self) c.unwrap-key.result c.pairs.invariant.moved (c.next.ensures.items ∙ ap (λ r. option_to_list r ++ into_iter_items c.next.new.self) c.unwrap-key.ensures) (omega arith));
  lengths = search rules;
  within = search rules;
  left = search rules;
  counted = search rules;
  capacity = search rules;
  value_capacity = search rules;
}
