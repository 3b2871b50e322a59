use Rattle.std.proofs.Common.{arith}
use Rattle.bptree_map.proofs.ManyLemmas.{columns_more, all_columns}
use Rattle.bptree_map.proofs.map.many.pairs_of.Goals as goal

pub keys-preserved : goal.keys-preserved
keys-preserved g c =
    let i = c.keys.invariant in
    record {
      within = omega arith;
      so_far =
          columns_more g.K.Clone.is_clone c.args.keys.now c.args.values.now c.requires c.keys.at c.keys.pairs.items c.push_reserved.new.self.items c.index-keys-at.result c.index-values-at.result c.in_ok-clone.field-0
          c.keys-test.true c.index-keys-at.is c.index-values-at.is i.so_far c.in_ok-clone.ensures.cases c.push_reserved.ensures.items;
      len = omega (arith, c.push_reserved.ensures.len, i.len);
      room = omega (arith, c.push_reserved.ensures.capacity, i.room);
    }

pub returns : goal.returns
returns g c = all_columns g.K.Clone.is_clone c.args.keys.now c.args.values.now c.requires c.keys.at c.keys.pairs.items (omega arith) c.keys.invariant.so_far
