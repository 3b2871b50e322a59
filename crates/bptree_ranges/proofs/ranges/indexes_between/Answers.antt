use Rattle.std.proofs.Common.{arith}
use Rattle.std.specs.Option.{option_copied}
use Rattle.bptree_keys.specs.Ranges.{between}
use Rattle.bptree_ranges.specs.Bounds.{bound_copied}
use Rattle.bptree_ranges.specs.Ranges.{index_on}
use Rattle.bptree_invariant.specs.Shape.{pairs_at}
use Rattle.bptree_ranges.proofs.Bounded.{between_ends, none_settled, settled_between}
use Rattle.bptree_ranges.proofs.Ranged.{settled_itself}
use Rattle.bptree_ranges.proofs.ranges.indexes_between.Goals as goal

pub returns-then-not-can_hold : goal.returns-then-not-can_hold
returns-then-not-can_hold g c =
    let slots = g.S.NodeStore.slots c.args.tree.now.store in
    let pairs = pairs_at slots c.args.tree.now.height c.args.tree.now.root in
    let here = settled_itself g.S.Argument.Argument.is_summary slots c.args.tree.now.height c.args.tree.now.root c.recall.ensures.whole.shape (index_on slots c.args.tree.now.height c.args.tree.now.root c.index_of_bound-first.result) c.settled-front.result c.settled-front.ensures in
    let ends = c.bounds_of in
    let same = between_ends g.S.K.Ord.cmp pairs (option_copied c.args.lo) (option_copied c.args.hi) (bound_copied ends.result.0) (bound_copied ends.result.1) ends.ensures.start ends.ensures.end in
    record {
      front = here;
      back = here;
      rises = omega arith;
      pairs = none_settled g.met.S.K.Ord.total g.S.Argument.Argument.is_summary slots c.args.tree.now.height c.args.tree.now.root c.recall.ensures.whole.shape (bound_copied ends.result.0) (bound_copied ends.result.1) c.can_hold.result c.can_hold.ensures c.if-not-can_hold.true (between g.S.K.Ord.cmp pairs (option_copied c.args.lo) (option_copied c.args.hi)) same (index_on slots c.args.tree.now.height c.args.tree.now.root c.settled-front.result);
    }

pub returns : goal.returns
returns g c =
    let slots = g.S.NodeStore.slots c.args.tree.now.store in
    let pairs = pairs_at slots c.args.tree.now.height c.args.tree.now.root in
    let on = index_on slots c.args.tree.now.height c.args.tree.now.root in
    let sum = g.S.Argument.Argument.is_summary in
    let one = c.settled-front in
    let other = c.settled-back in
    let ends = c.bounds_of in
    let same = between_ends g.S.K.Ord.cmp pairs (option_copied c.args.lo) (option_copied c.args.hi) (bound_copied ends.result.0) (bound_copied ends.result.1) ends.ensures.start ends.ensures.end in
    let found = settled_between g.met.S.K.Ord.total g.S.Argument.Argument.is_summary slots c.args.tree.now.height c.args.tree.now.root c.recall.ensures.whole.shape (bound_copied ends.result.0) (bound_copied ends.result.1) c.can_hold.result c.can_hold.ensures (on c.index_of_bound-first.result) (on c.index_of_bound-behind.result) (on one.result) (on other.result) one.ensures.same other.ensures.same
    c.index_of_bound-first.ensures.before c.index_of_bound-behind.ensures.before c.if-not-can_hold.false (between g.S.K.Ord.cmp pairs (option_copied c.args.lo) (option_copied c.args.hi)) same in
    record {
      front = settled_itself sum slots c.args.tree.now.height c.args.tree.now.root c.recall.ensures.whole.shape (on c.index_of_bound-first.result) one.result one.ensures;
      back = settled_itself sum slots c.args.tree.now.height c.args.tree.now.root c.recall.ensures.whole.shape (on c.index_of_bound-behind.result) other.result other.ensures;
      rises = found.0;
      pairs = found.1;
    }
