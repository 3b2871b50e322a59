use Rattle.std.proofs.Common.{◌∙◌, [], ◌∷◌, ◌++◌, sym, ap, length, not, ◌&&◌, arith, length-append}
use Rattle.std.specs.Option.{option_copied}
use Rattle.bptree_keys.specs.Ranges.{between, falls_short, stays_below}
use Rattle.bptree_tree.proofs.RangeRemovalLemmas.{all_fail, left_on, no_longer}
use Rattle.bptree_tree.proofs.tree.BPlusTree.remove_each.Goals as goal

pub overflow_add-gone : goal.overflow_add-gone
overflow_add-gone g c =
    let now = c.pairs.invariant in
    let lo = option_copied c.args.lo in
    let hi = option_copied c.args.hi in
    let cmp = g.S.K.Ord.cmp in
    let found = rw (c.unwrap.ensures, c.pairs-test.true) at c.drop_first_of.ensures.ok in
    let bound = no_longer (λ pair. not (falls_short cmp lo pair.0) && stays_below cmp hi pair.0) c.args.self.now.contents in
    omega (arith, now.count, ap length now.parts, ap length found.1, length-append now.left (between cmp c.pairs.self-inside.nodes.contents lo hi), bound, ap (λ tree. length tree.contents) c.self.view_is, c.recall.ensures.fits)

pub pairs-preserved : goal.pairs-preserved
pairs-preserved g c =
    let now = c.pairs.invariant in
    let found = rw (c.unwrap.ensures, c.pairs-test.true) at c.drop_first_of.ensures.ok in
    record {
      left = now.left ++ found.0 ∷ [];
      count = omega (arith, now.count, length-append now.left (found.0 ∷ []));
      parts = left_on _ now.left _ _ found.0 now.parts found.1;
      others = found.2 ∙ now.others;
    }

pub returns-clause-rest : goal.returns-clause-rest
returns-clause-rest g c =
    let now = c.pairs.invariant in
    let lo = option_copied c.args.lo in
    let hi = option_copied c.args.hi in
    let cmp = g.S.K.Ord.cmp in
    let none = rw (c.unwrap.ensures, c.pairs-test.false) at c.drop_first_of.ensures.ok in
    none.1 ∙ sym (all_fail (λ pair. not (falls_short cmp lo pair.0) && stays_below cmp hi pair.0) c.pairs.self-inside.nodes.contents none.0) ∙ now.others
