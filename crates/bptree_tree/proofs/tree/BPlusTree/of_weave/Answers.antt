use Rattle.std.proofs.Common.{◌≡◌, ◌∙◌, ◌++◌, [], ap, arith, length, subst, sym}
use Rattle.bptree_bulk_load.specs.Plans.{Frames}
use Rattle.bptree_bulk_load.specs.Rooms.{joined, parts_of}
use Rattle.bptree_bulk.specs.Filling.{AreParts}
use Rattle.bptree_bulk.specs.Weave.{woven}
use Rattle.bptree_bulk.proofs.Tails.{joined_parts}
use Rattle.bptree_bulk.proofs.Weaves.{woven_is, woven_length}
use Rattle.bptree_keys.specs.Contents.{IsAscending}
use Rattle.bptree_tree.proofs.tree.BPlusTree.of_weave.Given.{Over}
use Rattle.bptree_tree.proofs.tree.BPlusTree.of_weave.Goals.{After-weave_all}
use Rattle.bptree_tree.proofs.tree.BPlusTree.of_weave.Goals as goal

-- the leaves have the parts, and these are the pairs of all steps
filled : (g : Over) (c : After-weave_all g)
    → (parts_of c.weave_all.new.leaves.items ≡ c.requires.parts) × (joined (parts_of c.weave_all.new.leaves.items) ≡ woven c.args.weave.steps.items c.args.first.contents c.args.second.contents)
filled g c =
    let steps = c.args.weave.steps.items in
    let a = c.args.first.contents in
    let b = c.args.second.contents in
    let one = c.first.inside.nodes.contents in
    let other = c.second.inside.nodes.contents in
    let items : woven c.deref.result.now one other ≡ woven steps a b =
    ap (λ s. woven s one other) c.deref.ensures.value ∙ (ap (λ l. woven steps l other) (ap (λ t. t.contents) c.first.view_is) ∙ ap (woven steps a) (ap (λ t. t.contents) c.second.view_is)) in
    let is = c.requires in
    let taken = c.weave_all.ensures is.parts (subst (λ l. AreParts l is.parts []) (sym items) is.are) ∙ ap (λ l. parts_of l ++ is.parts) is.leaves.0 in
    (taken, ap joined taken ∙ joined_parts (woven steps a b) is.parts is.are)

pub plant-requires : goal.plant-requires
plant-requires g c =
    let filled = filled g (goal.at.plant-requires g c).After-weave_all in
    let long = woven_length g.S.K.Ord.cmp c.args.weave.steps.items c.args.first.contents c.args.second.contents [] [] c.requires.weaves in
    record {
      framed = subst (Frames g.S.K.Ord.cmp g.S.Argument.Argument.is_summary g.S.NodeStore.slots c.args.weave.frame) (sym filled.0) c.requires.framed;
      ascending = subst (IsAscending g.S.K.Ord.cmp) (sym filled.1) c.requires.ascending;
      len = omega (arith, c.len.ensures, long, ap length filled.1);
    }

pub returns-clause-contents : goal.returns-clause-contents
returns-clause-contents g c =
    let filled = filled g (goal.at.returns-clause-contents g c).After-weave_all in
    ap (λ t. t.contents) c.of_nodes.ensures ∙ (c.plant.ensures.contents ∙ (filled.1 ∙ woven_is g.S.K.Ord.cmp g.met.S.K.Ord.total c.args.weave.steps.items c.args.first.contents c.args.second.contents c.recall_whole.ensures.ascending c.recall_whole-2.ensures.ascending c.requires.weaves))
