use Rattle.std.proofs.Common.{◌≡◌, ap, length, subst, sym, ◌∙◌}
use Rattle.std.specs.Vec.Iter.{into_iter_items}
use Rattle.bptree_bulk_load.specs.Plans.{Frames}
use Rattle.bptree_bulk_load.specs.Rooms.{joined, parts_of}
use Rattle.bptree_bulk.proofs.Tails.{all_filled}
use Rattle.bptree_keys.specs.Contents.{IsAscending}
use Rattle.bptree_bulk.proofs.filling.plant_filling.Given.{Over}
use Rattle.bptree_bulk.proofs.filling.plant_filling.Goals.{After-fill_all}
use Rattle.bptree_bulk.proofs.filling.plant_filling.Goals as goal

-- the leaves have the parts, and these are all pairs
filled : (g : Over) (c : After-fill_all g) → (parts_of c.fill_all.new.leaves.items ≡ c.requires.parts) × (joined (parts_of c.fill_all.new.leaves.items) ≡ c.args.filling.pairs.items)
filled g c =
    let filling = c.args.filling in
    all_filled g.S.K.Ord.cmp g.S.Argument.Argument.is_summary g.S.NodeStore.slots filling filling.pairs.items c.requires (into_iter_items c.into_iter.result) c.fill_all.new.leaves.items c.into_iter.ensures.rest c.fill_all.ensures.leaves

pub plant-requires : goal.plant-requires
plant-requires g c =
    let filled = filled g (goal.at.plant-requires g c).After-fill_all in
    record {
      framed = subst (Frames g.S.K.Ord.cmp g.S.Argument.Argument.is_summary g.S.NodeStore.slots c.args.filling.frame) (sym filled.0) c.requires.framed;
      ascending = subst (IsAscending g.S.K.Ord.cmp) (sym filled.1) c.requires.ascending;
      len = c.requires.count ∙ ap length (sym filled.1);
    }

pub returns-clause-contents : goal.returns-clause-contents
returns-clause-contents g c = c.plant.ensures.contents ∙ (filled g (goal.at.returns-clause-contents g c).After-fill_all).1
