use Rattle.std.proofs.Common.{◌≡◌, ◌∙◌, [], rules, ap, arith, length, subst, sym}
use Rattle.std.proofs.lemmas.Result.{IfOk-weaker}
use Rattle.std.specs.Prelude.{IfErr}
use Rattle.std.specs.Vec.Iter.{into_iter_items}
use Rattle.bptree_bulk_load.specs.Rooms.{joined, parts_of}
use Rattle.bptree_bulk.specs.Filling.{AreParts, HaveRooms}
use Rattle.bptree_tree.proofs.Builds.{all_leaves, all_parts, all_pairs}
use Rattle.bptree_tree.proofs.building.build_or_return.Given.{Over}
use Rattle.bptree_tree.proofs.building.build_or_return.Goals.{After-fill_all}
use Rattle.bptree_tree.proofs.building.build_or_return.Goals as goal

count_is : (g : Over) (c : After-fill_all g) → length c.args.pairs.items ≡ c.len-count.result
count_is g c = search rules

-- there is a room for each part of the pairs
have : (g : Over) (c : After-fill_all g) → HaveRooms c.args.pairs.items c.in-Ok.rooms.items
have g c = c.in-Ok.ensures.rooms c.args.pairs.items (search rules)

parts : (g : Over) (c : After-fill_all g) → AreParts c.args.pairs.items (parts_of c.fill_all.new.leaves.items) []
parts g c = all_parts c.args.pairs.items (into_iter_items c.into_iter.result) c.in-Ok.rooms.items c.in-Ok-with_capacity.leaves.items c.fill_all.new.leaves.items c.in-Ok-with_capacity.ensures.items c.into_iter.ensures.rest (have g c) c.fill_all.ensures.leaves

all : (g : Over) (c : After-fill_all g) → joined (parts_of c.fill_all.new.leaves.items) ≡ c.args.pairs.items
all g c = all_pairs c.args.pairs.items (into_iter_items c.into_iter.result) c.in-Ok.rooms.items c.in-Ok-with_capacity.leaves.items c.fill_all.new.leaves.items c.in-Ok-with_capacity.ensures.items c.into_iter.ensures.rest (have g c) c.fill_all.ensures.leaves

pub fill_all-requires-clause-parts : goal.fill_all-requires-clause-parts
fill_all-requires-clause-parts g c =
    let rooms = c.in-Ok.ensures.rooms c.args.pairs.items (search rules) in
    (rooms.0, subst (λ l. AreParts l rooms.0 []) (sym c.into_iter.ensures.rest) rooms.1, ap length c.into_iter-2.ensures.rest ∙ rooms.2)

pub plant_or_return-requires-clause-leaves : goal.plant_or_return-requires-clause-leaves
plant_or_return-requires-clause-leaves g c =
    all_leaves g.met.S.K.Ord.total c.fill_all.new.leaves.items c.args.pairs.items (record { are = parts g (goal.at.plant_or_return-requires-clause-leaves g c).After-fill_all; some = c.requires.some; ascending = c.requires.ascending; few = search rules })

pub plant_or_return-requires-clause-room : goal.plant_or_return-requires-clause-room
plant_or_return-requires-clause-room g c =
    let at = (goal.at.plant_or_return-requires-clause-room g c).After-fill_all in
    omega (arith, ap length (all g at), c.in-Ok-with_capacity-2.ensures.len, c.in-Ok-with_capacity-2.ensures.capacity, count_is g at)

pub returns-clause-contents : goal.returns-clause-contents
returns-clause-contents g c = IfOk-weaker c.plant_or_return.result _ _ (λ _ is. is ∙ all g (goal.at.returns-clause-contents g c).After-fill_all) c.plant_or_return.ensures.contents

pub returns-clause-returned : goal.returns-clause-returned
returns-clause-returned g c = subst (λ l. IfErr c.plant_or_return.result (λ back. back.items ≡ l)) (all g (goal.at.returns-clause-returned g c).After-fill_all) c.plant_or_return.ensures.returned
