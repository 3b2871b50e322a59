use Rattle.std.proofs.Common.{◌<◌, ◌^◌, length, refl, subst, []}
use Rattle.bptree_invariant.specs.Shape.{pairs_at}
use Rattle.bptree_removal.proofs.Withdrawn.{found_key, withdrawn}
use Rattle.bptree_removal.proofs.removal.remove_by_argument.Goals as goal

pub take_entry-requires : goal.take_entry-requires
take_entry-requires g c =
    let tree = c.args.tree.now in
    let whole = c.recall.ensures.whole in
    let slots = g.S.NodeStore.slots tree.store in
    let few : length (pairs_at slots tree.height tree.root) < 2 ^ 64 = subst (λ l. length l < 2 ^ 64) whole.contents c.recall.ensures.fits in
    found_key g.met.S.K.Ord.total g.S.Argument.Argument.is_summary g.S.Argument.SearchArgument.selects c.args.query slots tree.height tree.root whole.shape few _ c.in_ok-find_path_by_argument.ensures.selected c.in-Some.at.leaf c.in-Some.at.slot c.in-Some.is
    [] c.find_path_by_argument.new.path refl c.in_ok-find_path_by_argument.ensures.way

pub returns-in_ok-take_entry-in-Some-clause-removed : goal.returns-in_ok-take_entry-in-Some-clause-removed
returns-in_ok-take_entry-in-Some-clause-removed g c =
    let tree = c.args.tree.now in
    let whole = c.recall.ensures.whole in
    let slots = g.S.NodeStore.slots tree.store in
    let few : length (pairs_at slots tree.height tree.root) < 2 ^ 64 = subst (λ l. length l < 2 ^ 64) whole.contents c.recall.ensures.fits in
    let key = found_key g.met.S.K.Ord.total g.S.Argument.Argument.is_summary g.S.Argument.SearchArgument.selects c.args.query slots tree.height tree.root whole.shape few _ c.in_ok-find_path_by_argument.ensures.selected c.in-Some.at.leaf c.in-Some.at.slot c.in-Some.is
    [] c.find_path_by_argument.new.path refl c.in_ok-find_path_by_argument.ensures.way in
    let taken = c.in_ok-take_entry-in-Some.ensures.taken key.0 key.1 in
    withdrawn g.met.S.K.Ord.total g.S.Argument.Argument.is_summary g.S.Argument.SearchArgument.selects c.args.query slots tree.height tree.root whole.shape few _ c.in_ok-find_path_by_argument.ensures.selected c.in-Some.at.leaf c.in-Some.at.slot c.in-Some.is
    [] c.find_path_by_argument.new.path refl c.in_ok-find_path_by_argument.ensures.way _ _ _ whole.contents taken.0 taken.1 taken.2
