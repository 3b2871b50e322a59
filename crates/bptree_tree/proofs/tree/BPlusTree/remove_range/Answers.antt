use Rattle.std.proofs.Common.{◌≡◌, ◌≢◌, ◌∙◌, ◌-◌, ◌≤◌, ◌&&◌, [], not, subst, sym}
use Rattle.std.specs.Option.{option_copied}
use Rattle.bptree_bulk.specs.Positions.{index_of_position}
use Rattle.bptree_keys.specs.Ranges.{between, falls_short, part, stays_below}
use Rattle.bptree_tree.proofs.GapLemmas.{outside_between, some_part}
use Rattle.bptree_tree.proofs.RangeRemovalLemmas.{all_fail, some_not_none}
use Rattle.bptree_tree.proofs.tree.BPlusTree.remove_range.Given.{Over}
use Rattle.bptree_tree.proofs.tree.BPlusTree.remove_range.Goals.{After-len-len}
use Rattle.bptree_tree.proofs.tree.BPlusTree.remove_range.Goals as goal

-- a pair is between the ends
some_between : (g : Over) (c : After-len-len g) → between g.S.K.Ord.cmp c.args.self.now.contents (option_copied c.args.lo) (option_copied c.args.hi) ≢ []
some_between g c =
    subst (λ t. between g.S.K.Ord.cmp t.contents (option_copied c.args.lo) (option_copied c.args.hi) ≢ []) c.self.view_is
    (some_not_none _ _ _ (sym (c.pairs_from.ensures.rest _ c.part_between.ensures) ∙ c.in-Some.ensures.steps))

-- the pairs between the ends are those between the positions
between_indexes : (g : Over) (c : After-len-len g)
    → between g.S.K.Ord.cmp c.args.self.now.contents (option_copied c.args.lo) (option_copied c.args.hi) ≡ part c.args.self.now.contents (index_of_position g.S.NodeStore.slots c.args.self.now c.indexes_between.result.0) (index_of_position g.S.NodeStore.slots c.args.self.now c.indexes_between.result.1 - index_of_position g.S.NodeStore.slots c.args.self.now c.indexes_between.result.0)
between_indexes g c =
    let tree = c.self.inside.nodes in
    let slots = g.S.NodeStore.slots in
    let front = c.indexes_between.result.0 in
    let back = c.indexes_between.result.1 in
    subst (λ t. between g.S.K.Ord.cmp t.contents (option_copied c.args.lo) (option_copied c.args.hi) ≡ part t.contents (index_of_position slots t front) (index_of_position slots t back - index_of_position slots t front)) c.self.view_is
    (subst (λ l. between g.S.K.Ord.cmp l (option_copied c.args.lo) (option_copied c.args.hi) ≡ part l (index_of_position slots tree front) (index_of_position slots tree back - index_of_position slots tree front)) (sym c.recall.ensures.whole.contents) c.indexes_between.ensures.pairs)

rises : (g : Over) (c : After-len-len g) → index_of_position g.S.NodeStore.slots c.args.self.now c.indexes_between.result.0 ≤ index_of_position g.S.NodeStore.slots c.args.self.now c.indexes_between.result.1
rises g c = subst (λ t. index_of_position g.S.NodeStore.slots t c.indexes_between.result.0 ≤ index_of_position g.S.NodeStore.slots t c.indexes_between.result.1) c.self.view_is c.indexes_between.ensures.rises

pub returns-in_default-clause-rest : goal.returns-in_default-clause-rest
returns-in_default-clause-rest g c =
    let lo = option_copied c.args.lo in
    let hi = option_copied c.args.hi in
    let cmp = g.S.K.Ord.cmp in
    let none = sym (c.pairs_from.ensures.rest _ c.part_between.ensures) ∙ c.in_default.ensures.steps.0 in
    sym (all_fail (λ pair. not (falls_short cmp lo pair.0) && stays_below cmp hi pair.0) c.args.self.now.contents (subst (λ t. between cmp t.contents lo hi ≡ []) c.self.view_is none))

pub drop_between-requires-clause-order : goal.drop_between-requires-clause-order
drop_between-requires-clause-order g c =
    let at = (goal.at.drop_between-requires-clause-order g c).After-len-len in
    let slots = g.S.NodeStore.slots in
    let tree = c.args.self.now in
    some_part (index_of_position slots tree c.indexes_between.result.0) (index_of_position slots tree c.indexes_between.result.1) tree.contents (rises g at) (λ none. some_between g at (between_indexes g at ∙ none))

pub returns-then-never_fails-clause-empty : goal.returns-then-never_fails-clause-empty
returns-then-never_fails-clause-empty g c = λ none. absurd (some_between g (goal.at.returns-then-never_fails-clause-empty g c).After-len-len none)

pub returns-in-Ok-clause-rest : goal.returns-in-Ok-clause-rest
returns-in-Ok-clause-rest g c =
    let at = (goal.at.returns-in-Ok-clause-rest g c).After-len-len in
    let slots = g.S.NodeStore.slots in
    let tree = c.args.self.now in
    c.in-Ok.ensures.ok ∙ sym (outside_between g.S.K.Ord.cmp (option_copied c.args.lo) (option_copied c.args.hi) (index_of_position slots tree c.indexes_between.result.0) (index_of_position slots tree c.indexes_between.result.1) tree.contents (rises g at) (between_indexes g at))

pub returns-in-Ok-clause-empty : goal.returns-in-Ok-clause-empty
returns-in-Ok-clause-empty g c = λ none. absurd (some_between g (goal.at.returns-in-Ok-clause-empty g c).After-len-len none)
