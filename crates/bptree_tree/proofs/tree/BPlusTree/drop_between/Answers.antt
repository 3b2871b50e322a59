use Rattle.std.proofs.Common.{◌≡◌, ◌∙◌, ◌<◌, ℕ, List, [], ap, arith, length, subst, sym}
use Rattle.std.proofs.lemmas.List.{drop_all}
use Rattle.bptree_bulk.specs.Gap.{without_part}
use Rattle.bptree_bulk.specs.Positions.{IsAtPair, index_of_position}
use Rattle.bptree_bulk.specs.Removing.{IsRemoval}
use Rattle.bptree_tree.specs.Whole.{IsWhole}
use Rattle.bptree_tree.proofs.tree.BPlusTree.drop_between.Goals as goal

-- nothing is left of a list without all its members
without_all : {X : Type 0} → (from to : ℕ) (l : List X) → from ≡ 0 → to ≡ length l → without_part from to l ≡ []
without_all from to l first last = rw (first, last) (drop_all (length l) l (omega arith))

pub plan_drop-requires-clause-lo : goal.plan_drop-requires-clause-lo
plan_drop-requires-clause-lo g c = subst (λ t. IsAtPair g.S.NodeStore.slots t c.args.lo) (sym c.self.view_is) c.requires.lo

pub plan_drop-requires-clause-hi : goal.plan_drop-requires-clause-hi
plan_drop-requires-clause-hi g c = subst (λ t. IsAtPair g.S.NodeStore.slots t c.args.hi) (sym c.self.view_is) c.requires.hi

pub plan_drop-requires-clause-order : goal.plan_drop-requires-clause-order
plan_drop-requires-clause-order g c =
    subst (λ t. index_of_position g.S.NodeStore.slots t c.args.lo < index_of_position g.S.NodeStore.slots t c.args.hi) (sym c.self.view_is) c.requires.order

pub cut_out-requires : goal.cut_out-requires
cut_out-requires g c =
    let slots = g.S.NodeStore.slots in
    let tree = c.self.inside.nodes in
    let from = index_of_position slots tree c.args.lo in
    let to = index_of_position slots tree c.args.hi in
    let same : tree ≡ c.nodes.inside.nodes = c.self.view_is ∙ sym (c.nodes.view_is ∙ c.replace.ensures.value) in
    (from, to, subst (λ t. IsRemoval g.S.K.Ord.cmp g.S.Argument.Argument.is_summary slots t from to c.in-Some.removal) same (rw c.in-Some.is at c.in_ok-plan_drop.ensures))

pub returns-in-None-clause-whole : goal.returns-in-None-clause-whole
returns-in-None-clause-whole g c =
    subst (IsWhole g.S.K.Ord.cmp g.S.Argument.Argument.is_summary g.S.NodeStore.slots) (sym c.replace-all.ensures.after) c.in_ok-spare.ensures.whole

pub returns-in-None-clause-ok : goal.returns-in-None-clause-ok
returns-in-None-clause-ok g c =
    let slots = g.S.NodeStore.slots in
    let all = subst (λ t. (index_of_position slots t c.args.lo ≡ 0) × (index_of_position slots t c.args.hi ≡ length t.contents)) c.self.view_is (rw c.in-None.is at c.in_ok-plan_drop.ensures) in
    let now = c.args.self.now in
    ap (λ t. t.contents) c.replace-all.ensures.after
    ∙ (c.in_ok-spare.ensures.empty ∙ sym (without_all (index_of_position slots now c.args.lo) (index_of_position slots now c.args.hi) now.contents all.0 all.1))

pub returns-in-Some-clause-whole : goal.returns-in-Some-clause-whole
returns-in-Some-clause-whole g c =
    subst (IsWhole g.S.K.Ord.cmp g.S.Argument.Argument.is_summary g.S.NodeStore.slots) (sym (ap (λ i. i.nodes) c.drop-in-Some.view_is)) c.cut_out.ensures.whole

pub returns-in-Some-clause-ok : goal.returns-in-Some-clause-ok
returns-in-Some-clause-ok g c =
    let slots = g.S.NodeStore.slots in
    let now = c.args.self.now in
    let from = index_of_position slots now c.args.lo in
    let to = index_of_position slots now c.args.hi in
    let is_removal = IsRemoval g.S.K.Ord.cmp g.S.Argument.Argument.is_summary slots in
    let moved : now ≡ c.nodes.inside.nodes = sym (c.nodes.view_is ∙ c.replace.ensures.value) in
    let removes = subst (λ t. is_removal t (index_of_position slots t c.args.lo) (index_of_position slots t c.args.hi) c.in-Some.removal) c.self.view_is (rw c.in-Some.is at c.in_ok-plan_drop.ensures) in
    ap (λ i. i.nodes.contents) c.drop-in-Some.view_is
    ∙ (c.cut_out.ensures.contents from to (subst (λ t. is_removal t from to c.in-Some.removal) moved removes) ∙ ap (λ t. without_part from to t.contents) (sym moved))
