use Rattle.std.proofs.Common.{◌≡◌, ◌∙◌, ◌++◌, ap, arith, length, subst, sym}
use Rattle.bptree_bulk.specs.Joining.{IsJoinPlan}
use Rattle.bptree_keys.specs.Contents.{IsAscending}
use Rattle.bptree_tree.specs.Whole.{IsWhole}
use Rattle.bptree_tree.proofs.tree.BPlusTree.join.Goals as goal

pub plan_join-requires-clause-first : goal.plan_join-requires-clause-first
plan_join-requires-clause-first g c = omega (arith, c.requires.first, ap (λ t. length t.contents) c.self.view_is)

pub plan_join-requires-clause-second : goal.plan_join-requires-clause-second
plan_join-requires-clause-second g c = omega (arith, c.requires.second, ap (λ t. length t.contents) c.other.view_is)

pub plan_join-requires-clause-few : goal.plan_join-requires-clause-few
plan_join-requires-clause-few g c = omega (arith, c.requires.few, ap (λ t. length t.contents) c.self.view_is, ap (λ t. length t.contents) c.other.view_is)

pub join-requires-clause-few : goal.join-requires-clause-few
join-requires-clause-few g c =
    omega (arith, c.requires.few, ap (λ t. length t.contents) c.first.view_is, ap (λ t. length t.contents) c.second.view_is, ap (λ t. length t.contents) c.replace-first.ensures.value, ap (λ t. length t.contents) c.replace-second.ensures.value)

pub plan_join-requires-clause-below : goal.plan_join-requires-clause-below
plan_join-requires-clause-below g c =
    let cmp = g.S.K.Ord.cmp in
    subst (λ t. IsAscending cmp (t.contents ++ c.other.inside.nodes.contents)) (sym c.self.view_is) (subst (λ t. IsAscending cmp (c.args.self.now.contents ++ t.contents)) (sym c.other.view_is) c.requires.below)

pub join-requires-clause-joint : goal.join-requires-clause-joint
join-requires-clause-joint g c =
    let plan = IsJoinPlan g.S.K.Ord.cmp g.S.Argument.Argument.is_summary g.S.NodeStore.slots in
    let first : c.self.inside.nodes ≡ c.first.inside.nodes = c.self.view_is ∙ sym (c.first.view_is ∙ c.replace-first.ensures.value) in
    let second : c.other.inside.nodes ≡ c.second.inside.nodes = c.other.view_is ∙ sym (c.second.view_is ∙ c.replace-second.ensures.value) in
    subst (λ t. plan t c.second.inside.nodes c.in_ok-joint.joint) first (subst (λ t. plan c.self.inside.nodes t c.in_ok-joint.joint) second c.in_ok-joint.ensures)

pub join-requires-clause-below : goal.join-requires-clause-below
join-requires-clause-below g c =
    let cmp = g.S.K.Ord.cmp in
    subst (λ t. IsAscending cmp (t.contents ++ c.second.inside.nodes.contents)) (sym (c.first.view_is ∙ c.replace-first.ensures.value))
    (subst (λ t. IsAscending cmp (c.args.self.now.contents ++ t.contents)) (sym (c.second.view_is ∙ c.replace-second.ensures.value)) c.requires.below)

pub returns-clause-ok : goal.returns-clause-ok
returns-clause-ok g c =
    ap (λ i. i.nodes.contents) c.drop-3.view_is
    ∙ (ap (λ t. t.contents) c.drop-2.view_is
    ∙ (ap (λ t. t.contents) c.of_nodes.ensures
    ∙ (c.join.ensures.contents
    ∙ (ap (λ t. t.contents ++ c.second.inside.nodes.contents) (c.first.view_is ∙ c.replace-first.ensures.value) ∙ ap (λ t. c.args.self.now.contents ++ t.contents) (c.second.view_is ∙ c.replace-second.ensures.value)))))

pub returns-clause-emptied : goal.returns-clause-emptied
returns-clause-emptied g c = ap (λ t. t.contents) c.replace-second.ensures.after ∙ c.in_ok-empty.ensures.empty

pub returns-clause-whole : goal.returns-clause-whole
returns-clause-whole g c =
    subst (IsWhole g.S.K.Ord.cmp g.S.Argument.Argument.is_summary g.S.NodeStore.slots) (sym (ap (λ i. i.nodes) c.drop-3.view_is ∙ (c.drop-2.view_is ∙ c.of_nodes.ensures))) c.join.ensures.whole

pub returns-clause-other_whole : goal.returns-clause-other_whole
returns-clause-other_whole g c =
    subst (IsWhole g.S.K.Ord.cmp g.S.Argument.Argument.is_summary g.S.NodeStore.slots) (sym c.replace-second.ensures.after) c.in_ok-empty.ensures.whole
