use Rattle.std.proofs.Common.{◌≡◌, ◌∙◌, ◌<◌, ap, arith, length, subst, sym}
use Rattle.bptree_bulk.specs.Weave.{put_all, put_pair, IsWeave}
use Rattle.bptree_tree.specs.Whole.{IsWhole}
use Rattle.bptree_tree.proofs.tree.BPlusTree.weave.Goals as goal

pub plan_weave-requires-clause-few : goal.plan_weave-requires-clause-few
plan_weave-requires-clause-few g c = omega (arith, c.requires.few, ap (λ t. length t.contents) c.self.view_is, ap (λ t. length t.contents) c.other.view_is)

pub returns-clause-ok : goal.returns-clause-ok
returns-clause-ok g c =
    let put = put_all (put_pair g.S.K.Ord.cmp) in
    ap (λ i. i.nodes.contents) c.drop-3.view_is
    ∙ (ap (λ t. t.contents) c.drop-2.view_is
    ∙ (c.of_weave.ensures.contents
    ∙ (ap (λ t. put t.contents c.replace-second.result.contents) c.replace-first.ensures.value ∙ ap (λ t. put c.args.self.now.contents t.contents) c.replace-second.ensures.value)))

pub plan_weave-requires-clause-some : goal.plan_weave-requires-clause-some
plan_weave-requires-clause-some g c = subst (λ t. 0 < length t.contents) (sym c.self.view_is) c.requires.some

pub of_weave-requires : goal.of_weave-requires
of_weave-requires g c =
    let first : c.self.inside.nodes ≡ c.replace-first.result = c.self.view_is ∙ sym c.replace-first.ensures.value in
    let second : c.other.inside.nodes ≡ c.replace-second.result = c.other.view_is ∙ sym c.replace-second.ensures.value in
    subst (λ t. IsWeave g.S.NodeStore.slots t c.replace-second.result g.S.K.Ord.cmp g.S.Argument.Argument.is_summary c.in_ok-weave.weave) first
    (subst (λ t. IsWeave g.S.NodeStore.slots c.self.inside.nodes t g.S.K.Ord.cmp g.S.Argument.Argument.is_summary c.in_ok-weave.weave) second c.in_ok-weave.ensures)

pub returns-clause-emptied : goal.returns-clause-emptied
returns-clause-emptied g c = ap (λ t. t.contents) c.replace-second.ensures.after ∙ c.in_ok-empty.ensures.empty

pub returns-clause-whole : goal.returns-clause-whole
returns-clause-whole g c =
    subst (IsWhole g.S.K.Ord.cmp g.S.Argument.Argument.is_summary g.S.NodeStore.slots) (sym (ap (λ i. i.nodes) c.drop-3.view_is ∙ c.drop-2.view_is)) c.of_weave.ensures.whole

pub returns-clause-other_whole : goal.returns-clause-other_whole
returns-clause-other_whole g c =
    subst (IsWhole g.S.K.Ord.cmp g.S.Argument.Argument.is_summary g.S.NodeStore.slots) (sym c.replace-second.ensures.after) c.in_ok-empty.ensures.whole
