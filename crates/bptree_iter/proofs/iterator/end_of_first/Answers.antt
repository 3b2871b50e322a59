use Rattle.std.proofs.Common.{◌≡◌, ◌+◌, ◌≤◌, IsSome, sym, ap, refl, ◌∙◌, subst, arith}
use Rattle.bptree_keys.specs.declared.node_id.LeafNodeId.{LeafNodeId}
use Rattle.bptree_iter.specs.Span.{leaves_of}
use Rattle.bptree_iter.proofs.EndLemmas.{Ended, walked_none, next_of_walk, ends_here, ends_behind, last_of_walk, index_of_walk}
use Rattle.bptree_iter.proofs.SpanLemmas.{IsSome-front, same_id}
use Rattle.bptree_iter.proofs.iterator.end_of_first.Goals as goal

pub leaves-init : goal.leaves-init
leaves-init g c = record { walked = walked_none _ _ _ _ _ _ _ c.requires }

pub leaf_at-leaf-requires : goal.leaf_at-leaf-requires
leaf_at-leaf-requires g c = IsSome-front _ _ _ _ _ _ _ c.leaves.invariant.walked.span

pub overflow_sub-here : goal.overflow_sub-here
overflow_sub-here g c =
    let fits = index_of_walk _ _ _ _ _ _ _ _ _ _ c.leaves.invariant.walked c.leaf_at-leaf.ensures in
    omega (arith, fits, c.len.ensures.value)

pub returns-then-left-here : goal.returns-then-left-here
returns-then-left-here g c =
    let fits = index_of_walk _ _ _ _ _ _ _ _ _ _ c.leaves.invariant.walked c.leaf_at-leaf.ensures in
    let end = ends_here _ _ _ _ _ _ _ _ _ _ c.leaves.invariant.walked c.leaf_at-leaf.ensures (omega (arith, fits, c.len.ensures.value, c.if-left-here.true)) (λ same. absurd (c.leaves-test.true (c.as_usize.ensures ∙ (ap (λ (x : LeafNodeId). x.0) same ∙ sym c.as_usize-in-leaves.ensures)))) in
    record { part = end.between; same = (refl, end.same); known = refl }

pub unwrap-at-requires : goal.unwrap-at-requires
unwrap-at-requires g c =
    let next = next_of_walk _ _ _ _ _ _ _ _ _ _ c.leaves.invariant.walked (λ same. c.leaves-test.true (c.as_usize.ensures ∙ (ap (λ (x : LeafNodeId). x.0) same ∙ sym c.as_usize-in-leaves.ensures))) c.leaf_at-leaf.ensures in
    subst IsSome (sym (c.next.ensures ∙ next.next)) refl

pub leaves-smaller : goal.leaves-smaller
leaves-smaller g c =
    let next = next_of_walk _ _ _ _ _ _ _ _ _ _ c.leaves.invariant.walked (λ same. c.leaves-test.true (c.as_usize.ensures ∙ (ap (λ (x : LeafNodeId). x.0) same ∙ sym c.as_usize-in-leaves.ensures))) c.leaf_at-leaf.ensures in
    omega (arith, next.some, c.len.ensures.value, c.if-left-here.false)

pub leaves-preserved : goal.leaves-preserved
leaves-preserved g c =
    let next = next_of_walk _ _ _ _ _ _ _ _ _ _ c.leaves.invariant.walked (λ same. c.leaves-test.true (c.as_usize.ensures ∙ (ap (λ (x : LeafNodeId). x.0) same ∙ sym c.as_usize-in-leaves.ensures))) c.leaf_at-leaf.ensures in
    let id : next.id ≡ c.unwrap-at.result = cc (c.next.ensures, next.next, c.unwrap-at.ensures) in
    record { walked = rw (← id, c.len.ensures.value) (next.walked (omega (arith, c.len.ensures.value, c.if-left-here.false))) }

pub overflow_sub-here-2 : goal.overflow_sub-here-2
overflow_sub-here-2 g c =
    let same : c.leaves.at ≡ c.args.part.back.leaf = same_id _ _ (sym c.as_usize.ensures ∙ (c.leaves-test.false ∙ c.as_usize-in-leaves.ensures)) in
    (last_of_walk _ _ _ _ _ _ _ _ _ c.leaves.invariant.walked same).2

pub returns-then-left-here-2 : goal.returns-then-left-here-2
returns-then-left-here-2 g c =
    let part = c.args.part in
    let leaves = leaves_of (g.S.NodeStore.slots c.args.store.now) in
    let same : c.leaves.at ≡ part.back.leaf = same_id _ _ (sym c.as_usize.ensures ∙ (c.leaves-test.false ∙ c.as_usize-in-leaves.ensures)) in
    let last = last_of_walk _ _ _ _ _ _ _ _ _ c.leaves.invariant.walked same in
    let short : c.leaves.passed + c.leaves.left ≤ part.back.slot = omega (arith, last.2, c.if-left-here-2.true) in
    let here = ends_here _ _ _ _ _ _ _ _ _ last.0 c.leaves.invariant.walked (ap leaves same ∙ last.1) (omega (arith, last.3, short)) (λ _. short) in
    let end = subst (λ b. Ended leaves part.front.leaf part.front.slot part.back.leaf part.back.slot part.limit b (c.leaves.passed + c.leaves.left) part.limit) same here in
    record { part = end.between; same = (refl, end.same); known = refl }

pub returns-else-left-here-2 : goal.returns-else-left-here-2
returns-else-left-here-2 g c =
    let same : c.leaves.at ≡ c.args.part.back.leaf = same_id _ _ (sym c.as_usize.ensures ∙ (c.leaves-test.false ∙ c.as_usize-in-leaves.ensures)) in
    let end = ends_behind _ _ _ _ _ _ _ _ _ c.leaves.invariant.walked same c.if-left-here-2.false in
    record { part = end.between; same = (refl, end.same); known = refl }
