use Rattle.std.proofs.Common.{◌≡◌, ◌∙◌, ◌++◌, [], ap, append-nil, append_assoc, arith, length, length-append, refl, subst, sym}
use Rattle.std.specs.List.{AllByRecursion}
use Rattle.bptree_bulk_load.specs.Rooms.{joined, parts_of}
use Rattle.bptree_nodes.specs.Retaining.{IsRetained, RetainsFirst}
use Rattle.bptree_nodes.proofs.Retained.{none_retained, retained_on}
use Rattle.bptree_tree.specs.Keeping.{pairs_to_last, HasEnough}
use Rattle.bptree_tree.proofs.keeping.keep_in.Goals as goal

pub leaves-init : goal.leaves-init
leaves-init g c =
    let leaves = c.args.leaves.now.items in
    let last = c.args.last in
    let nothing : pairs_to_last leaves last ≡ [] = ap (λ l. joined (parts_of l) ++ last.value.pairs) c.requires.none ∙ c.requires.empty in
    record {
      taken = [];
      parts = refl;
      retained = subst (λ l. RetainsFirst g.F.FnMut c.args.f [] c.args.f l) (sym nothing) (none_retained g.F.FnMut c.args.f);
      opened = record { each = subst (AllByRecursion HasEnough) (sym c.requires.none) tt; last_enough = λ some. absurd (omega (arith, some, ap length c.requires.none)) };
      count = omega (arith, ap length c.requires.none, ap length c.requires.empty);
      capacity = refl;
      callable = c.requires.callable;
    }

pub put_leaf-last-requires-clause-room : goal.put_leaf-last-requires-clause-room
put_leaf-last-requires-clause-room g c =
    let inv = c.leaves.invariant in
    let pairs = c.in-Some.leaf.value.pairs in
    omega (arith, inv.count, inv.capacity, c.requires.room, c.retain-f.ensures.len, ap length c.in-Some.ensures.0, length-append pairs c.take_end.new.self, ap (λ l. length l.pairs) c.as_mut.ensures.value)

pub leaves-preserved : goal.leaves-preserved
leaves-preserved g c =
    let inv = c.leaves.invariant in
    let pairs = c.in-Some.leaf.value.pairs in
    let rest = c.take_end.new.self in
    let stay = c.retain-f.new.self.pairs in
    let same = ap (λ l. l.pairs) c.as_mut.ensures.value in
    let here = subst (λ l. RetainsFirst g.F.FnMut c.leaves.f l c.retain-f.result stay) same c.retain-f.ensures.retained in
    let all = retained_on g.F.FnMut c.args.f inv.taken c.leaves.f (pairs_to_last c.leaves.leaves.items c.leaves.last) pairs c.retain-f.result stay inv.retained here in
    record {
      taken = inv.taken ++ pairs;
      parts = inv.parts ∙ (ap (λ l. inv.taken ++ l) c.in-Some.ensures.0 ∙ sym (append_assoc inv.taken pairs rest));
      retained = subst (λ l. RetainsFirst g.F.FnMut c.args.f (inv.taken ++ pairs) c.retain-f.result l) (sym c.put_leaf-last.ensures.pairs) all;
      opened = c.put_leaf-last.ensures.opened;
      count = omega (arith, inv.count, c.put_leaf-last.ensures.count, c.retain-f.ensures.len, ap length c.in-Some.ensures.0, length-append pairs rest, ap length same);
      capacity = c.put_leaf-last.ensures.capacity ∙ inv.capacity;
      callable = c.retain-f.ensures.callable;
    }

pub returns-clause-retained : goal.returns-clause-retained
returns-clause-retained g c =
    let inv = c.leaves.invariant in
    let kept = pairs_to_last c.leaves.leaves.items c.leaves.last in
    let whole : c.args.chain.now ≡ inv.taken ++ [] = inv.parts ∙ ap (λ l. inv.taken ++ l) c.in_default.ensures.0 in
    subst (λ l. IsRetained g.F.FnMut c.args.f l kept) (sym whole) (subst (IsRetained g.F.FnMut c.args.f (inv.taken ++ [])) (append-nil kept) (inv.retained [] [] refl))
