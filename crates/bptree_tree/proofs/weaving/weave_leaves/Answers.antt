use Rattle.std.proofs.Common.{◌≡◌, ◌∙◌, ◌+◌, ◌-◌, ◌*◌, ◌∷◌, ◌++◌, ◌<◌, ◌≤◌, [], ap, append-nil, arith, drop, length, refl, subst, sym, take}
use Rattle.std.proofs.lemmas.List.{length-drop, length-take-le}
use Rattle.std.specs.Prelude.{vec_len}
use Rattle.bptree_bulk_load.proofs.Standing.{drop_all}
use Rattle.bptree_bulk_load.specs.Rooms.{parts_of}
use Rattle.bptree_bulk.specs.Filling.{AreParts, IsSize}
use Rattle.bptree_bulk.specs.Weave.{woven}
use Rattle.bptree_bulk.proofs.Tails.{filled_more, next_part, no_part, sized, IsPartlyFilled}
use Rattle.bptree_bulk.proofs.Woven.{behind_is, goes_on, own_leads, part_is, rest_length, rest_on, IsUnderway}
use Rattle.bptree_tree.specs.Weaving.{left_of}
use Rattle.bptree_tree.proofs.WeavingLemmas.{full_on, IsFull}
use Rattle.bptree_tree.proofs.weaving.weave_leaves.Given.{Over}
use Rattle.bptree_tree.proofs.weaving.weave_leaves.Goals.{After-size_of-size}
use Rattle.bptree_tree.proofs.weaving.weave_leaves.Goals as goal

-- the steps so far
way : (g : Over) (c : After-size_of-size g) → IsUnderway g.S.K.Ord.cmp c.args.steps.now (left_of c.args.first.now) (left_of c.args.second.now) c.leaves.done (left_of c.leaves.first) (left_of c.leaves.second)
way g c = record { goes = c.leaves.invariant.goes; rest = c.leaves.invariant.rest }

-- the pairs that are left are as many as the steps that are left
left : (g : Over) (c : After-size_of-size g) → length (woven (drop c.leaves.done c.args.steps.now) (left_of c.leaves.first) (left_of c.leaves.second)) ≡ length c.args.steps.now - c.leaves.done
left g c = rest_length g.met.S.K.Ord.total (way g c)

-- the number of steps of the next leaf
is_size : (g : Over) (c : After-size_of-size g) → IsSize (length c.args.steps.now - c.leaves.done) c.size_of-size.result
is_size g c = c.size_of-size.ensures

fits : (g : Over) (c : After-size_of-size g) → c.leaves.done + c.size_of-size.result ≤ length c.args.steps.now
fits g c = omega (arith, (sized (length c.args.steps.now - c.leaves.done) c.size_of-size.result (is_size g c)).within, c.leaves-test.true)

-- the steps of the next leaf
own : (g : Over) (c : After-size_of-size g) → take (c.leaves.done + c.size_of-size.result - c.leaves.done) (drop c.leaves.done c.args.steps.now) ≡ take c.size_of-size.result (drop c.leaves.done c.args.steps.now)
own g c = ap (λ k. take k (drop c.leaves.done c.args.steps.now)) (omega arith)

some : (g : Over) (c : After-size_of-size g) → 0 < length (woven (drop c.leaves.done c.args.steps.now) (left_of c.leaves.first) (left_of c.leaves.second))
some g c = omega (arith, left g c, c.leaves-test.true)

-- the number of pairs of the next leaf
pairs_size : (g : Over) (c : After-size_of-size g) → IsSize (length (woven (drop c.leaves.done c.args.steps.now) (left_of c.leaves.first) (left_of c.leaves.second))) c.size_of-size.result
pairs_size g c = subst (λ k. IsSize k c.size_of-size.result) (sym (left g c)) (is_size g c)

pub leaves-init : goal.leaves-init
leaves-init g c =
    let steps = c.args.steps.now in
    let none = ap length c.requires.none in
    record {
      within = omega arith;
      goes = (refl, refl);
      rest = c.requires.weaves;
      empty = c.requires.empty;
      capacity = c.requires.capacity;
      parts = c.requires.list.0;
      are = c.requires.list.1;
      list = omega (arith, none, c.requires.list.2);
      filled = λ all are. record { rest = all; are = are; sum = refl };
      full = record { most = omega (arith, none); many = λ more. omega (arith, none); few = λ more. omega (arith, none); last = λ more. omega (arith, none) };
      room = omega (arith, none, c.requires.two, c.requires.closed);
    }

pub weave_piece-requires-clause-leads : goal.weave_piece-requires-clause-leads
weave_piece-requires-clause-leads g c =
    let at = (goal.at.weave_piece-requires-clause-leads g c).After-size_of-size in
    own_leads g.met.S.K.Ord.total (way g at) c.size_of-size.result (fits g at) (own g at)

pub weave_piece-requires-clause-some : goal.weave_piece-requires-clause-some
weave_piece-requires-clause-some g c =
    let inv = c.leaves.invariant in
    omega (arith, inv.room, inv.full.last (omega (arith, c.leaves-test.true)))

pub weave_piece-requires-clause-list : goal.weave_piece-requires-clause-list
weave_piece-requires-clause-list g c =
    let at = (goal.at.weave_piece-requires-clause-list g c).After-size_of-size in
    let inv = c.leaves.invariant in
    let next = next_part (woven (drop c.leaves.done c.args.steps.now) (left_of c.leaves.first) (left_of c.leaves.second)) inv.parts c.size_of-size.result inv.are (some g at) (pairs_size g at) in
    omega (arith, inv.list, ap length next.1)

pub leaves-preserved : goal.leaves-preserved
leaves-preserved g c =
    let at = (goal.at.leaves-preserved g c).After-size_of-size in
    let total = g.met.S.K.Ord.total in
    let steps = c.args.steps.now in
    let n = c.leaves.done in
    let size = c.size_of-size.result in
    let x = left_of c.weave_piece.new.first in
    let y = left_of c.weave_piece.new.second in
    let items = woven (drop n steps) (left_of c.leaves.first) (left_of c.leaves.second) in
    let inv = c.leaves.invariant in
    let on = c.weave_piece.ensures.goes in
    let next = next_part items inv.parts size inv.are (some g at) (pairs_size g at) in
    let part = part_is total (way g at) size (fits g at) (own g at) x y on in
    let behind = behind_is total (way g at) size (fits g at) (own g at) x y on in
    let one : parts_of c.weave_piece.new.leaves.items ≡ parts_of c.leaves.leaves.items ++ take size items ∷ [] = c.weave_piece.ensures.leaves ∙ ap (λ p. parts_of c.leaves.leaves.items ++ p ∷ []) (sym part) in
    let full = full_on (length steps - n) n (vec_len c.leaves.leaves) size inv.full (is_size g at) in
    let long : length (take (n + size - n) (drop n steps)) ≡ size = ap length (own g at) ∙ length-take-le size (drop n steps) (omega (arith, length-drop n steps, fits g at)) in
    let most = (sized (length steps - n) size (is_size g at)).most in
    let longer : vec_len c.weave_piece.new.leaves ≡ vec_len c.leaves.leaves + 1 = c.weave_piece.ensures.len in
    let before = 64 * (vec_len c.leaves.leaves + 1) - n in
    let last = inv.full.last (omega (arith, c.leaves-test.true)) in
    let room = c.weave_piece.ensures.room before (omega (arith, long, most, inv.full.most)) (omega (arith, inv.room, inv.full.most, last)) in
    record {
      within = fits g at;
      goes = goes_on total (way g at) size (fits g at) (own g at) x y on;
      rest = rest_on total (way g at) size (fits g at) (own g at) x y on;
      empty = c.weave_piece.ensures.empty;
      capacity = omega (arith, inv.capacity, c.weave_piece.ensures.capacity);
      parts = next.0;
      are = subst (λ l. AreParts l next.0 []) behind next.2;
      list = omega (arith, inv.list, ap length next.1, longer, c.weave_piece.ensures.list);
      filled = λ all dealt.
          let whole = parts_of c.args.leaves.now.items ++ all in
          subst (λ l. IsPartlyFilled l whole (parts_of c.weave_piece.new.leaves.items)) behind
          (filled_more items whole (parts_of c.leaves.leaves.items) (parts_of c.weave_piece.new.leaves.items) size (inv.filled all dealt) (pairs_size g at) (some g at) one);
      full = subst (λ k. IsFull (length steps - (n + size)) (n + size) k) (sym longer) (subst (λ k. IsFull k (n + size) (vec_len c.leaves.leaves + 1)) (omega arith) full);
      room = omega (arith, room, long, longer, inv.full.most);
    }

pub returns : goal.returns
returns g c = λ all dealt.
    let steps = c.args.steps.now in
    let filling = c.leaves.invariant.filled all dealt in
    let nothing = drop_all steps c.leaves.done (omega (arith, c.leaves-test.false)) in
    let none = no_part (woven (drop c.leaves.done steps) (left_of c.leaves.first) (left_of c.leaves.second)) filling.rest filling.are (ap (λ s. length (woven s (left_of c.leaves.first) (left_of c.leaves.second))) nothing) in
    sym (filling.sum ∙ (ap (λ l. parts_of c.leaves.leaves.items ++ l) none ∙ append-nil (parts_of c.leaves.leaves.items)))
