use Rattle.std.proofs.Common.{None, ◌++◌, ◌+◌, ◌-◌, map, sym, ap, ◌∙◌, subst, append_assoc, arith}
use Rattle.bptree_keys.specs.Pieces.{flatten}
use Rattle.bptree_keys.specs.Ranges.{part}
use Rattle.bptree_sharded_map.specs.Shown.{shown}
use Rattle.bptree_shard_routing.specs.Lengths.{IsFirstPart, IsNextPart}
use Rattle.bptree_sharded_map.specs.Whole.{contents}
use Rattle.bptree_sharded_map.proofs.Pages.{page_more, page_fits, page_done}
use Rattle.bptree_sharded_map.proofs.whole.Shards.page.Goals as goal

pub loop-part-init : goal.loop-part-init
loop-part-init g c = ap (λ l. shown l ++ part (flatten (map g.S.Shard.pairs c.self.inside.shards.items)) c.args.index c.args.n) c.new-found.ensures.items

pub overflow_add-from : goal.overflow_add-from
overflow_add-from g c =
    let it = c.self.inside in
    let is : IsFirstPart it.lengths.items c.loop-part.from c.loop-part.left c.in-Some.part = subst (λ ls. IsFirstPart ls c.loop-part.from c.loop-part.left c.in-Some.part) c.deref.ensures.value c.in-Some.ensures in
    let fits = page_fits g.S.K.Ord.cmp g.S.Shard.pairs it.bounds.items it.shards.items it.lengths.items c.self.invariant c.loop-part.from c.loop-part.left c.in-Some.part is in
    omega (arith, fits)

pub loop-part-preserved : goal.loop-part-preserved
loop-part-preserved g c =
    let it = c.self.inside in
    let from = c.loop-part.from in
    let left = c.loop-part.left in
    let first = c.in-Some.part in
    let shards = map g.S.Shard.pairs it.shards.items in
    let is : IsFirstPart it.lengths.items from left first = subst (λ ls. IsFirstPart ls from left first) c.deref.ensures.value c.in-Some.ensures in
    ap (λ l. l ++ part (flatten shards) (from + first.count) (left - first.count)) c.in_ok-page.ensures
    ∙ append_assoc (shown c.loop-part.found.items) (part (g.S.Shard.pairs c.index.result.now) first.from first.count) (part (flatten shards) (from + first.count) (left - first.count))
    ∙ ap (λ l. shown c.loop-part.found.items ++ l) (page_more g.S.K.Ord.cmp g.S.Shard.pairs it.bounds.items it.shards.items it.lengths.items c.self.invariant from left first is c.index.result.now c.index.ensures)
    ∙ c.loop-part.invariant

pub returns : goal.returns
returns g c =
    let it = c.self.inside in
    let none : IsNextPart it.lengths.items c.loop-part.from c.loop-part.left None = subst (λ ls. IsNextPart ls c.loop-part.from c.loop-part.left None) c.deref.ensures.value c.in_default.ensures in
    sym (page_done g.S.K.Ord.cmp g.S.Shard.pairs it.bounds.items it.shards.items it.lengths.items c.self.invariant c.loop-part.from c.loop-part.left (shown c.loop-part.found.items) none)
    ∙ c.loop-part.invariant ∙ ap (λ l. part l c.args.index c.args.n) (ap contents c.self.view_is)
