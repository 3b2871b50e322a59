use Rattle.std.proofs.Common.{◌<◌, ◌≤◌, ◌∷◌, [], length, length-append, arith, ap, sym}
use mathlib.Core.Bool.{true≢false}
use Rattle.bptree_invariant.specs.Shape.{inner_keys}
use Rattle.bptree_propagation.proofs.Climbing.{empty_path}
use Rattle.bptree_rebalancing.proofs.InnerUnderflow as sn
use Rattle.bptree_rebalancing.proofs.Shortened as sh
use Rattle.bptree_rebalancing.proofs.underflow.+ascend_underflow.Goals as goal

pub get_inner-requires : goal.get_inner-requires
get_inner-requires g t c = sn.top_present g.met.S.K.Ord.total g.S.Argument.Argument.is_summary (g.S.NodeStore.slots c.args.store.now) c.args.path.now c.args.id c.args.summary c.requires.0

pub ascend-requires : goal.ascend-requires
ascend-requires g t c =
    let now = g.S.NodeStore.slots c.args.store.now in
    let filled : 16 ≤ length (inner_keys (now.inner c.args.id.0)) = rw c.get_inner.ensures (omega (arith, c.len.ensures.value, c.if-len-ge-INNER_MINIMUM.true)) in
    record { climbs = sn.filled_climbs g.met.S.K.Ord.total g.S.Argument.Argument.is_summary now c.args.path.now c.args.id c.args.summary c.requires.0 filled; had = c.requires.1 }

pub returns-then-len-ge-INNER_MINIMUM-clause-rises : goal.returns-then-len-ge-INNER_MINIMUM-clause-rises
returns-then-len-ge-INNER_MINIMUM-clause-rises g t c climbs =
    let now = g.S.NodeStore.slots c.args.store.now in
    let filled : 16 ≤ length (inner_keys (now.inner c.args.id.0)) = rw c.get_inner.ensures (omega (arith, c.len.ensures.value, c.if-len-ge-INNER_MINIMUM.true)) in
    sn.filled_sinks g.met.S.K.Ord.total g.S.Argument.Argument.is_summary now c.args.path.now c.args.id c.args.summary climbs.0 filled (g.S.NodeStore.slots c.ascend.new.store) c.ascend.result
    (c.ascend.ensures.rises (record { climbs = sn.filled_climbs g.met.S.K.Ord.total g.S.Argument.Argument.is_summary now c.args.path.now c.args.id c.args.summary climbs.0 filled; had = climbs.1 }))

pub returns-in_default-clause-rises : goal.returns-in_default-clause-rises
returns-in_default-clause-rises g t c climbs =
    let none = empty_path c.args.path.now (λ some. true≢false (sym (c.in_default.ensures.variant.1 some))) in
    sn.sunk_here g.met.S.K.Ord.total g.S.Argument.Argument.is_summary (g.S.NodeStore.slots c.args.store.now) c.args.path.now c.args.id c.args.summary climbs.0 none

pub sibling-slot-requires-clause-children : goal.sibling-slot-requires-clause-children
sibling-slot-requires-clause-children g t c = sn.nodes_there g.met.S.K.Ord.total c.requires.0 c.pop.new.self c.in-Some.parent c.in-Some.index c.in-Some.field-0-2 c.in-Some.ensures.some

pub sibling-slot-requires-clause-long : goal.sibling-slot-requires-clause-long
sibling-slot-requires-clause-long g t c = sn.long_there g.met.S.K.Ord.total c.requires.0 c.pop.new.self c.in-Some.parent c.in-Some.index c.in-Some.field-0-2 c.in-Some.ensures.some

pub sibling-slot-requires-clause-index : goal.sibling-slot-requires-clause-index
sibling-slot-requires-clause-index g t c = (sn.node_there g.met.S.K.Ord.total c.requires.0 c.pop.new.self c.in-Some.parent c.in-Some.index c.in-Some.field-0-2 c.in-Some.ensures.some, sn.index_there g.met.S.K.Ord.total c.requires.0 c.pop.new.self c.in-Some.parent c.in-Some.index c.in-Some.field-0-2 c.in-Some.ensures.some, sn.fits_there g.met.S.K.Ord.total c.requires.0 c.pop.new.self c.in-Some.parent c.in-Some.index c.in-Some.field-0-2 c.in-Some.ensures.some)

pub inners_at-requires-clause-children : goal.inners_at-requires-clause-children
inners_at-requires-clause-children g t c = sn.inners_there g.met.S.K.Ord.total c.requires.0 c.pop.new.self c.in-Some.parent c.in-Some.index c.in-Some.field-0-2 c.in-Some.ensures.some

pub inners_at-requires-clause-slot : goal.inners_at-requires-clause-slot
inners_at-requires-clause-slot g t c = (sn.node_there g.met.S.K.Ord.total c.requires.0 c.pop.new.self c.in-Some.parent c.in-Some.index c.in-Some.field-0-2 c.in-Some.ensures.some, sn.slot_there g.met.S.K.Ord.total c.requires.0 c.pop.new.self c.in-Some.parent c.in-Some.index c.in-Some.field-0-2 c.in-Some.ensures.some c.sibling-slot.result.0 c.sibling-slot.result.1 c.sibling-slot.ensures, sn.fits_there g.met.S.K.Ord.total c.requires.0 c.pop.new.self c.in-Some.parent c.in-Some.index c.in-Some.field-0-2 c.in-Some.ensures.some)

pub rotate_inners_at-requires-clause-siblings : goal.rotate_inners_at-requires-clause-siblings
rotate_inners_at-requires-clause-siblings g t c = sn.siblings_there g.met.S.K.Ord.total c.requires.0 c.pop.new.self c.in-Some.parent c.in-Some.index c.in-Some.field-0-2 c.in-Some.ensures.some c.sibling-slot.result.0 c.sibling-slot.result.1 c.sibling-slot.ensures c.inners_at.result.0 c.inners_at.result.1 c.inners_at.ensures.left c.inners_at.ensures.right

pub rotate_inners_at-requires-clause-rotates : goal.rotate_inners_at-requires-clause-rotates
rotate_inners_at-requires-clause-rotates g t c =
    let lacks : length (inner_keys ((g.S.NodeStore.slots c.args.store.now).inner c.args.id.0)) < 16 = rw c.get_inner.ensures (omega (arith, c.len.ensures.value, c.if-len-ge-INNER_MINIMUM.false)) in
    sn.rotates_there g.met.S.K.Ord.total c.requires.0 c.pop.new.self c.in-Some.parent c.in-Some.index c.in-Some.field-0-2 c.in-Some.ensures.some c.sibling-slot.result.0 c.sibling-slot.result.1 c.sibling-slot.ensures c.inners_at.result.0 c.inners_at.result.1 c.inners_at.ensures.left c.inners_at.ensures.right lacks c.in-Some-giver.giver c.in-Some-giver.is

pub merge_inners_at-requires-clause-siblings : goal.merge_inners_at-requires-clause-siblings
merge_inners_at-requires-clause-siblings g t c = sn.siblings_there g.met.S.K.Ord.total c.requires.0 c.pop.new.self c.in-Some.parent c.in-Some.index c.in-Some.field-0-2 c.in-Some.ensures.some c.sibling-slot.result.0 c.sibling-slot.result.1 c.sibling-slot.ensures c.inners_at.result.0 c.inners_at.result.1 c.inners_at.ensures.left c.inners_at.ensures.right

pub merge_inners_at-requires-clause-fits : goal.merge_inners_at-requires-clause-fits
merge_inners_at-requires-clause-fits g t c =
    let lacks : length (inner_keys ((g.S.NodeStore.slots c.args.store.now).inner c.args.id.0)) < 16 = rw c.get_inner.ensures (omega (arith, c.len.ensures.value, c.if-len-ge-INNER_MINIMUM.false)) in
    sn.merges_there g.met.S.K.Ord.total c.requires.0 c.pop.new.self c.in-Some.parent c.in-Some.index c.in-Some.field-0-2 c.in-Some.ensures.some c.sibling-slot.result.0 c.sibling-slot.result.1 c.sibling-slot.ensures c.inners_at.result.0 c.inners_at.result.1 c.inners_at.ensures.left c.inners_at.ensures.right lacks c.in-None.is

pub ascend-requires-in-Some-giver : goal.ascend-requires-in-Some-giver
ascend-requires-in-Some-giver g t c =
    let lacks : length (inner_keys ((g.S.NodeStore.slots c.args.store.now).inner c.args.id.0)) < 16 = rw c.get_inner.ensures (omega (arith, c.len.ensures.value, c.if-len-ge-INNER_MINIMUM.false)) in
    let done = c.in_ok-above-in-Some-giver in
    record { climbs = sh.rotated g.met.S.K.Ord.total c.requires.0 c.pop.new.self c.in-Some.parent c.in-Some.index c.in-Some.field-0-2 c.in-Some.ensures.some c.sibling-slot.result.0 c.sibling-slot.result.1 c.sibling-slot.ensures c.inners_at.result.0 c.inners_at.result.1 c.inners_at.ensures.left c.inners_at.ensures.right done.sides lacks c.in-Some-giver.giver c.in-Some-giver.is done.ensures.rotates done.above done.ensures.sums; had = c.requires.1 }

pub returns-in-Ok-clause-rises : goal.returns-in-Ok-clause-rises
returns-in-Ok-clause-rises g t c short =
    let lacks : length (inner_keys ((g.S.NodeStore.slots c.args.store.now).inner c.args.id.0)) < 16 = rw c.get_inner.ensures (omega (arith, c.len.ensures.value, c.if-len-ge-INNER_MINIMUM.false)) in
    let done = c.in_ok-above-in-Some-giver in
    sh.rotated_sinks g.met.S.K.Ord.total short.0 c.pop.new.self c.in-Some.parent c.in-Some.index c.in-Some.field-0-2 c.in-Some.ensures.some c.sibling-slot.result.0 c.sibling-slot.result.1 c.sibling-slot.ensures c.inners_at.result.0 c.inners_at.result.1 c.inners_at.ensures.left c.inners_at.ensures.right done.sides lacks c.in-Some-giver.giver c.in-Some-giver.is done.ensures.rotates done.above done.ensures.sums (g.S.NodeStore.slots c.ascend-in-Some-giver.new.store) c.in-Ok.top
    (c.in-Ok.ensures.rises (record { climbs = sh.rotated g.met.S.K.Ord.total short.0 c.pop.new.self c.in-Some.parent c.in-Some.index c.in-Some.field-0-2 c.in-Some.ensures.some c.sibling-slot.result.0 c.sibling-slot.result.1 c.sibling-slot.ensures c.inners_at.result.0 c.inners_at.result.1 c.inners_at.ensures.left c.inners_at.ensures.right done.sides lacks c.in-Some-giver.giver c.in-Some-giver.is done.ensures.rotates done.above done.ensures.sums; had = short.1 }))

pub get_inner-requires-in-None : goal.get_inner-requires-in-None
get_inner-requires-in-None g t c = (sn.left_there g.met.S.K.Ord.total c.requires.0 c.pop.new.self c.in-Some.parent c.in-Some.index c.in-Some.field-0-2 c.in-Some.ensures.some c.sibling-slot.result.0 c.sibling-slot.result.1 c.sibling-slot.ensures c.inners_at.result.0 c.inners_at.result.1 c.inners_at.ensures.left c.inners_at.ensures.right).0

pub ascend_underflow-requires : goal.ascend_underflow-requires
ascend_underflow-requires g t c κs within =
    let done = c.in_ok-above-in-None in (
      omega (arith, ap length c.in-Some.ensures.some, length-append c.pop.new.self ((c.in-Some.parent, c.in-Some.index, c.in-Some.field-0-2) ∷ [])),
      (within.0, (within.1.0, (within.1.1.0, (within.1.1.1, (sh.merged g.met.S.K.Ord.total c.requires.0 c.pop.new.self c.in-Some.parent c.in-Some.index c.in-Some.field-0-2 c.in-Some.ensures.some c.sibling-slot.result.0 c.sibling-slot.result.1 c.sibling-slot.ensures c.inners_at.result.0 c.inners_at.result.1 c.inners_at.ensures.left c.inners_at.ensures.right done.sides done.emptied.value done.ensures.merges done.above done.ensures.sums, c.requires.1))))),
    )

pub release_inner-requires : goal.release_inner-requires
release_inner-requires g t c =
    let done = c.in_ok-above-in-None in
    sh.held_so g.met.S.K.Ord.total c.requires.0 c.pop.new.self c.in-Some.parent c.in-Some.index c.in-Some.field-0-2 c.in-Some.ensures.some c.sibling-slot.result.0 c.sibling-slot.result.1 c.sibling-slot.ensures c.inners_at.result.0 c.inners_at.result.1 c.inners_at.ensures.left c.inners_at.ensures.right done.sides done.emptied.value done.ensures.merges done.above done.ensures.sums (g.S.NodeStore.slots c.ascend_underflow.new.store) c.in-Ok-ascend_underflow.top
    (c.in-Ok-ascend_underflow.ensures.rises (sh.merged g.met.S.K.Ord.total c.requires.0 c.pop.new.self c.in-Some.parent c.in-Some.index c.in-Some.field-0-2 c.in-Some.ensures.some c.sibling-slot.result.0 c.sibling-slot.result.1 c.sibling-slot.ensures c.inners_at.result.0 c.inners_at.result.1 c.inners_at.ensures.left c.inners_at.ensures.right done.sides done.emptied.value done.ensures.merges done.above done.ensures.sums, c.requires.1))

pub returns-in-Ok-ascend_underflow-clause-rises : goal.returns-in-Ok-ascend_underflow-clause-rises
returns-in-Ok-ascend_underflow-clause-rises g t c short =
    let done = c.in_ok-above-in-None in
    sh.merged_sinks g.met.S.K.Ord.total short.0 c.pop.new.self c.in-Some.parent c.in-Some.index c.in-Some.field-0-2 c.in-Some.ensures.some c.sibling-slot.result.0 c.sibling-slot.result.1 c.sibling-slot.ensures c.inners_at.result.0 c.inners_at.result.1 c.inners_at.ensures.left c.inners_at.ensures.right done.sides done.emptied.value done.ensures.merges done.above done.ensures.sums (g.S.NodeStore.slots c.ascend_underflow.new.store) c.in-Ok-ascend_underflow.top
    (c.in-Ok-ascend_underflow.ensures.rises (sh.merged g.met.S.K.Ord.total short.0 c.pop.new.self c.in-Some.parent c.in-Some.index c.in-Some.field-0-2 c.in-Some.ensures.some c.sibling-slot.result.0 c.sibling-slot.result.1 c.sibling-slot.ensures c.inners_at.result.0 c.inners_at.result.1 c.inners_at.ensures.left c.inners_at.ensures.right done.sides done.emptied.value done.ensures.merges done.above done.ensures.sums, short.1)) (g.S.NodeStore.slots c.release_inner.new.self) c.release_inner.ensures
