use Rattle.std.proofs.Common.{◌≡◌, ◌∙◌, ◌+◌, ◌-◌, ◌<◌, ◌≤◌, [], ap, arith, drop, length, refl, subst, sym, Some}
use Rattle.std.specs.Map.{keys_of}
use Rattle.std.specs.Option.{option_copied}
use Rattle.std.proofs.lemmas.Result.{IfOk-weaker}
use Rattle.bptree_bulk.proofs.Segments.{has_first, is_some, piece, piece_len}
use Rattle.bptree_bulk.specs.Cut.{first_key}
use Rattle.bptree_bulk.specs.Positions.{index_of_position}
use Rattle.bptree_keys.specs.Ranges.{between, part}
use Rattle.bptree_ranges.proofs.Ranged.{reached}
use Rattle.bptree_bulk.proofs.tail.plan_between.Goals as goal

pub unwrap-first-requires : goal.unwrap-first-requires
unwrap-first-requires g c =
    let tree = c.args.tree.now in
    let ends = reached g.S.Argument.Argument.is_summary (g.S.NodeStore.slots tree.store) tree.height tree.root c.recall.ensures.whole.shape c.args.to.leaf c.requires.to.on.stored in
    let first = has_first tree.contents (index_of_position g.S.NodeStore.slots tree c.args.from) (omega (arith, ends, c.requires.to.on.within, c.requires.some, ap length c.recall.ensures.whole.contents)) in
    is_some c.key_from.result first.0 (c.key_from.ensures ∙ first.1)

pub returns : goal.returns
returns g c =
    let tree = c.args.tree.now in
    let all = tree.contents in
    let cmp = g.S.K.Ord.cmp in
    let from = index_of_position g.S.NodeStore.slots tree c.args.from in
    let to = index_of_position g.S.NodeStore.slots tree c.args.to in
    let ends = reached g.S.Argument.Argument.is_summary (g.S.NodeStore.slots tree.store) tree.height tree.root c.recall.ensures.whole.shape c.args.to.leaf c.requires.to.on.stored in
    let some : 0 < to - from = omega (arith, c.requires.some) in
    let sum : from + (to - from) ≡ to = omega (arith, c.requires.some) in
    let within : from + (to - from) ≤ length all = omega (arith, c.requires.some, ends, c.requires.to.on.within, ap length c.recall.ensures.whole.contents) in
    let first = sym c.key_from.ensures ∙ ap option_copied c.unwrap-first.ensures in
    let these = piece g.met.S.K.Ord.total all [] from (to - from) all refl c.recall.ensures.ascending some within c.unwrap-first.result.now first in
    let long = piece_len g.met.S.K.Ord.total all [] from (to - from) all refl c.recall.ensures.ascending some within in
    let after : option_copied c.key_from-after.result ≡ first_key (drop (from + (to - from)) all) = c.key_from-after.ensures ∙ ap (λ n. first_key (drop n all)) (sym sum) in
    let summed = subst (λ o. g.S.Argument.Argument.is_summary c.in_ok-summary.summary (keys_of (between cmp all (Some c.unwrap-first.result.now) o))) after c.in_ok-summary.ensures in
    IfOk-weaker c.plan_part.result _ _ (λ _ planned parts before.
    planned parts (part all from (to - from)) before (omega (arith, c.requires.most, long))
    (these.1 c.in_ok-start.start (g.met.S.K.Key.clone_is_equal c.unwrap-first.result.now c.in_ok-start.start c.in_ok-start.ensures.cases))
    (subst (λ pairs. g.S.Argument.Argument.is_summary c.in_ok-summary.summary (keys_of pairs)) these.0 summed)) c.plan_part.ensures
