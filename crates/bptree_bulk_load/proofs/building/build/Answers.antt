use Rattle.std.proofs.Common.{arith, refl, subst, sym}
use Rattle.bptree_bulk_load.specs.Layer.{IsBuilt}
use Rattle.bptree_bulk_load.proofs.Raised.{counted_all, reported_of_all}
use Rattle.bptree_bulk_load.proofs.building.build.Goals as goal

pub invariant_of-tree : goal.invariant_of-tree
invariant_of-tree g c =
    let mid = g.S.NodeStore.slots c.build_leaves.new.store in
    let new = g.S.NodeStore.slots c.raise_all.new.store in
    let raises = c.in_ok-built.ensures in
    let all = subst (λ leaves. IsBuilt g.S.K.Ord.cmp g.S.Argument.Argument.is_summary (record { inner = new.inner; leaf = leaves }) c.in_ok-built.built.root c.in_ok-built.built.height c.in_ok-built.built.summary c.args.pairs.items) (sym raises.0)
    (raises.1 mid.leaf c.args.pairs.items c.requires.ascending (omega (arith, c.args.pairs.small, c.args.pairs.ok.0, c.args.pairs.ok.1)) c.in_ok-layer.ensures.1) in
    (all.shape, counted_all _ _ _ _ _ all c.len-len.result (omega (arith, c.len-len.ensures)), reported_of_all _ _ _ _ _ all)

pub returns-clause-whole : goal.returns-clause-whole
returns-clause-whole g c =
    let mid = g.S.NodeStore.slots c.build_leaves.new.store in
    let new = g.S.NodeStore.slots c.raise_all.new.store in
    let raises = c.in_ok-built.ensures in
    let all = subst (λ leaves. IsBuilt g.S.K.Ord.cmp g.S.Argument.Argument.is_summary (record { inner = new.inner; leaf = leaves }) c.in_ok-built.built.root c.in_ok-built.built.height c.in_ok-built.built.summary c.args.pairs.items) (sym raises.0)
    (raises.1 mid.leaf c.args.pairs.items c.requires.ascending (omega (arith, c.args.pairs.small, c.args.pairs.ok.0, c.args.pairs.ok.1)) c.in_ok-layer.ensures.1) in
    record { shape = all.shape; contents = refl; summary = reported_of_all _ _ _ _ _ all }

pub returns-clause-contents : goal.returns-clause-contents
returns-clause-contents g c =
    let mid = g.S.NodeStore.slots c.build_leaves.new.store in
    let new = g.S.NodeStore.slots c.raise_all.new.store in
    let raises = c.in_ok-built.ensures in
    let all = subst (λ leaves. IsBuilt g.S.K.Ord.cmp g.S.Argument.Argument.is_summary (record { inner = new.inner; leaf = leaves }) c.in_ok-built.built.root c.in_ok-built.built.height c.in_ok-built.built.summary c.args.pairs.items) (sym raises.0)
    (raises.1 mid.leaf c.args.pairs.items c.requires.ascending (omega (arith, c.args.pairs.small, c.args.pairs.ok.0, c.args.pairs.ok.1)) c.in_ok-layer.ensures.1) in
    all.contents
