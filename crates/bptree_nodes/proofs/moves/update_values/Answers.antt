use Rattle.std.proofs.Common.{◌≡◌, ◌∙◌, ◌≤◌, length, refl, sym, arith}
use Rattle.std.specs.List.{zip}
use Rattle.bptree_nodes.specs.Updating.{ChangesValue}
use Rattle.bptree_nodes.proofs.Pairs.{length_pairs, pair_at, set_value_pairs}
use Rattle.bptree_nodes.proofs.Updates.{all_changed, none_changed, one_changed}
use denote.Param.Always.{mut_next}
use Rattle.bptree_nodes.proofs.moves.update_values.Goals as goal

pub slots-init : goal.slots-init
slots-init g c = record {
  callable = c.requires.callable;
  changed = none_changed g.F.FnMut c.args.f (zip c.args.keys.now c.args.values.now) c.args.from c.args.to;
}

pub slots-preserved : goal.slots-preserved
slots-preserved g c =
    let at = c.slots.invariant in
    let keys = c.args.keys.now in
    let old = zip keys c.args.values.now in
    let fits : c.args.to ≤ length old = omega (arith, length_pairs keys c.args.values.now c.requires.same, c.requires.within.1) in
    let same : length c.slots.values ≡ length keys = c.slots.auto.values ∙ c.requires.same in
    let k = c.index-keys-slot.result in
    let v = c.index-values-slot.result in
    let w = c.f.new.arg3 in
    let there = pair_at keys c.slots.values c.slots.slot k v same (omega (arith, c.slots-test.true, c.requires.within.1)) c.index-keys-slot.is c.index-values-slot.is in
    let call : ChangesValue g.F.FnMut c.slots.f (k, v) c.f.new.self (k, w) = record { key = _; value = _; borrowed = _; shows = (refl, sym c.index-values-slot.is); called = c.f.ensures; leaves = refl } in
    record {
      callable = mut_next g.F.FnMut _ _ _ _ _ c.f.ensures refl at.callable;
      changed = rw (set_value_pairs keys c.slots.values c.slots.slot w)
          (one_changed g.F.FnMut c.args.f old c.args.from c.args.to c.requires.within.0 fits c.slots.f c.slots.slot (zip keys c.slots.values) at.changed c.f.new.self k v w c.slots-test.true there call);
    }

pub returns-clause-changed : goal.returns-clause-changed
returns-clause-changed g c =
    let to : c.slots.slot ≡ c.args.to = omega (arith, c.slots-test.false, c.slots.auto.slot-end, c.requires.within.0) in
    all_changed g.F.FnMut c.args.f (zip c.args.keys.now c.args.values.now) c.args.from c.args.to c.slots.f (zip c.args.keys.now c.slots.values) (rw to at c.slots.invariant.changed)
