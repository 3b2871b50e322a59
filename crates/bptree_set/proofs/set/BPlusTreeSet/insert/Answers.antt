use Rattle.std.proofs.Common.{◌∙◌, ap, refl}
use Rattle.std.specs.Map.{keys_of}
use Rattle.bptree_map.proofs.KeyLemmas.{full_keys, full_moved, full_never, full_pairs, holds_keys, keys_put, lacks_value}
use Rattle.bptree_set.proofs.set.BPlusTreeSet.insert.Goals as goal

pub returns-in_err-insert-clause-present : goal.returns-in_err-insert-clause-present
returns-in_err-insert-clause-present g c = rw (← c.self.view_is, ← holds_keys g.K.Ord.cmp c.self.inside.map c.args.k) (λ there. let never = c.in_err-insert.ensures.present there in cc)

pub returns-in_err-insert-clause-full : goal.returns-in_err-insert-clause-full
returns-in_err-insert-clause-full g c =
    rw (← c.self.view_is) (full_moved c.from_residual.result _ c.in_err-insert.field-0.0 _ c.from_residual.ensures.1 c.in_err-insert.ensures.full refl (full_keys g.K.Ord.cmp _ _ _) (full_pairs g.K.Ord.cmp _ _ _))

pub returns-clause-ok : goal.returns-clause-ok
returns-clause-ok g c =
    let done = c.in_ok-insert.ensures.ok in
    rw (← c.self.view_is) (lacks_value g.K.Ord.cmp _ _ _ _ c.is_none.ensures done.0, ap keys_of done.1 ∙ keys_put g.K.Ord.cmp c.self.inside.map c.args.k tt)

pub returns-clause-full : goal.returns-clause-full
returns-clause-full g c = rw (← c.self.view_is) (full_never _ _ _ c.in_ok-insert.ensures.full (full_pairs g.K.Ord.cmp _ _ _))
