use Rattle.std.proofs.Common.{◌∙◌, Ok, ap, sym}
use Rattle.std.specs.Map.{keys_of}
use Rattle.bptree_map.proofs.KeyLemmas.{holds_keys, holds_value, keys_del, none_held, ok_not_err}
use Rattle.bptree_set.proofs.set.BPlusTreeSet.remove.Goals as goal

pub returns-in_err-remove-clause-absent : goal.returns-in_err-remove-clause-absent
returns-in_err-remove-clause-absent g c = rw (← c.self.view_is) (λ free. absurd (ok_not_err _ _ (sym (c.in_err-remove.ensures.absent (holds_keys g.K.Ord.cmp c.self.inside.map c.args.k.now ∙ free)))))

pub returns-clause-ok : goal.returns-clause-ok
returns-clause-ok g c =
    let done = c.in_ok-remove.ensures.ok in
    rw (← c.self.view_is, c.is_some.ensures) (holds_value g.K.Ord.cmp _ _ _ done.0, ap keys_of done.1 ∙ keys_del g.K.Ord.cmp c.self.inside.map c.args.k.now)

pub returns-clause-absent : goal.returns-clause-absent
returns-clause-absent g c = rw (← c.self.view_is, c.is_some.ensures) (λ free. ap Ok (none_held g.K.Ord.cmp _ _ _ c.in_ok-remove.ensures.ok.0 free))
