use Rattle.std.proofs.Common.{◌≡◌, ◌∙◌, None, Ok, ap, sym}
use Rattle.std.specs.Map.{keys_of}
use Rattle.bptree_set.proofs.EntryKeys.{entry_key, key_of}
use Rattle.bptree_map.proofs.KeyLemmas.{holds_keys, keys_del, ok_not_err}
use Rattle.bptree_set.proofs.set.BPlusTreeSet.take.Goals as goal

pub returns-in_err-gone-clause-absent : goal.returns-in_err-gone-clause-absent
returns-in_err-gone-clause-absent g c = rw (← c.self.view_is) (λ free. absurd (ok_not_err _ _ (sym (c.in_err-gone.ensures.absent (holds_keys g.K.Ord.cmp c.self.inside.map c.args.k.now ∙ free)))))

pub returns-clause-ok : goal.returns-clause-ok
returns-clause-ok g c =
    let done = c.in_ok-gone.ensures.ok in
    let pairs = c.self.inside.map in
    rw (← c.self.view_is) (c.key_alone.ensures ∙ ap key_of done.0 ∙ entry_key g.K.Ord.cmp pairs c.args.k.now, ap keys_of done.1 ∙ keys_del g.K.Ord.cmp pairs c.args.k.now)

pub returns-clause-absent : goal.returns-clause-absent
returns-clause-absent g c = rw (← c.self.view_is) (λ free.
    let none = c.in_ok-gone.ensures.absent (holds_keys g.K.Ord.cmp c.self.inside.map c.args.k.now ∙ free) in
    let same : c.in_ok-gone.gone ≡ None = cc in
    ap Ok (c.key_alone.ensures ∙ ap key_of same))
