use Rattle.std.proofs.Common.{◌≡◌, ◌∙◌, refl, ap, arith, false, length, subst, sym, true, [], ◌∷◌, ◌++◌}
use Rattle.std.specs.Fn.{CalledAt}
use Rattle.std.specs.List.Retain.{IsFiltered}
use Rattle.std.specs.List.Sorted.{IsStrictlySortedBy}
use Rattle.std.specs.Map.{keys_of}
use Rattle.bptree_map.proofs.KeyLemmas.{keys_append}
use Rattle.bptree_map.proofs.RetainLemmas.{all_asked, filters_none, filters_nothing, filters_one, in_both, keys_still_sorted, keys_without, none_asked, one_leaves, one_stays}
use denote.Param.Always.{mut_next}
use Rattle.bptree_set.proofs.set.BPlusTreeSet.retain.Goals as goal

pub keys-init : goal.keys-init
keys-init g c =
    let same : c.into_keys-keys.result ≡ c.args.self.now = rw (← c.self.view_is) (c.into_keys-keys.ensures.rest ∙ ap keys_of c.replace.ensures.value) in
    let empty = c.in-Ok-with_capacity.ensures.items in
    record {
      callable = c.requires;
      sorted = rw empty c.into_keys-keys.ensures.ascending;
      asked = rw (empty, same) (none_asked (IsFiltered (CalledAt g.F.FnMut)) c.args.f c.args.self.now);
      room = omega (arith, c.in-Ok-with_capacity.ensures.len, c.in-Ok-with_capacity.ensures.capacity, c.len.ensures.value, ap length same);
      capacity = c.in-Ok-with_capacity.ensures.exact ∙ c.len.ensures.value;
    }

pub keys-preserved : goal.keys-preserved
keys-preserved g c =
    let at = c.keys.invariant in
    let total = g.met.K.Ord.total in
    let k = c.in-Some.k in
    let rest = c.next.new.self in
    let kept = keys_of c.keys.kept.items in
    let stays = c.f-stays.result in
    let call : CalledAt g.F.FnMut c.keys.f k stays c.f-stays.new.self = record { shown = _; shows = refl; called = c.f-stays.ensures } in
    let sorted : IsStrictlySortedBy g.K.Ord.cmp (kept ++ k ∷ rest) = rw c.in-Some.ensures.steps at at.sorted in
    let asked = rw c.in-Some.ensures.steps at at.asked in
    let kept_on : stays ≡ true → keys_of c.push_if.new.items.items ≡ kept ++ k ∷ [] = λ t. ap keys_of (c.push_if.ensures.stays t) ∙ keys_append c.keys.kept.items ((k, tt) ∷ []) in
    let kept_as : stays ≡ false → keys_of c.push_if.new.items.items ≡ kept = λ f. ap keys_of (c.push_if.ensures.leaves f) in
    record {
      callable = mut_next g.F.FnMut _ _ _ _ _ c.f-stays.ensures refl at.callable;
      sorted = in_both stays (λ t. rw (kept_on t) (keys_still_sorted total kept k rest sorted)) (λ f. rw (kept_as f) (keys_without total kept k rest sorted));
      asked = in_both stays
          (λ t. rw (kept_on t) (one_stays (IsFiltered (CalledAt g.F.FnMut)) c.args.f c.args.self.now c.keys.f kept k rest asked c.f-stays.new.self k (filters_one (CalledAt g.F.FnMut) c.keys.f k c.f-stays.new.self (rw t at call))))
          (λ f. rw (kept_as f) (one_leaves (IsFiltered (CalledAt g.F.FnMut)) c.args.f c.args.self.now c.keys.f kept k rest asked c.f-stays.new.self (filters_none (CalledAt g.F.FnMut) c.keys.f k c.f-stays.new.self (rw f at call))));
      room = omega (arith, at.room, c.push_if.ensures.len, c.push_if.ensures.capacity, ap length c.in-Some.ensures.steps);
      capacity = c.push_if.ensures.capacity ∙ at.capacity;
    }

pub returns-in-Ok-from_ascending-clause-ok : goal.returns-in-Ok-from_ascending-clause-ok
returns-in-Ok-from_ascending-clause-ok g c =
    let kept = keys_of c.keys.kept.items in
    subst (IsFiltered (CalledAt g.F.FnMut) c.args.f c.args.self.now) (sym (ap keys_of c.in-Ok-from_ascending.ensures.contents))
    (all_asked (IsFiltered (CalledAt g.F.FnMut)) c.args.f c.args.self.now c.keys.f kept c.keys.keys c.keys.invariant.asked c.in_default-next.ensures.steps.0 (filters_nothing (CalledAt g.F.FnMut) c.keys.f))

pub returns-clause-err : goal.returns-clause-err
returns-clause-err g c =
    let kept = keys_of c.keys.kept.items in
    let given : c.move_keys.new.keys.items ≡ kept = c.move_keys.ensures ∙ ap keys_of c.in-Err.ensures.returned in (
      ap keys_of (c.replace.ensures.after ∙ c.in-Ok.ensures),
      subst (IsFiltered (CalledAt g.F.FnMut) c.args.f c.args.self.now) (sym given)
          (all_asked (IsFiltered (CalledAt g.F.FnMut)) c.args.f c.args.self.now c.keys.f kept c.keys.keys c.keys.invariant.asked c.in_default-next.ensures.steps.0 (filters_nothing (CalledAt g.F.FnMut) c.keys.f)),
    )
