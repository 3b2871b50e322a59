use Rattle.std.proofs.Common.{◌≡◌, ◌⊎◌, inl, refl}
use Rattle.bptree_map.proofs.AddingLemmas.{made_after, there_after, written_after}
use Rattle.bptree_map.proofs.UpsertLemmas.{still_not_full}
use Rattle.bptree_map.proofs.map.BPlusTreeMap.get_or_insert_with.Goals as goal

-- two borrows from one owner with the same list after each write are equal
same_lending : {N W L M : Type 0} {n : N} {F G : W → L} → ((w : W) → F w ≡ G w) → ◌≡◌ {A = (N × (W → L)) ⊎ M} (inl (n, F)) (inl (n, G))
same_lending {n = n} same = λ i. inl (n, λ w. same w i)

pub value_at_mut-requires : goal.value_at_mut-requires
value_at_mut-requires g c =
    there_after g.met.K.Ord.total (goal.F-post g c.args.f) c.args.self.now c.put_absent.new.self c.args.k c.in_ok-key.key c.in_ok-key.ensures.equal c.in_ok-key.ensures.ok

pub returns : goal.returns
returns g c = (
  same_lending (λ w. written_after g.met.K.Ord.total (goal.F-post g c.args.f) c.args.self.now c.put_absent.new.self c.args.k c.in_ok-key.key c.in_ok-key.ensures.equal c.in_ok-key.ensures.ok w),
  record {
    writes_back = tt;
    value = made_after g.met.K.Ord.total (goal.F-post g c.args.f) c.args.self.now c.put_absent.new.self c.args.k c.in_ok-key.key c.in_ok-key.ensures.equal c.in_ok-key.ensures.ok c.value_at_mut.result.now c.value_at_mut.ensures.value;
    present = λ _. refl;
    err = tt;
    full = still_not_full g.K.Ord.cmp _ c.args.k c.args.self.now _ _ c.in_ok-key.ensures.full;
  },
)
