use Rattle.std.proofs.Common.{ap, refl}
use Rattle.std.proofs.lemmas.Result.{IfOk-weaker, on_err_weaker}
use Rattle.bptree_map.proofs.map.BPlusTreeMap.get_mut_by_argument.Goals as goal

-- the tree's contract states it of its contents
pub returns : goal.returns
returns g c = rw (← c.self.view_is) (
  (
    refl,
    λ w ok. IfOk-weaker c.get_mut_by_argument.result _ _ (λ r writes. record { index = writes.index; selected = writes.selected; value = writes.value; contents = writes.contents }) (c.get_mut_by_argument.follows.holds w ok),
    on_err_weaker c.get_mut_by_argument.result (λ same. ap (λ tree. tree.contents) same) c.get_mut_by_argument.follows.holds-at-none,
  ),
  record { writes_back = tt; value = c.get_mut_by_argument.ensures.value; absent = c.get_mut_by_argument.ensures.absent; infallible = c.get_mut_by_argument.ensures.infallible },
)
