use Rattle.std.proofs.Common.{◌∙◌, ap, refl, slice_get, sym}
use Rattle.std.proofs.lemmas.Map.Entries.{length-keys_of}
use Rattle.std.proofs.lemmas.Result.{IfOk-weaker, on_err_weaker}
use Rattle.std.specs.Map.{values_of}
use Rattle.bptree_nodes.specs.Leaf.{set_value_at}
use Rattle.bptree_map.proofs.IndexLemmas.{of_err, of_ok}
use Rattle.bptree_map.proofs.map.BPlusTreeMap+K+V+Count.get_index_mut.Goals as goal

-- the tree's contract, at the index that the count selects
pub returns : goal.returns
returns g c =
    let old = c.self.inside.inner.contents in
    rw (← c.self.view_is) (
      (
        refl,
        λ w ok. of_ok c.get_mut_by_argument.result _ _ ok (λ r writes. writes.contents ∙ ap (λ index. set_value_at old index w) writes.selected.0) (c.get_mut_by_argument.follows.holds w ok),
        on_err_weaker c.get_mut_by_argument.result (λ same. ap (λ tree. tree.contents) same) c.get_mut_by_argument.follows.holds-at-none,
      ),
      record {
        writes_back = tt;
        value = IfOk-weaker c.get_mut_by_argument.result _ _ (λ borrowed found. ap (slice_get (values_of old)) (sym found.1.0) ∙ found.2) c.get_mut_by_argument.ensures.value;
        past = of_err c.get_mut_by_argument.result _ c.get_mut_by_argument.ensures.absent (c.get_mut_by_argument.ensures.infallible tt) (λ past. rw (length-keys_of old) at past);
      },
    )
