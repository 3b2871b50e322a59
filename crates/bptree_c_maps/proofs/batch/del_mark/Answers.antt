use Rattle.std.proofs.Common.{◌≡◌, ◌∙◌, false, refl, sym, ap}
use Rattle.std.specs.Option.{is_some}
use Rattle.std.specs.Ordering.{nat_cmp}
use Rattle.bptree_keys.specs.Contents.{has}
use Rattle.bptree_keys.proofs.Equal.{has_where_value}
use Rattle.bptree_c_maps.proofs.batch.del_mark.Goals as goal

pub returns-in-Ok-None-clause-mark : goal.returns-in-Ok-None-clause-mark
returns-in-Ok-None-clause-mark c =
    let pairs = c.args.map.now in
    let k = c.args.key in
    let absent : has nat_cmp pairs k ≡ false = sym (has_where_value nat_cmp pairs k) ∙ ap is_some (sym c.in-Ok-None.ensures.ok.0 ∙ c.in-Ok-None.field-0-is) in
    rw absent refl
