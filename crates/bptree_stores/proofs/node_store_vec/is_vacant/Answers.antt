use Rattle.std.proofs.Common.{sym, ◌∙◌}
use Rattle.std.proofs.lemmas.Bool.{eqb-true, eq-eqb}
use Rattle.bptree_stores.specs.IdState.{vacant_where_empty, empty_where_vacant}
use Rattle.bptree_stores.proofs.node_store_vec.is_vacant.Goals as goal

pub returns : goal.returns
returns g c =
    let indexes = c.args.indexes.now in
    (λ h. vacant_where_empty indexes (eqb-true _ _ (sym c.is_empty.ensures ∙ h)), λ all. c.is_empty.ensures ∙ eq-eqb _ _ (empty_where_vacant indexes all))
