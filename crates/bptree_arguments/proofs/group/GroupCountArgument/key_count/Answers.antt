use Rattle.bptree_arguments.proofs.GroupWholeLemmas.{only_size}
use Rattle.bptree_arguments.proofs.group.GroupCountArgument.key_count.Goals as goal

pub returns-in-One : goal.returns-in-One
returns-in-One g c = record {
  reported = λ keys reported.
      only_size g.met.G.Ord.total g.G.FromRef.group_of c.in-One.field-0 c.in-One.size keys (rw c.in-One.is at reported);
}
