use Rattle.bptree_arguments.proofs.GroupLemmas.{size_of_keys}
use Rattle.bptree_arguments.specs.GroupClones.{summary_alike}
use Rattle.bptree_arguments.proofs.group.laws_of_groups.Goals as goal

pub returns-clause-size : goal.returns-clause-size
returns-clause-size g c = λ h keys. size_of_keys g.G.Ord.cmp g.G.FromRef.group_of h keys

pub returns-clause-clones : goal.returns-clause-clones
returns-clause-clones g c = λ a b groups alike summary. summary_alike g.met.G.Ord.total a b groups alike summary
