use Rattle.std.proofs.Common.{◌≤◌, arith, length, sym}
use Rattle.std.proofs.lemmas.Option.{slice_get_past}
use Rattle.bptree_map.proofs.IndexLemmas.{all_stay}
use Rattle.bptree_map.proofs.map.BPlusTreeMap+K+V+Count.remove_index.Goals as goal

pub returns-then-i-len-clause-ok : goal.returns-then-i-len-clause-ok
returns-then-i-len-clause-ok g c =
    let past : length c.args.self.now ≤ c.args.i = omega (arith, c.len.ensures.value) in
    (sym (slice_get_past c.args.self.now c.args.i past), all_stay c.args.self.now c.args.i past)
