use Rattle.std.proofs.Common.{arith}
use Rattle.std.proofs.lemmas.Map.Entries.{length-keys_of, length-values_of}
use Rattle.std.specs.Map.{keys_of, values_of}
use Rattle.bptree_contract_tests.proofs.BothEnds.{ends_taken}
use Rattle.bptree_contract_tests.proofs.callers.maps.gives_keys_and_values_at_both_ends.Goals as goal

pub returns-clause-keys : goal.returns-clause-keys
returns-clause-keys g c =
    rw c.len.ensures.value
    (ends_taken (keys_of c.args.map.now) c.next.new.self c.next_back.new.self c.next.result c.next_back.result (omega (arith, c.requires, length-keys_of c.args.map.now)) (rw c.keys-keys.ensures.rest at c.next.ensures.steps) c.next_back.ensures.steps)

pub returns-clause-values : goal.returns-clause-values
returns-clause-values g c =
    rw c.len-2.ensures.value
    (ends_taken (values_of c.args.map.now) c.next-2.new.self c.next_back-2.new.self c.next-2.result c.next_back-2.result (omega (arith, c.requires, length-values_of c.args.map.now)) (rw c.values-values.ensures.rest at c.next-2.ensures.steps) c.next_back-2.ensures.steps)
