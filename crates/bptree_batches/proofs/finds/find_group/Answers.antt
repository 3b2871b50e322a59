use Rattle.std.proofs.Common.{◌≡◌, get_or, length, map, ◌∙◌, arith, Ok}
use Rattle.std.specs.Option.{option_copied}
use Rattle.std.proofs.lemmas.List.{length-map, map-set}
use Rattle.bptree_keys.specs.Contents.{value}
use Rattle.bptree_keys.specs.declared.node_id.NodeId.TheVariants.{Inner}
use Rattle.bptree_invariant.specs.Shape.{pairs_at}
use Rattle.bptree_batches.specs.Ways.{IsLeafNodeFor}
use Rattle.bptree_batches.proofs.EachLemmas.{returned_more, all_returned}
use Rattle.bptree_batches.proofs.FindLemmas.{leaves_there, member_of, slots_at, slot_within, value_from_slot}
use Rattle.bptree_batches.proofs.Split.{zip_at}
use Rattle.bptree_batches.proofs.WayLemmas.{leaf_there}
use Rattle.bptree_batches.proofs.finds.find_group.Goals as goal

pub locate_group-requires-clause-there : goal.locate_group-requires-clause-there
locate_group-requires-clause-there g c = leaves_there g.met.S.K.Ord.total (g.S.NodeStore.slots c.args.store.now) c.args.height c.args.root c.args.keys.now c.descend_group.new.nodes c.descend_group.ensures

pub value_at-requires-clause-there : goal.value_at-requires-clause-there
value_at-requires-clause-there g c =
    let slots = g.S.NodeStore.slots c.args.store.now in
    let n = c.keys.at in
    let keys = c.args.keys.now in
    let key = member_of keys n c.keys-test.true in
    let nodes = c.descend_group.new.nodes in
    let for' = zip_at (IsLeafNodeFor g.S.K.Ord.cmp slots c.args.height c.args.root) n keys nodes key (Inner record { 0 = 0 }) c.keys-test.true c.descend_group.ensures in
    leaf_there g.met.S.K.Ord.total slots c.args.height c.args.root (get_or keys n key) (get_or nodes n (Inner record { 0 = 0 })) for'

pub value_at-requires-clause-within : goal.value_at-requires-clause-within
value_at-requires-clause-within g c =
    let slots = g.S.NodeStore.slots c.args.store.now in
    let n = c.keys.at in
    let keys = c.args.keys.now in
    let key = member_of keys n c.keys-test.true in
    let nodes = c.descend_group.new.nodes in
    let for' = zip_at (IsLeafNodeFor g.S.K.Ord.cmp slots c.args.height c.args.root) n keys nodes key (Inner record { 0 = 0 }) c.keys-test.true c.descend_group.ensures in
    let indexes = c.locate_group.new.slots in
    let placed = slots_at g.met.S.K.Ord.total slots n nodes keys indexes (Inner record { 0 = 0 }) key (Ok 0) c.keys-test.true c.locate_group.ensures in
    slot_within g.met.S.K.Ord.total slots g.S.Argument.Argument.is_summary c.args.height c.args.root (get_or keys n key) (get_or nodes n (Inner record { 0 = 0 })) (get_or indexes n (Ok 0)) c.requires.shape for' placed

pub keys-preserved : goal.keys-preserved
keys-preserved g c =
    let slots = g.S.NodeStore.slots c.args.store.now in
    let n = c.keys.at in
    let keys = c.args.keys.now in
    let key = member_of keys n c.keys-test.true in
    let nodes = c.descend_group.new.nodes in
    let for' = zip_at (IsLeafNodeFor g.S.K.Ord.cmp slots c.args.height c.args.root) n keys nodes key (Inner record { 0 = 0 }) c.keys-test.true c.descend_group.ensures in
    let indexes = c.locate_group.new.slots in
    let placed = slots_at g.met.S.K.Ord.total slots n nodes keys indexes (Inner record { 0 = 0 }) key (Ok 0) c.keys-test.true c.locate_group.ensures in
    let pairs = pairs_at slots c.args.height c.args.root in
    let found = option_copied c.value_at.result in
    let read : found ≡ value g.S.K.Ord.cmp pairs (get_or keys n key) =
    value_from_slot g.met.S.K.Ord.total slots g.S.Argument.Argument.is_summary c.args.height c.args.root (get_or keys n key) (get_or nodes n (Inner record { 0 = 0 })) (get_or indexes n (Ok 0)) c.requires.shape for' placed found
    c.value_at.ensures in
    let long : length (map option_copied c.args.found.now) ≡ length keys = length-map c.args.found.now option_copied ∙ c.requires.found in
    record {
      within = omega arith;
      found =
          map-set option_copied c.keys.found n c.value_at.result
          ∙ returned_more (λ k old. value g.S.K.Ord.cmp pairs k) keys (map option_copied c.args.found.now) (map option_copied c.keys.found) n key found c.keys.invariant.found c.keys-test.true long (λ old. read);
    }

pub returns : goal.returns
returns g c =
    let pairs = pairs_at (g.S.NodeStore.slots c.args.store.now) c.args.height c.args.root in
    all_returned (value g.S.K.Ord.cmp pairs) c.args.keys.now (map option_copied c.args.found.now) (map option_copied c.keys.found) c.keys.at c.keys.invariant.found (omega arith) (length-map c.args.found.now option_copied ∙ c.requires.found)
