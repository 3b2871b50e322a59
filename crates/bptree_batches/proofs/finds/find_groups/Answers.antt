use Rattle.std.proofs.Common.{◌≡◌, ◌+◌, ◌-◌, ◌≤◌, length, map, ◌∙◌, arith}
use Rattle.std.specs.Option.{option_copied}
use Rattle.std.proofs.lemmas.List.{length-map}
use Rattle.bptree_keys.specs.Contents.{value}
use Rattle.bptree_invariant.specs.Shape.{pairs_at}
use Rattle.bptree_batches.proofs.EachLemmas.{mapped_group_more, all_returned}
use Rattle.bptree_batches.proofs.FindLemmas.{map_put_mid}
use Rattle.bptree_batches.proofs.finds.find_groups.Goals as goal

pub groups-preserved : goal.groups-preserved
groups-preserved g c =
    let pairs = pairs_at (g.S.NodeStore.slots c.args.store.now) c.args.height c.args.root in
    let n = c.groups.at in
    let end = n + c.min.result in
    let keys = c.args.keys.now in
    let within : end ≤ length keys = omega arith in
    let ends : n + (end - n) ≡ end = omega arith in
    let old : length (map option_copied c.args.found.now) ≡ length keys = length-map c.args.found.now option_copied ∙ c.requires.found in
    let long : length c.groups.found ≡ length keys = omega arith in
    let now : length (map option_copied c.groups.found) ≡ length keys = length-map c.groups.found option_copied ∙ long in
    record {
      within = within;
      found =
          map_put_mid option_copied n (end - n) c.groups.found c.find_group.new.found
          ∙ mapped_group_more (value g.S.K.Ord.cmp pairs) keys (map option_copied c.args.found.now) (map option_copied c.groups.found) (map option_copied c.find_group.new.found) n (end - n) end c.groups.invariant.found ends within old now
          c.find_group.ensures;
    }

pub returns : goal.returns
returns g c =
    let pairs = pairs_at (g.S.NodeStore.slots c.args.store.now) c.args.height c.args.root in
    all_returned (value g.S.K.Ord.cmp pairs) c.args.keys.now (map option_copied c.args.found.now) (map option_copied c.groups.found) c.groups.at c.groups.invariant.found (omega arith) (length-map c.args.found.now option_copied ∙ c.requires.found)
