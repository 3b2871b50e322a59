use Rattle.std.proofs.Common.{◌≡◌, Option, None, [], subst}
use Rattle.std.proofs.lemmas.List.{append-nil}
use Rattle.bptree_shard_routing.specs.declared.combining.Part.{Part}
use Rattle.bptree_shard_routing.specs.Lengths.{IsNextPart, ArePartsOf}
use Rattle.bptree_shard_routing.proofs.combining.parts.Goals as goal

pub returns : goal.returns
returns c =
    let left = c.loop-part.left in
    let from = c.loop-part.from in
    let none : c.next_part.result ≡ None = cc in
    let end : IsNextPart c.args.lengths.now from left None = subst (λ (found : Option Part). IsNextPart c.args.lengths.now from left found) none c.next_part.ensures in
    subst (λ found. ArePartsOf c.args.lengths.now c.args.index c.args.n found) (append-nil c.loop-part.found.items) (c.loop-part.invariant [] end)
