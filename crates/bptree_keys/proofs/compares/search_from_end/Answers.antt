use Rattle.std.proofs.Common.{◌-◌, sym, length, arith, ◌∙◌}
use Rattle.bptree_keys.proofs.Steps.{all_before}
use Rattle.bptree_keys.proofs.compares.search_from_end.Goals as goal

pub returns-in-Less-clause-position : goal.returns-in-Less-clause-position
returns-in-Less-clause-position g c = λ up.
    (λ k d a b. all_before (λ (y : g.row.K.Denot). g.K.Ord.cmp y c.args.key.now) c.args.keys.now (length c.args.keys.now - 1) c.index-keys-last.result (omega arith) c.index-keys-last.is (sym c.compare.ensures.order ∙ c.in-Less.is) up k d a (omega arith), λ k d a b. absurd (omega arith))

pub returns-in-Greater-clause-count : goal.returns-in-Greater-clause-count
returns-in-Greater-clause-count g c = omega (arith, c.search_halves.ensures.count 6 (omega (arith, c.requires)), c.compare.ensures.count)
