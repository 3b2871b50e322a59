use Rattle.std.proofs.Common.{◌∙◌, refl, sym}
use Rattle.std.specs.Option.{option_copied}
use Rattle.bptree_tree.proofs.RangeRemovalLemmas.{absent_between, first_between, some_not_none}
use Rattle.bptree_tree.proofs.tree.range_removal.drop_first_of.Goals as goal

-- no key equals that of the first pair, so there is no such pair
pub returns-in_default-find_entry-clause-ok : goal.returns-in_default-find_entry-clause-ok
returns-in_default-find_entry-clause-ok g c =
    (absent_between g.met.S.K.Ord.total (option_copied c.args.lo) (option_copied c.args.hi) c.in-Some.k.now c.in-Some.field-0-1.now c.next.new.self _ c.recall.ensures.ascending (sym (c.pairs_from.ensures.rest _ c.part_between.ensures) ∙ c.in-Some.ensures.steps) (sym c.in_default-find_entry.ensures.there), refl)

-- the pair that is removed is the first one between the ends
pub returns-clause-ok : goal.returns-clause-ok
returns-clause-ok g c =
    let taken = c.in_ok-take_entry.ensures.taken c.in-Some.k.now c.in-Some-find_entry.ensures.way in
    first_between g.met.S.K.Ord.total (option_copied c.args.lo) (option_copied c.args.hi) c.in-Some.k.now c.in-Some.field-0-1.now c.next.new.self _ c.recall.ensures.ascending (sym (c.pairs_from.ensures.rest _ c.part_between.ensures) ∙ c.in-Some.ensures.steps) (sym c.in-Some-find_entry.ensures.there) _ taken.2

-- if a pair was found, there is one between the ends
pub returns-in_err-take_entry-clause-empty : goal.returns-in_err-take_entry-clause-empty
returns-in_err-take_entry-clause-empty g c = λ none. absurd (some_not_none _ _ _ (sym (c.pairs_from.ensures.rest _ c.part_between.ensures) ∙ c.in-Some.ensures.steps) none)

pub returns-clause-empty : goal.returns-clause-empty
returns-clause-empty g c = λ none. absurd (some_not_none _ _ _ (sym (c.pairs_from.ensures.rest _ c.part_between.ensures) ∙ c.in-Some.ensures.steps) none)
