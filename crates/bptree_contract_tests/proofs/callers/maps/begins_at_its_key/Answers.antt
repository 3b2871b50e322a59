use Rattle.std.proofs.Common.{Option, Some, None, IfSome, refl}
use Rattle.std.specs.Option.{option_map, IsSomeAnd}
use Rattle.std.proofs.lemmas.Result.{IfOk-weaker}
use Rattle.bptree_contract_tests.proofs.EntryLemmas.{least_is, no_smaller_key}
use Rattle.bptree_contract_tests.proofs.callers.maps.begins_at_its_key.Goals as goal

-- A statement about what is shown of a result is a statement about the result.
none_below : {T C : Type 0} (shows : T → C) (P : C → Type 0) (o : Option T) → IfSome (option_map shows o) P → IfSome o (λ x. P (shows x))
none_below shows P None h = tt
none_below shows P (Some x) h = h

there_too : {T C : Type 0} (shows : T → C) (P : C → Type 0) (o : Option T) → IsSomeAnd (option_map shows o) P → IsSomeAnd o (λ x. P (shows x))
there_too shows P None h = h
there_too shows P (Some x) h = h

pub returns-clause-least : goal.returns-clause-least
returns-clause-least g c = IfOk-weaker c.lower_bound.result _ _ (λ found points. none_below _ _ found (no_smaller_key g.K.Ord.cmp c.args.k.now g.met.K.Ord.total _ _ c.args.map.now refl points)) c.lower_bound.ensures.cursor

pub returns-clause-there : goal.returns-clause-there
returns-clause-there g c = λ there. IfOk-weaker c.lower_bound.result _ _ (λ found points. there_too _ _ found (least_is g.K.Ord.cmp c.args.k.now g.met.K.Ord.total c.args.map.now c.recall.ensures.ascending there _ points)) c.lower_bound.ensures.cursor
