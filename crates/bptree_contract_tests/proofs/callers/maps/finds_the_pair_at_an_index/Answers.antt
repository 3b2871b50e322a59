use Rattle.std.proofs.Common.{◌≡◌, ◌∙◌, ℕ, List, Option, Some, None, ap, sym}
use Rattle.std.specs.List.{slice_get}
use Rattle.std.proofs.lemmas.Map.Entries.{length-keys_of}
use Rattle.std.proofs.lemmas.Option.{slice_get_past}
use Rattle.bptree_arguments.specs.CountLaws.{SelectsIndex}
use Rattle.bptree_search.specs.ByArgument.{IsSelected}
use Rattle.bptree_contract_tests.proofs.callers.maps.finds_the_pair_at_an_index.Goals as goal

-- The pair that an index selects is the pair at that index, or `None` past the end.
selected_is : {K V : Type 0} (i : ℕ) (pairs : List (K × V)) (found : Option (K × V)) → IsSelected SelectsIndex i pairs found → found ≡ slice_get pairs i
selected_is i pairs found (None, within, selects, is) = is ∙ sym (slice_get_past pairs i (rw (length-keys_of pairs) at selects))
selected_is i pairs found (Some index, within, selects, is) = is ∙ ap (slice_get pairs) selects.0

pub returns : goal.returns
returns g c = selected_is c.args.index c.args.map.now _ c.in-Ok.ensures.selected
