use Rattle.std.proofs.Common.{ℕ, List, Option, None, Some}
use Rattle.std.specs.Borrow.{Bor}
use Rattle.std.specs.declared.cmp.Ordering.{Ordering}
use Rattle.bptree_search.proofs.Selected.{ok_both}
use Rattle.bptree_search.specs.ByArgument.{IsSelected}
use Rattle.bptree_tree.specs.Cursor.{PointsAt, ShowsValueOf, found_pair}
use Rattle.bptree_tree.specs.Selected.{PointsAtSelected}
use Rattle.bptree_tree.specs.declared.cursor.Cursor.{Cursor}
use Rattle.bptree_tree.proofs.tree.BPlusTree.cursor_by_argument.Goals as goal

-- a cursor on the pair that was selected
points_at_selected : {Q K V : Type 0} (cmp : K → K → Ordering) (selects : Q → List K → Option ℕ → Type 0) (query : Q) (l : List (K × V)) (pair : Option (K × V)) → IsSelected selects query l pair → (outcome : Option (Cursor K × Bor V)) → PointsAt cmp pair outcome → ShowsValueOf pair outcome → PointsAtSelected selects query l cmp outcome
points_at_selected cmp selects query l pair selected None cursor value = record { pair = pair; selected = selected; cursor = cursor; value = value }
points_at_selected cmp selects query l pair selected (Some found) cursor value = record { pair = pair; selected = selected; cursor = cursor; value = value }

pub returns-clause-selected : goal.returns-clause-selected
returns-clause-selected g c =
    ok_both c.cursor_on.result _ _ _ c.cursor_on.ensures.cursor c.cursor_on.ensures.value
    (points_at_selected g.S.K.Ord.cmp g.S.Argument.SearchArgument.selects c.args.query c.args.self.now.contents (found_pair c.in_ok-index_by_argument.field-0) c.in_ok-index_by_argument.ensures.selected)
