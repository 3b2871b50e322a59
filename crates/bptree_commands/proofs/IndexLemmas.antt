-- The pair at an index, as a count of keys finds it, and the pair beside a key, as a cursor finds
-- it.
use Rattle.std.proofs.Common.{◌≡◌, ℕ, List, Option, Some, None, refl, sym, ap, ◌∙◌}
use Rattle.std.specs.Cmp.{ranked}
use Rattle.std.specs.List.{slice_get}
use Rattle.std.specs.Option.{option_map}
use Rattle.std.specs.Ordering.{nat_cmp}
use Rattle.std.specs.declared.cmp.Ordering.TheVariants.{Equal}
use Rattle.std.proofs.lemmas.Map.Entries.{length-keys_of}
use Rattle.std.proofs.lemmas.Option.{slice_get_past}
use Rattle.bptree_arguments.specs.CountLaws.{SelectsIndex}
use Rattle.bptree_search.specs.ByArgument.{IsSelected}
use Rattle.bptree_tree.specs.Cursor.{cursor_key, IsCursorAt}
use Rattle.bptree_tree.specs.declared.cursor.Cursor.{Cursor}

-- The pair that an index selects is the pair at that index, or `None` past the end.
pub selected_is : {K V : Type 0} (i : ℕ) (pairs : List (K × V)) (found : Option (K × V)) → IsSelected SelectsIndex i pairs found → found ≡ slice_get pairs i
selected_is i pairs found (None, within, selects, is) = is ∙ sym (slice_get_past pairs i (rw (length-keys_of pairs) at selects))
selected_is i pairs found (Some index, within, selects, is) = is ∙ ap (slice_get pairs) selects.0

-- Numbers that compare equal are equal.
pub same_number : (x y : ℕ) → nat_cmp x y ≡ Equal → x ≡ y
same_number x y equal = ranked x y Equal (sym equal)

-- The key of a cursor at a pair, with the value there, is that pair.
pub beside_is : {V X : Type 0} (shows : X → V) (pair : Option (ℕ × V)) (outcome : Option (Cursor ℕ × X)) → IsCursorAt nat_cmp pair (option_map (λ found. found.0) outcome) → option_map (λ found. shows found.1) outcome ≡ option_map (λ p. p.1) pair
    → option_map (λ found. (cursor_key found.0, shows found.1)) outcome ≡ pair
beside_is shows None None stored same = refl
beside_is shows None (Some found) stored same = absurd (cc stored)
beside_is shows (Some pair) None stored same = absurd stored
beside_is shows (Some pair) (Some found) stored same =
    let key : cursor_key found.0 ≡ pair.0 = same_number (cursor_key found.0) pair.0 stored in
    let value : shows found.1 ≡ pair.1 = cc same in
    rw (key, value) refl
