-- The text of all pairs, pair by pair.
use Rattle.std.proofs.Common.{◌≡◌, ◌-◌, ◌^◌, ℕ, zero, suc, List, [], ◌∷◌, ◌++◌, codes, map, Bool, true, false, refl, sym, ap, append-nil}
use Rattle.std.specs.List.{join_with_byte}
use Rattle.std.specs.Ordering.{nat_cmp}
use Rattle.bptree_tree.specs.Pages.{page}
use Rattle.bptree_commands.specs.ReplyLists.{pair_text, item_text, pairs_text, page_text, put_text}
use Rattle.bptree_tree.specs.Changes.{IsFull}

-- The text of the pairs that are left of a list.
abbrev pub items_text : Bool → List (ℕ × ℕ) → List ℕ
items_text is_first [] = []
items_text is_first (pair ∷ pairs) = item_text is_first pair ++ items_text false pairs

-- The text of a pair and of the pairs after it is their texts with commas between them.
joined_items : (pair : ℕ × ℕ) (pairs : List (ℕ × ℕ)) → pair_text pair ++ items_text false pairs ≡ join_with_byte 44 (map pair_text (pair ∷ pairs))
joined_items pair [] = append-nil (pair_text pair)
joined_items pair (next ∷ pairs) = ap (λ t. pair_text pair ++ (44 ∷ t)) (joined_items next pairs)

-- The text of the items of a list with a pair is the text of its pairs.
pub items_text-is : (pairs : List (ℕ × ℕ)) → (pairs ≡ [] → ⊥) → items_text true pairs ≡ pairs_text pairs
items_text-is [] some = absurd (some refl)
items_text-is (pair ∷ pairs) some = joined_items pair pairs

-- The text of a page is the text of its pairs.
pub page_text-is : (pairs found : List (ℕ × ℕ)) (p s : ℕ) → (s ≡ 0 → ⊥) → found ≡ page pairs p s → page_text pairs p s ≡ pairs_text found
page_text-is pairs found p zero some is = absurd (some refl)
page_text-is pairs found p (suc s) some is = ap pairs_text (sym is)

-- If the list has no room for another pair, the reply to a put is `full`.
pub full_text-is : (pairs : List (ℕ × ℕ)) (key : ℕ) → IsFull nat_cmp (2 ^ 64 - 1) pairs key → put_text pairs key ≡ codes "full"
full_text-is pairs key full = rw (full.0, full.1) refl
