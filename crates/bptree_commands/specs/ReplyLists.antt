-- The replies to lines.
use Rattle.std.specs.Prelude.{ℕ, zero, suc, ◌-◌, ◌^◌, ◌==◌, ◌&&◌, not, List, [], ◌∷◌, ◌++◌, length, map, Bool, true, false, if◌then◌else◌, Option, Some, None, codes, decimal, reverse, slice_get}
use Rattle.std.specs.List.{join_with_byte}
use Rattle.std.specs.Map.{keys_of}
use Rattle.std.specs.Ordering.{nat_cmp}
use Rattle.bptree_arguments.specs.CountLaws.{count_below}
use Rattle.bptree_keys.specs.Contents.{has, value, put, del, next, previous}
use Rattle.bptree_keys.specs.Ranges.{between}
use Rattle.bptree_tree.specs.Pages.{page}
use Rattle.bptree_protocol.specs.Request.{request_of}
use Rattle.bptree_protocol.specs.declared.Request.{Request}
use Rattle.bptree_protocol.specs.declared.Request.TheVariants.{Put, Del, Get, Len, All, First, Last, At, Rank, Next, Prev, Back, Clear, Range, Page}
use Rattle.bptree_commands.specs.Lines.{lines_of}

-- The text of a value, or `none`.
abbrev pub value_text : Option ℕ → List ℕ
value_text None = codes "none"
value_text (Some found) = decimal found

-- The reply to a put: `new`, or `old` and the value before.
abbrev pub old_text : Option ℕ → List ℕ
old_text None = codes "new"
old_text (Some old) = codes "old " ++ decimal old

-- The reply to a removal: `none`, or `gone` and the value.
abbrev pub gone_text : Option ℕ → List ℕ
gone_text None = codes "none"
gone_text (Some gone) = codes "gone " ++ decimal gone

-- The reply to the removal of a key.
abbrev pub del_text : List (ℕ × ℕ) → ℕ → List ℕ
del_text pairs key = gone_text (value nat_cmp pairs key)

-- The key is absent, and the number of pairs is the greatest number.
abbrev pub has_no_index : List (ℕ × ℕ) → ℕ → Bool
has_no_index pairs key = (length pairs == 2 ^ 64 - 1) && not (has nat_cmp pairs key)

-- The reply to a put: `full`, or `old_text` of the value at the key.
abbrev pub put_text : List (ℕ × ℕ) → ℕ → List ℕ
put_text pairs key = if has_no_index pairs key then codes "full" else old_text (value nat_cmp pairs key)

-- The pairs after a put: unchanged if the reply is `full`.
abbrev pub pairs_with_put : List (ℕ × ℕ) → ℕ → ℕ → List (ℕ × ℕ)
pairs_with_put pairs key new = if has_no_index pairs key then pairs else put nat_cmp pairs key new

-- The text of a pair: the key, a space and the value.
abbrev pub pair_text : ℕ × ℕ → List ℕ
pair_text pair = decimal pair.0 ++ 32 ∷ decimal pair.1

-- The text of a pair, or `none`.
abbrev pub found_text : Option (ℕ × ℕ) → List ℕ
found_text None = codes "none"
found_text (Some pair) = pair_text pair

-- The reply to `rank`: whether the key is present, and the number of smaller keys.
abbrev pub rank_text : Bool → ℕ → List ℕ
rank_text true smaller = codes "in " ++ decimal smaller
rank_text false smaller = codes "out " ++ decimal smaller

-- The reply to `rank` for a key among pairs.
abbrev pub key_rank_text : List (ℕ × ℕ) → ℕ → List ℕ
key_rank_text pairs key = rank_text (has nat_cmp pairs key) (count_below nat_cmp key (keys_of pairs))

-- The text of all pairs, with a comma between two, or `empty`.
abbrev pub pairs_text : List (ℕ × ℕ) → List ℕ
pairs_text [] = codes "empty"
pairs_text (pair ∷ pairs) = join_with_byte 44 (map pair_text (pair ∷ pairs))

-- The text of page p of s pairs, or `bad` if s is 0.
abbrev pub page_text : List (ℕ × ℕ) → ℕ → ℕ → List ℕ
page_text pairs p zero = codes "bad"
page_text pairs p (suc s) = pairs_text (page pairs p (suc s))

-- The text of a pair in a list, with a comma before it if the pair is not the first.
abbrev pub item_text : Bool → ℕ × ℕ → List ℕ
item_text true pair = pair_text pair
item_text false pair = 44 ∷ pair_text pair

-- The reply to a line that was read as a request, or as no request.
abbrev pub reply_to : List (ℕ × ℕ) → Option Request → List ℕ
reply_to pairs None = codes "bad"
reply_to pairs (Some (Put key new)) = put_text pairs key
reply_to pairs (Some (Del key)) = del_text pairs key
reply_to pairs (Some (Get key)) = value_text (value nat_cmp pairs key)
reply_to pairs (Some Len) = decimal (length pairs)
reply_to pairs (Some All) = pairs_text pairs
reply_to pairs (Some First) = found_text (slice_get pairs 0)
reply_to pairs (Some Last) = found_text (slice_get pairs (length pairs - 1))
reply_to pairs (Some (At i)) = found_text (slice_get pairs i)
reply_to pairs (Some (Rank key)) = key_rank_text pairs key
reply_to pairs (Some (Next key)) = found_text (next nat_cmp pairs key)
reply_to pairs (Some (Prev key)) = found_text (previous nat_cmp pairs key)
reply_to pairs (Some Back) = pairs_text (reverse pairs)
reply_to pairs (Some Clear) = codes "cleared"
reply_to pairs (Some (Range lo hi)) = pairs_text (between nat_cmp pairs (Some lo) (Some hi))
reply_to pairs (Some (Page p s)) = page_text pairs p s

-- The pairs after a line that was read as a request, or as no request.
abbrev pub pairs_with : List (ℕ × ℕ) → Option Request → List (ℕ × ℕ)
pairs_with pairs None = pairs
pairs_with pairs (Some (Put key new)) = pairs_with_put pairs key new
pairs_with pairs (Some (Del key)) = del nat_cmp pairs key
pairs_with pairs (Some (Get key)) = pairs
pairs_with pairs (Some Len) = pairs
pairs_with pairs (Some All) = pairs
pairs_with pairs (Some First) = pairs
pairs_with pairs (Some Last) = pairs
pairs_with pairs (Some (At i)) = pairs
pairs_with pairs (Some (Rank key)) = pairs
pairs_with pairs (Some (Next key)) = pairs
pairs_with pairs (Some (Prev key)) = pairs
pairs_with pairs (Some Back) = pairs
pairs_with pairs (Some Clear) = []
pairs_with pairs (Some (Range lo hi)) = pairs
pairs_with pairs (Some (Page p s)) = pairs

-- The reply to a line without a line feed, the reply with it, and the pairs after the line.
abbrev pub reply_text : List (ℕ × ℕ) → List ℕ → List ℕ
reply_text pairs line = reply_to pairs (request_of line)

unfoldable pub outcome : List (ℕ × ℕ) → List ℕ → List ℕ
outcome pairs line = reply_text pairs line ++ 10 ∷ []

unfoldable pub pairs_after_command : List (ℕ × ℕ) → List ℕ → List (ℕ × ℕ)
pairs_after_command pairs line = pairs_with pairs (request_of line)

-- The replies to lines, and the pairs after them.
abbrev pub outcomes : List (ℕ × ℕ) → List (List ℕ) → List ℕ
outcomes pairs [] = []
outcomes pairs (line ∷ lines) = outcome pairs line ++ outcomes (pairs_after_command pairs line) lines

abbrev pub pairs_after_all : List (ℕ × ℕ) → List (List ℕ) → List (ℕ × ℕ)
pairs_after_all pairs [] = pairs
pairs_after_all pairs (line ∷ lines) = pairs_after_all (pairs_after_command pairs line) lines

-- The replies to a whole input.
abbrev pub text : List ℕ → List ℕ
text input = outcomes [] (lines_of input)
