-- The reply that a caller of one command gets.
use Rattle.std.specs.Prelude.{◌≡◌, ◌<◌, ◌≤◌, ◌-◌, ◌^◌, ◌⊎◌, ℕ, List, Option, length, slice_get, true, false, if◌then◌else◌, Ok, Err}
use Rattle.std.specs.Map.{keys_of}
use Rattle.std.specs.Ordering.{nat_cmp}
use Rattle.std.specs.declared.cmp.Ordering.{Ordering}
use Rattle.bptree_arguments.specs.CountLaws.{count_below}
use Rattle.bptree_propagation.specs.Borrowing.{written}
use Rattle.bptree_keys.specs.Contents.{has, value, put}
use Rattle.bptree_nodes.specs.Leaf.{set_value_at}
use Rattle.bptree_commands.specs.declared.commands.Reply.{Reply}
use Rattle.bptree_commands.specs.declared.commands.Reply.TheVariants.{Value, Pair, Number, Done, Rank, OutOfMemory, Full}

module _ {K V R : Type 0} where
  -- A pair is put, or nothing changes: an allocation failed, or the tree is full.
  abbrev pub RepliesToInsert : (K → K → Ordering) → K → V → List (K × V) → List (K × V) → Reply K V R → Type 0
  RepliesToInsert cmp k v old new reply = ((reply ≡ Value (value cmp old k)) × (new ≡ put cmp old k v))
      ⊎ (((reply ≡ OutOfMemory) ⊎ ((reply ≡ Full) × (length old ≡ 2 ^ 64 - 1))) × (has cmp old k ≡ false) × (new ≡ old))

  -- The value of a key is written if the key is present.
  abbrev pub RepliesToSet : (K → K → Ordering) → K → V → List (K × V) → List (K × V) → Reply K V R → Type 0
  RepliesToSet cmp k v old new reply = (reply ≡ Done (has cmp old k)) × (new ≡ (if has cmp old k then written cmp k old v else old))

  -- The reply is the value of a key, and nothing changes.
  abbrev pub RepliesToGet : (K → K → Ordering) → K → List (K × V) → List (K × V) → Reply K V R → Type 0
  RepliesToGet cmp k old new reply = (reply ≡ Value (value cmp old k)) × (new ≡ old)

  -- The reply is the length, and nothing changes.
  abbrev pub RepliesToLen : List (K × V) → List (K × V) → Reply K V R → Type 0
  RepliesToLen old new reply = (reply ≡ Number (length old)) × (new ≡ old)

  -- The reply is the pair at an index, or an allocation failed.
  abbrev pub ShowsPairAt : ℕ → List (K × V) → Reply K V R → Type 0
  ShowsPairAt i l reply = (reply ≡ Pair (slice_get l i)) ⊎ (reply ≡ OutOfMemory)

  -- The reply is the pair at an index, or an allocation failed, and nothing changes.
  abbrev pub RepliesToAt : ℕ → List (K × V) → List (K × V) → Reply K V R → Type 0
  RepliesToAt i old new reply = ShowsPairAt i old reply × (new ≡ old)

  -- The replies are both ends of a list, and nothing changes.
  abbrev pub RepliesToEnds : List (K × V) → List (K × V) → Reply K V R × Reply K V R → Type 0
  RepliesToEnds old new replies = (ShowsPairAt 0 old replies.0 × ShowsPairAt (length old - 1) old replies.1) × (new ≡ old)

  -- The value at an index is written. If the list has no such index, or an allocation fails,
  -- nothing changes.
  abbrev pub RepliesToSetAt : ℕ → V → List (K × V) → List (K × V) → Reply K V R → Type 0
  RepliesToSetAt i v old new reply = ((reply ≡ Done true) × (i < length old) × (new ≡ set_value_at old i v))
      ⊎ ((reply ≡ Done false) × (length old ≤ i) × (new ≡ old))
      ⊎ ((reply ≡ OutOfMemory) × (new ≡ old))

-- The reply is whether a key is present, with the number of smaller keys, or an allocation failed.
abbrev pub ShowsRank : {V : Type 0} → ℕ → List (ℕ × V) → Reply ℕ V ℕ → Type 0
ShowsRank k l reply =
    let smaller = count_below nat_cmp k (keys_of l) in
    (reply ≡ Rank (if has nat_cmp l k then Ok smaller else Err smaller)) ⊎ (reply ≡ OutOfMemory)

-- The reply is the rank of a key, or an allocation failed, and nothing changes.
abbrev pub RepliesToRank : {V : Type 0} → ℕ → List (ℕ × V) → List (ℕ × V) → Reply ℕ V ℕ → Type 0
RepliesToRank k old new reply = ShowsRank k old reply × (new ≡ old)
