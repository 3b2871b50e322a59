-- An entry of an index that replaces another.
use Rattle.std.specs.Prelude.{◌≡◌, ◌≢◌, ◌⊎◌, ℕ, List, Some, ⊤}
use Rattle.std.specs.declared.cmp.Ordering.{Ordering}
use Rattle.std.specs.Ordering.{nat_cmp}
use Rattle.bptree_keys.specs.Contents.{put, del, value as value_of}
use Rattle.bptree_examples.specs.declared.uses.secondary_index.Entry.{Entry}

-- The entry of a row with a value.
abbrev pub entry_of : ℕ → ℕ → Entry
entry_of value row = record { value = value; row = row }

-- The entries after the new entry is inserted and then the old one is removed.
abbrev pub moved : {V : Type 0} → (Entry → Entry → Ordering) → V → List (Entry × V) → Entry → Entry → List (Entry × V)
moved cmp value entries old new = del cmp (put cmp entries new value) old

-- A row has a value.
abbrev pub RowHas : List (ℕ × ℕ) → ℕ → ℕ → Type 0
RowHas rows row value = value_of nat_cmp rows row ≡ Some value

module _ (cmp : Entry → Entry → Ordering) where
  -- The entries are unchanged, or the new one is inserted among them.
  abbrev pub StaysOrPuts : List (Entry × ⊤) → List (Entry × ⊤) → Entry → Type 0
  StaysOrPuts before after new = (after ≡ before) ⊎ (after ≡ put cmp before new tt)

  -- If a row has another value, the entry with the new value replaces the entry with the old one.
  abbrev pub FollowsRow : List (ℕ × ℕ) → ℕ → ℕ → List (Entry × ⊤) → List (Entry × ⊤) → Type 0
  FollowsRow rows row now before after =
      (old : ℕ) → RowHas rows row old → old ≢ now → after ≡ moved cmp tt before (entry_of old row) (entry_of now row)
