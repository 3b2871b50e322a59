-- Ends of a list and sides of an item, as Booleans.
use Rattle.std.specs.Prelude.{Bool, true, false}
use Rattle.bptree_keys.specs.declared.end.End.{End}
use Rattle.bptree_keys.specs.declared.end.End.TheVariants.{Front, Back}
use Rattle.bptree_keys.specs.declared.end.Side.{Side}
use Rattle.bptree_keys.specs.declared.end.Side.TheVariants.{Before, After}

-- whether the end is the one with the last item
abbrev pub is_back : End → Bool
is_back Front = false
is_back Back = true

-- whether the side is the one of the later items
abbrev pub is_after : Side → Bool
is_after Before = false
is_after After = true
