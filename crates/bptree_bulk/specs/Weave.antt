-- Two lists of pairs that become one, step by step.
use Rattle.std.specs.Prelude.{◌≡◌, ℕ, ◌+◌, ◌<◌, ◌≤◌, Option, Some, None, List, [], ◌∷◌, ◌++◌, length, take, drop, vec_capacity}
use Rattle.std.specs.List.{AllByRecursion}
use Rattle.std.specs.Map.{keys_of}
use Rattle.std.specs.declared.cmp.Ordering.{Ordering}
use Rattle.std.specs.declared.vec.Vec.{Vec}
use Rattle.std.specs.declared.cmp.Ordering.TheVariants.{Less, Equal, Greater}
use Rattle.bptree_bulk_load.specs.Rooms.{IsFrame}
use Rattle.bptree_bulk.specs.Filling.{AreParts, IsEmptyLeaf}
use Rattle.bptree_bulk.specs.Split.{HasLeavesFor}
use Rattle.bptree_bulk.specs.declared.weaving.Source.{Source}
use Rattle.bptree_bulk.specs.declared.weaving.Source.TheVariants.{First, Second, Both}
use Rattle.bptree_bulk.specs.declared.weaving.Rooms.{Rooms}
use Rattle.bptree_bulk.specs.declared.weaving.Weave.{Weave}
use Rattle.bptree_keys.specs.Contents.{put, IsAscending}
use Rattle.bptree_nodes.specs.Inner.{Inner}
use Rattle.bptree_nodes.specs.Leaf.{Leaf}
use Rattle.bptree_nodes.specs.Slot.{Slots}
use Rattle.bptree_invariant.specs.NodeTree.{NodeTree}

-- a list with a pair put: the pair's value becomes its key's value
abbrev pub put_pair : {K V : Type 0} → (K → K → Ordering) → List (K × V) → K × V → List (K × V)
put_pair cmp l pair = put cmp l pair.0 pair.1

-- a list with the members of another list put, one after another
abbrev pub put_all : {X : Type 0} → (List X → X → List X) → List X → List X → List X
put_all put_one l [] = l
put_all put_one l (x ∷ xs) = put_all put_one (put_one l x) xs

-- how many pairs of the first list the steps take (`first_count`), and of the second (`second_count`)
abbrev pub takes_first : Source → ℕ
takes_first First = 1
takes_first Second = 0
takes_first Both = 1

abbrev pub takes_second : Source → ℕ
takes_second First = 0
takes_second Second = 1
takes_second Both = 1

abbrev pub first_count : List Source → ℕ
first_count [] = 0
first_count (s ∷ steps) = takes_first s + first_count steps

abbrev pub second_count : List Source → ℕ
second_count [] = 0
second_count (s ∷ steps) = takes_second s + second_count steps

-- the source of the next pair, by the order of both next keys
abbrev pub source_by : Ordering → Source
source_by Less = First
source_by Equal = Both
source_by Greater = Second

module _ {K V : Type 0} where
  -- the source of the next pair, if there is one
  abbrev pub next_source : (K → K → Ordering) → List (K × V) → List (K × V) → Option Source
  next_source cmp [] [] = None
  next_source cmp [] (q ∷ b) = Some Second
  next_source cmp (p ∷ a) [] = Some First
  next_source cmp (p ∷ a) (q ∷ b) = Some (source_by (cmp p.0 q.0))

  -- what a step leaves of the first list, and of the second
  abbrev pub first_rest : Source → List (K × V) → List (K × V)
  first_rest First l = drop 1 l
  first_rest Second l = l
  first_rest Both l = drop 1 l

  abbrev pub second_rest : Source → List (K × V) → List (K × V)
  second_rest First l = l
  second_rest Second l = drop 1 l
  second_rest Both l = drop 1 l

  -- a key of the first list with a value of the second
  abbrev pub with_second : List (K × V) → List (K × V) → List (K × V)
  with_second [] b = []
  with_second (p ∷ a) [] = []
  with_second (p ∷ a) (q ∷ b) = (p.0, q.1) ∷ []

  -- the pair of a step
  abbrev pub step_pair : Source → List (K × V) → List (K × V) → List (K × V)
  step_pair First a b = take 1 a
  step_pair Second a b = take 1 b
  step_pair Both a b = with_second a b

  -- the pairs of all steps
  abbrev pub woven : List Source → List (K × V) → List (K × V) → List (K × V)
  woven [] a b = []
  woven (s ∷ steps) a b = step_pair s a b ++ woven steps (first_rest s a) (second_rest s b)

  -- the steps go from two lists to what is left of them
  abbrev pub Goes : (K → K → Ordering) → List Source → List (K × V) → List (K × V) → List (K × V) → List (K × V) → Type 0
  Goes cmp [] a b a' b' = (a ≡ a') × (b ≡ b')
  Goes cmp (s ∷ steps) a b a' b' = (next_source cmp a b ≡ Some s) × Goes cmp steps (first_rest s a) (second_rest s b) a' b'

  -- the steps take all of both lists
  abbrev pub Weaves : (K → K → Ordering) → List Source → List (K × V) → List (K × V) → Type 0
  Weaves cmp steps a b = Goes cmp steps a b [] []

module _ {K V : Type 0} where
  -- the keys are those of the first pairs of a list, of one at least if it has a pair
  pub record AreFirstKeys (keys : List K) (l : List (K × V)) : Type 0 where
    pub are : keys ≡ keys_of (take (length keys) l)
    pub within : length keys ≤ length l
    pub some : 0 < length l → 0 < length keys

module _ {K V : Type 0} (cmp : K → K → Ordering) where
  -- further steps come behind others, and lead from two lists to two others
  pub record AddsSteps (old new : List Source) (a b a' b' : List (K × V)) : Type 0 where
    pub more : List Source
    pub added : new ≡ old ++ more
    pub goes : Goes cmp more a b a' b'

  -- the steps lead from two lists to some rest of both
  abbrev pub WeaveLeadsOn : List Source → List (K × V) → List (K × V) → Type 0
  WeaveLeadsOn steps a b = (to : List (K × V) × List (K × V)) × Goes cmp steps a b to.0 to.1

module _ {S K V A : Type 0} (first second : NodeTree S K V A) where
  -- the steps take all pairs of both trees
  abbrev pub WeavesAll : {Z : Type 0} → (K → K → Ordering) → Vec Source Z → Type 0
  WeavesAll cmp steps = Weaves cmp steps.items first.contents second.contents

-- two empty leaves, with room for two more, and an empty leaf in place of one of each tree
pub record AreRooms {K V : Type 0} (rooms : Rooms K V) : Type 0 where
  pub two : length rooms.spare.items ≡ 2
  pub empty : AllByRecursion IsEmptyLeaf rooms.spare.items
  pub capacity : 4 ≤ vec_capacity rooms.spare
  pub first : rooms.first.value.pairs ≡ []
  pub second : rooms.second.value.pairs ≡ []

module _ {S K V A : Type 0} (slots : S → Slots (Inner K A) (Leaf K V)) (first second : NodeTree S K V A) where
  -- everything is ready to make one tree of both
  pub record IsWeave (cmp : K → K → Ordering) (is_summary : A → List K → Type 0) (weave : Weave S K V A) : Type 0 where
    pub weaves : Weaves cmp weave.steps.items first.contents second.contents
    pub parts : List (List (K × V))
    pub are : AreParts (woven weave.steps.items first.contents second.contents) parts []
    pub framed : IsFrame cmp is_summary (slots weave.frame.store) weave.frame.ids.items weave.frame.built parts
    pub ascending : IsAscending cmp (woven weave.steps.items first.contents second.contents)
    pub leaves : HasLeavesFor (length parts) weave.leaves
    pub rooms : AreRooms weave.rooms
