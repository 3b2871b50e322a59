-- Plans and frames, each as one value.
use Rattle.std.specs.Prelude.{◌≤◌, ◌++◌, ◌∷◌, List, [], length, Result, IfOk, OnOk}
use Rattle.std.specs.declared.cmp.Ordering.{Ordering}
use Rattle.std.specs.Map.{keys_of}
use Rattle.bptree_propagation.specs.Change.{StartsAt}
use Rattle.bptree_bulk_load.specs.Rooms.{AreAllPlanned, ArePlanned, IsFrame}
use Rattle.bptree_bulk_load.specs.declared.plan.Plan.{Plan}
use Rattle.bptree_bulk_load.specs.declared.planting.Frame.{Frame}
use Rattle.bptree_nodes.specs.Inner.{Inner}
use Rattle.bptree_nodes.specs.Leaf.{Leaf}
use Rattle.bptree_nodes.specs.Slot.{Slots}

module _ {S K V A : Type 0} (cmp : K → K → Ordering) (is_summary : A → List K → Type 0) (slots : S → Slots (Inner K A) (Leaf K V)) where
  -- ids are reserved for leaves of these parts
  abbrev pub Plans : Plan S K V A → List (List (K × V)) → Type 0
  Plans plan parts = ArePlanned cmp is_summary (slots plan.store) plan.ids.items plan.trees.items parts

  -- the planned leaves are all the leaves of a tree
  abbrev pub PlansAll : Plan S K V A → List (List (K × V)) → Type 0
  PlansAll plan parts = AreAllPlanned cmp is_summary (slots plan.store) plan.ids.items plan.trees.items parts

  -- the leaves of a plan are all those of some tree
  abbrev pub PlansSome : Plan S K V A → Type 0
  PlansSome plan = (parts : List (List (K × V))) × PlansAll plan parts

  -- leaves of further parts are planned after the others
  abbrev pub AddsParts : Plan S K V A → Plan S K V A → List (List (K × V)) → Type 0
  AddsParts old new more = (parts : List (List (K × V))) → Plans old parts → Plans new (parts ++ more)

  -- a call that succeeded plans one further leaf
  abbrev pub AddsPlan : {E : Type 0} → Plan S K V A → Plan S K V A → List (K × V) → Result Unit E → Type 0
  AddsPlan old new part result = OnOk result (AddsParts old new (part ∷ []))

  -- a call that succeeded plans one further leaf, for any pairs that have the given first key and summary
  abbrev pub AddsAny : {E : Type 0} → K → A → Plan S K V A → Plan S K V A → Result Unit E → Type 0
  AddsAny first summary old new result = OnOk result ((parts : List (List (K × V))) (part : List (K × V)) → Plans old parts → length part ≤ 64 → StartsAt cmp first part → is_summary summary (keys_of part) → Plans new (parts ++ part ∷ []))

  -- a frame for leaves of these parts
  abbrev pub Frames : Frame S K V A → List (List (K × V)) → Type 0
  Frames frame parts = IsFrame cmp is_summary (slots frame.store) frame.ids.items frame.built parts

  -- a call that succeeded returns a frame for all leaves of a plan
  abbrev pub FramesPlan : {E : Type 0} → Plan S K V A → Result (Frame S K V A) E → Type 0
  FramesPlan plan result = IfOk result (λ frame. (parts : List (List (K × V))) → PlansAll plan parts → Frames frame parts)
