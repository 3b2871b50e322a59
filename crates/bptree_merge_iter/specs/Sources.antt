-- The iterators of slices show the elements of a list.
use Rattle.std.specs.Prelude.{Option, Some, None}
use Rattle.std.specs.Borrow.{Bor}
use Rattle.std.specs.Iterator.{YieldsFirstBy}
use Rattle.std.specs.Map.Iter.{deref}
use Rattle.std.specs.Slice.Iter.{iter_rest, iter_steps}
use Rattle.std.specs.declared.slice.Iter.{Iter}
use Rattle.std.proofs.Common.{ap, ◌∙◌}
use Rattle.std.proofs.lemmas.List.{nil_from_length}

-- each step yields the first element that is left
pub slice_gives_first : {A : Type 0} (s : Iter A) (r : Option (Bor A)) (t : Iter A) → iter_steps s r t → YieldsFirstBy deref iter_rest s r t
slice_gives_first s None t step = (nil_from_length (iter_rest s) step.0, ap iter_rest step.1 ∙ nil_from_length (iter_rest s) step.0)
slice_gives_first s (Some x) t step = step
