-- The last item of each run of items that are the same as the item before.
use Rattle.std.specs.Prelude.{◌≡◌, ◌+◌, Bool, false, Option, Some, None, List, [], ◌∷◌, ⊤, MatchOption, IsSomeAnd, if◌then◌else◌}
use Rattle.std.specs.Fn.{Mut, CalledAtTwo}
use denote.Ref.{Bor}
use Rattle.std.specs.List.{FoldsTo}
use Rattle.std.specs.Iterator.{Yields, AlwaysYields, Count, at_most, count_map}
use Rattle.std.specs.Iterator.Order.{ActsAsAtTwo, OrderTurn}
use Rattle.bptree_load_plan.specs.declared.dedup.Ahead.{Ahead}
use Rattle.bptree_load_plan.specs.declared.dedup.Ahead.TheVariants.{Unasked, Held, Ended}
use Rattle.bptree_load_plan.specs.declared.dedup.DeDupKeepLast.{DeDupKeepLast}

-- the calls from s on yield ys, and then `None`
pub record GivesAll {S A : Type 0} (steps : S → Option A → S → Type 0) (s : S) (ys : List A) : Type 0 where
  pub always : AlwaysYields steps (λ x. x) s ys

module _ {A : Type 0} where
  -- the first of the items is the same as x; this is false if there are no items
  abbrev pub starts_same : (A → A → Bool) → A → List A → Bool
  starts_same same x [] = false
  starts_same same x (y ∷ ys) = same x y

  -- the items that are not the same as the item after them
  abbrev pub last_of_each_run : (A → A → Bool) → List A → List A
  last_of_each_run same [] = []
  last_of_each_run same (x ∷ xs) = if starts_same same x xs then last_of_each_run same xs else x ∷ last_of_each_run same xs

  -- P, unless the source has ended
  abbrev pub IfNotEnded : Ahead A → Type 0 → Type 0
  IfNotEnded Unasked P = P
  IfNotEnded (Held x) P = P
  IfNotEnded Ended P = ⊤

  -- the items that are still to come, if the source still yields xs
  abbrev pub gives_yet : (A → A → Bool) → Ahead A → List A → List A
  gives_yet same Unasked xs = last_of_each_run same xs
  gives_yet same (Held x) xs = last_of_each_run same (x ∷ xs)
  gives_yet same Ended xs = []

  -- the number of items that are left, if c are left in the source
  abbrev pub ahead_left : Ahead A → Count → Count
  ahead_left Unasked c = c
  ahead_left (Held x) c = count_map (λ n. n + 1) c
  ahead_left Ended c = at_most 0

module _ {S F A : Type 0} where
  abbrev pub dedup_source : DeDupKeepLast S F A → S
  dedup_source s = s.source

  abbrev pub dedup_ahead : DeDupKeepLast S F A → Ahead A
  dedup_ahead s = s.ahead

  abbrev pub dedup_same : DeDupKeepLast S F A → F
  dedup_same s = s.same

  abbrev pub dedup_left : (S → Count) → DeDupKeepLast S F A → Count
  dedup_left left s = ahead_left s.ahead (left s.source)

module _ {S A : Type 0} (steps : S → Option A → S → Type 0) where
  -- `first` is the first item of the next run, if there is one: the held item, or else the next item of the source, whose
  -- state is then t
  abbrev pub GivesFirst : Ahead A → S → Option A → S → Type 0
  GivesFirst Unasked s first t = steps s first t
  GivesFirst (Held x) s first t = (first ≡ Some x) × (t ≡ s)
  GivesFirst Ended s first t = (first ≡ None) × (t ≡ s)

module _ {S F A : Type 0} (steps : S → Option A → S → Type 0) (g : Mut F (Bor A × (Bor A × Unit {0})) Bool) where
  -- A run from x on ends at y. The source, which began as s, yielded `others`, and f returned `true` for each item and the
  -- next one. Then the source ended, or yielded the held item, for which f returned `false`.
  pub record TakesRun (s : S) (f : F) (x y : A) (t : DeDupKeepLast S F A) : Type 0 where
    pub others : List A
    pub source : S
    pub same : F
    pub gave : Yields steps s others source
    pub calls : FoldsTo {P = F × A} (OrderTurn g) (f, x) others (same, y)
    pub after : Option A
    pub asked : steps source after t.source
    pub ends : MatchOption after ((t.ahead ≡ Ended) × (t.same ≡ same)) (λ z. (t.ahead ≡ Held z) × CalledAtTwo g same y z false t.same)

  -- one call returns the last item of the next run, or `None` if there is no next run
  pub record GivesLastOfRun (s : DeDupKeepLast S F A) (r : Option A) (t : DeDupKeepLast S F A) : Type 0 where
    pub first : Option A
    pub source : S
    pub began : GivesFirst steps s.ahead s.source first source
    pub run : MatchOption first ((r ≡ None) × (t ≡ record { source = source; ahead = Ended; same = s.same })) (λ x. IsSomeAnd r (λ y. TakesRun source s.same x y t))

  abbrev pub dedup_steps : DeDupKeepLast S F A → Option A → DeDupKeepLast S F A → Type 0
  dedup_steps = GivesLastOfRun

  -- if the source yields a list and the closure computes a test, the iterator yields the last item of each run
  abbrev pub GivesLastOfEachRun : S → F → DeDupKeepLast S F A → Type 0
  GivesLastOfEachRun s same result = (test : A → A → Bool) (xs : List A) → ActsAsAtTwo g same test → GivesAll steps s xs → GivesAll dedup_steps result (last_of_each_run test xs)
