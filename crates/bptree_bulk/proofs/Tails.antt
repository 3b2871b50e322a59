-- The parts of pairs that move one by one.
use Rattle.std.proofs.Common.{◌≡◌, ◌∙◌, ◌+◌, ◌-◌, ◌<◌, ◌≤◌, ℕ, min, inl, inr, sym, ap, subst, refl, List, [], ◌∷◌, ◌++◌, length, take, drop, arith, append_assoc}
use Rattle.std.proofs.Math.Nat.{eq-or-lt_of_le}
use Rattle.std.proofs.Math.Seq.{drop-append-add}
use Rattle.std.proofs.lemmas.List.{length-drop, length-take-le, take-append-drop}
use Rattle.std.specs.declared.cmp.Ordering.{Ordering}
use Rattle.std.specs.List.{AllByRecursion}
use Rattle.std.specs.declared.alloc.Global.{Global}
use Rattle.std.specs.declared.boxed.Box.{Box}
use Rattle.bptree_bulk_load.specs.Plans.{PlansAll}
use Rattle.bptree_bulk_load.specs.Rooms.{joined, parts_of}
use Rattle.bptree_bulk_load.specs.declared.plan.Plan.{Plan}
use Rattle.bptree_bulk.specs.Filling.{AreParts, IsFilling, IsLaidOut, IsSize}
use Rattle.bptree_bulk.specs.declared.filling.Filling.{Filling}
use Rattle.bptree_bulk.proofs.Segments.{drop_more}
use Rattle.bptree_keys.specs.Contents.{IsAscending}
use Rattle.bptree_keys.specs.Ranges.{part}
use Rattle.bptree_keys.specs.declared.node_id.LeafNodeId.{LeafNodeId}
use Rattle.bptree_keys.specs.declared.node_id.NodeId.{NodeId}
use Rattle.bptree_nodes.specs.Inner.{Inner}
use Rattle.bptree_nodes.specs.Leaf.{Leaf}
use Rattle.bptree_nodes.specs.Slot.{Slots}
use Rattle.bptree_ranges.specs.Ranges.{start}
use Rattle.bptree_ranges.proofs.Ranged.{start_is}
use Rattle.bptree_invariant.specs.Leaves.{pairs_of, IsLeafOf}
use Rattle.bptree_invariant.specs.Shape.{leaf_pairs, pairs_at, IsWellShaped}
use Rattle.bptree_invariant.proofs.Down.{pairs_of_leaves}
use Rattle.bptree_invariant.proofs.Walk.{flat-append}

pub by_size : {P : Type 0} (n most : ℕ) → (n ≤ most → P) → (most < n → P) → P
by_size {P = P} n most few many =
    let within : min n (most + 1) ≤ most + 1 = omega arith in
    elim (eq-or-lt_of_le within) as (λ _. P) [
      | inl same ↦ (let all : min n (most + 1) ≡ most + 1 = same in many (omega (arith, all)))
      | inr less ↦ (let short : min n (most + 1) < most + 1 = less in few (omega (arith, short)))
    ]

-- facts about the number of pairs that a leaf takes
pub record IsSized (left size : ℕ) : Type 0 where
  pub within : size ≤ left
  pub most : size ≤ 64
  pub some : 0 < left → 0 < size
  pub enough : 16 ≤ left → 16 ≤ size
  pub later : size < left → size + 16 ≤ left

pub sized : (left size : ℕ) → IsSize left size → IsSized left size
sized left size is = by_size left 64
    (λ few. let all = is.all few in record { within = omega (arith, all); most = omega (arith, all, few); some = λ some. omega (arith, all, some); enough = λ some. omega (arith, all, some); later = λ less. absurd (omega (arith, all, less)) })
    (λ more. by_size left 128
    (λ few. let half = is.half more few in record { within = omega (arith, half, more); most = omega (arith, half); some = λ some. omega (arith, half); enough = λ some. omega (arith, half); later = λ less. omega (arith, half, more) })
    (λ many. let full = is.full many in record { within = omega (arith, full, many); most = omega (arith, full); some = λ some. omega (arith, full); enough = λ some. omega (arith, full); later = λ less. omega (arith, full, many) }))

one_size : (left n m : ℕ) → IsSize left n → IsSize left m → n ≡ m
one_size left n m a b = by_size left 64
    (λ few. a.all few ∙ sym (b.all few))
    (λ more. by_size left 128 (λ few. a.half more few ∙ sym (b.half more few)) (λ many. a.full many ∙ sym (b.full many)))

module _ {X : Type 0} where
  -- one part more
  pub parts_more : (l : List X) (ps : List (List X)) (rest : List X) (n : ℕ) → AreParts l ps rest → IsSize (length rest) n → 0 < length rest → AreParts l (ps ++ take n rest ∷ []) (drop n rest)
  parts_more l [] rest n are size some = (n, subst (λ m. IsSize (length m) n) (sym are) size, subst (λ m. 0 < length m) (sym are) some, ap (take n) (sym are), ap (drop n) are)
  parts_more l (p ∷ ps) rest n (m, size', some', is, are) size some = (m, size', some', is, parts_more (drop m l) ps rest n are size some)

  pub joined_parts : (l : List X) (ps : List (List X)) → AreParts l ps [] → joined ps ≡ l
  joined_parts l [] are = sym are
  joined_parts l (p ∷ ps) (n, size, some, is, are) = ap (λ m. m ++ joined ps) is ∙ (ap (λ m. take n l ++ m) (joined_parts (drop n l) ps are) ∙ take-append-drop n l)

  pub parts_enough : (l : List X) (ps : List (List X)) → AreParts l ps [] → (0 < length l → 16 ≤ length l) → AllByRecursion (λ (p : List X). 16 ≤ length p) ps
  parts_enough l [] are enough = tt
  parts_enough l (p ∷ ps) (n, size, some, is, are) enough =
      let s = sized (length l) n size in
      let long : length p ≡ n = ap length is ∙ length-take-le n l s.within in (
        omega (arith, long, s.enough (enough some)),
        parts_enough (drop n l) ps are (λ more. omega (arith, length-drop n l, s.later (omega (arith, more, length-drop n l)))),
      )

  pub parts_several : (l : List X) (ps : List (List X)) → AreParts l ps [] → 1 < length ps → AllByRecursion (λ (p : List X). 16 ≤ length p) ps
  parts_several l [] are several = absurd (omega (arith, several))
  parts_several l (p ∷ []) are several = absurd (omega (arith, several))
  parts_several l (p ∷ q ∷ ps) (n, size, some, is, are) several =
      let later = (sized (length l) n size).later (omega (arith, are.2, length-drop n l)) in
      parts_enough l (p ∷ q ∷ ps) (n, size, some, is, are) (λ more. omega (arith, later))

  pub parts_some : (l : List X) (ps : List (List X)) → AreParts l ps [] → 0 < length l → 0 < length ps
  parts_some l [] are some = absurd (omega (arith, ap length are, some))
  parts_some l (p ∷ ps) are some = omega arith

  -- one part more, by indexes of a longer list
  pub part_next : (l all : List X) (ps : List (List X)) (from to size : ℕ) → AreParts l ps (drop from all) → IsSize (length all - from) size → from + size ≡ to → from < length all → AreParts l (ps ++ part all from (to - from) ∷ []) (drop to all)
  part_next l all ps from to size are sized sum some =
      let more = parts_more l ps (drop from all) size are (subst (λ n. IsSize n size) (sym (length-drop from all)) sized) (omega (arith, length-drop from all, some)) in
      let same : size ≡ to - from = omega (arith, sum) in
      subst (λ n. AreParts l (ps ++ take n (drop from all) ∷ []) (drop to all)) same (subst (AreParts l (ps ++ take size (drop from all) ∷ [])) (drop_more from size all ∙ ap (λ n. drop n all) sum) more)

  -- the next part is of as many of the next members as fit
  pub next_part : (items : List X) (rest : List (List X)) (n : ℕ) → AreParts items rest [] → 0 < length items → IsSize (length items) n → (ps : List (List X)) × (rest ≡ take n items ∷ ps) × AreParts (drop n items) ps []
  next_part items [] n are some size = absurd (omega (arith, ap length are, some))
  next_part items (p ∷ ps) n (m, size', some', is, are) some size =
      let same = one_size (length items) m n size' size in
      (ps, ap (λ q. q ∷ ps) (is ∙ ap (λ k. take k items) same), subst (λ k. AreParts (drop k items) ps []) same are)

  -- no part is left if no member is
  pub no_part : (items : List X) (rest : List (List X)) → AreParts items rest [] → length items ≡ 0 → rest ≡ []
  no_part items [] are none = refl
  no_part items (p ∷ ps) (n, size, some, is, are) none = absurd (omega (arith, some, none))

-- the parts of pairs that are laid out are all the leaves of a tree
pub all_laid : {S K V A : Type 0} {cmp : K → K → Ordering} {is_summary : A → List K → Type 0} {slots : S → Slots (Inner K A) (Leaf K V)} {plan : Plan S K V A} {rooms : List (Box (Leaf K V) Global)} {count : ℕ} {pairs : List (K × V)}
    (laid : IsLaidOut cmp is_summary slots plan rooms count pairs) → PlansAll cmp is_summary slots plan laid.parts
all_laid {cmp = cmp} {pairs = pairs} laid =
    let all = joined_parts pairs laid.parts laid.are in
    record {
      planned = laid.planned;
      some = parts_some pairs laid.parts laid.are (omega (arith, laid.count_is, laid.some));
      many = parts_several pairs laid.parts laid.are;
      ascending = subst (IsAscending cmp) (sym all) laid.ascending;
      few = omega (arith, ap length all, laid.count_is, laid.few);
    }

module _ {K V A : Type 0} {cmp : K → K → Ordering} (is_summary : A → List K → Type 0) (slots : Slots (Inner K A) (Leaf K V)) (h : ℕ) (root : NodeId) (shape : IsWellShaped cmp is_summary slots h root) where
  -- the pairs from a position on are those of its leaf, and then others
  pub from_index : (leaf : LeafNodeId) (in' : IsLeafOf slots h root leaf) (slot : ℕ) → drop (start slots h root leaf + slot) (pairs_at slots h root) ≡ drop slot (leaf_pairs (slots.leaf leaf.0) ++ pairs_of slots in'.after)
  from_index leaf in' slot =
      let here = leaf_pairs (slots.leaf leaf.0) ++ pairs_of slots in'.after in
      let all : pairs_at slots h root ≡ pairs_of slots in'.before ++ here = sym (pairs_of_leaves slots h root) ∙ (ap (pairs_of slots) in'.leaves ∙ flat-append (λ (l : LeafNodeId). leaf_pairs (slots.leaf l.0)) in'.before (leaf ∷ in'.after)) in
      ap (λ n. drop (n + slot) (pairs_at slots h root)) (start_is is_summary slots h root shape leaf in') ∙ (ap (drop (length (pairs_of slots in'.before) + slot)) all ∙ drop-append-add (pairs_of slots in'.before) here slot)

-- these lists and the parts of the pairs that are left are all lists
pub record IsPartlyFilled {X : Type 0} (items : List X) (all done : List (List X)) : Type 0 where
  pub rest : List (List X)
  pub are : AreParts items rest []
  pub sum : all ≡ done ++ rest

pub filled_more : {X : Type 0} (items : List X) (all done after : List (List X)) (n : ℕ) → IsPartlyFilled items all done → IsSize (length items) n → 0 < length items → after ≡ done ++ take n items ∷ [] → IsPartlyFilled (drop n items) all after
filled_more items all done after n filling size some one =
    let next = next_part items filling.rest n filling.are some size in
    record {
      rest = next.0;
      are = next.2;
      sum = filling.sum ∙ (ap (λ l. done ++ l) next.1 ∙ (sym (append_assoc done (take n items ∷ []) next.0) ∙ ap (λ l. l ++ next.0) (sym one)));
    }

-- once all leaves are filled they have the parts, and these are all pairs
pub all_filled : {S K V A : Type 0} (cmp : K → K → Ordering) (is_summary : A → List K → Type 0) (slots : S → Slots (Inner K A) (Leaf K V)) (filling : Filling S K V A) (l : List (K × V)) (is : IsFilling cmp is_summary slots filling l) (items : List (K × V)) (leaves : List (Box (Leaf K V) Global)) → items ≡ l
    → ((parts : List (List (K × V))) → AreParts items parts [] → parts_of leaves ≡ parts_of filling.leaves.items ++ parts) → (parts_of leaves ≡ is.parts) × (joined (parts_of leaves) ≡ l)
all_filled cmp is_summary slots filling l is items leaves same fills =
    let filled = fills is.parts (subst (λ m. AreParts m is.parts []) (sym same) is.are) ∙ ap (λ m. parts_of m ++ is.parts) is.leaves.0 in
    (filled, ap joined filled ∙ joined_parts l is.parts is.are)
