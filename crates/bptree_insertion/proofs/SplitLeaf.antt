-- A full leaf is split in its store. It is again what it was, if a summary of a half fails.
use Rattle.std.proofs.Common.{◌≡◌, ℕ, ◌+◌, ◌-◌, ◌<◌, ◌≤◌, List, ◌++◌, length, inl, inr, sym, ap, subst, ◌∙◌, arith, Some}
use Rattle.std.specs.List.{insert}
use Rattle.std.specs.declared.cmp.Ordering.{Ordering}
use Rattle.std.proofs.lemmas.Bool.{cases_eq}
use Rattle.std.proofs.lemmas.Bool.Decides.{nat_tests}
use Rattle.bptree_nodes.specs.Inner.{Inner}
use Rattle.bptree_nodes.specs.Leaf.{Leaf, split_index, pairs_kept, pairs_moved}
use Rattle.bptree_nodes.specs.Slot.{Slots, Free, Held, Present, UpdatesLeaf}
use Rattle.bptree_keys.specs.declared.node_id.LeafNodeId.{LeafNodeId}
use Rattle.bptree_keys.specs.declared.node_id.NodeId.TheVariants as kind
use Rattle.bptree_invariant.specs.Shape.{leaf_pairs}
use Rattle.bptree_propagation.specs.Change.{StartsAt}
use Rattle.bptree_propagation.specs.LeafChange.{DividesLeaf}
use Rattle.bptree_propagation.specs.declared.node_changes.NodeSplit.{NodeSplit}

-- how many pairs the halves have
module _ (slot : ℕ) {left right : ℕ} (left_len : left ≡ split_index slot) (right_len : right ≡ 65 - split_index slot) where
  halves_least : (32 ≤ left) × (left ≤ 33) × (32 ≤ right) × (right ≤ 33)
  halves_least = (grind (arith, nat_tests), grind (arith, nat_tests), grind (arith, nat_tests), grind (arith, nat_tests))

  pub slot_in_halves : slot ≤ 64 → slot < left + right
  slot_in_halves small = let h = halves_least in omega arith

  pub halves_most : left + right ≤ 65
  halves_most = let h = halves_least in omega arith

pub long_there : {K V : Type 0} {leaf node : Leaf K V} {n : ℕ} → leaf ≡ node → length node.pairs ≡ n → length leaf.pairs ≡ n
long_there same long = rw same long

module _ {K V A : Type 0} {old s1 : Slots (Inner K A) (Leaf K V)} (id fresh : LeafNodeId) {node : Leaf K V} (reserved : UpdatesLeaf old s1 fresh.0 Held) (here : s1.leaf id.0 ≡ Present node) where
  halves_apart : id.0 ≡ fresh.0 → ⊥
  halves_apart same = let z : Present node ≡ Held = sym here ∙ (ap s1.leaf same ∙ reserved.leaf.changed) in cc

  before : old.leaf id.0 ≡ Present node
  before = sym (reserved.leaf.others id.0 halves_apart) ∙ here

  pub full_taken : length (leaf_pairs (old.leaf id.0)) ≡ 64 → length node.pairs ≡ 64
  full_taken full = rw before at full

  module _ {s2 s3 : Slots (Inner K A) (Leaf K V)} (taken : UpdatesLeaf s1 s2 id.0 Held) {left : Leaf K V} (put : UpdatesLeaf s2 s3 id.0 (Present left)) where
    pub still_held : s3.leaf fresh.0 ≡ Held
    still_held =
        let other : fresh.0 ≡ id.0 → ⊥ = λ q. halves_apart (sym q) in
        put.leaf.others fresh.0 other ∙ (taken.leaf.others fresh.0 other ∙ reserved.leaf.changed)

    module _ {new : Slots (Inner K A) (Leaf K V)} {half : Leaf K V} (put_half : UpdatesLeaf s3 new fresh.0 (Present half)) where
      pub left_there : new.leaf id.0 ≡ Present left
      left_there = put_half.leaf.others id.0 halves_apart ∙ put.leaf.changed

      -- both halves are in the store
      pub divides : (cmp : K → K → Ordering) (slot : ℕ) (pair : K × V) (division : NodeSplit K A) {start : Leaf K V} → old.leaf fresh.0 ≡ Free → start ≡ node → left ≡ record start { pairs = pairs_kept slot pair start.pairs; next = Some fresh } → half ≡ record { pairs = pairs_moved slot pair start.pairs; prev = Some id; next = start.next }
          → left.pairs ++ half.pairs ≡ insert start.pairs slot pair → length left.pairs ≡ split_index slot → length half.pairs ≡ 65 - split_index slot → division.node ≡ kind.Leaf fresh → StartsAt cmp division.separator (pairs_moved slot pair (leaf_pairs (old.leaf id.0)))
          → (was : Leaf K V) → old.leaf id.0 ≡ Present was → DividesLeaf cmp old new id slot pair was division fresh
      divides cmp slot pair division {start = start} free start_is left_is half_is parts left_len right_len node_is starts was there =
          subst (λ (l : Leaf K V). DividesLeaf cmp old new id slot pair l division fresh) (let e : Present node ≡ Present was = sym before ∙ there in start_is ∙ cc) (record {
            left = left.pairs;
            right = half.pairs;
            node = node_is;
            free = free;
            at_left = left_there ∙ ap Present (left_is ∙ ap (λ (l : List (K × V)). record start { pairs = l; next = Some fresh }) (sym left_pairs));
            at_right = put_half.leaf.changed ∙ ap Present (half_is ∙ ap (λ (l : List (K × V)). record { pairs = l; prev = Some id; next = start.next }) (sym half_pairs));
            others = λ n far other. put_half.leaf.others n other ∙ (put.leaf.others n far ∙ (taken.leaf.others n far ∙ reserved.leaf.others n other));
            inner = put_half.inner ∙ (put.inner ∙ (taken.inner ∙ reserved.inner));
            parts = parts;
            left_least = sizes.0;
            left_most = sizes.1;
            right_least = sizes.2;
            right_most = sizes.3;
            starts = subst (StartsAt cmp division.separator) (ap (λ l. pairs_moved slot pair (leaf_pairs l)) before ∙ (ap (λ (l : Leaf K V). pairs_moved slot pair l.pairs) (sym start_is) ∙ sym half_pairs)) starts;
          })
        where
          left_pairs : left.pairs ≡ pairs_kept slot pair start.pairs
          left_pairs = ap (λ (l : Leaf K V). l.pairs) left_is

          half_pairs : half.pairs ≡ pairs_moved slot pair start.pairs
          half_pairs = ap (λ (l : Leaf K V). l.pairs) half_is

          sizes : (32 ≤ length left.pairs) × (length left.pairs ≤ 33) × (32 ≤ length half.pairs) × (length half.pairs ≤ 33)
          sizes = halves_least slot left_len right_len

module _ {K V A : Type 0} {old s1 s2 s3 new : Slots (Inner K A) (Leaf K V)} (id fresh : LeafNodeId) {node back : Leaf K V} (free : old.leaf fresh.0 ≡ Free) (reserved : UpdatesLeaf old s1 fresh.0 Held) (here : s1.leaf id.0 ≡ Present node)
    (taken : UpdatesLeaf s1 s2 id.0 Held) (put : UpdatesLeaf s2 s3 id.0 (Present back)) (released : UpdatesLeaf s3 new fresh.0 Free) where
  apart : id.0 ≡ fresh.0 → ⊥
  apart = halves_apart id fresh reserved here

  was_here : old.leaf id.0 ≡ Present node
  was_here = before id fresh reserved here

  put_back : back ≡ node → new ≡ old
  put_back same = λ i. record { inner = (released.inner ∙ (put.inner ∙ (taken.inner ∙ reserved.inner))) i; leaf = λ n. each n i }
    where
      each : (n : ℕ) → new.leaf n ≡ old.leaf n
      each n =
          elim (cases_eq n fresh.0) [
            | inl at ↦ (rw at (released.leaf.changed ∙ sym free))
            | inr far ↦ elim (cases_eq n id.0) [
              | inl at ↦ (released.leaf.others n far ∙ rw at (put.leaf.changed ∙ (ap Present same ∙ sym was_here)))
              | inr other ↦ released.leaf.others n far ∙ (put.leaf.others n other ∙ (taken.leaf.others n other ∙ reserved.leaf.others n far))
            ]
          ]

  -- the halves are joined, and the pair is removed
  module _ (slot : ℕ) (pair out : K × V) (left half : Leaf K V) (small : slot ≤ 64) (full : length (leaf_pairs (old.leaf id.0)) ≡ 64) {kept moved : List (K × V)} {start joined : Leaf K V} (start_is : start ≡ node) (joined_is : joined ≡ left) (left_is : left ≡ record start { pairs = kept; next = Some fresh }) (half_is : half ≡ record { pairs = moved; prev = Some id; next = start.next })
      (parts : left.pairs ++ half.pairs ≡ insert start.pairs slot pair) (undoes : (w : List (K × V)) (item : K × V) → joined.pairs ++ half.pairs ≡ insert w slot item → slot ≤ length w → (back.pairs ≡ w) × (out ≡ item)) (prev : back.prev ≡ joined.prev) (next : back.next ≡ half.next) where
    undone : (back.pairs ≡ node.pairs) × (out ≡ pair)
    undone = let long : length node.pairs ≡ 64 = rw was_here at full in undoes node.pairs pair (ap (λ (l : Leaf K V). l.pairs ++ half.pairs) joined_is ∙ (parts ∙ ap (λ (l : Leaf K V). insert l.pairs slot pair) start_is)) (omega (arith, long, small))

    is : back ≡ node
    is = λ i. record { pairs = undone.0 i; prev = (prev ∙ (ap (λ (l : Leaf K V). l.prev) joined_is ∙ (ap (λ (l : Leaf K V). l.prev) left_is ∙ ap (λ (l : Leaf K V). l.prev) start_is))) i; next = (next ∙ (ap (λ (l : Leaf K V). l.next) half_is ∙ ap (λ (l : Leaf K V). l.next) start_is)) i }

    pub split_undone : (new ≡ old) × (out ≡ pair)
    split_undone = (put_back is, undone.1)
