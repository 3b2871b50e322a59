-- A new node above the first trees of a layer: all nodes that were present stay, and the layer
-- above has one more tree.
use Rattle.std.proofs.Common.{◌≡◌, ℕ, suc, ◌+◌, ◌<◌, ◌≤◌, ◌^◌, inl, inr, cond, List, [], ◌∷◌, ◌++◌, length, refl, sym, ap, subst, ◌∙◌, arith, None, eqb, append-nil, length-append}
use Rattle.std.specs.declared.cmp.Ordering.{Ordering}
use Rattle.std.specs.Cmp.{IsTotalOrder}
use Rattle.std.specs.List.{AllByRecursion, AllZip}
use Rattle.std.specs.Map.{keys_of}
use Rattle.std.proofs.lemmas.Bool.Decides.{eqb_tells}
use Rattle.std.proofs.lemmas.List.{length-map}
use Rattle.bptree_keys.specs.Contents.{IsAscending}
use Rattle.bptree_keys.specs.Pieces.{ArePieces, flatten}
use Rattle.bptree_keys.specs.declared.node_id.InnerNodeId.{InnerNodeId}
use Rattle.bptree_keys.specs.declared.node_id.LeafNodeId.{LeafNodeId}
use Rattle.bptree_keys.specs.declared.node_id.NodeId.{NodeId}
use Rattle.bptree_keys.specs.declared.node_id.NodeId.TheVariants as kind
use Rattle.bptree_keys.proofs.PieceLemmas.{AllByRecursion-append, AllByRecursion-left, AllByRecursion-right, AllByRecursion-weaker}
use Rattle.bptree_nodes.specs.Inner.{Inner}
use Rattle.bptree_nodes.specs.Leaf.{Leaf}
use Rattle.bptree_nodes.specs.Slot.{Slot, Slots, Held, Present}
use Rattle.bptree_invariant.specs.Edit.{SameLinks}
use Rattle.bptree_invariant.specs.Order.{flat, total, Within}
use Rattle.bptree_invariant.specs.Shape.{leaf_prev, leaf_next, pairs_at, leaves_at, leaf_count, inner_count, stored, AreLinked, root_least}
use Rattle.bptree_invariant.proofs.Agreeing.{flat_same, total_same}
use Rattle.bptree_invariant.proofs.Frame.{Same, all_same}
use Rattle.bptree_invariant.proofs.NodePieces.{child_keys, chain_pieces, keys_of_flat}
use Rattle.bptree_invariant.proofs.Ordered.{ascending_after}
use Rattle.bptree_invariant.proofs.Spot.{ascending_before}
use Rattle.bptree_invariant.proofs.Widen.{tree_less}
use Rattle.bptree_propagation.proofs.Relinked.{each_counted, linked_same}
use Rattle.bptree_bulk_load.specs.Layer.{roots, firsts, summaries, with_leaves, IsSeated, IsLayer, IsRising, IsBuilt}
use Rattle.bptree_bulk_load.specs.Steps.{IsRaised}
use Rattle.bptree_bulk_load.specs.declared.subtree.Subtree.{Subtree}
use Rattle.bptree_bulk_load.proofs.Lists.{nothing, flat_parts_of, flat_moved, total_parts_of, total_end}
use Rattle.bptree_bulk_load.proofs.Seated.{starts_before, unbounded, seated_chain, seated_reported, seated_summed, seated_same}

-- what stays the same of several trees if each of them stays as it was
module _ {K V A : Type 0} (cmp : K → K → Ordering) (is_summary : A → List K → Type 0) (old new : Slots (Inner K A) (Leaf K V)) (h : ℕ) (cs : List NodeId) (same : AllByRecursion (Same cmp is_summary old new h) cs) where
  pub pairs_same : flat (pairs_at new h) cs ≡ flat (pairs_at old h) cs
  pairs_same = flat_same (pairs_at old h) (pairs_at new h) cs (AllByRecursion-weaker _ _ (λ c s. s.pairs) cs same)

  pub order_same : flat (leaves_at new h) cs ≡ flat (leaves_at old h) cs
  order_same = flat_same (leaves_at old h) (leaves_at new h) cs (AllByRecursion-weaker _ _ (λ c s. s.order) cs same)

  pub leaves_same : (n : ℕ) → total (λ c. leaf_count new h c n) cs ≡ total (λ c. leaf_count old h c n) cs
  leaves_same n = total_same (λ c. leaf_count old h c n) (λ c. leaf_count new h c n) cs (AllByRecursion-weaker _ _ (λ c s. s.leaves n) cs same)

  pub inners_same : (n : ℕ) → total (λ c. inner_count new h c n) cs ≡ total (λ c. inner_count old h c n) cs
  inners_same n = total_same (λ c. inner_count old h c n) (λ c. inner_count new h c n) cs (AllByRecursion-weaker _ _ (λ c s. s.inners n) cs same)

-- a node above seated trees is seated
module _ {K V A : Type 0} {cmp : K → K → Ordering} (total' : IsTotalOrder cmp) (is_summary : A → List K → Type 0) (slots : Slots (Inner K A) (Leaf K V)) (least h : ℕ) (head : Subtree K A) (others : List (Subtree K A)) (tree : Subtree K A) (id : InnerNodeId) (node : Inner K A)
    (is : tree.root ≡ kind.Inner id) (here : slots.inner id.0 ≡ Present node) (keys : node.keys ≡ firsts others) (children : node.children ≡ roots (head ∷ others)) (arguments : node.arguments ≡ summaries (head ∷ others)) where
  pub node_pairs : pairs_at slots (suc h) tree.root ≡ flat (pairs_at slots h) (roots (head ∷ others))
  node_pairs = rw (is, here, children) refl

  pub node_order : leaves_at slots (suc h) tree.root ≡ flat (leaves_at slots h) (roots (head ∷ others))
  node_order = rw (is, here, children) refl

  pub node_leaves : (n : ℕ) → leaf_count slots (suc h) tree.root n ≡ total (λ c. leaf_count slots h c n) (roots (head ∷ others))
  node_leaves n = rw (is, here, children) refl

  pub node_inners : (n : ℕ) → inner_count slots (suc h) tree.root n ≡ cond (eqb id.0 n) 1 0 + total (λ c. inner_count slots h c n) (roots (head ∷ others))
  node_inners n = rw (is, here, children) refl

  module _ (seated : AllByRecursion (IsSeated cmp is_summary slots 16 h) (head ∷ others)) (ascending : IsAscending cmp (flat (pairs_at slots h) (roots (head ∷ others)))) (fits : length (flat (pairs_at slots h) (roots (head ∷ others))) < 2 ^ 64) where
    pieces : ArePieces cmp (child_keys slots h (roots (head ∷ others)))
    pieces = chain_pieces total' slots h (firsts others) (roots (head ∷ others)) None None (seated_chain total' is_summary slots h head others None None seated ascending (unbounded cmp (flat (pairs_at slots h) (roots (head ∷ others))))) fits

    pub node_seated : least ≤ length others → length others ≤ 64 → tree.first ≡ head.first
        → ((pieces : List (List K)) → ArePieces cmp pieces → AllZip is_summary node.arguments pieces → is_summary tree.summary (flatten pieces))
        → IsSeated cmp is_summary slots least (suc h) tree
    node_seated enough room starts reported = record {
      lies_between = λ lo hi inside.
          let chain = seated_chain total' is_summary slots h head others lo hi seated ascending (subst (AllByRecursion (λ p. Within cmp lo hi p.0)) node_pairs inside) in
          rw (is, here) (rw (keys, children) (tt, chain, omega (arith, enough, length-map others (λ (t : Subtree K A). t.first)), omega (arith, room, length-map others (λ (t : Subtree K A). t.first))));
      first = rw (node_pairs, starts) (starts_before cmp head.first (pairs_at slots h head.root) (flat (pairs_at slots h) (roots others)) seated.0.first);
      reported = rw (node_pairs, keys_of_flat (pairs_at slots h) (roots (head ∷ others))) (reported (child_keys slots h (roots (head ∷ others))) pieces (rw arguments (seated_reported total' is_summary slots h 16 (head ∷ others) seated)));
      summed = rw (is, here) (rw (arguments, children) (seated_reported total' is_summary slots h 16 (head ∷ others) seated, seated_summed total' is_summary slots h 16 (head ∷ others) seated));
    }

module _ {K V A : Type 0} {cmp : K → K → Ordering} (total' : IsTotalOrder cmp) (is_summary : A → List K → Type 0) (old new : Slots (Inner K A) (Leaf K V)) (least h : ℕ) (done all : List (Subtree K A)) (count : ℕ) (tree : Subtree K A) (rest : List (Subtree K A)) (pairs : List (K × V))
    (given : IsRising cmp is_summary old least h done all pairs) (raised : IsRaised cmp is_summary old new all count tree rest) (ascending : IsAscending cmp pairs) (fits : length pairs < 2 ^ 64) where
  abbrev id : InnerNodeId
  id = raised.id

  abbrev group : List (Subtree K A)
  group = raised.above.head ∷ raised.above.others

  rising : IsRising cmp is_summary old least h done (group ++ rest) pairs
  rising = subst (λ trees. IsRising cmp is_summary old least h done trees pairs) raised.above.taken given

  none_there : stored (old.inner id.0) ≡ 0
  none_there = ap stored raised.was_free

  same_inner : (n : ℕ) → 1 ≤ total (λ c. inner_count old (suc h) c n) (roots done) + total (λ c. inner_count old h c n) (roots (group ++ rest)) → new.inner n ≡ old.inner n
  same_inner n some = raised.updates.inner.others n (λ q. let z : stored (old.inner n) ≡ 0 = ap (λ m. stored (old.inner m)) q ∙ none_there in omega (arith, some, z, rising.inners n))

  same_leaf : (n : ℕ) → new.leaf n ≡ old.leaf n
  same_leaf n = ap (λ (f : ℕ → Slot (Leaf K V)). f n) raised.updates.leaf

  same_done : AllByRecursion (Same cmp is_summary old new (suc h)) (roots done)
  same_done = all_same cmp is_summary old new (suc h) (roots done) ((λ n some. same_leaf n), (λ n some. same_inner n (omega (arith, some))))

  same_rest : AllByRecursion (Same cmp is_summary old new h) (roots (group ++ rest))
  same_rest = all_same cmp is_summary old new h (roots (group ++ rest)) ((λ n some. same_leaf n), (λ n some. same_inner n (omega (arith, some))))

  seated_new : AllByRecursion (IsSeated cmp is_summary new 16 h) (group ++ rest)
  seated_new = seated_same cmp is_summary old new 16 h (group ++ rest) same_rest rising.seated_rest

  one_more : (n : ℕ) → stored (new.inner n) ≡ stored (old.inner n) + cond (eqb id.0 n) 1 0
  one_more n =
      elim (eqb_tells id.0 n) [
        | inl same ↦ (rw (same.0, ← same.1, raised.updates.inner.changed) (omega (arith, none_there)))
        | inr other ↦ (rw (other.0, raised.updates.inner.others n (λ q. other.1 (sym q))) (omega arith))
      ]

  here : new.inner id.0 ≡ Present raised.node
  here = raised.updates.inner.changed

  top_pairs : pairs_at new (suc h) tree.root ≡ flat (pairs_at new h) (roots group)
  top_pairs = node_pairs total' is_summary new least h raised.above.head raised.above.others tree id raised.node raised.is here raised.above.keys raised.above.children raised.above.arguments

  all_pairs : flat (pairs_at new (suc h)) (roots (done ++ tree ∷ [])) ++ flat (pairs_at new h) (roots rest) ≡ pairs
  all_pairs =
      flat_moved (pairs_at new (suc h)) (pairs_at new h) done group rest tree top_pairs
      ∙ (rw (pairs_same cmp is_summary old new (suc h) (roots done) same_done, pairs_same cmp is_summary old new h (roots (group ++ rest)) same_rest) rising.pairs_are)

  -- the pairs of the group are part of all pairs
  parts : pairs ≡ flat (pairs_at new (suc h)) (roots done) ++ (flat (pairs_at new h) (roots group) ++ flat (pairs_at new h) (roots rest))
  parts =
      sym rising.pairs_are
      ∙ (rw (← pairs_same cmp is_summary old new (suc h) (roots done) same_done, ← pairs_same cmp is_summary old new h (roots (group ++ rest)) same_rest) (ap (λ l. flat (pairs_at new (suc h)) (roots done) ++ l) (flat_parts_of (pairs_at new h) group rest)))

  group_ascending : IsAscending cmp (flat (pairs_at new h) (roots group))
  group_ascending =
      ascending_before cmp (flat (pairs_at new h) (roots group)) (flat (pairs_at new h) (roots rest))
      (ascending_after total' (flat (pairs_at new (suc h)) (roots done)) (flat (pairs_at new h) (roots group) ++ flat (pairs_at new h) (roots rest)) (subst (IsAscending cmp) parts ascending))

  group_fits : length (flat (pairs_at new h) (roots group)) < 2 ^ 64
  group_fits =
      let long = ap length parts ∙ length-append (flat (pairs_at new (suc h)) (roots done)) (flat (pairs_at new h) (roots group) ++ flat (pairs_at new h) (roots rest)) in
      omega (arith, fits, long, length-append (flat (pairs_at new h) (roots group)) (flat (pairs_at new h) (roots rest)))

  links : (ids : List LeafNodeId) → AreLinked old None ids None → AreLinked new None ids None
  links ids linked = linked_same old new None ids None (each_counted (SameLinks old new) ids (λ l some. (ap leaf_prev (same_leaf l.0), ap leaf_next (same_leaf l.0)))) linked

  held_inner : (n : ℕ) → new.inner n ≡ Held → ⊥
  held_inner n held =
      elim (eqb_tells n id.0) [
        | inl same ↦ (let e = sym here ∙ (ap new.inner (sym same.1) ∙ held) in cc)
        | inr other ↦ rising.no_inner_held n (sym (raised.updates.inner.others n other.1) ∙ held)
      ]

  pub rises : least + 1 ≤ count → count ≤ 65 → IsRising cmp is_summary new least h (done ++ tree ∷ []) rest pairs
  rises enough room = record {
    seated_done = AllByRecursion-append (IsSeated cmp is_summary new least (suc h)) done (tree ∷ []) (seated_same cmp is_summary old new least (suc h) done same_done rising.seated_done) (
      node_seated total' is_summary new least h raised.above.head raised.above.others tree id raised.node raised.is here raised.above.keys raised.above.children raised.above.arguments
          (AllByRecursion-left (IsSeated cmp is_summary new 16 h) group rest seated_new) group_ascending group_fits (omega (arith, enough, raised.above.len)) (omega (arith, room, raised.above.len)) raised.above.starts raised.reported,
      tt,
    );
    seated_rest = AllByRecursion-right (IsSeated cmp is_summary new 16 h) group rest seated_new;
    pairs_are = all_pairs;
    leaves = λ n. omega (
      arith,
      rising.leaves n,
      ap stored (same_leaf n),
      total_end (λ c. leaf_count new (suc h) c n) done tree,
      total_parts_of (λ c. leaf_count new h c n) group rest,
      node_leaves total' is_summary new least h raised.above.head raised.above.others tree id raised.node raised.is here raised.above.keys raised.above.children raised.above.arguments n,
      leaves_same cmp is_summary old new (suc h) (roots done) same_done n,
      leaves_same cmp is_summary old new h (roots (group ++ rest)) same_rest n,
    );
    inners = λ n. omega (
      arith,
      rising.inners n,
      one_more n,
      total_end (λ c. inner_count new (suc h) c n) done tree,
      total_parts_of (λ c. inner_count new h c n) group rest,
      node_inners total' is_summary new least h raised.above.head raised.above.others tree id raised.node raised.is here raised.above.keys raised.above.children raised.above.arguments n,
      inners_same cmp is_summary old new (suc h) (roots done) same_done n,
      inners_same cmp is_summary old new h (roots (group ++ rest)) same_rest n,
    );
    no_leaf_held = λ n held. rising.no_leaf_held n (sym (same_leaf n) ∙ held);
    no_inner_held = held_inner;
    linked =
        rw (flat_moved (leaves_at new (suc h)) (leaves_at new h) done group rest tree (node_order total' is_summary new least h raised.above.head raised.above.others tree id raised.node raised.is here raised.above.keys raised.above.children raised.above.arguments))
        (rw (order_same cmp is_summary old new (suc h) (roots done) same_done, order_same cmp is_summary old new h (roots (group ++ rest)) same_rest) (links _ rising.linked));
  }

module _ {K V A : Type 0} (cmp : K → K → Ordering) (is_summary : A → List K → Type 0) (slots : Slots (Inner K A) (Leaf K V)) where
  less_seated : (least less h : ℕ) → less ≤ least → (trees : List (Subtree K A)) → AllByRecursion (IsSeated cmp is_summary slots least h) trees → AllByRecursion (IsSeated cmp is_summary slots less h) trees
  less_seated least less h low trees all =
      AllByRecursion-weaker _ _ (λ tree s. record { lies_between = λ lo hi inside. tree_less cmp slots least less h tree.root lo hi low (s.lies_between lo hi inside); first = s.first; reported = s.reported; summed = s.summed }) trees all

  -- a layer before the first node is above its trees
  pub begins : (least h : ℕ) (trees : List (Subtree K A)) (pairs : List (K × V)) → 1 < length trees → IsLayer cmp is_summary slots h trees pairs → IsRising cmp is_summary slots least h [] trees pairs
  begins least h trees pairs several layer = record {
    seated_done = tt;
    seated_rest = less_seated layer.least 16 h (layer.many several) trees layer.seated;
    pairs_are = layer.pairs_are;
    leaves = λ n. omega (arith, layer.leaves n);
    inners = λ n. omega (arith, layer.inners n);
    no_leaf_held = layer.no_leaf_held;
    no_inner_held = layer.no_inner_held;
    linked = layer.linked;
  }

  -- the layer above is done once each tree has a node above it
  ends : (least h : ℕ) (done : List (Subtree K A)) (pairs : List (K × V)) → 1 ≤ least → (1 < length done → 16 ≤ least) → IsRising cmp is_summary slots least h done [] pairs → IsLayer cmp is_summary slots (suc h) done pairs
  ends least h done pairs some many rising = record {
    least = least;
    enough = some;
    many = many;
    seated = rising.seated_done;
    pairs_are = sym (append-nil (flat (pairs_at slots (suc h)) (roots done))) ∙ rising.pairs_are;
    leaves = λ n. omega (arith, rising.leaves n);
    inners = λ n. omega (arith, rising.inners n);
    no_leaf_held = rising.no_leaf_held;
    no_inner_held = rising.no_inner_held;
    linked = subst (λ ids. AreLinked slots None ids None) (append-nil (flat (leaves_at slots (suc h)) (roots done))) rising.linked;
  }

module _ {K V A : Type 0} {cmp : K → K → Ordering} (total' : IsTotalOrder cmp) (is_summary : A → List K → Type 0) (old new : Slots (Inner K A) (Leaf K V)) (h : ℕ) (all : List (Subtree K A)) (count : ℕ) (tree : Subtree K A) (rest : List (Subtree K A)) (pairs : List (K × V))
    (raised : IsRaised cmp is_summary old new all count tree rest) (ascending : IsAscending cmp pairs) (fits : length pairs < 2 ^ 64) (whole : length rest ≡ 0) (room : count ≤ 65) where
  last_raised : (least : ℕ) (done : List (Subtree K A)) → 1 ≤ least → (1 < length (done ++ tree ∷ []) → 16 ≤ least) → least + 1 ≤ count → IsRising cmp is_summary old least h done all pairs → IsLayer cmp is_summary new (suc h) (done ++ tree ∷ []) pairs
  last_raised least done some many enough rising =
      ends cmp is_summary new least h (done ++ tree ∷ []) pairs some many
      (subst (λ trees. IsRising cmp is_summary new least h (done ++ tree ∷ []) trees pairs) (nothing rest whole) (rises total' is_summary old new least h done all count tree rest pairs rising raised ascending fits enough room))

  -- the last node of a layer is added
  pub rises_last : (done : List (Subtree K A)) → 1 < count → (0 < length done → 17 ≤ count) → IsRising cmp is_summary old 16 h done all pairs → IsLayer cmp is_summary new (suc h) (done ++ tree ∷ []) pairs
  rises_last [] several enough rising =
      last_raised 1 [] (omega arith) (λ many. absurd (omega (arith, many))) (omega (arith, several))
      (record { seated_done = tt; seated_rest = rising.seated_rest; pairs_are = rising.pairs_are; leaves = rising.leaves; inners = rising.inners; no_leaf_held = rising.no_leaf_held; no_inner_held = rising.no_inner_held; linked = rising.linked })
  rises_last (first ∷ done) several enough rising = last_raised 16 (first ∷ done) (omega arith) (λ many. omega arith) (omega (arith, enough (omega arith))) rising

-- a new node is above the first trees whatever the leaves are
pub raised_with : {K V A : Type 0} (cmp : K → K → Ordering) (is_summary : A → List K → Type 0) (old new : Slots (Inner K A) (Leaf K V)) (all : List (Subtree K A)) (count : ℕ) (tree : Subtree K A) (rest : List (Subtree K A)) → IsRaised cmp is_summary old new all count tree rest
    → (leaves : ℕ → Slot (Leaf K V)) → IsRaised cmp is_summary (with_leaves old leaves) (with_leaves new leaves) all count tree rest
raised_with cmp is_summary old new all count tree rest raised leaves = record {
  id = raised.id;
  node = raised.node;
  above = raised.above;
  is = raised.is;
  was_free = raised.was_free;
  updates = record { inner = raised.updates.inner; leaf = refl };
  reported = raised.reported;
}

-- the number of trees that are left after a node took the first ones
pub raised_long : {K V A : Type 0} (cmp : K → K → Ordering) (is_summary : A → List K → Type 0) (old new : Slots (Inner K A) (Leaf K V)) (all : List (Subtree K A)) (count : ℕ) (tree : Subtree K A) (rest : List (Subtree K A)) → IsRaised cmp is_summary old new all count tree rest → length rest + count ≡ length all
raised_long cmp is_summary old new all count tree rest raised = omega (arith, ap length raised.above.taken, raised.above.len, length-append raised.above.others rest)

-- no other tree comes before the tree of a layer of one
alone : {X : Type 0} (xs : List X) (x : X) → length (xs ++ x ∷ []) ≤ 1 → xs ≡ []
alone [] x few = refl
alone (y ∷ xs) x few = absurd (omega (arith, few, length-append xs (x ∷ [])))

module _ {K V A : Type 0} (cmp : K → K → Ordering) (is_summary : A → List K → Type 0) (slots : Slots (Inner K A) (Leaf K V)) (h : ℕ) (tree : Subtree K A) (pairs : List (K × V)) where
  one_built : IsLayer cmp is_summary slots h (tree ∷ []) pairs → IsBuilt cmp is_summary slots tree.root h tree.summary pairs
  one_built layer =
      let contents : pairs_at slots h tree.root ≡ pairs = sym (append-nil (pairs_at slots h tree.root)) ∙ layer.pairs_are in
      record {
        shape = record {
          tree = tree_less cmp slots layer.least (root_least h) h tree.root None None layer.enough (layer.seated.0.lies_between None None (unbounded cmp (pairs_at slots h tree.root)));
          leaves = λ n. omega (arith, layer.leaves n);
          inners = λ n. omega (arith, layer.inners n);
          no_leaf_held = layer.no_leaf_held;
          no_inner_held = layer.no_inner_held;
          summed = layer.seated.0.summed;
          linked = subst (λ ids. AreLinked slots None ids None) (append-nil (leaves_at slots h tree.root)) layer.linked;
        };
        contents = contents;
        reported = subst (λ l. is_summary tree.summary (keys_of l)) contents layer.seated.0.reported;
      }

  pub built : (trees before : List (Subtree K A)) → trees ≡ before ++ tree ∷ [] → length trees ≤ 1 → IsLayer cmp is_summary slots h trees pairs → IsBuilt cmp is_summary slots tree.root h tree.summary pairs
  built trees before is few layer =
      one_built (subst (λ l. IsLayer cmp is_summary slots h l pairs) (is ∙ ap (λ l. l ++ tree ∷ []) (alone before tree (omega (arith, few, ap length is)))) layer)

-- a tree that was built contains its own pairs, and has a summary of their keys
module _ {K V A : Type 0} {cmp : K → K → Ordering} {is_summary : A → List K → Type 0} (slots : Slots (Inner K A) (Leaf K V)) (root : NodeId) (h : ℕ) (summary : A) (pairs : List (K × V)) (all : IsBuilt cmp is_summary slots root h summary pairs) where
  pub reported_of_all : is_summary summary (keys_of (pairs_at slots h root))
  reported_of_all = subst (λ l. is_summary summary (keys_of l)) (sym all.contents) all.reported

  pub counted_all : (n : ℕ) → n ≡ length pairs → n ≡ length (pairs_at slots h root)
  counted_all n is = is ∙ ap length (sym all.contents)
