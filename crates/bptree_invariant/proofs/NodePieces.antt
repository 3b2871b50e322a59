-- The keys below the children of an inner node are pieces of the node's keys, with the node's arguments as their summaries.
use Rattle.std.proofs.Common.{◌≡◌, ℕ, zero, suc, ◌<◌, ◌^◌, List, [], ◌∷◌, ◌++◌, length, map, take, drop, get_or, refl, ap, ◌∙◌, arith, Option, Some}
use Rattle.std.specs.declared.cmp.Ordering.{Ordering}
use Rattle.std.specs.Cmp.{IsTotalOrder}
use Rattle.std.specs.List.{AllByRecursion, AllZip}
use Rattle.std.specs.Map.{keys_of}
use Rattle.std.proofs.lemmas.Map.Entries.{length-keys_of}
use Rattle.bptree_nodes.specs.Inner.{Inner}
use Rattle.bptree_nodes.specs.Leaf.{Leaf}
use Rattle.bptree_keys.specs.Pieces.{flatten, piece_at, start_of, AllNonEmpty, ArePieces}
use Rattle.bptree_nodes.specs.Slot.{Slots}
use Rattle.bptree_keys.specs.declared.node_id.InnerNodeId.{InnerNodeId}
use Rattle.bptree_keys.specs.declared.node_id.NodeId.{NodeId}
use Rattle.bptree_keys.specs.declared.node_id.NodeId.TheVariants as kind
use Rattle.bptree_invariant.specs.Order.{flat, Chain}
use Rattle.bptree_invariant.specs.Shape.{inner_keys, inner_children, inner_arguments, pairs_at, IsTree, IsSummed}
use Rattle.bptree_invariant.proofs.Walk.{tree_inside, tree_ascends, tree_some, chain_ascends}

pub keys-append : {K V : Type 0} (xs ys : List (K × V)) → keys_of (xs ++ ys) ≡ keys_of xs ++ keys_of ys
keys-append [] ys = refl
keys-append (x ∷ xs) ys = ap (λ rest. x.0 ∷ rest) (keys-append xs ys)

-- the keys of each member's pairs
abbrev pub keys_each : {C K V : Type 0} → (C → List (K × V)) → List C → List (List K)
keys_each f cs = map (λ c. keys_of (f c)) cs

module _ {C K V : Type 0} (f : C → List (K × V)) where
  pub keys_of_flat : (cs : List C) → keys_of (flat f cs) ≡ flatten (keys_each f cs)
  keys_of_flat [] = refl
  keys_of_flat (c ∷ cs) = keys-append (f c) (flat f cs) ∙ ap (λ rest. keys_of (f c) ++ rest) (keys_of_flat cs)

  pub keys_at : (cs : List C) (i : ℕ) (d : C) → i < length cs → piece_at (keys_each f cs) i ≡ keys_of (f (get_or cs i d))
  keys_at [] i d within = absurd (omega arith)
  keys_at (c ∷ cs) zero d within = refl
  keys_at (c ∷ cs) (suc i) d within = let small : i < length cs = omega arith in keys_at cs i d small

  pub keys_take : (cs : List C) (i : ℕ) → take i (keys_each f cs) ≡ keys_each f (take i cs)
  keys_take cs zero = refl
  keys_take [] (suc i) = refl
  keys_take (c ∷ cs) (suc i) = ap (λ rest. keys_of (f c) ∷ rest) (keys_take cs i)

  pub keys_drop : (cs : List C) (i : ℕ) → drop i (keys_each f cs) ≡ keys_each f (drop i cs)
  keys_drop cs zero = refl
  keys_drop [] (suc i) = refl
  keys_drop (c ∷ cs) (suc i) = keys_drop cs i

  -- the keys before a member are as many as the pairs before it
  pub keys_start : (cs : List C) (i : ℕ) → start_of (keys_each f cs) i ≡ length (flat f (take i cs))
  keys_start cs i = rw (keys_take cs i, ← keys_of_flat (take i cs)) (length-keys_of (flat f (take i cs)))

-- the keys below each of some children
abbrev pub child_keys : {K V A : Type 0} → Slots (Inner K A) (Leaf K V) → ℕ → List NodeId → List (List K)
child_keys slots h cs = keys_each (pairs_at slots h) cs

module _ {K V A : Type 0} {cmp : K → K → Ordering} (total : IsTotalOrder cmp) (slots : Slots (Inner K A) (Leaf K V)) where
  pub children_some : (h : ℕ) (ks : List K) (cs : List NodeId) (lo hi : Option K) → Chain cmp (IsTree cmp slots 16 h) ks cs lo hi → AllByRecursion (λ c. 0 < length (pairs_at slots h c)) cs
  children_some h ks [] lo hi chain = absurd chain
  children_some h [] (c ∷ []) lo hi chain = (tree_some total slots 16 h c lo hi (omega arith) chain, tt)
  children_some h [] (c ∷ d ∷ cs) lo hi chain = absurd chain
  children_some h (k ∷ ks) (c ∷ cs) lo hi chain = (tree_some total slots 16 h c lo (Some k) (omega arith) chain.0, children_some h ks cs (Some k) hi chain.2)

  each_some : (h : ℕ) (cs : List NodeId) → AllByRecursion (λ c. 0 < length (pairs_at slots h c)) cs → AllNonEmpty (child_keys slots h cs)
  each_some h [] all = tt
  each_some h (c ∷ cs) all = (omega (arith, length-keys_of (pairs_at slots h c), all.0), each_some h cs all.1)

  -- the keys of children between separators are pieces, one for each child
  pub chain_pieces : (h : ℕ) (ks : List K) (cs : List NodeId) (lo hi : Option K) → Chain cmp (IsTree cmp slots 16 h) ks cs lo hi → length (flat (pairs_at slots h) cs) < 2 ^ 64 → ArePieces cmp (child_keys slots h cs)
  chain_pieces h ks cs lo hi chain fits = record {
    nonempty = each_some h cs (children_some h ks cs lo hi chain);
    ascending =
        rw (← keys_of_flat (pairs_at slots h) cs)
        (chain_ascends total (pairs_at slots h) (IsTree cmp slots 16 h) (λ c a b u. tree_inside total slots 16 h c a b u) (λ c a b u. tree_ascends total slots 16 h c a b u) ks cs lo hi chain);
    fits = rw (← keys_of_flat (pairs_at slots h) cs, length-keys_of) fits;
  }

  module _ (least h : ℕ) (id : InnerNodeId) (lo hi : Option K) (tree : IsTree cmp slots least (suc h) (kind.Inner id) lo hi) where
    -- the keys of a node are those below its children
    pub node_keys_flat : keys_of (pairs_at slots (suc h) (kind.Inner id)) ≡ flatten (child_keys slots h (inner_children (slots.inner id.0)))
    node_keys_flat = keys_of_flat (pairs_at slots h) (inner_children (slots.inner id.0))

    pub node_pieces : length (pairs_at slots (suc h) (kind.Inner id)) < 2 ^ 64 → ArePieces cmp (child_keys slots h (inner_children (slots.inner id.0)))
    node_pieces fits = chain_pieces h (inner_keys (slots.inner id.0)) (inner_children (slots.inner id.0)) lo hi tree.1 fits

    -- the arguments of a node are summaries of its pieces
    pub node_summaries : (is_summary : A → List K → Type 0) → IsSummed slots is_summary (suc h) (kind.Inner id) → AllZip is_summary (inner_arguments (slots.inner id.0)) (child_keys slots h (inner_children (slots.inner id.0)))
    node_summaries is_summary summed = summed.0
