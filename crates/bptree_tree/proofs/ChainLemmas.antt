-- A chain without its first or its last leaf is a chain.
use Rattle.std.proofs.Common.{inl, inr, ◌≡◌, ◌≢◌, ℕ, zero, suc, ◌+◌, ◌-◌, ◌<◌, ◌≤◌, cond, List, [], ◌∷◌, ◌++◌, length, refl, sym, ap, subst, ◌∙◌, arith, Option, Some, None, eqb, append-nil, length-append}
use Rattle.std.proofs.lemmas.Bool.Decides.{eqb_tells}
use Rattle.std.specs.List.{AllByRecursion}
use Rattle.std.specs.Option.{unwrap_or}
use Rattle.std.specs.declared.cmp.Ordering.{Ordering}
use Rattle.bptree_keys.proofs.PieceLemmas.{AllByRecursion-left, AllByRecursion-weaker}
use Rattle.bptree_keys.specs.declared.end.End.{End}
use Rattle.bptree_keys.specs.declared.end.End.TheVariants.{Back, Front}
use Rattle.bptree_keys.specs.declared.node_id.LeafNodeId.{LeafNodeId}
use Rattle.bptree_keys.specs.declared.node_id.NodeId.{NodeId}
use Rattle.bptree_keys.specs.declared.node_id.NodeId.TheVariants as kind
use Rattle.bptree_nodes.specs.Inner.{Inner}
use Rattle.bptree_nodes.specs.Leaf.{Leaf}
use Rattle.bptree_nodes.specs.Slot.{Slot, Slots, Free, Held, Present, IsPresent}
use Rattle.bptree_invariant.specs.Edit.{SameLinks}
use Rattle.bptree_invariant.specs.Leaves.{pairs_of, IsFirstLeaf, IsLastLeaf}
use Rattle.bptree_invariant.specs.Shape.{leaf_pairs, leaf_prev, leaf_next, pairs_at, leaves_at, AreLinked, IsWellShaped}
use Rattle.bptree_invariant.proofs.Agreeing.{each_keeps, stored_le}
use Rattle.bptree_invariant.proofs.Down.{pairs_of_leaves}
use Rattle.bptree_invariant.proofs.Ends.{leaves_have}
use Rattle.bptree_invariant.proofs.Hinted.{count_of, count_leaves, total-append}
use Rattle.bptree_invariant.proofs.Walk.{flat-append}
use Rattle.bptree_propagation.proofs.Borrowed.{pairs_apart}
use Rattle.bptree_propagation.proofs.Relinked.{linked_same, one_at, same_links}
use Rattle.bptree_tree.specs.Chain.{IsChain, IsLeft, chain_pairs, LeaveAt, end_of, inward_link, with_end}
use Rattle.bptree_tree.specs.declared.chain.Ends.{Ends}
use Rattle.bptree_iter.specs.Span.{IsSpan, leaves_of}
use Rattle.bptree_iter.proofs.SpanLemmas.{pairs_left-span}
use Rattle.bptree_tree.proofs.Spans.{last_in, span_of}

-- a property of all members holds of the last
all_last : {X : Type 0} (P : X → Type 0) (front : List X) (last : X) → AllByRecursion P (front ++ last ∷ []) → P last
all_last P [] last all = all.0
all_last P (x ∷ front) last all = all_last P front last all.1

present_with_pairs : {K V : Type 0} (slot : Slot (Leaf K V)) → 0 < length (leaf_pairs slot) → IsPresent slot
present_with_pairs Free some = absurd (omega arith)
present_with_pairs Held some = absurd (omega arith)
present_with_pairs (Present leaf) some = tt

module _ {K V A : Type 0} (slots : Slots (Inner K A) (Leaf K V)) where
  -- walking along the links gives the pairs of the chain
  pub chain_walked : (first last : LeafNodeId) (xs : List (K × V)) (len : ℕ) → IsChain slots first last xs → len ≡ length xs → chain_pairs slots first len ≡ xs
  chain_walked first last xs len chain counted =
      let linked = subst (λ ids. AreLinked slots chain.before ids chain.after) chain.starts chain.linked in
      let full = subst (AllByRecursion (λ (id : LeafNodeId). 0 < length (leaf_pairs (slots.leaf id.0)))) chain.starts chain.full in
      let pairs : xs ≡ pairs_of slots (first ∷ chain.rest) = chain.pairs ∙ ap (pairs_of slots) chain.starts in
      let end = last_in first chain.rest in
      let to = length (leaf_pairs (slots.leaf end.0)) in
      let span : IsSpan (leaves_of slots) first 0 chain.rest end to xs = rw pairs (span_of slots first chain.rest chain.before chain.after linked full) in
      pairs_left-span (leaves_of slots) first 0 chain.rest end to xs len span counted

  -- some linked leaves without the last, which are linked too
  record Cut (before : Option LeafNodeId) (front : List LeafNodeId) (last : LeafNodeId) : Type 0 where
    ahead : List LeafNodeId
    end : LeafNodeId
    parts : front ≡ ahead ++ end ∷ []
    named : leaf_prev (slots.leaf last.0) ≡ Some end
    linked : AreLinked slots before front (Some last)

  cut : (before : Option LeafNodeId) (x : LeafNodeId) (front : List LeafNodeId) (last : LeafNodeId) (after : Option LeafNodeId) → AreLinked slots before (x ∷ (front ++ last ∷ [])) after → Cut before (x ∷ front) last
  cut before x [] last after linked = record { ahead = []; end = x; parts = refl; named = linked.2.0; linked = (linked.0, linked.1) }
  cut before x (y ∷ front) last after linked =
      let more = cut (Some x) y front last after linked.2 in
      record { ahead = x ∷ more.ahead; end = more.end; parts = ap (λ ids. x ∷ ids) more.parts; named = more.named; linked = (linked.0, linked.1, more.linked) }

module _ {K V A : Type 0} (old new : Slots (Inner K A) (Leaf K V)) (number : ℕ) (others : (n : ℕ) → n ≢ number → new.leaf n ≡ old.leaf n) where
  -- leaves with other ids are unchanged
  stay : (ids : List LeafNodeId) → count_of ids number ≡ 0 → AllByRecursion (λ (id : LeafNodeId). new.leaf id.0 ≡ old.leaf id.0) ids
  stay [] none = tt
  stay (l ∷ ids) none =
      elim (eqb_tells l.0 number) [
        | inl same ↦ absurd (let e = same.0 in let z = rw e at none in omega arith)
        | inr other ↦ (let e = other.0 in let z = rw e at none in (others l.0 other.1, stay ids (omega (arith, z))))
      ]

  linked_stay : (ids : List LeafNodeId) → count_of ids number ≡ 0 → (p q : Option LeafNodeId) → AreLinked old p ids q → AreLinked new p ids q
  linked_stay ids none p q linked = linked_same old new p ids q (AllByRecursion-weaker (λ (id : LeafNodeId). new.leaf id.0 ≡ old.leaf id.0) (SameLinks old new) (same_links old new) ids (stay ids none)) linked

  full_stay : (ids : List LeafNodeId) → count_of ids number ≡ 0 → AllByRecursion (λ (id : LeafNodeId). 0 < length (leaf_pairs (old.leaf id.0))) ids → AllByRecursion (λ (id : LeafNodeId). 0 < length (leaf_pairs (new.leaf id.0))) ids
  full_stay ids none full =
      let P : Slot (Leaf K V) → Type 0 = λ s. 0 < length (leaf_pairs s) in
      let Stays : LeafNodeId → Type 0 = λ id. new.leaf id.0 ≡ old.leaf id.0 in
      let Keeps : LeafNodeId → Type 0 = λ id. P (old.leaf id.0) → P (new.leaf id.0) in
      let keeps : (id : LeafNodeId) → Stays id → Keeps id = λ id e some. subst P (sym e) some in
      each_keeps (λ (id : LeafNodeId). P (old.leaf id.0)) (λ (id : LeafNodeId). P (new.leaf id.0)) ids (AllByRecursion-weaker Stays Keeps keeps ids (stay ids none)) full

module _ {K V A : Type 0} (old new : Slots (Inner K A) (Leaf K V)) (first last : LeafNodeId) (xs : List (K × V)) (chain : IsChain old first last xs) where
  -- the first leaf is taken out: its pairs come first, and the next leaf becomes the first
  pub record FirstLeaves (leaf : Leaf K V) : Type 0 where
    pub rest : List (K × V)
    pub parts : xs ≡ leaf.pairs ++ rest
    pub some : 0 < length leaf.pairs
    pub next : 0 < length rest → (id : LeafNodeId) × (leaf.next ≡ Some id) × IsChain new id last rest

  pub record LastLeaves (leaf : Leaf K V) : Type 0 where
    pub rest : List (K × V)
    pub parts : xs ≡ rest ++ leaf.pairs
    pub some : 0 < length leaf.pairs
    pub prev : 0 < length rest → (id : LeafNodeId) × (leaf.prev ≡ Some id) × IsChain new first id rest

  pub first_leaves : (leaf : Leaf K V) → old.leaf first.0 ≡ Present leaf → ((n : ℕ) → n ≢ first.0 → new.leaf n ≡ old.leaf n) → FirstLeaves leaf
  first_leaves leaf at others = by chain.rest chain.starts
    where
      pairs_at_first : leaf_pairs (old.leaf first.0) ≡ leaf.pairs
      pairs_at_first = ap leaf_pairs at

      by : (rest : List LeafNodeId) → chain.ids ≡ first ∷ rest → FirstLeaves leaf
      by [] starts =
          let full = subst (AllByRecursion (λ (id : LeafNodeId). 0 < length (leaf_pairs (old.leaf id.0)))) starts chain.full in
          record {
            rest = [];
            parts = chain.pairs ∙ (ap (pairs_of old) starts ∙ ap (λ ps. ps ++ []) pairs_at_first);
            some = rw (← pairs_at_first) full.0;
            next = λ none. absurd (omega arith);
          }
      by (id ∷ ids) starts =
          let full = subst (AllByRecursion (λ (id : LeafNodeId). 0 < length (leaf_pairs (old.leaf id.0)))) starts chain.full in
          let linked = subst (λ ids. AreLinked old chain.before ids chain.after) starts chain.linked in
          let counts : (n : ℕ) → count_of (first ∷ (id ∷ ids)) n ≤ 1 = λ n. subst (λ ids. count_of ids n ≤ 1) starts (chain.once n) in
          let none : count_of (id ∷ ids) first.0 ≡ 0 = omega (arith, counts first.0, one_at first.0 first.0 refl) in
          let ends = ends_of chain.ahead (sym starts ∙ chain.ends) in
          record {
            rest = pairs_of old (id ∷ ids);
            parts = chain.pairs ∙ (ap (pairs_of old) starts ∙ ap (λ ps. ps ++ pairs_of old (id ∷ ids)) pairs_at_first);
            some = rw (← pairs_at_first) full.0;
            next = λ some. (
              id,
              sym (ap leaf_next at) ∙ linked.1,
              record {
                ids = id ∷ ids;
                rest = ids;
                starts = refl;
                ahead = ends.0;
                ends = ends.1;
                before = Some first;
                after = chain.after;
                linked = linked_stay old new first.0 others (id ∷ ids) none (Some first) chain.after linked.2;
                full = full_stay old new first.0 others (id ∷ ids) none full.1;
                once = λ n. omega (arith, counts n);
                pairs = sym (pairs_apart old new first.0 others (id ∷ ids) none);
              },
            );
          }
        where
          ends_of : (ahead : List LeafNodeId) → first ∷ (id ∷ ids) ≡ ahead ++ last ∷ [] → (ahead : List LeafNodeId) × (id ∷ ids ≡ ahead ++ last ∷ [])
          ends_of [] e = let z : id ∷ ids ≡ [] = cc in cc
          ends_of (x ∷ ahead) e = (ahead, cc)

  pub last_leaves : (leaf : Leaf K V) → old.leaf last.0 ≡ Present leaf → ((n : ℕ) → n ≢ last.0 → new.leaf n ≡ old.leaf n) → LastLeaves leaf
  last_leaves leaf at others = by chain.ahead chain.ends
    where
      pairs_at_last : leaf_pairs (old.leaf last.0) ≡ leaf.pairs
      pairs_at_last = ap leaf_pairs at

      by : (ahead : List LeafNodeId) → chain.ids ≡ ahead ++ last ∷ [] → LastLeaves leaf
      by [] ends =
          let full = subst (AllByRecursion (λ (id : LeafNodeId). 0 < length (leaf_pairs (old.leaf id.0)))) ends chain.full in
          record {
            rest = [];
            parts = chain.pairs ∙ (ap (pairs_of old) ends ∙ (append-nil (leaf_pairs (old.leaf last.0)) ∙ pairs_at_last));
            some = rw (← pairs_at_last) full.0;
            prev = λ none. absurd (omega arith);
          }
      by (x ∷ front) ends =
          let full = subst (AllByRecursion (λ (id : LeafNodeId). 0 < length (leaf_pairs (old.leaf id.0)))) ends chain.full in
          let linked = subst (λ ids. AreLinked old chain.before ids chain.after) ends chain.linked in
          let counts : (n : ℕ) → count_of ((x ∷ front) ++ last ∷ []) n ≤ 1 = λ n. subst (λ ids. count_of ids n ≤ 1) ends (chain.once n) in
          let parted = λ (n : ℕ). total-append (λ (l : LeafNodeId). cond (eqb l.0 n) 1 0) (x ∷ front) (last ∷ []) in
          let none : count_of (x ∷ front) last.0 ≡ 0 = omega (arith, counts last.0, parted last.0, one_at last.0 last.0 refl) in
          let cut_off = cut old chain.before x front last chain.after linked in
          let same : x ≡ first = starts_of chain.rest (sym ends ∙ chain.starts) in
          record {
            rest = pairs_of old (x ∷ front);
            parts = chain.pairs ∙ (ap (pairs_of old) ends ∙ (flat-append (λ (l : LeafNodeId). leaf_pairs (old.leaf l.0)) (x ∷ front) (last ∷ []) ∙ ap (λ ps. pairs_of old (x ∷ front) ++ ps) (append-nil (leaf_pairs (old.leaf last.0)) ∙ pairs_at_last)));
            some = rw (← pairs_at_last) (all_last (λ (id : LeafNodeId). 0 < length (leaf_pairs (old.leaf id.0))) (x ∷ front) last full);
            prev = λ some. (
              cut_off.end,
              sym (ap leaf_prev at) ∙ cut_off.named,
              record {
                ids = x ∷ front;
                rest = front;
                starts = ap (λ (y : LeafNodeId). y ∷ front) same;
                ahead = cut_off.ahead;
                ends = cut_off.parts;
                before = chain.before;
                after = Some last;
                linked = linked_stay old new last.0 others (x ∷ front) none chain.before (Some last) cut_off.linked;
                full = full_stay old new last.0 others (x ∷ front) none (AllByRecursion-left _ (x ∷ front) (last ∷ []) full);
                once = λ n. omega (arith, counts n, parted n);
                pairs = sym (pairs_apart old new last.0 others (x ∷ front) none);
              },
            );
          }
        where
          starts_of : (rest : List LeafNodeId) → (x ∷ front) ++ last ∷ [] ≡ first ∷ rest → x ≡ first
          starts_of rest e = cc

-- so many pairs are left: they are those of a chain, or the list is empty
left_of : {K V A : Type 0} (slots : Slots (Inner K A) (Leaf K V)) (first last : LeafNodeId) (xs : List (K × V)) (len : ℕ) → len ≡ length xs → (0 < length xs → IsChain slots first last xs) → IsLeft slots first last len × (chain_pairs slots first len ≡ xs)
left_of slots first last [] len counted chain = rw counted (record { counted = refl; chain = λ some. absurd (omega arith) }, refl)
left_of slots first last (x ∷ xs) len counted chain =
    let here = chain (omega arith) in
    let walked = chain_walked slots first last (x ∷ xs) len here counted in
    (record { counted = rw walked counted; chain = λ some. rw walked here }, walked)

module _ {K V A : Type 0} (old new : Slots (Inner K A) (Leaf K V)) (ends : Ends) (len : ℕ) (left : IsLeft old ends.first ends.last len) (more : 0 < len) where
  -- there is a leaf at each end
  pub end_present : (at : End) → IsPresent (old.leaf (end_of at ends).0)
  end_present Front = let chain = left.chain more in present_with_pairs (old.leaf ends.first.0) (subst (AllByRecursion (λ (id : LeafNodeId). 0 < length (leaf_pairs (old.leaf id.0)))) chain.starts chain.full).0
  end_present Back =
      let chain = left.chain more in
      let HasPair : LeafNodeId → Type 0 = λ id. 0 < length (leaf_pairs (old.leaf id.0)) in
      present_with_pairs (old.leaf ends.last.0) (all_last HasPair chain.ahead ends.last (subst (AllByRecursion HasPair) chain.ends chain.full))

  -- the code reads the length of the leaf that it took out, and its link, if it has one
  module _ (leaf seen counted : Leaf K V) (seen_is : seen ≡ leaf) (counted_is : counted ≡ leaf) (n : ℕ) (n_is : n ≡ length counted.pairs) (link : Option LeafNodeId) (to : LeafNodeId) where
    long : n ≡ length leaf.pairs
    long = n_is ∙ ap (λ (l : Leaf K V). length l.pairs) counted_is

    names : (link_of : Leaf K V → Option LeafNodeId) (here : LeafNodeId) → link ≡ link_of seen → to ≡ unwrap_or link here → (id : LeafNodeId) → link_of leaf ≡ Some id → to ≡ id
    names link_of here is named id e = named ∙ ap (λ (o : Option LeafNodeId). unwrap_or o here) (is ∙ (ap link_of seen_is ∙ e))

    -- the leaves and pairs that are left once the leaf at an end is taken out
    pub record EndOut (at : End) : Type 0 where
      pub within : n ≤ len
      pub left' : IsLeft new (with_end at ends to).first (with_end at ends to).last (len - n)
      pub leave : LeaveAt at leaf.pairs (chain_pairs old ends.first len) (chain_pairs new (with_end at ends to).first (len - n))

    pub end_out : (at : End) → link ≡ inward_link at seen → to ≡ unwrap_or link (end_of at ends) → old.leaf (end_of at ends).0 ≡ Present leaf → ((i : ℕ) → i ≢ (end_of at ends).0 → new.leaf i ≡ old.leaf i) → EndOut at
    end_out Front is named at others =
        let out = first_leaves old new ends.first ends.last (chain_pairs old ends.first len) (left.chain more) leaf at others in
        let parts : len ≡ length leaf.pairs + length out.rest = left.counted ∙ (ap length out.parts ∙ length-append leaf.pairs out.rest) in
        let rest = left_of new to ends.last out.rest (len - n) (omega (arith, long)) (λ some. let next' = out.next some in rw (names (λ l. l.next) ends.first is named next'.0 next'.1) next'.2) in
        record { within = omega (arith, long); left' = rest.0; leave = (rw rest.1 out.parts, out.some) }
    end_out Back is named at others =
        let out = last_leaves old new ends.first ends.last (chain_pairs old ends.first len) (left.chain more) leaf at others in
        let parts : len ≡ length out.rest + length leaf.pairs = left.counted ∙ (ap length out.parts ∙ length-append out.rest leaf.pairs) in
        let rest = left_of new ends.first to out.rest (len - n) (omega (arith, long)) (λ some. let prev' = out.prev some in rw (names (λ l. l.prev) ends.last is named prev'.0 prev'.1) prev'.2) in
        record { within = omega (arith, long); left' = rest.0; leave = (rw rest.1 out.parts, out.some) }

module _ {K V A : Type 0} (cmp : K → K → Ordering) (is_summary : A → List K → Type 0) (slots : Slots (Inner K A) (Leaf K V)) where
  tree_full : (h : ℕ) (root : NodeId) → IsWellShaped cmp is_summary slots h root → 0 < length (pairs_at slots h root) → AllByRecursion (λ (id : LeafNodeId). 0 < length (leaf_pairs (slots.leaf id.0))) (leaves_at slots h root)
  tree_full zero (kind.Leaf id) w some = (some, tt)
  tree_full zero (kind.Inner id) w some = tt
  tree_full (suc h) root w some = leaves_have cmp slots 1 (suc h) root None None (omega arith) w.tree

  -- the leaves of a tree with a pair
  tree_chain : (h : ℕ) (root : NodeId) (first last : LeafNodeId) → IsWellShaped cmp is_summary slots h root → IsFirstLeaf slots h root first → IsLastLeaf slots h root last → 0 < length (pairs_at slots h root) → IsChain slots first last (pairs_at slots h root)
  tree_chain h root first last w f l some = record {
    ids = leaves_at slots h root;
    rest = f.stored.after;
    starts = f.stored.leaves ∙ ap (λ before. before ++ first ∷ f.stored.after) f.first;
    ahead = l.stored.before;
    ends = l.stored.leaves ∙ ap (λ after. l.stored.before ++ last ∷ after) l.last;
    before = None;
    after = None;
    linked = w.linked;
    full = tree_full h root w some;
    once = λ n. omega (arith, count_leaves slots h root n, w.leaves n, stored_le (slots.leaf n));
    pairs = sym (pairs_of_leaves slots h root);
  }

  pub tree_left : (h : ℕ) (root : NodeId) (first last : LeafNodeId) (len : ℕ) → IsWellShaped cmp is_summary slots h root → IsFirstLeaf slots h root first → IsLastLeaf slots h root last → len ≡ length (pairs_at slots h root) → IsLeft slots first last len × (chain_pairs slots first len ≡ pairs_at slots h root)
  tree_left h root first last len w f l counted = left_of slots first last (pairs_at slots h root) len counted (tree_chain h root first last w f l)
