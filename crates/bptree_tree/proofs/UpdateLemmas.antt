-- The values between two positions of a tree are changed, leaf by leaf.
use Rattle.std.proofs.Common.{◌≡◌, ◌∙◌, ℕ, ◌+◌, ◌-◌, ◌≤◌, inl, inr, List, [], ◌∷◌, ◌++◌, Option, Some, None, length, take, drop, refl, sym, ap, subst, arith, append_assoc, append-nil, length-append, length-drop, drop-drop}
use Rattle.std.specs.Borrow.{Bor, MutBor}
use Rattle.std.specs.Fn.{Mut}
use Rattle.std.specs.Map.{keys_of}
use Rattle.std.specs.declared.cmp.Ordering.{Ordering}
use Rattle.std.proofs.Math.Seq.{take-append-add}
use Rattle.std.proofs.lemmas.List.{drop-take, drop_at, length-take-le, take-append-drop, take_at}
use Rattle.std.proofs.lemmas.Map.Entries.{length-keys_of}
use Rattle.bptree_keys.specs.Ranges.{between, part}
use Rattle.bptree_keys.specs.declared.node_id.LeafNodeId.{LeafNodeId}
use Rattle.bptree_keys.specs.declared.node_id.Position.{Position}
use Rattle.bptree_keys.specs.declared.node_id.NodeId.{NodeId}
use Rattle.bptree_nodes.specs.Inner.{Inner}
use Rattle.bptree_nodes.specs.Leaf.{Leaf}
use Rattle.bptree_nodes.specs.Slot.{Slot, Slots, Free, Held, Present, IsPresent, UpdatesLeaf}
use Rattle.bptree_nodes.specs.Updating.{ChangesInTurn}
use Rattle.bptree_nodes.proofs.Updates.{ChangedUpTo, all_changed, changed_joined, changed_keys, none_changed}
use Rattle.bptree_propagation.proofs.Alike.{AllAlike, alike_itself, alike_over, leaves_alike, shape_alike}
use Rattle.bptree_propagation.proofs.Borrowed.{set_alike, set_parts}
use Rattle.bptree_ranges.specs.Ranges.{index_on, start, IsIndexOn, IsSettled}
use Rattle.bptree_ranges.proofs.Ranged.{NextLeaf, last_of, next_of, order, reached, size, start_is}
use Rattle.bptree_ranges.proofs.Sums.{no_ends}
use Rattle.bptree_invariant.proofs.Agreeing.{present_if_stored, stored_if_present}
use Rattle.bptree_invariant.proofs.NodePieces.{keys-append}
use Rattle.bptree_invariant.proofs.Spot.{parts_of_read}
use Rattle.bptree_invariant.specs.Leaves.{pairs_of, IsLeafOf}
use Rattle.bptree_invariant.specs.Shape.{leaf_next, leaf_pairs, pairs_at, stored, IsWellShaped}
use Rattle.bptree_tree.specs.Updating.{IsUpdatedBetween}

module _ {F K V : Type 0} (calls : Mut F (Bor K × (MutBor V × Unit {0})) (Unit {0} × (MutBor V × Unit {0}))) where
  pub changed_length : (f : F) (old : List (K × V)) (after : F) (new : List (K × V)) → ChangesInTurn calls f old after new → length new ≡ length old
  changed_length f old after new changes = sym (length-keys_of new) ∙ (ap length (changed_keys calls f old after new changes) ∙ length-keys_of old)

  module _ (f : F) (old : List (K × V)) (from to : ℕ) (below : from ≤ to) (fits : to ≤ length old) (t : F) (p : ℕ) (now : List (K × V)) (up : ChangedUpTo calls f old from to t p now) where
    -- the next pairs are changed too
    pub more_changed : (u : F) (first mid new rest now' : List (K × V)) → now ≡ first ++ (mid ++ rest) → now' ≡ first ++ (new ++ rest) → length first ≡ p → (q : ℕ) → q ≡ p + length mid → q ≤ to → ChangesInTurn calls t mid u new
        → ChangedUpTo calls f old from to u q now'
    more_changed u first mid new rest now' is is' at q e short changes =
        let head = take from old ++ up.done in
        let long : length head ≡ p = omega (arith, length-append (take from old) up.done, length-take-le from old (omega arith), up.long) in
        let whole : now ≡ head ++ drop p old = up.is ∙ sym (append_assoc (take from old) up.done (drop p old)) in
        let same : first ≡ head = sym (take_at first (mid ++ rest) p at) ∙ (ap (take p) (sym is ∙ whole) ∙ take_at head (drop p old) p long) in
        let tail : drop p old ≡ mid ++ rest = sym (drop_at head (drop p old) p long) ∙ (ap (drop p) (sym whole ∙ is) ∙ drop_at first (mid ++ rest) p at) in
        let behind : drop q old ≡ rest = ap (λ n. drop n old) e ∙ (sym (drop-drop (length mid) p old) ∙ (ap (drop (length mid)) tail ∙ drop_at mid rest (length mid) refl)) in
        let few : to ≡ p + (length mid + (to - q)) = omega (arith, e, short) in
        let cut : drop p (take to old) ≡ mid ++ take (to - q) rest =
        ap (λ n. drop p (take n old)) few ∙ (drop-take p (length mid + (to - q)) old ∙ (ap (take (length mid + (to - q))) tail ∙ take-append-add mid rest (to - q))) in
        let cut' : drop q (take to old) ≡ take (to - q) rest =
        let few' : to ≡ q + (to - q) = omega (arith, short) in
        ap (λ n. drop q (take n old)) few' ∙ (drop-take q (to - q) old ∙ ap (take (to - q)) behind) in
        record {
          done = up.done ++ new;
          is = is' ∙ (ap (λ l. l ++ (new ++ rest)) same
              ∙ (append_assoc (take from old) up.done (new ++ rest)
              ∙ ap (λ l. take from old ++ l) (sym (append_assoc up.done new rest) ∙ ap (λ l. (up.done ++ new) ++ l) (sym behind))));
          long = omega (arith, length-append up.done new, up.long, e, changed_length t mid u new changes);
          goes = λ after more r.
              rw (append_assoc up.done new more) (up.goes after (new ++ more) (rw cut (changed_joined calls t u after mid (take (to - q) rest) new more changes (rw cut' at r))));
        }

pub present_node : {N : Type 0} (s : Slot N) → IsPresent s → (node : N) × (s ≡ Present node)
present_node Free here = absurd here
present_node Held here = absurd here
present_node (Present node) here = (node, refl)

present_alike : {N : Type 0} (old new : Slot N) → stored new ≡ stored old → IsPresent old → IsPresent new
present_alike old new same here = present_if_stored new (omega (arith, same, stored_if_present old here))

some_of : {X : Type 0} (o : Option X) → (o ≡ None → ⊥) → (x : X) × (o ≡ Some x)
some_of None h = absurd (h refl)
some_of (Some x) h = (x, refl)

-- the leaves of the tree differ only in their values from what they were
module _ {K V A : Type 0} {cmp : K → K → Ordering} (is_summary : A → List K → Type 0) (old : Slots (Inner K A) (Leaf K V)) (h : ℕ) (root : NodeId) (shape : IsWellShaped cmp is_summary old h root)
    (mid : Slots (Inner K A) (Leaf K V)) (alike : AllAlike old mid) where
  length_alike : (ids : List LeafNodeId) → length (pairs_of mid ids) ≡ length (pairs_of old ids)
  length_alike [] = refl
  length_alike (l ∷ ids) =
      let here : length (leaf_pairs (mid.leaf l.0)) ≡ length (leaf_pairs (old.leaf l.0)) = sym (length-keys_of (leaf_pairs (mid.leaf l.0))) ∙ (ap length (alike.leaf l.0).keys ∙ length-keys_of (leaf_pairs (old.leaf l.0))) in
      omega (arith, here, length_alike ids, length-append (leaf_pairs (mid.leaf l.0)) (pairs_of mid ids), length-append (leaf_pairs (old.leaf l.0)) (pairs_of old ids))

  module _ (at : LeafNodeId) (node : Leaf K V) (here : mid.leaf at.0 ≡ Present node) (in' : IsLeafOf old h root at) where
    -- the leaf has as many pairs as before
    pub long_here : length node.pairs ≡ size is_summary old h root shape at
    long_here =
        sym (ap (λ s. length (leaf_pairs s)) here) ∙ (sym (length-keys_of (leaf_pairs (mid.leaf at.0))) ∙ (ap length (alike.leaf at.0).keys ∙ length-keys_of (leaf_pairs (old.leaf at.0))))

    next_was : leaf_next (old.leaf at.0) ≡ node.next
    next_was = sym (alike.leaf at.0).next ∙ ap leaf_next here

    stored_now : IsLeafOf mid h root at
    stored_now = record { before = in'.before; after = in'.after; leaves = leaves_alike cmp is_summary old mid alike h root ∙ in'.leaves; present = rw here tt }

    -- a leaf before another position's leaf links to a next leaf
    pub step : (from : ℕ) (other : Position) → from ≤ length node.pairs → start old h root at + from ≤ index_on old h root other → IsSettled old h root (index_on old h root other) other → (at ≡ other.leaf → ⊥)
        → (next : LeafNodeId) × (node.next ≡ Some next) × NextLeaf is_summary old h root shape at next × (start old h root at + length node.pairs ≤ index_on old h root other)
    step from other within below there apart =
        elim (order is_summary old h root shape at other.leaf in' there.on.stored) as (λ _. (next : LeafNodeId) × (node.next ≡ Some next) × NextLeaf is_summary old h root shape at next × (start old h root at + length node.pairs ≤ index_on old h root other)) [
          | inl same ↦ absurd (apart same)
          | inr rest ↦
              (elim rest as (λ _. (next : LeafNodeId) × (node.next ≡ Some next) × NextLeaf is_summary old h root shape at next × (start old h root at + length node.pairs ≤ index_on old h root other)) [
                | inl before ↦
                    (let was = present_node (old.leaf at.0) in'.present in
                    let link : was.0.next ≡ node.next = sym (ap leaf_next was.1) ∙ next_was in
                    let next = some_of node.next (λ none. let all = last_of is_summary old h root shape at was.0 in' was.1 (link ∙ none) in omega (arith, all, before.from, before.last, reached is_summary old h root shape other.leaf there.on.stored)) in
                    (next.0, next.1, next_of is_summary old h root shape at next.0 was.0 in' was.1 (link ∙ next.1), omega (arith, long_here, before.from)))
                | inr behind ↦ absurd (let pair = there.pair (omega (arith, behind.from, behind.last, there.on.within, reached is_summary old h root shape at in')) in omega (arith, pair, behind.from, below))
              ])
        ]

    -- the slots of the leaf from one on and below another are changed
    module _ {F : Type 0} (calls : Mut F (Bor K × (MutBor V × Unit {0})) (Unit {0} × (MutBor V × Unit {0}))) (t u : F) (from to : ℕ) (rises : from ≤ to) (within : to ≤ length node.pairs) (changed : List (K × V))
        (changes : ChangesInTurn calls t (drop from (take to node.pairs)) u changed) (new : Slots (Inner K A) (Leaf K V)) (updates : UpdatesLeaf mid new at.0 (Present (record node { pairs = take from node.pairs ++ changed ++ drop to node.pairs }))) where
      middle : drop from (take to node.pairs) ++ drop to node.pairs ≡ drop from node.pairs
      middle =
          let few : to ≡ from + (to - from) = omega (arith, rises) in
          rw few (rw (drop-take from (to - from) node.pairs, ← drop-drop (to - from) from node.pairs) (take-append-drop (to - from) (drop from node.pairs)))

      whole : node.pairs ≡ take from node.pairs ++ (drop from (take to node.pairs) ++ drop to node.pairs)
      whole = sym (ap (λ l. take from node.pairs ++ l) middle ∙ take-append-drop from node.pairs)

      same_keys : keys_of (take from node.pairs ++ changed ++ drop to node.pairs) ≡ keys_of node.pairs
      same_keys =
          rw (append_assoc (take from node.pairs) changed (drop to node.pairs), keys-append (take from node.pairs) (changed ++ drop to node.pairs), keys-append changed (drop to node.pairs), changed_keys calls t (drop from (take to node.pairs)) u changed changes)
          (sym (ap keys_of whole ∙ (keys-append (take from node.pairs) (drop from (take to node.pairs) ++ drop to node.pairs) ∙ ap (λ l. keys_of (take from node.pairs) ++ l) (keys-append (drop from (take to node.pairs)) (drop to node.pairs)))))

      shape_now : IsWellShaped cmp is_summary mid h root
      shape_now = shape_alike cmp is_summary old mid alike h root shape

      pub alike_after : AllAlike old new
      alike_after = alike_over old mid new alike (set_alike cmp is_summary mid new h root shape_now at node here stored_now (take from node.pairs ++ changed ++ drop to node.pairs) same_keys updates)

      pub leaf_changed : (f : F) (i j p q : ℕ) → i ≤ j → j ≤ length (pairs_at old h root) → p ≡ start old h root at + from → q ≡ start old h root at + to → q ≤ j → ChangedUpTo calls f (pairs_at old h root) i j t p (pairs_at mid h root)
          → ChangedUpTo calls f (pairs_at old h root) i j u q (pairs_at new h root)
      unfolding stored_now
      leaf_changed f i j p q below fits e e' short up =
          let head = pairs_of mid in'.before in
          let rest = pairs_of mid in'.after in
          let mine = drop from (take to node.pairs) in
          let first = head ++ take from node.pairs in
          let was : pairs_at mid h root ≡ first ++ (mine ++ (drop to node.pairs ++ rest)) =
          parts_of_read mid h root at stored_now node here
          ∙ (ap (λ l. head ++ (l ++ rest)) whole
          ∙ rw (append_assoc (take from node.pairs) (mine ++ drop to node.pairs) rest, append_assoc mine (drop to node.pairs) rest) (sym (append_assoc head (take from node.pairs) (mine ++ (drop to node.pairs ++ rest))))) in
          let is : pairs_at new h root ≡ first ++ (changed ++ (drop to node.pairs ++ rest)) =
          set_parts cmp is_summary mid new h root shape_now at node here stored_now (take from node.pairs ++ changed ++ drop to node.pairs) same_keys updates
          ∙ rw (append_assoc (take from node.pairs) changed (drop to node.pairs), append_assoc (take from node.pairs) (changed ++ drop to node.pairs) rest, append_assoc changed (drop to node.pairs) rest) (sym (append_assoc head (take from node.pairs) (changed ++ (drop to node.pairs ++ rest)))) in
          let long : length first ≡ p = omega (arith, e, length-append head (take from node.pairs), length_alike in'.before, start_is is_summary old h root shape at in', length-take-le from node.pairs (omega arith)) in
          let mine_long : length mine ≡ to - from = omega (arith, length-drop from (take to node.pairs), length-take-le to node.pairs within) in
          more_changed calls f (pairs_at old h root) i j below fits t p (pairs_at mid h root) up u first mine changed (drop to node.pairs ++ rest) (pairs_at new h root) was is long q (omega (arith, e, e', mine_long, rises)) short changes

-- two leaf ids that are equal
pub same_leaf : (a b : LeafNodeId) → a.0 ≡ b.0 → a ≡ b
same_leaf a b e = λ i. record { 0 = e i }

module _ {F K V A : Type 0} (calls : Mut F (Bor K × (MutBor V × Unit {0})) (Unit {0} × (MutBor V × Unit {0}))) (old : Slots (Inner K A) (Leaf K V)) (h : ℕ) (root : NodeId) (f : F) (front back : Position) where
  -- the values between the first position and this one are changed
  pub record Walked (t : F) (at : LeafNodeId) (from : ℕ) (mid : Slots (Inner K A) (Leaf K V)) : Type 0 where
    pub alike : AllAlike old mid
    pub on : IsIndexOn old h root at from
    pub below : start old h root at + from ≤ index_on old h root back
    pub changed : ChangedUpTo calls f (pairs_at old h root) (index_on old h root front) (index_on old h root back) t (start old h root at + from) (pairs_at mid h root)

  pub walked_none : IsSettled old h root (index_on old h root front) front → index_on old h root front ≤ index_on old h root back → Walked f front.leaf front.slot old
  walked_none there rises = record { alike = alike_itself old; on = there.on; below = rises; changed = none_changed calls f (pairs_at old h root) (index_on old h root front) (index_on old h root back) }

module _ {F K V A : Type 0} {cmp : K → K → Ordering} (is_summary : A → List K → Type 0) (calls : Mut F (Bor K × (MutBor V × Unit {0})) (Unit {0} × (MutBor V × Unit {0}))) (old : Slots (Inner K A) (Leaf K V)) (h : ℕ) (root : NodeId)
    (f : F) (front back : Position) where
  module _ (shape : IsWellShaped cmp is_summary old h root) (there : IsSettled old h root (index_on old h root back) back) (rises : index_on old h root front ≤ index_on old h root back)
      (t : F) (at : LeafNodeId) (from : ℕ) (mid : Slots (Inner K A) (Leaf K V)) (walked : Walked calls old h root f front back t at from mid) where
    pub present_now : IsPresent (mid.leaf at.0)
    present_now = present_alike (old.leaf at.0) (mid.leaf at.0) (walked.alike.leaf at.0).stored walked.on.stored.present

    fits : index_on old h root back ≤ length (pairs_at old h root)
    fits = omega (arith, there.on.within, reached is_summary old h root shape back.leaf there.on.stored)

    module _ (node : Leaf K V) (here : mid.leaf at.0 ≡ Present node) where
      pub within_leaf : from ≤ length node.pairs
      within_leaf = omega (arith, walked.on.within, long_here is_summary old h root shape mid walked.alike at node here walked.on.stored)

      -- the walk goes on at the next leaf
      module _ (apart : at ≡ back.leaf → ⊥) where
        pub next_there : (next : LeafNodeId) × (node.next ≡ Some next) × NextLeaf is_summary old h root shape at next × (start old h root at + length node.pairs ≤ index_on old h root back)
        next_there = step is_summary old h root shape mid walked.alike at node here walked.on.stored from back within_leaf walked.below there apart

        pub walked_leaf : (next : LeafNodeId) → node.next ≡ Some next → (u : F) (changed : List (K × V)) → ChangesInTurn calls t (drop from (take (length node.pairs) node.pairs)) u changed → (new : Slots (Inner K A) (Leaf K V))
            → UpdatesLeaf mid new at.0 (Present (record node { pairs = take from node.pairs ++ changed ++ drop (length node.pairs) node.pairs })) → Walked calls old h root f front back u next 0 new × NextLeaf is_summary old h root shape at next
        walked_leaf next e u changed changes new updates =
            let then' = next_there in
            let same : then'.0 ≡ next = let some : Some then'.0 ≡ Some next = sym then'.1 ∙ e in cc in
            let follows : NextLeaf is_summary old h root shape at next = subst (NextLeaf is_summary old h root shape at) same then'.2 in
            let long = long_here is_summary old h root shape mid walked.alike at node here walked.on.stored in
            let after = leaf_changed is_summary old h root shape mid walked.alike at node here walked.on.stored calls t u from (length node.pairs) within_leaf (omega arith) changed changes new updates f (index_on old h root front) (index_on old h root back)
            (start old h root at + from) (start old h root next + 0) rises fits refl (omega (arith, follows.from, long)) (omega (arith, follows.from, long, then'.3)) walked.changed in (
              record {
                alike = alike_after is_summary old h root shape mid walked.alike at node here walked.on.stored calls t u from (length node.pairs) within_leaf (omega arith) changed changes new updates;
                on = record { stored = follows.stands'; within = omega arith };
                below = omega (arith, follows.from, long, then'.3);
                changed = after;
              },
              follows,
            )

      -- the walk ends in the leaf of the second position
      module _ (same : at ≡ back.leaf) where
        pub rises_here : from ≤ back.slot
        rises_here = let e = ap (start old h root) same in omega (arith, e, walked.below)

        pub within_last : back.slot ≤ length node.pairs
        within_last = let e = ap (size is_summary old h root shape) same in omega (arith, e, there.on.within, long_here is_summary old h root shape mid walked.alike at node here walked.on.stored)

        pub walked_last : (u : F) (changed : List (K × V)) → ChangesInTurn calls t (drop from (take back.slot node.pairs)) u changed → (new : Slots (Inner K A) (Leaf K V)) → UpdatesLeaf mid new at.0 (Present (record node { pairs = take from node.pairs ++ changed ++ drop back.slot node.pairs }))
            → IsWellShaped cmp is_summary new h root
            × ((after : F) × (changed : List (K × V)) × ChangesInTurn calls f (drop (index_on old h root front) (take (index_on old h root back) (pairs_at old h root))) after changed × (pairs_at new h root ≡ take (index_on old h root front) (pairs_at old h root) ++ changed ++ drop (index_on old h root back) (pairs_at old h root)))
        walked_last u changed changes new updates =
            let e = ap (start old h root) same in
            let alike = alike_after is_summary old h root shape mid walked.alike at node here walked.on.stored calls t u from back.slot rises_here within_last changed changes new updates in
            let after = leaf_changed is_summary old h root shape mid walked.alike at node here walked.on.stored calls t u from back.slot rises_here within_last changed changes new updates f (index_on old h root front) (index_on old h root back)
            (start old h root at + from) (index_on old h root back) rises fits refl (omega (arith, e)) (omega arith) walked.changed in
            let all = all_changed calls f (pairs_at old h root) (index_on old h root front) (index_on old h root back) u (pairs_at new h root) after in
            (shape_alike cmp is_summary old new alike h root shape, (u, all.0, all.1, all.2))

-- the pairs between two positions are those between two keys
pub updated_between : {F K V : Type 0} (calls : Mut F (Bor K × (MutBor V × Unit {0})) (Unit {0} × (MutBor V × Unit {0}))) (f : F) (cmp : K → K → Ordering) (lo hi : Option K) (old new : List (K × V)) (i j : ℕ) → i ≤ j → between cmp old lo hi ≡ part old i (j - i)
    → (after : F) × (changed : List (K × V)) × ChangesInTurn calls f (drop i (take j old)) after changed × (new ≡ take i old ++ changed ++ drop j old) → IsUpdatedBetween calls f cmp lo hi old new
updated_between calls f cmp lo hi old new i j rises is (after, changed, changes, now) =
    let few : j ≡ i + (j - i) = omega (arith, rises) in
    let cut : drop i (take j old) ≡ between cmp old lo hi = ap (λ n. drop i (take n old)) few ∙ (drop-take i (j - i) old ∙ sym is) in
    let behind : drop j old ≡ drop (j - i) (drop i old) = ap (λ n. drop n old) few ∙ sym (drop-drop (j - i) i old) in
    record {
      before = take i old;
      changed = changed;
      behind = drop j old;
      after = after;
      was = sym (rw (is, behind) (ap (λ l. take i old ++ l) (take-append-drop (j - i) (drop i old)) ∙ take-append-drop i old));
      is = now ∙ append_assoc (take i old) changed (drop j old);
      changes = rw cut at changes;
    }

-- the keys are unchanged
pub updated_keys : {F K V : Type 0} (calls : Mut F (Bor K × (MutBor V × Unit {0})) (Unit {0} × (MutBor V × Unit {0}))) (f : F) (cmp : K → K → Ordering) (lo hi : Option K) (old new : List (K × V)) → IsUpdatedBetween calls f cmp lo hi old new → keys_of new ≡ keys_of old
updated_keys calls f cmp lo hi old new updated =
    let joined : keys_of (updated.changed ++ updated.behind) ≡ keys_of (between cmp old lo hi ++ updated.behind) =
    keys-append updated.changed updated.behind ∙ (ap (λ l. l ++ keys_of updated.behind) (changed_keys calls f (between cmp old lo hi) updated.after updated.changed updated.changes) ∙ sym (keys-append (between cmp old lo hi) updated.behind)) in
    ap keys_of updated.is ∙ (keys-append updated.before (updated.changed ++ updated.behind)
    ∙ (ap (λ l. keys_of updated.before ++ l) joined
    ∙ (sym (keys-append updated.before (between cmp old lo hi ++ updated.behind)) ∙ sym (ap keys_of updated.was))))

none_of : {X : Type 0} (xs : List X) → length xs ≡ 0 → xs ≡ []
none_of [] none = refl
none_of (x ∷ xs) none = absurd (omega (arith, none))

-- without ends, the pairs between them are all pairs
pub updated_whole : {F K V : Type 0} (calls : Mut F (Bor K × (MutBor V × Unit {0})) (Unit {0} × (MutBor V × Unit {0}))) (f : F) (cmp : K → K → Ordering) (old new : List (K × V)) → IsUpdatedBetween calls f cmp None None old new → (after : F) × ChangesInTurn calls f old after new
updated_whole calls f cmp old new updated =
    let all = no_ends cmp old in
    let was : old ≡ updated.before ++ (old ++ updated.behind) = updated.was ∙ ap (λ l. updated.before ++ (l ++ updated.behind)) all in
    let ahead : length updated.before ≡ 0 = omega (arith, ap length was, length-append updated.before (old ++ updated.behind), length-append old updated.behind) in
    let behind : length updated.behind ≡ 0 = omega (arith, ap length was, length-append updated.before (old ++ updated.behind), length-append old updated.behind) in
    let is : new ≡ updated.changed = updated.is ∙ rw (none_of updated.before ahead, none_of updated.behind behind) (append-nil updated.changed) in
    (updated.after, rw (is, ← all) updated.changes)

-- a count and a summary of the keys that were right stay right
pub updated_right : {F K V A : Type 0} {calls : Mut F (Bor K × (MutBor V × Unit {0})) (Unit {0} × (MutBor V × Unit {0}))} {f : F} {cmp : K → K → Ordering} {lo hi : Option K} {old new : List (K × V)} (is_summary : A → List K → Type 0) (len : ℕ) (a : A) → IsUpdatedBetween calls f cmp lo hi old new → len ≡ length old → is_summary a (keys_of old)
    → (len ≡ length new) × is_summary a (keys_of new)
updated_right {calls = calls} {f = f} {cmp = cmp} {lo = lo} {hi = hi} {old = old} {new = new} is_summary len a updated counted reported =
    let keys = updated_keys calls f cmp lo hi old new updated in
    let long : length new ≡ length old = sym (length-keys_of new) ∙ (ap length keys ∙ length-keys_of old) in
    (counted ∙ sym long, rw keys reported)
