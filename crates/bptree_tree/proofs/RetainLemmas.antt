-- A closure is called for the pairs of a tree one by one, and those that do not stay are removed.
use Rattle.std.proofs.Common.{◌≡◌, ◌∙◌, ◌+◌, ◌-◌, ◌<◌, ◌∷◌, ◌++◌, ℕ, zero, suc, ap, arith, cond, drop, length, refl, slice_get, subst, sym, take, append-nil, append_assoc, Bool, true, false, List, [], Option, Some, None, IsSome}
use Rattle.std.specs.Borrow.{Bor, MutBor}
use Rattle.std.specs.Cmp.{IsTotalOrder}
use Rattle.std.specs.Fn.{Mut}
use Rattle.std.specs.Ordering.{is_gt}
use Rattle.std.specs.declared.cmp.Ordering.{Ordering}
use Rattle.std.specs.declared.cmp.Ordering.TheVariants.{Less, Equal, Greater}
use Rattle.std.proofs.lemmas.List.{append_cancel_left}
use Rattle.std.proofs.lemmas.List.Elements.{filter-append}
use Rattle.std.proofs.lemmas.Option.{get_or_from_slice_get, slice_get_within}
use Rattle.bptree_keys.specs.Contents.{IsAscending, del, has, pairs_above}
use Rattle.bptree_keys.specs.Indexes.{AllCompare, IsHit}
use Rattle.bptree_keys.specs.declared.node_id.LeafNodeId.{LeafNodeId}
use Rattle.bptree_keys.specs.declared.node_id.NodeId.{NodeId}
use Rattle.bptree_keys.proofs.Ascending.{equal_parts}
use Rattle.bptree_keys.proofs.Found.{parts_at}
use Rattle.bptree_keys.proofs.Parted.{del_hit, filter_all, filter_none, has_hit, pairs_below_hit}
use Rattle.bptree_nodes.specs.Inner.{Inner}
use Rattle.bptree_nodes.specs.Leaf.{Leaf, set_value_at}
use Rattle.bptree_nodes.specs.LeafResults.{HasEqualAt}
use Rattle.bptree_nodes.specs.Retaining.{CallsAtPair, CallsAtSlot, IsRetained, RetainsFirst}
use Rattle.bptree_nodes.specs.Slot.{Slots, Present, UpdatesLeaf}
use Rattle.bptree_nodes.proofs.Inverses.{slice_get-append_left, slice_get-append_right}
use Rattle.bptree_invariant.specs.Leaves.{pairs_of, IsLeafOf}
use Rattle.bptree_invariant.specs.Shape.{pairs_at, IsWellShaped}
use Rattle.bptree_invariant.proofs.Spot.{parts_of_read}
use Rattle.bptree_tree.specs.Cursor.{cursor_key, IsAtNext, IsCursorAt}
use Rattle.bptree_tree.specs.Keeping.{CallsFor, IsCallFor, KeepsOrRemoves}
use Rattle.bptree_tree.specs.declared.cursor.Cursor.{Cursor}
use Rattle.bptree_tree.proofs.BorrowedAt.{set_pairs}

module _ {K V : Type 0} where
  -- a list with another value at an index
  written_at : (l : List (K × V)) (i : ℕ) (pair : K × V) (v : V) → slice_get l i ≡ Some pair → set_value_at l i v ≡ take i l ++ (pair.0, v) ∷ drop (suc i) l
  written_at [] i pair v read = absurd (let z : None ≡ Some pair = read in cc)
  written_at (p ∷ l) zero pair v read = let same : p ≡ pair = cc in rw same refl
  written_at (p ∷ l) (suc i) pair v read = ap (λ rest. p ∷ rest) (written_at l i pair v read)

module _ {F K V A : Type 0} (calls : Mut F (Bor K × (MutBor V × Unit {0})) (Bool × (MutBor V × Unit {0}))) {cmp : K → K → Ordering} (total : IsTotalOrder cmp) (is_summary : A → List K → Type 0) (slots new : Slots (Inner K A) (Leaf K V)) (h : ℕ) (root : NodeId)
    (shape : IsWellShaped cmp is_summary slots h root) (ascending : IsAscending cmp (pairs_at slots h root)) (k : K) (leaf : LeafNodeId) (node : Leaf K V) (read : slots.leaf leaf.0 ≡ Present node) (in' : IsLeafOf slots h root leaf) (slot : ℕ) (found : HasEqualAt cmp node.pairs k slot) where
  -- a closure that was called for the pair at a slot of a leaf was called for that pair of the tree
  pub calls_for : (f : F) (left : Leaf K V) (result : Bool × F) → CallsAtSlot calls f slot node left result → UpdatesLeaf slots new leaf.0 (Present left) → CallsFor calls cmp k f (pairs_at slots h root) (pairs_at new h root) result
  calls_for f left result called updates =
      let pair = called.0 in
      let w = called.1 in
      let at = called.2 in
      let l = pairs_at slots h root in
      let before = pairs_of slots in'.before in
      let i = length before + slot in
      let within = slice_get_within node.pairs slot pair at in
      let there : slice_get l i ≡ Some pair =
      ap (λ m. slice_get m i) (parts_of_read slots h root leaf in' node read)
      ∙ (slice_get-append_right before (node.pairs ++ pairs_of slots in'.after) i slot refl ∙ (slice_get-append_left node.pairs (pairs_of slots in'.after) slot within ∙ at)) in
      let equal : cmp pair.0 k ≡ Equal = rw at at found in
      let parts : l ≡ take i l ++ pair ∷ drop (suc i) l = parts_at l i pair (slice_get_within l i pair there) ∙ ap (λ p. take i l ++ p ∷ drop (suc i) l) (get_or_from_slice_get l i pair pair there) in
      let hit : IsHit cmp l (take i l) pair (drop (suc i) l) k = subst (λ m. IsHit cmp m (take i l) pair (drop (suc i) l) k) (sym parts) (equal_parts cmp total (take i l) pair (drop (suc i) l) k (subst (IsAscending cmp) parts ascending) equal) in
      let written = set_pairs cmp is_summary slots new h root shape leaf node read in' slot within w (rw (← called.4) updates) in
      (record { before = take i l; pair = pair; behind = drop (suc i) l; hit = hit; left = (pair.0, w); call = called.3 }, written ∙ written_at l i pair w there)

module _ {F K V : Type 0} (calls : Mut F (Bor K × (MutBor V × Unit {0})) (Bool × (MutBor V × Unit {0}))) {cmp : K → K → Ordering} (k : K) (f : F) where
  -- the pair is there as the call left it
  hit_left : (old : List (K × V)) (stays : Bool) (after : F) (call : IsCallFor calls cmp k f old stays after) → IsHit cmp (call.before ++ call.left ∷ call.behind) call.before call.left call.behind k
  hit_left old stays after call = record {
    parts = refl;
    smaller = call.hit.smaller;
    equal = ap (λ key. cmp key k) call.call.0 ∙ call.hit.equal;
    greater = call.hit.greater;
  }

  pub left_there : (old now : List (K × V)) (result : Bool × F) → CallsFor calls cmp k f old now result → has cmp now k ≡ true
  left_there old now result called = ap (λ l. has cmp l k) called.1 ∙ has_hit cmp (called.0.before ++ called.0.left ∷ called.0.behind) called.0.before called.0.left called.0.behind k (hit_left old result.0 result.1 called.0)

  pub stays : (old now : List (K × V)) (result : Bool × F) → CallsFor calls cmp k f old now result → result.0 ≡ true → KeepsOrRemoves calls cmp k f old now result.1
  stays old now (true, after) called does = (true, called.0, called.1)
  stays old now (false, after) called does = absurd (let z : false ≡ true = does in cc)

  pub removed : (old now new : List (K × V)) (result : Bool × F) → CallsFor calls cmp k f old now result → result.0 ≡ false → new ≡ del cmp now k → KeepsOrRemoves calls cmp k f old new result.1
  removed old now new (true, after) called does gone = absurd (let z : true ≡ false = does in cc)
  removed old now new (false, after) called does gone =
      (false, called.0, gone ∙ (ap (λ l. del cmp l k) called.1 ∙ del_hit cmp (called.0.before ++ called.0.left ∷ called.0.behind) called.0.before called.0.left called.0.behind k (hit_left old false after called.0)))

-- the pairs of a list that come after a key, if those before it are not greater
after_key : {K V : Type 0} (cmp : K → K → Ordering) (k : K) (o : Ordering) (before behind : List (K × V)) (pair : K × V) → AllCompare cmp k Less before → is_gt o ≡ false → cmp pair.0 k ≡ o → AllCompare cmp k Greater behind → (stays : Bool) → pairs_above cmp (before ++ cond stays (pair ∷ behind) behind) k ≡ behind
after_key cmp k o before behind pair smaller test at greater true =
    rw (filter-append (λ p. is_gt (cmp p.0 k)) before (pair ∷ behind), filter_none cmp k is_gt Less before refl smaller, at, test) (filter_all cmp k is_gt Greater behind refl greater)
after_key cmp k o before behind pair smaller test at greater false =
    rw (filter-append (λ p. is_gt (cmp p.0 k)) before behind, filter_none cmp k is_gt Less before refl smaller) (filter_all cmp k is_gt Greater behind refl greater)

module _ {F K V : Type 0} (calls : Mut F (Bor K × (MutBor V × Unit {0})) (Bool × (MutBor V × Unit {0}))) (cmp : K → K → Ordering) (start : F) (old : List (K × V)) where
  -- the closure was called for the first pairs of the old list; the new list has those of them that
  -- stay, and the rest of the old list, whose first key is that of the cursor
  pub record AreAsked (f : F) (now : List (K × V)) (left : ℕ) (cursor : Option (Cursor K)) : Type 0 where
    pub done : List (K × V)
    pub kept : List (K × V)
    pub rest : List (K × V)
    pub first : RetainsFirst calls start done f kept
    pub old_is : old ≡ done ++ rest
    pub now_is : now ≡ kept ++ rest
    pub count : left ≡ length rest
    pub at : IsCursorAt cmp (slice_get rest 0) cursor

  pub none_asked : (left : ℕ) (cursor : Option (Cursor K)) → left ≡ length old → IsCursorAt cmp (slice_get old 0) cursor → AreAsked start old left cursor
  none_asked left cursor count at = record { done = []; kept = []; rest = old; first = λ more stay stays. stays; old_is = refl; now_is = refl; count = count; at = at }

module _ {F K V : Type 0} (calls : Mut F (Bor K × (MutBor V × Unit {0})) (Bool × (MutBor V × Unit {0}))) {cmp : K → K → Ordering} (total : IsTotalOrder cmp) (start : F) (old : List (K × V)) where
  -- there is a next pair, and its key is that of the cursor
  record IsNext (kept rest now : List (K × V)) (k : K) : Type 0 where
    pub pair : K × V
    pub behind : List (K × V)
    pub rest_is : rest ≡ pair ∷ behind
    pub hit : IsHit cmp now kept pair behind k

  turned : (k : K) (pair : K × V) → cmp k pair.0 ≡ Equal → cmp pair.0 k ≡ Equal
  turned k pair equal = total.antisymm pair.0 k ∙ rw equal refl

  next_of : (kept rest now : List (K × V)) (here : Cursor K) → 0 < length rest → now ≡ kept ++ rest → IsAscending cmp now → IsCursorAt cmp (slice_get rest 0) (Some here) → IsNext kept rest now (cursor_key here)
  next_of kept [] now here some is ascending at = absurd (omega (arith, some))
  next_of kept (pair ∷ behind) now here some is ascending at = record {
    pair = pair;
    behind = behind;
    rest_is = refl;
    hit = subst (λ m. IsHit cmp m kept pair behind (cursor_key here)) (sym is) (equal_parts cmp total kept pair behind (cursor_key here) (subst (IsAscending cmp) is ascending) (turned (cursor_key here) pair at));
  }

  cursor_there : (rest : List (K × V)) (cursor : Option (Cursor K)) → 0 < length rest → IsCursorAt cmp (slice_get rest 0) cursor → IsSome cursor
  cursor_there [] cursor some at = absurd (omega (arith, some))
  cursor_there (pair ∷ rest) None some at = absurd at
  cursor_there (pair ∷ rest) (Some here) some at = refl

  pub some_cursor : (f : F) (now : List (K × V)) (left : ℕ) (cursor : Option (Cursor K)) → AreAsked calls cmp start old f now left cursor → 0 < left → IsSome cursor
  some_cursor f now left cursor asked some = cursor_there asked.rest cursor (omega (arith, some, asked.count)) asked.at

  module _ (f : F) (now : List (K × V)) (left : ℕ) (here : Cursor K) (asked : AreAsked calls cmp start old f now left (Some here)) (some : 0 < left) (ascending : IsAscending cmp now) where
    is_next : IsNext asked.kept asked.rest now (cursor_key here)
    is_next = next_of asked.kept asked.rest now here (omega (arith, some, asked.count)) asked.now_is ascending asked.at

    pub next_there : has cmp now (cursor_key here) ≡ true
    next_there = has_hit cmp now asked.kept is_next.pair is_next.behind (cursor_key here) is_next.hit

    one_more : (after : F) (pair last : K × V) (b : Bool) → CallsAtPair calls f pair b after last → RetainsFirst calls start (asked.done ++ pair ∷ []) after (asked.kept ++ cond b (last ∷ []) [])
    one_more after pair last true call = λ more stay stays.
        subst (λ m. IsRetained calls start m ((asked.kept ++ last ∷ []) ++ stay)) (sym (append_assoc asked.done (pair ∷ []) more))
        (subst (λ m. IsRetained calls start (asked.done ++ pair ∷ more) m) (sym (append_assoc asked.kept (last ∷ []) stay)) (asked.first (pair ∷ more) (last ∷ stay) (true, after, last, call, stay, stays, refl)))
    one_more after pair last false call = λ more stay stays.
        subst (λ m. IsRetained calls start m ((asked.kept ++ []) ++ stay)) (sym (append_assoc asked.done (pair ∷ []) more))
        (subst (λ m. IsRetained calls start (asked.done ++ pair ∷ more) (m ++ stay)) (sym (append-nil asked.kept)) (asked.first (pair ∷ more) stay (false, after, last, call, stay, stays, refl)))

    pieces : (b : Bool) (last : K × V) (behind : List (K × V)) → asked.kept ++ cond b (last ∷ behind) behind ≡ (asked.kept ++ cond b (last ∷ []) []) ++ behind
    pieces true last behind = sym (append_assoc asked.kept (last ∷ []) behind)
    pieces false last behind = ap (λ m. m ++ behind) (sym (append-nil asked.kept))

    pub asked_on : (after : F) (new : List (K × V)) (cursor : Option (Cursor K)) → KeepsOrRemoves calls cmp (cursor_key here) f now new after → IsAtNext cmp new here cursor → AreAsked calls cmp start old after new (left - 1) cursor
    asked_on after new cursor step at =
        let call = step.1 in
        let same : call.before ≡ asked.kept = sym (pairs_below_hit cmp now call.before call.pair call.behind (cursor_key here) call.hit) ∙ pairs_below_hit cmp now asked.kept is_next.pair is_next.behind (cursor_key here) is_next.hit in
        let ends : call.pair ∷ call.behind ≡ is_next.pair ∷ is_next.behind = append_cancel_left asked.kept (call.pair ∷ call.behind) (is_next.pair ∷ is_next.behind) (ap (λ m. m ++ call.pair ∷ call.behind) (sym same) ∙ (sym call.hit.parts ∙ is_next.hit.parts)) in
        let rest_is : asked.rest ≡ call.pair ∷ call.behind = is_next.rest_is ∙ sym ends in
        let new_is : new ≡ asked.kept ++ cond step.0 (call.left ∷ call.behind) call.behind = step.2 ∙ ap (λ m. m ++ cond step.0 (call.left ∷ call.behind) call.behind) same in
        let above : pairs_above cmp new (cursor_key here) ≡ call.behind =
        ap (λ m. pairs_above cmp m (cursor_key here)) step.2 ∙ after_key cmp (cursor_key here) Equal call.before call.behind call.left call.hit.smaller refl (ap (λ key. cmp key (cursor_key here)) call.call.0 ∙ call.hit.equal) call.hit.greater step.0 in
        record {
          done = asked.done ++ call.pair ∷ [];
          kept = asked.kept ++ cond step.0 (call.left ∷ []) [];
          rest = call.behind;
          first = one_more after call.pair call.left step.0 call.call;
          old_is = asked.old_is ∙ (ap (λ m. asked.done ++ m) rest_is ∙ sym (append_assoc asked.done (call.pair ∷ []) call.behind));
          now_is = new_is ∙ pieces step.0 call.left call.behind;
          count = let long : length asked.rest ≡ suc (length call.behind) = ap length rest_is in omega (arith, long, asked.count);
          at = rw above at at;
        }
