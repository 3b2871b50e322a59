-- One level of an edit: from a child of an inner node to the node.
use Rattle.std.proofs.Common.{◌≡◌, ℕ, zero, suc, ◌+◌, ◌<◌, ◌≤◌, ◌^◌, cond, List, [], ◌∷◌, ◌++◌, length, map, get_or, take, drop, refl, sym, ap, subst, ◌∙◌, arith, Option, Some, eqb, append_assoc, slice_get, slice_set}
use Rattle.std.specs.declared.cmp.Ordering.{Ordering}
use Rattle.std.specs.Cmp.{IsTotalOrder}
use Rattle.std.specs.List.{AllByRecursion, AllZip, insert}
use Rattle.std.specs.List.Sorted.{IsStrictlySortedBy}
use Rattle.std.specs.Map.{keys_of}
use Rattle.std.proofs.lemmas.Bool.{eq-eqb}
use Rattle.std.proofs.lemmas.List.{length-map, map-append}
use Rattle.std.proofs.lemmas.Option.{get_or_from_slice_get}
use Rattle.bptree_arguments.specs.Replaced.{SumsUpReplaced}
use Rattle.bptree_keys.specs.Contents.{IsAscending}
use Rattle.bptree_nodes.specs.Inner.{Inner}
use Rattle.bptree_nodes.specs.Leaf.{Leaf}
use Rattle.bptree_nodes.specs.Slot.{Slot, Slots, Present}
use Rattle.bptree_keys.specs.declared.node_id.InnerNodeId.{InnerNodeId}
use Rattle.bptree_keys.specs.declared.node_id.LeafNodeId.{LeafNodeId}
use Rattle.bptree_keys.specs.declared.node_id.NodeId.{NodeId}
use Rattle.bptree_keys.specs.declared.node_id.NodeId.TheVariants as kind
use Rattle.bptree_invariant.specs.Edit.{IsLocal, CanReach, Turn, gone_of, fresh_of, Extends, Edits}
use Rattle.bptree_invariant.specs.Order.{flat, total, Within, Between, Chain, LeadsDown}
use Rattle.bptree_invariant.specs.Shape.{inner_keys, inner_children, pairs_at, leaves_at, leaf_count, inner_count, stored, IsTree, IsSummed}
use Rattle.bptree_invariant.specs.Outcome.{Outcome, Done, Split}
use Rattle.bptree_invariant.proofs.Agreeing.{stored_le, flat_same, total_same, map_same, each_keeps, Chain-so}
use Rattle.bptree_invariant.proofs.Frame.{EachBut, in_total, but_so, Same, others_same}
use Rattle.bptree_invariant.proofs.Ordered.{AtMost-up}
use Rattle.bptree_invariant.proofs.Walk.{flat_parts, chain_smaller, chain_greater, chain_index, chain_length, tree_inside}

-- a tree whose top node has at least so many keys or pairs has at least any smaller number
pub tree_less : {K V A : Type 0} (cmp : K → K → Ordering) (slots : Slots (Inner K A) (Leaf K V)) (least less h : ℕ) (id : NodeId) (lo hi : Option K) → less ≤ least → IsTree cmp slots least h id lo hi → IsTree cmp slots less h id lo hi
tree_less cmp slots least less zero (kind.Leaf id) lo hi low t = (t.0, t.1, t.2, omega (arith, t.3), t.4)
tree_less cmp slots least less zero (kind.Inner id) lo hi low t = t
tree_less cmp slots least less (suc h) (kind.Inner id) lo hi low t = (t.0, t.1, omega (arith, t.2), t.3)
tree_less cmp slots least less (suc h) (kind.Leaf id) lo hi low t = t

module _ {X Y : Type 0} (f g : X → List Y) where
  -- the lists of all members after one member's list changed
  pub flat_around : (xs : List X) (i : ℕ) (d : X) → i < length xs → EachBut (λ x. g x ≡ f x) xs i
      → flat g xs ≡ flat f (take i xs) ++ (g (get_or xs i d) ++ flat f (drop (suc i) xs))
  flat_around [] i d below a = absurd (omega arith)
  flat_around (x ∷ xs) zero d below a = rw (flat_same f g xs a) refl
  flat_around (x ∷ xs) (suc i) d below a =
      rw (a.0, flat_around xs i d (omega arith) a.1) (sym (append_assoc (f x) (flat f (take i xs)) (g (get_or xs i d) ++ flat f (drop (suc i) xs))))

  pub flat_around_two : (xs : List X) (i : ℕ) (d y : X) → i < length xs → EachBut (λ x. g x ≡ f x) xs i
      → flat g (insert xs (suc i) y) ≡ flat f (take i xs) ++ ((g (get_or xs i d) ++ g y) ++ flat f (drop (suc i) xs))
  flat_around_two [] i d y below a = absurd (omega arith)
  flat_around_two (x ∷ xs) zero d y below a = rw (flat_same f g xs a) (sym (append_assoc (g x) (g y) (flat f xs)))
  flat_around_two (x ∷ xs) (suc i) d y below a =
      rw (a.0, flat_around_two xs i d y (omega arith) a.1) (sym (append_assoc (f x) (flat f (take i xs)) ((g (get_or xs i d) ++ g y) ++ flat f (drop (suc i) xs))))

module _ {X : Type 0} (f g : X → ℕ) where
  pub total_around : (xs : List X) (i : ℕ) (d : X) → i < length xs → EachBut (λ x. g x ≡ f x) xs i → total g xs + f (get_or xs i d) ≡ total f xs + g (get_or xs i d)
  total_around [] i d below a = absurd (omega arith)
  total_around (x ∷ xs) zero d below a = omega (arith, total_same f g xs a)
  total_around (x ∷ xs) (suc i) d below a = omega (arith, a.0, total_around xs i d (omega arith) a.1)

  pub total_around_two : (xs : List X) (i : ℕ) (d y : X) → i < length xs → EachBut (λ x. g x ≡ f x) xs i
      → total g (insert xs (suc i) y) + f (get_or xs i d) ≡ total f xs + (g (get_or xs i d) + g y)
  total_around_two [] i d y below a = absurd (omega arith)
  total_around_two (x ∷ xs) zero d y below a = omega (arith, total_same f g xs a)
  total_around_two (x ∷ xs) (suc i) d y below a = omega (arith, a.0, total_around_two xs i d y (omega arith) a.1)

module _ {X : Type 0} (P Q : X → Type 0) where
  pub each_around : (xs : List X) (i : ℕ) (d : X) → i < length xs → EachBut (λ x. P x → Q x) xs i → (P (get_or xs i d) → Q (get_or xs i d)) → AllByRecursion P xs → AllByRecursion Q xs
  each_around [] i d below so here all = absurd (omega arith)
  each_around (x ∷ xs) zero d below so here all = (here all.0, each_keeps P Q xs so all.1)
  each_around (x ∷ xs) (suc i) d below so here all = (so.0 all.0, each_around xs i d (omega arith) so.1 here all.1)

  pub each_around_two : (xs : List X) (i : ℕ) (d y : X) → i < length xs → EachBut (λ x. P x → Q x) xs i → (P (get_or xs i d) → Q (get_or xs i d) × Q y) → AllByRecursion P xs
      → AllByRecursion Q (insert xs (suc i) y)
  each_around_two [] i d y below so here all = absurd (omega arith)
  each_around_two (x ∷ xs) zero d y below so here all = let both = here all.0 in (both.0, (both.1, each_keeps P Q xs so all.1))
  each_around_two (x ∷ xs) (suc i) d y below so here all = (so.0 all.0, each_around_two xs i d y (omega arith) so.1 here all.1)

-- each value belongs to the list of one member
module _ {A C Y : Type 0} (R : A → Y → Type 0) (f g : C → Y) where
  -- the values after one member's list and its value changed
  pub zip_around : (xs : List A) (cs : List C) (i : ℕ) (d : C) (a : A) → i < length cs → AllZip R xs (map f cs) → EachBut (λ c. g c ≡ f c) cs i → R a (g (get_or cs i d)) → AllZip R (slice_set xs i a) (map g cs)
  zip_around xs [] i d a below zip same here = absurd (omega arith)
  zip_around [] (c ∷ cs) i d a below zip same here = absurd zip
  zip_around (x ∷ xs) (c ∷ cs) zero d a below zip same here = (here, rw (map_same f g cs same) zip.1)
  zip_around (x ∷ xs) (c ∷ cs) (suc i) d a below zip same here = (rw same.0 zip.0, zip_around xs cs i d a (omega arith) zip.1 same.1 here)

  -- the values after one member's list and its value changed, and a new member with a value was
  -- inserted behind it
  pub zip_around_two : (xs : List A) (cs : List C) (i : ℕ) (d y : C) (a b : A) → i < length cs → AllZip R xs (map f cs) → EachBut (λ c. g c ≡ f c) cs i → R a (g (get_or cs i d)) → R b (g y)
      → AllZip R (insert (slice_set xs i a) (suc i) b) (map g (insert cs (suc i) y))
  zip_around_two xs [] i d y a b below zip same here next = absurd (omega arith)
  zip_around_two [] (c ∷ cs) i d y a b below zip same here next = absurd zip
  zip_around_two (x ∷ xs) (c ∷ cs) zero d y a b below zip same here next = (here, (next, rw (map_same f g cs same) zip.1))
  zip_around_two (x ∷ xs) (c ∷ cs) (suc i) d y a b below zip same here next = (rw same.0 zip.0, zip_around_two xs cs i d y a b (omega arith) zip.1 same.1 here next)

-- a change of part of the leaves is the same change of all leaves, with those before and behind the
-- part unchanged
pub extends_around : (left right old new : List LeafNodeId) (leaf : LeafNodeId) (turn : Turn) (whole result : List LeafNodeId) → Extends old leaf turn new
    → whole ≡ left ++ (old ++ right) → result ≡ left ++ (new ++ right) → Extends whole leaf turn result
extends_around left right old new leaf turn whole result e was is = record {
  before = left ++ e.before;
  after = e.after ++ right;
  was = was ∙ spread (gone_of turn) old e.was;
  is = is ∙ spread (fresh_of turn) new e.is;
}
  where
    spread : (some ids : List LeafNodeId) → ids ≡ e.before ++ leaf ∷ (some ++ e.after) → left ++ (ids ++ right) ≡ (left ++ e.before) ++ leaf ∷ (some ++ (e.after ++ right))
    spread some ids same =
        ap (λ l. left ++ (l ++ right)) same
        ∙ (ap (λ rest. left ++ rest) (append_assoc e.before (leaf ∷ (some ++ e.after)) right ∙ ap (λ rest. e.before ++ leaf ∷ rest) (append_assoc some e.after right))
        ∙ sym (append_assoc left e.before (leaf ∷ (some ++ (e.after ++ right)))))

module _ {C K : Type 0} {cmp : K → K → Ordering} (total' : IsTotalOrder cmp) (P Q : C → Option K → Option K → Type 0) (k : K) where
  abbrev Keeps : C → Type 0
  Keeps c = (a b : Option K) → P c a b → Q c a b

  -- the children after the one that a key leads to changed, and the others did not
  pub chain_around : (ks : List K) (cs : List C) (lo hi : Option K) (i : ℕ) (d : C) → Chain cmp P ks cs lo hi → EachBut Keeps cs i → LeadsDown cmp k ks i → Within cmp lo hi k
      → ((a b : Option K) → P (get_or cs i d) a b → Within cmp a b k → Q (get_or cs i d) a b) → Chain cmp Q ks cs lo hi
  chain_around ks [] lo hi i d h all leads w new = absurd h
  chain_around [] (c ∷ []) lo hi i d h all leads w new = (subst (λ j. ((a b : Option K) → P (get_or (c ∷ []) j d) a b → Within cmp a b k → Q (get_or (c ∷ []) j d) a b) → Q c lo hi) (sym leads) (λ f. f lo hi h w)) new
  chain_around [] (c ∷ e ∷ cs) lo hi i d h all leads w new = absurd h
  chain_around (s ∷ ss) (c ∷ cs) lo hi zero d h all leads w new = (new lo (Some s) h.0 (w.0, leads), h.1, Chain-so cmp P Q ss cs (Some s) hi all h.2)
  chain_around (s ∷ ss) (c ∷ cs) lo hi (suc i) d h all leads w new =
      (all.0 lo (Some s) h.0, h.1, chain_around ss cs (Some s) hi i d h.2 all.1 leads.1 (leads.0, w.1) new)

  -- the children after the one that a key leads to was split
  pub chain_around_two : (ks : List K) (cs : List C) (lo hi : Option K) (i : ℕ) (d : C) (s : K) (n : C) → Chain cmp P ks cs lo hi → EachBut Keeps cs i → LeadsDown cmp k ks i → Within cmp lo hi k
      → ((a b : Option K) → P (get_or cs i d) a b → Within cmp a b k → Q (get_or cs i d) a (Some s) × Between cmp a b s × Q n (Some s) b)
      → Chain cmp Q (insert ks i s) (insert cs (suc i) n) lo hi
  chain_around_two ks [] lo hi i d s n h all leads w new = absurd h
  chain_around_two [] (c ∷ []) lo hi zero d s n h all leads w new = new lo hi h w
  chain_around_two [] (c ∷ []) lo hi (suc i) d s n h all leads w new = absurd (omega arith)
  chain_around_two [] (c ∷ e ∷ cs) lo hi i d s n h all leads w new = absurd h
  chain_around_two (t ∷ ts) (c ∷ cs) lo hi zero d s n h all leads w new =
      let x = new lo (Some t) h.0 (w.0, leads) in
      (x.0, (x.1.0, AtMost-up total' hi s t h.1.1 x.1.1), (x.2, (x.1.1, h.1.1), Chain-so cmp P Q ts cs (Some t) hi all h.2))
  chain_around_two (t ∷ ts) (c ∷ cs) lo hi (suc i) d s n h all leads w new =
      (all.0 lo (Some t) h.0, h.1, chain_around_two ts cs (Some t) hi i d s n h.2 all.1 leads.1 (leads.0, w.1) new)

-- the child that a key leads to is between bounds that the key is between too
pub chain_leads : {C K : Type 0} (cmp : K → K → Ordering) (P : C → Option K → Option K → Type 0) (k : K) (ks : List K) (cs : List C) (lo hi : Option K) (i : ℕ) (d : C)
    → Chain cmp P ks cs lo hi → LeadsDown cmp k ks i → Within cmp lo hi k → (a : Option K) × (b : Option K) × P (get_or cs i d) a b × Within cmp a b k
chain_leads cmp P k ks [] lo hi i d h leads w = absurd h
chain_leads cmp P k [] (c ∷ []) lo hi zero d h leads w = (lo, hi, h, w)
chain_leads cmp P k [] (c ∷ []) lo hi (suc i) d h leads w = absurd (omega arith)
chain_leads cmp P k [] (c ∷ e ∷ cs) lo hi i d h leads w = absurd h
chain_leads cmp P k (s ∷ ss) (c ∷ cs) lo hi zero d h leads w = (lo, Some s, h.0, (w.0, leads))
chain_leads cmp P k (s ∷ ss) (c ∷ cs) lo hi (suc i) d h leads w = chain_leads cmp P k ss cs (Some s) hi i d h.2 leads.1 (leads.0, w.1)

pub leads_within : {K : Type 0} (cmp : K → K → Ordering) (k : K) (ks : List K) (i : ℕ) → LeadsDown cmp k ks i → i ≤ length ks
leads_within cmp k [] i h = omega arith
leads_within cmp k (s ∷ ss) zero h = omega arith
leads_within cmp k (s ∷ ss) (suc i) h = omega (arith, leads_within cmp k ss i h.1)

-- a node that can be reached, and the child that the key leads to
module _ {K V A : Type 0} {cmp : K → K → Ordering} (slots : Slots (Inner K A) (Leaf K V)) (m : ℕ) (id : InnerNodeId) (k : K) (node : Inner K A) (i : ℕ) (child : NodeId)
    (can : CanReach cmp slots (suc m) (kind.Inner id) k) (is : slots.inner id.0 ≡ Present node) (leads : LeadsDown cmp k node.keys i) where
  pub node_chain : Chain cmp (IsTree cmp slots 16 m) node.keys node.children can.low can.high
  node_chain = subst (λ (x : Slot (Inner K A)). Chain cmp (IsTree cmp slots 16 m) (inner_keys x) (inner_children x) can.low can.high) is can.tree.1

  pub child_index : i < length node.children
  child_index = chain_index cmp (IsTree cmp slots 16 m) k node.keys node.children can.low can.high i node_chain leads

  pub own_leaves : (x : ℕ) → total (λ c. leaf_count slots m c x) node.children ≤ stored (slots.leaf x)
  own_leaves x = subst (λ (y : Slot (Inner K A)). total (λ c. leaf_count slots m c x) (inner_children y) ≤ stored (slots.leaf x)) is (can.owns.leaves x)

  pub own_inners : (x : ℕ) → cond (eqb id.0 x) 1 0 + total (λ c. inner_count slots m c x) node.children ≤ stored (slots.inner x)
  own_inners x = subst (λ (y : Slot (Inner K A)). cond (eqb id.0 x) 1 0 + total (λ c. inner_count slots m c x) (inner_children y) ≤ stored (slots.inner x)) is (can.owns.inners x)

  can_there : CanReach cmp slots m (get_or node.children i child) k
  can_there =
      let u = chain_leads cmp (IsTree cmp slots 16 m) k node.keys node.children can.low can.high i child node_chain leads can.fits in
      record {
        least = 16;
        low = u.0;
        high = u.1;
        tree = u.2;
        fits = u.3;
        owns = record {
          leaves = λ x. omega (arith, own_leaves x, in_total (λ c. leaf_count slots m c x) node.children i child child_index);
          inners = λ x. omega (arith, own_inners x, in_total (λ c. inner_count slots m c x) node.children i child child_index);
        };
      }

  -- the key can be reached from the child
  pub child_can : slice_get node.children i ≡ Some child → CanReach cmp slots m child k
  child_can read = subst (λ c. CanReach cmp slots m c k) (get_or_from_slice_get node.children i child child read) can_there

  -- the sizes of the node, and the range of the child index
  pub node_sizes : (i ≤ length node.keys) × (length node.children ≡ length node.keys + 1) × (length node.keys ≤ 64)
  node_sizes = (
    leads_within cmp k node.keys i leads,
    chain_length cmp (IsTree cmp slots 16 m) node.keys node.children can.low can.high node_chain,
    subst (λ (x : Slot (Inner K A)). length (inner_keys x) ≤ 64) is can.tree.3,
  )

-- an edit of the child that a key leads to
module _ {K V A : Type 0} {cmp : K → K → Ordering} (total' : IsTotalOrder cmp) (is_summary : A → List K → Type 0) (edit : List (K × V) → List (K × V)) (kept : ℕ) (old new : Slots (Inner K A) (Leaf K V))
    (m : ℕ) (id : InnerNodeId) (k : K) (node : Inner K A) (i : ℕ) (child : NodeId) (leaf : LeafNodeId) (turn : Turn) (local : IsLocal cmp k edit)
    (can : CanReach cmp old (suc m) (kind.Inner id) k) (is : old.inner id.0 ≡ Present node) (leads : LeadsDown cmp k node.keys i) (read : slice_get node.children i ≡ Some child) where
  abbrev At : NodeId → Outcome K → Type 0
  At c outcome = Edits cmp is_summary edit kept old new m c k leaf turn outcome

  abbrev there : NodeId
  there = get_or node.children i child

  here : there ≡ child
  here = get_or_from_slice_get node.children i child child read

  pub at_there : (outcome : Outcome K) → At child outcome → At there outcome
  at_there outcome e = subst (λ c. At c outcome) (sym here) e

  index : i < length node.children
  index = child_index old m id k node i child can is leads

  -- the node is not changed by the edit of its child
  pub node_stays : (outcome : Outcome K) → At child outcome → new.inner id.0 ≡ Present node
  node_stays outcome e =
      (at_there outcome e).other_inners id.0
      (let own = own_inners old m id k node i child can is leads id.0 in
      let own_one = rw (eq-eqb id.0 id.0 refl) at own in
      omega (arith, own_one, stored_le (old.inner id.0), in_total (λ c. inner_count old m c id.0) node.children i child index))
      (rw is tt) ∙ is

  pub rest : (outcome : Outcome K) → At there outcome → EachBut (Same cmp is_summary old new m) node.children i
  rest outcome e =
      others_same cmp is_summary old new m node.children i child index
      (own_leaves old m id k node i child can is leads) (λ x. omega (arith, own_inners old m id k node i child can is leads x)) e.other_leaves e.other_inners

  -- the children after the edit of one of them
  pub record Grown (least : ℕ) (ks : List K) (cs : List NodeId) : Type 0 where
    pub chain : (lo hi : Option K) → Chain cmp (IsTree cmp old 16 m) node.keys node.children lo hi → Within cmp lo hi k → Chain cmp (IsTree cmp new least m) ks cs lo hi
    pub pairs : flat (pairs_at new m) cs ≡ edit (flat (pairs_at old m) node.children)
    pub leaves : (x : ℕ) → total (λ c. leaf_count new m c x) cs + stored (old.leaf x) ≡ total (λ c. leaf_count old m c x) node.children + stored (new.leaf x)
    pub inners : (x : ℕ) → total (λ c. inner_count new m c x) cs + stored (old.inner x) ≡ total (λ c. inner_count old m c x) node.children + stored (new.inner x)
    pub order : Extends (flat (leaves_at old m) node.children) leaf turn (flat (leaves_at new m) cs)
    pub summed : AllByRecursion (IsSummed old is_summary m) node.children → AllByRecursion (IsSummed new is_summary m) cs

  -- the edit changes the child that its key leads to, and not the pairs before and behind that
  -- child
  around : edit (flat (pairs_at old m) node.children) ≡ flat (pairs_at old m) (take i node.children) ++ (edit (pairs_at old m there) ++ flat (pairs_at old m) (drop (suc i) node.children))
  around =
      let inside = λ (c : NodeId) (a b : Option K) (u : IsTree cmp old 16 m c a b). tree_inside total' old 16 m c a b u in
      let chain = node_chain old m id k node i child can is leads in
      ap edit (flat_parts (pairs_at old m) node.children i child index)
      ∙ local.around (flat (pairs_at old m) (take i node.children)) (pairs_at old m there) (flat (pairs_at old m) (drop (suc i) node.children))
      (chain_smaller total' (pairs_at old m) (IsTree cmp old 16 m) inside k node.keys node.children can.low can.high i chain leads)
      (chain_greater total' (pairs_at old m) (IsTree cmp old 16 m) inside k node.keys node.children can.low can.high i chain leads)

  pub grown_done : (least : ℕ) → least ≤ kept → least ≤ 16 → At child Done → Grown least node.keys node.children
  grown_done least enough low at =
      let e = at_there Done at in
      let others = rest Done e in
      let cs = node.children in
      record {
        chain = λ lo hi c w.
            chain_around total' (IsTree cmp old 16 m) (IsTree cmp new least m) k node.keys cs lo hi i child c (but_so _ _ (λ c s a b t. s.tree least a b (tree_less cmp old 16 least m c a b low t)) cs i others) leads w
            (λ a b t u. e.tree least a b enough (tree_less cmp old 16 least m there a b low t) u);
        pairs =
            flat_around (pairs_at old m) (pairs_at new m) cs i child index (but_so _ _ (λ c s. s.pairs) cs i others)
            ∙ (ap (λ l. flat (pairs_at old m) (take i cs) ++ (l ++ flat (pairs_at old m) (drop (suc i) cs))) e.pairs ∙ sym around);
        leaves = λ x. omega (
          arith,
          e.leaves x,
          total_around (λ c. leaf_count old m c x) (λ c. leaf_count new m c x) cs i child index (but_so _ _ (λ c s. s.leaves x) cs i others),
        );
        inners = λ x. omega (
          arith,
          e.inners x,
          total_around (λ c. inner_count old m c x) (λ c. inner_count new m c x) cs i child index (but_so _ _ (λ c s. s.inners x) cs i others),
        );
        order =
            extends_around (flat (leaves_at old m) (take i cs)) (flat (leaves_at old m) (drop (suc i) cs)) (leaves_at old m there) (leaves_at new m there) leaf turn
            (flat (leaves_at old m) cs) (flat (leaves_at new m) cs) e.order (flat_parts (leaves_at old m) cs i child index)
            (flat_around (leaves_at old m) (leaves_at new m) cs i child index (but_so _ _ (λ c s. s.order) cs i others));
        summed = each_around (IsSummed old is_summary m) (IsSummed new is_summary m) cs i child index (but_so _ _ (λ c s. s.summed) cs i others) e.summed;
      }

  pub grown_split : (s : K) (right : NodeId) → 16 ≤ kept → At child (Split s right) → Grown 16 (insert node.keys i s) (insert node.children (suc i) right)
  grown_split s right enough at =
      let e = at_there (Split s right) at in
      let others = rest (Split s right) e in
      let cs = node.children in
      record {
        chain = λ lo hi c w.
            chain_around_two total' (IsTree cmp old 16 m) (IsTree cmp new 16 m) k node.keys cs lo hi i child s right c (but_so _ _ (λ c s a b. s.tree 16 a b) cs i others) leads w
            (λ a b t u. e.tree 16 a b enough t u);
        pairs =
            flat_around_two (pairs_at old m) (pairs_at new m) cs i child right index (but_so _ _ (λ c s. s.pairs) cs i others)
            ∙ (ap (λ l. flat (pairs_at old m) (take i cs) ++ (l ++ flat (pairs_at old m) (drop (suc i) cs))) e.pairs ∙ sym around);
        leaves = λ x. omega (
          arith,
          e.leaves x,
          total_around_two (λ c. leaf_count old m c x) (λ c. leaf_count new m c x) cs i child right index (but_so _ _ (λ c s. s.leaves x) cs i others),
        );
        inners = λ x. omega (
          arith,
          e.inners x,
          total_around_two (λ c. inner_count old m c x) (λ c. inner_count new m c x) cs i child right index (but_so _ _ (λ c s. s.inners x) cs i others),
        );
        order =
            extends_around (flat (leaves_at old m) (take i cs)) (flat (leaves_at old m) (drop (suc i) cs)) (leaves_at old m there) (leaves_at new m there ++ leaves_at new m right) leaf turn
            (flat (leaves_at old m) cs) (flat (leaves_at new m) (insert cs (suc i) right)) e.order (flat_parts (leaves_at old m) cs i child index)
            (flat_around_two (leaves_at old m) (leaves_at new m) cs i child right index (but_so _ _ (λ c s. s.order) cs i others));
        summed = each_around_two (IsSummed old is_summary m) (IsSummed new is_summary m) cs i child right index (but_so _ _ (λ c s. s.summed) cs i others) e.summed;
      }

  -- a node id that the node does not reach is not reached by its child
  pub below_leaves : (x : ℕ) → leaf_count old (suc m) (kind.Inner id) x ≡ 0 → leaf_count old m child x ≡ 0
  below_leaves x none = subst (λ c. leaf_count old m c x ≡ 0) here (omega (arith, in_total (λ c. leaf_count old m c x) node.children i child index, rw is at none))

  pub below_inners : (x : ℕ) → inner_count old (suc m) (kind.Inner id) x ≡ 0 → inner_count old m child x ≡ 0
  below_inners x none = subst (λ c. inner_count old m c x ≡ 0) here (omega (arith, in_total (λ c. inner_count old m c x) node.children i child index, rw is at none))

  -- the summaries of all children after the child got a new one
  pub zipped_done : At child Done → (a : A) → is_summary a (keys_of (pairs_at new m child)) → AllZip is_summary node.arguments (map (λ c. keys_of (pairs_at old m c)) node.children)
      → AllZip is_summary (slice_set node.arguments i a) (map (λ c. keys_of (pairs_at new m c)) node.children)
  zipped_done at a reported zip =
      zip_around is_summary (λ c. keys_of (pairs_at old m c)) (λ c. keys_of (pairs_at new m c)) node.arguments node.children i child a index zip
      (but_so _ _ (λ c s. ap keys_of s.pairs) node.children i (rest Done (at_there Done at)))
      (subst (λ c. is_summary a (keys_of (pairs_at new m c))) (sym here) reported)

  -- the summaries of all children after the child was split, with new ones of both parts
  pub zipped_split : (s : K) (right : NodeId) → At child (Split s right) → (l r : A) → is_summary l (keys_of (pairs_at new m child)) → is_summary r (keys_of (pairs_at new m right))
      → AllZip is_summary node.arguments (map (λ c. keys_of (pairs_at old m c)) node.children)
      → AllZip is_summary (insert (slice_set node.arguments i l) (suc i) r) (map (λ c. keys_of (pairs_at new m c)) (insert node.children (suc i) right))
  zipped_split s right at l r left_told right_told zip =
      zip_around_two is_summary (λ c. keys_of (pairs_at old m c)) (λ c. keys_of (pairs_at new m c)) node.arguments node.children i child right l r index zip
      (but_so _ _ (λ c s. ap keys_of s.pairs) node.children i (rest (Split s right) (at_there (Split s right) at)))
      (subst (λ c. is_summary l (keys_of (pairs_at new m c))) (sym here) left_told) right_told

  abbrev front : List (K × V)
  front = flat (pairs_at old m) (take i node.children)

  abbrev behind : List (K × V)
  behind = flat (pairs_at old m) (drop (suc i) node.children)

  keys_around : (l : List (K × V)) → keys_of (front ++ (l ++ behind)) ≡ keys_of front ++ (keys_of l ++ keys_of behind)
  keys_around l = map-append (λ (p : K × V). p.0) front (l ++ behind) ∙ ap (λ rest. keys_of front ++ rest) (map-append (λ (p : K × V). p.0) l behind)

  -- a summary of the node's keys after the edit, computed from the node's old summary and the
  -- child's old and new ones
  pub replaced_around : At child Done → (whole was a b : A) → is_summary whole (keys_of (flat (pairs_at old m) node.children)) → is_summary was (keys_of (pairs_at old m child)) → is_summary a (keys_of (pairs_at new m child))
      → IsAscending cmp (edit (flat (pairs_at old m) node.children)) → length (edit (flat (pairs_at old m) node.children)) < 2 ^ 64 → SumsUpReplaced is_summary cmp whole was a b
      → is_summary b (keys_of (edit (flat (pairs_at old m) node.children)))
  replaced_around at whole was a b told_whole told_was told_new ascends few replaced =
      let old_is : flat (pairs_at old m) node.children ≡ front ++ (pairs_at old m child ++ behind) =
      subst (λ c. flat (pairs_at old m) node.children ≡ front ++ (pairs_at old m c ++ behind)) here (flat_parts (pairs_at old m) node.children i child index) in
      let new_is : edit (flat (pairs_at old m) node.children) ≡ front ++ (pairs_at new m child ++ behind) =
      subst (λ c. edit (flat (pairs_at old m) node.children) ≡ front ++ (edit (pairs_at old m c) ++ behind)) here around ∙ ap (λ l. front ++ (l ++ behind)) (sym at.pairs) in
      let keys_is = ap keys_of new_is ∙ keys_around (pairs_at new m child) in
      subst (λ l. is_summary b l) (sym keys_is)
      (replaced (keys_of front) (keys_of (pairs_at old m child)) (keys_of (pairs_at new m child)) (keys_of behind)
      (subst (λ l. is_summary whole l) (ap keys_of old_is ∙ keys_around (pairs_at old m child)) told_whole) told_was told_new
      (subst (λ l. IsStrictlySortedBy cmp l) keys_is ascends)
      (subst (λ l. length l < 2 ^ 64) keys_is (omega (arith, few, length-map (edit (flat (pairs_at old m) node.children)) (λ (p : K × V). p.0)))))
