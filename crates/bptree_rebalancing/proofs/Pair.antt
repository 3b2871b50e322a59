-- A node keeps its children, except for two siblings that become two others, or one.
use Rattle.std.proofs.Common.{◌≡◌, ℕ, zero, suc, ◌+◌, ◌<◌, ◌≤◌, inl, inr, ◌⊎◌, true, false, cond, List, [], ◌∷◌, ◌++◌, length, map, get_or, take, drop, refl, sym, ap, subst, ◌∙◌, arith, add-one, Option, Some, eqb, length-append, slice_get, slice_set}
use Rattle.std.specs.declared.cmp.Ordering.{Ordering}
use Rattle.std.specs.declared.cmp.Ordering.TheVariants.{Less}
use Rattle.std.specs.Ordering.{is_lt}
use Rattle.std.specs.Cmp.{IsTotalOrder}
use Rattle.std.specs.List.{AllByRecursion, AllZip, insert}
use Rattle.std.specs.Map.{keys_of}
use Rattle.std.proofs.lemmas.Bool.{eq-eqb}
use Rattle.std.proofs.lemmas.Bool.Decides.{eqb_tells}
use Rattle.std.proofs.lemmas.List.Edits.{length-insert}
use Rattle.std.proofs.lemmas.Option.{get_or_from_slice_get}
use Rattle.bptree_nodes.specs.Inner.{Inner}
use Rattle.bptree_nodes.specs.Leaf.{Leaf}
use Rattle.bptree_nodes.specs.Slot.{Slot, Slots, Present, IsPresent}
use Rattle.bptree_keys.specs.declared.node_id.InnerNodeId.{InnerNodeId}
use Rattle.bptree_keys.specs.declared.node_id.LeafNodeId.{LeafNodeId}
use Rattle.bptree_keys.specs.declared.node_id.NodeId.{NodeId}
use Rattle.bptree_keys.specs.declared.node_id.NodeId.TheVariants as kind
use Rattle.bptree_invariant.specs.Edit.{IsLocal, CanReach, Turn, Spares, SameLinks, Extends, LinksAt, pairs_after, leaf_count_after, inner_count_after, TreeAfter, SummedAfter, Edits}
use Rattle.bptree_rebalancing.specs.Rebalance.{RebalancesPair}
use Rattle.bptree_invariant.specs.Order.{flat, total, Within, Between, Chain, LeadsDown}
use Rattle.bptree_invariant.specs.Outcome.{Outcome, Done, Split}
use Rattle.bptree_invariant.specs.Shape.{inner_keys, inner_children, pairs_at, leaves_at, leaf_count, inner_count, stored, IsTree, IsSummed}
use Rattle.bptree_rebalancing.specs.Transfer.{HasEntry}
use Rattle.bptree_propagation.specs.Sums.{with_summary, with_split}
use Rattle.bptree_invariant.proofs.Agreeing.{stored_le, present_if_stored, Chain-so}
use Rattle.bptree_invariant.proofs.Frame.{EachBut, in_total, but_so, Same, all_same, same}
use Rattle.bptree_invariant.proofs.Ordered.{AtMost-up, AtLeast-up, less_then_up}
use Rattle.bptree_invariant.proofs.Widen.{tree_less, flat_around, flat_around_two, total_around, total_around_two, each_around, each_around_two, zip_around, zip_around_two, own_leaves, own_inners, child_index, rest, at_there, grown_done}

module _ {X : Type 0} where
  pub every : (P : X → Type 0) (ys : List X) (n : ℕ) (d : X) → AllByRecursion P ys → n < length ys → P (get_or ys n d)
  every P [] n d all under = absurd (omega arith)
  every P (y ∷ ys) zero d all under = all.0
  every P (y ∷ ys) (suc n) d all under = every P ys n d all.1 (omega arith)

  pub but_at : (P : X → Type 0) (xs : List X) (i j : ℕ) (d : X) → EachBut P xs i → j < length xs → (j ≡ i → ⊥) → P (get_or xs j d)
  but_at P [] i j d all below other = absurd (omega arith)
  but_at P (x ∷ xs) zero zero d all below other = absurd (other refl)
  but_at P (x ∷ xs) zero (suc j) d all below other = every P xs j d all (omega arith)
  but_at P (x ∷ xs) (suc i) zero d all below other = all.0
  but_at P (x ∷ xs) (suc i) (suc j) d all below other = but_at P xs i j d all.1 (omega arith) (λ e. other (ap suc e))

  pub total_insert : (f : X → ℕ) (xs : List X) (i : ℕ) (y : X) → i ≤ length xs → total f (insert xs i y) ≡ total f xs + f y
  total_insert f xs zero y below = omega arith
  total_insert f [] (suc i) y below = absurd (omega arith)
  total_insert f (x ∷ xs) (suc i) y below = omega (arith, total_insert f xs i y (omega arith))

  pub read_before : (xs : List X) (i : ℕ) (y d : X) → i < length xs → get_or (insert xs (suc i) y) i d ≡ get_or xs i d
  read_before [] i y d below = absurd (omega arith)
  read_before (x ∷ xs) zero y d below = refl
  read_before (x ∷ xs) (suc i) y d below = read_before xs i y d (omega arith)

  pub read_inserted : (xs : List X) (i : ℕ) (y d : X) → i ≤ length xs → get_or (insert xs i y) i d ≡ y
  read_inserted xs zero y d below = refl
  read_inserted [] (suc i) y d below = absurd (omega arith)
  read_inserted (x ∷ xs) (suc i) y d below = read_inserted xs i y d (omega arith)

  pub all_without : (P : X → Type 0) (xs : List X) (i : ℕ) (y : X) → i ≤ length xs → AllByRecursion P (insert xs i y) → AllByRecursion P xs × P y
  all_without P xs zero y below all = (all.1, all.0)
  all_without P [] (suc i) y below all = absurd (omega arith)
  all_without P (x ∷ xs) (suc i) y below all = let r = all_without P xs i y (omega arith) all.1 in ((all.0, r.0), r.1)

-- if a relation holds between the members of two lists, it does without one member of each
pub zip_without : {A C Y : Type 0} (R : A → Y → Type 0) (f : C → Y) (xs : List A) (cs : List C) (i : ℕ) (a : A) (y : C) → i ≤ length cs → i ≤ length xs → AllZip R (insert xs i a) (map f (insert cs i y)) → AllZip R xs (map f cs)
zip_without R f xs cs zero a y below under zip = zip.1
zip_without R f xs [] (suc i) a y below under zip = absurd (omega arith)
zip_without R f [] (c ∷ cs) (suc i) a y below under zip = absurd (omega arith)
zip_without R f (x ∷ xs) (c ∷ cs) (suc i) a y below under zip = (zip.0, zip_without R f xs cs i a y (omega arith) (omega arith) zip.1)

module _ {K : Type 0} (cmp : K → K → Ordering) (k : K) where
  -- a key that leads to the child before a separator is less than the separator
  pub leads_left : (ks : List K) (i : ℕ) (s : K) → i ≤ length ks → LeadsDown cmp k (insert ks i s) i → cmp k s ≡ Less
  leads_left ks zero s below leads = leads
  leads_left [] (suc i) s below leads = absurd (omega arith)
  leads_left (x ∷ ks) (suc i) s below leads = leads_left ks i s (omega arith) leads.1

  -- a key that leads to the child behind a separator is not less than the separator
  pub leads_right : (ks : List K) (i : ℕ) (s : K) → i ≤ length ks → LeadsDown cmp k (insert ks i s) (suc i) → is_lt (cmp k s) ≡ false
  leads_right ks zero s below leads = leads.0
  leads_right [] (suc i) s below leads = absurd (omega arith)
  leads_right (x ∷ ks) (suc i) s below leads = leads_right ks i s (omega arith) leads.1

module _ {C K : Type 0} {cmp : K → K → Ordering} (total' : IsTotalOrder cmp) (P Q : C → Option K → Option K → Type 0) (k : K) where
  abbrev Holds : C → Type 0
  Holds c = (a b : Option K) → P c a b → Q c a b

  -- two siblings merge, one of which a key leads to
  pub chain_merged : (ks : List K) (cs : List C) (lo hi : Option K) (i j : ℕ) (d y : C) (s : K) → i ≤ length ks → Chain cmp P (insert ks i s) (insert cs (suc i) y) lo hi → i < length cs → EachBut Holds cs i
      → LeadsDown cmp k (insert ks i s) j → (j ≡ i) ⊎ (j ≡ suc i) → Within cmp lo hi k
      → ((a b : Option K) → P (get_or cs i d) a (Some s) → Between cmp a b s → P y (Some s) b → Within cmp a b k → Q (get_or cs i d) a b) → Chain cmp Q ks cs lo hi
  chain_merged ks [] lo hi i j d y s within h below all leads at w new = absurd (omega arith)
  chain_merged [] (c ∷ []) lo hi zero j d y s within h below all leads at w new = new lo hi h.0 h.1 h.2 w
  chain_merged [] (c ∷ e ∷ cs) lo hi zero j d y s within h below all leads at w new = absurd h.2
  chain_merged (t ∷ ts) (c ∷ cs) lo hi zero j d y s within h below all leads at w new =
      let under : cmp k t ≡ Less = elim at [ inl e ↦ less_then_up total' k s t (subst (λ n. LeadsDown cmp k (s ∷ t ∷ ts) n) e leads) h.2.1.0 | inr e ↦ (subst (λ n. LeadsDown cmp k (s ∷ t ∷ ts) n) e leads).1 ] in
      (new lo (Some t) h.0 (h.1.0, h.2.1.0) h.2.0 (w.0, under), (AtLeast-up total' lo s t h.1.0 h.2.1.0, h.2.1.1), Chain-so cmp P Q ts cs (Some t) hi all h.2.2)
  chain_merged [] (c ∷ cs) lo hi (suc i) j d y s within h below all leads at w new = absurd (omega arith)
  chain_merged (t ∷ ts) (c ∷ cs) lo hi (suc i) zero d y s within h below all leads at w new = absurd (elim at [ inl e ↦ omega arith | inr e ↦ omega arith ])
  chain_merged (t ∷ ts) (c ∷ cs) lo hi (suc i) (suc j) d y s within h below all leads at w new =
      (all.0 lo (Some t) h.0, h.1, chain_merged ts cs (Some t) hi i j d y s (omega arith) h.2 (omega arith) all.1 leads.1 (elim at [ inl e ↦ inl (omega arith) | inr e ↦ inr (omega arith) ]) (leads.0, w.1) new)

  -- two siblings become two others, with another separator
  pub chain_rotated : (ks : List K) (cs : List C) (lo hi : Option K) (i j : ℕ) (d y : C) (s u : K) → i ≤ length ks → Chain cmp P (insert ks i s) (insert cs (suc i) y) lo hi → i < length cs → EachBut Holds cs i
      → LeadsDown cmp k (insert ks i s) j → (j ≡ i) ⊎ (j ≡ suc i) → Within cmp lo hi k
      → ((a b : Option K) → P (get_or cs i d) a (Some s) → Between cmp a b s → P y (Some s) b → Within cmp a b k → Q (get_or cs i d) a (Some u) × Between cmp a b u × Q y (Some u) b) → Chain cmp Q (insert ks i u) (insert cs (suc i) y) lo hi
  chain_rotated ks [] lo hi i j d y s u within h below all leads at w new = absurd (omega arith)
  chain_rotated [] (c ∷ []) lo hi zero j d y s u within h below all leads at w new = new lo hi h.0 h.1 h.2 w
  chain_rotated [] (c ∷ e ∷ cs) lo hi zero j d y s u within h below all leads at w new = absurd h.2
  chain_rotated (t ∷ ts) (c ∷ cs) lo hi zero j d y s u within h below all leads at w new =
      let under : cmp k t ≡ Less = elim at [ inl e ↦ less_then_up total' k s t (subst (λ n. LeadsDown cmp k (s ∷ t ∷ ts) n) e leads) h.2.1.0 | inr e ↦ (subst (λ n. LeadsDown cmp k (s ∷ t ∷ ts) n) e leads).1 ] in
      let x = new lo (Some t) h.0 (h.1.0, h.2.1.0) h.2.0 (w.0, under) in
      (x.0, (x.1.0, AtMost-up total' hi u t h.2.1.1 x.1.1), (x.2, (x.1.1, h.2.1.1), Chain-so cmp P Q ts cs (Some t) hi all h.2.2))
  chain_rotated [] (c ∷ cs) lo hi (suc i) j d y s u within h below all leads at w new = absurd (omega arith)
  chain_rotated (t ∷ ts) (c ∷ cs) lo hi (suc i) zero d y s u within h below all leads at w new = absurd (elim at [ inl e ↦ omega arith | inr e ↦ omega arith ])
  chain_rotated (t ∷ ts) (c ∷ cs) lo hi (suc i) (suc j) d y s u within h below all leads at w new =
      (all.0 lo (Some t) h.0, h.1, chain_rotated ts cs (Some t) hi i j d y s u (omega arith) h.2 (omega arith) all.1 leads.1 (elim at [ inl e ↦ inl (omega arith) | inr e ↦ inr (omega arith) ]) (leads.0, w.1) new)

-- two siblings, one of which a key leads to, and the bounds around both
pub chain_two : {C K : Type 0} {cmp : K → K → Ordering} (total' : IsTotalOrder cmp) (P : C → Option K → Option K → Type 0) (k : K) (ks : List K) (cs : List C) (lo hi : Option K) (i j : ℕ) (d y : C) (s : K) → i ≤ length ks → Chain cmp P (insert ks i s) (insert cs (suc i) y) lo hi → i < length cs
    → LeadsDown cmp k (insert ks i s) j → (j ≡ i) ⊎ (j ≡ suc i) → Within cmp lo hi k → (a : Option K) × (b : Option K) × P (get_or cs i d) a (Some s) × Between cmp a b s × P y (Some s) b × Within cmp a b k
chain_two total' P k ks [] lo hi i j d y s within h below leads at w = absurd (omega arith)
chain_two total' P k [] (c ∷ []) lo hi zero j d y s within h below leads at w = (lo, hi, h.0, h.1, h.2, w)
chain_two total' P k [] (c ∷ e ∷ cs) lo hi zero j d y s within h below leads at w = absurd h.2
chain_two {cmp = cmp} total' P k (t ∷ ts) (c ∷ cs) lo hi zero j d y s within h below leads at w =
    let under : cmp k t ≡ Less = elim at [ inl e ↦ less_then_up total' k s t (subst (λ n. LeadsDown cmp k (s ∷ t ∷ ts) n) e leads) h.2.1.0 | inr e ↦ (subst (λ n. LeadsDown cmp k (s ∷ t ∷ ts) n) e leads).1 ] in
    (lo, Some t, h.0, (h.1.0, h.2.1.0), h.2.0, (w.0, under))
chain_two total' P k [] (c ∷ cs) lo hi (suc i) j d y s within h below leads at w = absurd (omega arith)
chain_two total' P k (t ∷ ts) (c ∷ cs) lo hi (suc i) zero d y s within h below leads at w = absurd (elim at [ inl e ↦ omega arith | inr e ↦ omega arith ])
chain_two total' P k (t ∷ ts) (c ∷ cs) lo hi (suc i) (suc j) d y s within h below leads at w =
    chain_two total' P k ts cs (Some t) hi i j d y s (omega arith) h.2 (omega arith) leads.1 (elim at [ inl e ↦ inl (omega arith) | inr e ↦ inr (omega arith) ]) (leads.0, w.1)

module _ {K V A : Type 0} (cmp : K → K → Ordering) (is_summary : A → List K → Type 0) (old new : Slots (Inner K A) (Leaf K V)) where
  -- if two of several trees may have changed, the others read the same
  pub others_same_two : (h : ℕ) (cs : List NodeId) (i : ℕ) (d y : NodeId) → i < length cs
      → ((n : ℕ) → total (λ c. leaf_count old h c n) cs + leaf_count old h y n ≤ stored (old.leaf n)) → ((n : ℕ) → total (λ c. inner_count old h c n) cs + inner_count old h y n ≤ stored (old.inner n))
      → ((n : ℕ) → leaf_count old h (get_or cs i d) n ≡ 0 → leaf_count old h y n ≡ 0 → IsPresent (old.leaf n) → new.leaf n ≡ old.leaf n)
      → ((n : ℕ) → 1 ≤ total (λ c. inner_count old h c n) cs → inner_count old h (get_or cs i d) n ≡ 0 → inner_count old h y n ≡ 0 → IsPresent (old.inner n) → new.inner n ≡ old.inner n)
      → EachBut (Same cmp is_summary old new h) cs i
  others_same_two h [] i d y below l m a b = tt
  others_same_two h (c ∷ cs) zero d y below l m a b =
      all_same cmp is_summary old new h cs (
        (λ n some. a n (omega (arith, l n, stored_le (old.leaf n))) (omega (arith, l n, stored_le (old.leaf n))) (present_if_stored (old.leaf n) (omega (arith, l n)))),
        (λ n some. b n (omega arith) (omega (arith, m n, stored_le (old.inner n))) (omega (arith, m n, stored_le (old.inner n))) (present_if_stored (old.inner n) (omega (arith, m n)))),
      )
  others_same_two h (c ∷ cs) (suc i) d y below l m a b = (
    same cmp is_summary old new h c (
      (λ n some. a n (omega (arith, l n, stored_le (old.leaf n), in_total (λ c. leaf_count old h c n) cs i d (omega arith))) (omega (arith, l n, stored_le (old.leaf n))) (present_if_stored (old.leaf n) (omega (arith, l n)))),
      (λ n some. b n (omega arith) (omega (arith, m n, stored_le (old.inner n), in_total (λ c. inner_count old h c n) cs i d (omega arith))) (omega (arith, m n, stored_le (old.inner n))) (present_if_stored (old.inner n) (omega (arith, m n)))),
    ),
    others_same_two h cs i d y (omega arith) (λ n. omega (arith, l n)) (λ n. omega (arith, m n)) a (λ n some. b n (omega arith)),
  )

module _ {K V A : Type 0} {cmp : K → K → Ordering} (total' : IsTotalOrder cmp) (is_summary : A → List K → Type 0) (edit : List (K × V) → List (K × V)) (kept : ℕ) (old now after : Slots (Inner K A) (Leaf K V))
    (m : ℕ) (id : InnerNodeId) (k : K) (node : Inner K A) (i : ℕ) (child : NodeId) (leaf : LeafNodeId) (turn : Turn) (local : IsLocal cmp k edit)
    (can : CanReach cmp old (suc m) (kind.Inner id) k) (is : old.inner id.0 ≡ Present node) (leads : LeadsDown cmp k node.keys i) (read : slice_get node.children i ≡ Some child)
    (short : 15 ≤ kept) (at : Edits cmp is_summary edit kept old now m child k leaf turn Done)
    (bare : Inner K A) (slot : ℕ) (s : K) (right : NodeId) (old_r : A) (entry : HasEntry node bare slot s right old_r) (beside : (i ≡ slot) ⊎ (i ≡ suc slot)) where
  abbrev pub left : NodeId
  left = get_or bare.children slot child

  keys_are : node.keys ≡ insert bare.keys slot s
  keys_are = ap (λ (n : Inner K A). n.keys) entry.is

  children_are : node.children ≡ insert bare.children (suc slot) right
  children_are = ap (λ (n : Inner K A). n.children) entry.is ∙ rw add-one refl

  arguments_are : node.arguments ≡ insert bare.arguments (suc slot) old_r
  arguments_are = ap (λ (n : Inner K A). n.arguments) entry.is ∙ rw add-one refl

  below : slot < length bare.children
  below = omega (arith, entry.index.within, entry.index.children)

  there : get_or node.children i child ≡ child
  there = get_or_from_slice_get node.children i child child read

  index : i < length node.children
  index = child_index old m id k node i child can is leads

  siblings : EachBut (Same cmp is_summary old now m) node.children i
  siblings = rest total' is_summary edit kept old now m id k node i child leaf turn local can is leads read Done (at_there total' is_summary edit kept old now m id k node i child leaf turn local can is leads read Done at)

  long : length node.children ≡ length bare.children + 1
  long = ap length children_are ∙ length-insert bare.children (suc slot) right (omega (arith, below))

  -- the one of the two that the key does not lead to reads the same
  left_is : get_or node.children slot child ≡ left
  left_is = ap (λ cs. get_or cs slot child) children_are ∙ read_before bare.children slot right child below

  right_is : get_or node.children (suc slot) child ≡ right
  right_is = ap (λ cs. get_or cs (suc slot) child) children_are ∙ read_inserted bare.children (suc slot) right child (omega (arith, below))

  -- the state of one of the two before they rotate or merge
  record Before (c : NodeId) : Type 0 where
    pub no_leaf : (x : ℕ) → leaf_count old m c x ≡ 0 → IsPresent (old.leaf x) → leaf_count now m c x ≡ 0
    pub no_inner : (x : ℕ) → inner_count old m c x ≡ 0 → IsPresent (old.inner x) → inner_count now m c x ≡ 0
    pub summed : IsSummed old is_summary m c → IsSummed now is_summary m c

  edited : Before child
  edited = record {
    no_leaf = λ x none some. omega (arith, at.leaves x, none, ap stored (at.other_leaves x none some));
    no_inner = λ x none some. omega (arith, at.inners x, none, ap stored (at.other_inners x none some));
    summed = at.summed;
  }

  unedited : (c : NodeId) → Same cmp is_summary old now m c → Before c
  unedited c s' = record {
    no_leaf = λ x none some. s'.leaves x ∙ none;
    no_inner = λ x none some. s'.inners x ∙ none;
    summed = s'.summed;
  }

  child_left : i ≡ slot → child ≡ left
  child_left e = sym there ∙ (ap (λ n. get_or node.children n child) e ∙ left_is)

  child_right : i ≡ suc slot → child ≡ right
  child_right e = sym there ∙ (ap (λ n. get_or node.children n child) e ∙ right_is)

  same_left : i ≡ suc slot → Same cmp is_summary old now m left
  same_left e = subst (Same cmp is_summary old now m) left_is (but_at (Same cmp is_summary old now m) node.children i slot child siblings (omega (arith, long, below)) (λ q. omega arith))

  same_right : i ≡ slot → Same cmp is_summary old now m right
  same_right e = subst (Same cmp is_summary old now m) right_is (but_at (Same cmp is_summary old now m) node.children i (suc slot) child siblings (omega (arith, long, below)) (λ q. omega arith))

  left_before : Before left
  left_before = elim beside [ inl e ↦ subst Before (child_left e) edited | inr e ↦ unedited left (same_left e) ]

  right_before : Before right
  right_before = elim beside [ inl e ↦ unedited right (same_right e) | inr e ↦ subst Before (child_right e) edited ]

  -- both are trees, but may have underflowed
  pair_now : (a b : Option K) → IsTree cmp old 16 m left a (Some s) → IsTree cmp old 16 m right (Some s) b → Within cmp a b k → IsTree cmp now 15 m left a (Some s) × IsTree cmp now 15 m right (Some s) b
  pair_now a b l r w =
      elim beside [
        | inl e ↦ (
          (let side : cmp k s ≡ Less = leads_left cmp k bare.keys slot s entry.index.within (subst (λ n. LeadsDown cmp k (insert bare.keys slot s) n) e (subst (λ ks. LeadsDown cmp k ks i) keys_are leads)) in
              subst (λ c. IsTree cmp now 15 m c a (Some s)) (child_left e) (at.tree 15 a (Some s) short (tree_less cmp old 16 15 m child a (Some s) (omega arith) (subst (λ c. IsTree cmp old 16 m c a (Some s)) (sym (child_left e)) l)) (w.0, side))),
          (same_right e).tree 15 (Some s) b (tree_less cmp old 16 15 m right (Some s) b (omega arith) r),
        )
        | inr e ↦ (
          (same_left e).tree 15 a (Some s) (tree_less cmp old 16 15 m left a (Some s) (omega arith) l),
          (let side : is_lt (cmp k s) ≡ false = leads_right cmp k bare.keys slot s entry.index.within (subst (λ n. LeadsDown cmp k (insert bare.keys slot s) n) e (subst (λ ks. LeadsDown cmp k ks i) keys_are leads)) in
              subst (λ c. IsTree cmp now 15 m c (Some s) b) (child_right e) (at.tree 15 (Some s) b short (tree_less cmp old 16 15 m child (Some s) b (omega arith) (subst (λ c. IsTree cmp old 16 m c (Some s) b) (sym (child_right e)) r)) (side, w.1))),
        )
      ]

  count_leaves_old : (x : ℕ) → total (λ c. leaf_count old m c x) node.children ≡ total (λ c. leaf_count old m c x) bare.children + leaf_count old m right x
  count_leaves_old x = ap (total (λ c. leaf_count old m c x)) children_are ∙ total_insert (λ c. leaf_count old m c x) bare.children (suc slot) right (omega (arith, below))

  count_inners_old : (x : ℕ) → total (λ c. inner_count old m c x) node.children ≡ total (λ c. inner_count old m c x) bare.children + inner_count old m right x
  count_inners_old x = ap (total (λ c. inner_count old m c x)) children_are ∙ total_insert (λ c. inner_count old m c x) bare.children (suc slot) right (omega (arith, below))

  count_leaves_now : (x : ℕ) → total (λ c. leaf_count now m c x) node.children ≡ total (λ c. leaf_count now m c x) bare.children + leaf_count now m right x
  count_leaves_now x = ap (total (λ c. leaf_count now m c x)) children_are ∙ total_insert (λ c. leaf_count now m c x) bare.children (suc slot) right (omega (arith, below))

  count_inners_now : (x : ℕ) → total (λ c. inner_count now m c x) node.children ≡ total (λ c. inner_count now m c x) bare.children + inner_count now m right x
  count_inners_now x = ap (total (λ c. inner_count now m c x)) children_are ∙ total_insert (λ c. inner_count now m c x) bare.children (suc slot) right (omega (arith, below))

  own_leaf : (x : ℕ) → total (λ c. leaf_count old m c x) bare.children + leaf_count old m right x ≤ stored (old.leaf x)
  own_leaf x = omega (arith, count_leaves_old x, own_leaves old m id k node i child can is leads x)

  own_inner : (x : ℕ) → cond (eqb id.0 x) 1 0 + (total (λ c. inner_count old m c x) bare.children + inner_count old m right x) ≤ stored (old.inner x)
  own_inner x = omega (arith, count_inners_old x, own_inners old m id k node i child can is leads x)

  -- the child reaches no more than the two
  child_leaf : (x : ℕ) → leaf_count old m left x ≡ 0 → leaf_count old m right x ≡ 0 → leaf_count old m child x ≡ 0
  child_leaf x l r = elim beside [ inl e ↦ subst (λ c. leaf_count old m c x ≡ 0) (sym (child_left e)) l | inr e ↦ subst (λ c. leaf_count old m c x ≡ 0) (sym (child_right e)) r ]

  child_inner : (x : ℕ) → inner_count old m left x ≡ 0 → inner_count old m right x ≡ 0 → inner_count old m child x ≡ 0
  child_inner x l r = elim beside [ inl e ↦ subst (λ c. inner_count old m c x ≡ 0) (sym (child_left e)) l | inr e ↦ subst (λ c. inner_count old m c x ≡ 0) (sym (child_right e)) r ]

  others_now : EachBut (Same cmp is_summary old now m) bare.children slot
  others_now =
      others_same_two cmp is_summary old now m bare.children slot child right below own_leaf (λ x. omega (arith, own_inner x)) (λ x l r some. at.other_leaves x (child_leaf x l r) some) (λ x reached l r some. at.other_inners x (child_inner x l r) some)

  module _ (outcome : Outcome K) (rebalances : RebalancesPair cmp is_summary now after m id.0 left s right outcome) where
    leaf_stays : (x : ℕ) → leaf_count old m left x ≡ 0 → leaf_count old m right x ≡ 0 → IsPresent (old.leaf x) → after.leaf x ≡ old.leaf x
    leaf_stays x l r some = rebalances.other_leaves x (left_before.no_leaf x l some) (right_before.no_leaf x r some) ∙ at.other_leaves x (child_leaf x l r) some

    inner_stays : (x : ℕ) → (x ≡ id.0 → ⊥) → inner_count old m left x ≡ 0 → inner_count old m right x ≡ 0 → IsPresent (old.inner x) → after.inner x ≡ old.inner x
    inner_stays x far l r some = rebalances.other_inners x far (left_before.no_inner x l some) (right_before.no_inner x r some) ∙ at.other_inners x (child_inner x l r) some

    others_after : EachBut (Same cmp is_summary old after m) bare.children slot
    others_after =
        others_same_two cmp is_summary old after m bare.children slot child right below own_leaf (λ x. omega (arith, own_inner x)) leaf_stays
        (λ x reached l r some. inner_stays x (λ q. let e : eqb id.0 x ≡ true = eq-eqb id.0 x (sym q) in let o = rw e at (own_inner x) in omega (arith, o, stored_le (old.inner x), reached)) l r some)

    pub pair_after : (a b : Option K) → IsTree cmp old 16 m left a (Some s) → Between cmp a b s → IsTree cmp old 16 m right (Some s) b → Within cmp a b k → TreeAfter cmp after m left 16 a b outcome
    pair_after a b l t r w = let p = pair_now a b l r w in rebalances.tree a b p.0 t p.1

    -- all pairs are those of the two now, and those of the others as they were
    pairs_now : flat (pairs_at now m) node.children ≡ edit (flat (pairs_at old m) node.children)
    pairs_now = (grown_done total' is_summary edit kept old now m id k node i child leaf turn local can is leads read 15 short (omega arith) at).pairs

    pub pairs_unmerged : flat (pairs_at now m) node.children ≡ flat (pairs_at old m) (take slot bare.children) ++ ((pairs_at now m left ++ pairs_at now m right) ++ flat (pairs_at old m) (drop (suc slot) bare.children))
    pairs_unmerged = ap (flat (pairs_at now m)) children_are ∙ flat_around_two (pairs_at old m) (pairs_at now m) bare.children slot child right below (but_so _ _ (λ c x. x.pairs) bare.children slot others_now)

    grown : (x : ℕ) → total (λ c. leaf_count now m c x) node.children + stored (old.leaf x) ≡ total (λ c. leaf_count old m c x) node.children + stored (now.leaf x)
    grown x = (grown_done total' is_summary edit kept old now m id k node i child leaf turn local can is leads read 15 short (omega arith) at).leaves x

    grown_inners : (x : ℕ) → total (λ c. inner_count now m c x) node.children + stored (old.inner x) ≡ total (λ c. inner_count old m c x) node.children + stored (now.inner x)
    grown_inners x = (grown_done total' is_summary edit kept old now m id k node i child leaf turn local can is leads read 15 short (omega arith) at).inners x

    leaves_now : (x : ℕ) → total (λ c. leaf_count now m c x) bare.children + leaf_count old m left x ≡ total (λ c. leaf_count old m c x) bare.children + leaf_count now m left x
    leaves_now x = total_around (λ c. leaf_count old m c x) (λ c. leaf_count now m c x) bare.children slot child below (but_so _ _ (λ c y. y.leaves x) bare.children slot others_now)

    inners_now : (x : ℕ) → total (λ c. inner_count now m c x) bare.children + inner_count old m left x ≡ total (λ c. inner_count old m c x) bare.children + inner_count now m left x
    inners_now x = total_around (λ c. inner_count old m c x) (λ c. inner_count now m c x) bare.children slot child below (but_so _ _ (λ c y. y.inners x) bare.children slot others_now)

    old_chain : (lo hi : Option K) (least : ℕ) → IsTree cmp old least (suc m) (kind.Inner id) lo hi → Chain cmp (IsTree cmp old 16 m) (insert bare.keys slot s) (insert bare.children (suc slot) right) lo hi
    old_chain lo hi least t =
        subst (λ cs. Chain cmp (IsTree cmp old 16 m) (insert bare.keys slot s) cs lo hi) children_are
        (subst (λ ks. Chain cmp (IsTree cmp old 16 m) ks node.children lo hi) keys_are
        (subst (λ (x : Slot (Inner K A)). Chain cmp (IsTree cmp old 16 m) (inner_keys x) (inner_children x) lo hi) is t.1))

    old_sizes : (lo hi : Option K) (least : ℕ) → IsTree cmp old least (suc m) (kind.Inner id) lo hi → (least ≤ length node.keys) × (length node.keys ≤ 64)
    old_sizes lo hi least t = subst (λ (x : Slot (Inner K A)). (least ≤ length (inner_keys x)) × (length (inner_keys x) ≤ 64)) is (t.2, t.3)

    old_zip : IsSummed old is_summary (suc m) (kind.Inner id) → AllZip is_summary bare.arguments (map (λ c. keys_of (pairs_at old m c)) bare.children)
    old_zip h =
        let both : AllZip is_summary node.arguments (map (λ c. keys_of (pairs_at old m c)) node.children) × AllByRecursion (IsSummed old is_summary m) node.children = rw is at h in
        zip_without is_summary (λ c. keys_of (pairs_at old m c)) bare.arguments bare.children (suc slot) old_r right (omega (arith, below)) (omega (arith, below, entry.index.arguments))
        (subst (λ cs. AllZip is_summary (insert bare.arguments (suc slot) old_r) (map (λ c. keys_of (pairs_at old m c)) cs)) children_are (subst (λ xs. AllZip is_summary xs (map (λ c. keys_of (pairs_at old m c)) node.children)) arguments_are both.0))

    old_each : IsSummed old is_summary (suc m) (kind.Inner id) → AllByRecursion (IsSummed old is_summary m) bare.children × IsSummed old is_summary m right
    old_each h =
        let both : AllZip is_summary node.arguments (map (λ c. keys_of (pairs_at old m c)) node.children) × AllByRecursion (IsSummed old is_summary m) node.children = rw is at h in
        all_without (IsSummed old is_summary m) bare.children (suc slot) right (omega (arith, below)) (subst (AllByRecursion (IsSummed old is_summary m)) children_are both.1)

    leads_here : LeadsDown cmp k (insert bare.keys slot s) i
    leads_here = subst (λ ks. LeadsDown cmp k ks i) keys_are leads

    none_leaf : (x : ℕ) → leaf_count old (suc m) (kind.Inner id) x ≡ 0 → total (λ c. leaf_count old m c x) bare.children + leaf_count old m right x ≡ 0
    none_leaf x none = let z = rw is at none in omega (arith, z, count_leaves_old x)

    none_inner : (x : ℕ) → inner_count old (suc m) (kind.Inner id) x ≡ 0 → cond (eqb id.0 x) 1 0 + (total (λ c. inner_count old m c x) bare.children + inner_count old m right x) ≡ 0
    none_inner x none = let z = rw is at none in omega (arith, z, count_inners_old x)

    far_from : (x : ℕ) → inner_count old (suc m) (kind.Inner id) x ≡ 0 → x ≡ id.0 → ⊥
    far_from x none q = let e : eqb id.0 x ≡ true = eq-eqb id.0 x (sym q) in let z = rw e at (none_inner x none) in omega (arith, z)

    kept_leaf : (x : ℕ) → leaf_count old (suc m) (kind.Inner id) x ≡ 0 → IsPresent (old.leaf x) → after.leaf x ≡ old.leaf x
    kept_leaf x none some = leaf_stays x (omega (arith, none_leaf x none, in_total (λ c. leaf_count old m c x) bare.children slot child below)) (omega (arith, none_leaf x none)) some

    pub kept_inner : (x : ℕ) → inner_count old (suc m) (kind.Inner id) x ≡ 0 → IsPresent (old.inner x) → after.inner x ≡ old.inner x
    kept_inner x none some =
        inner_stays x (far_from x none) (omega (arith, none_inner x none, in_total (λ c. inner_count old m c x) bare.children slot child below)) (omega (arith, none_inner x none)) some

    -- the two after the change are trees within the bounds around both
    pub pair_tree : (a : Option K) × (b : Option K) × TreeAfter cmp after m left 16 a b outcome
    pair_tree =
        let u = chain_two total' (IsTree cmp old 16 m) k bare.keys bare.children can.low can.high slot i child right s entry.index.within (old_chain can.low can.high can.least can.tree) below leads_here beside can.fits in
        (u.0, u.1, pair_after u.0 u.1 u.2 u.3 u.4 u.5)

    pub pair_summed : IsSummed old is_summary (suc m) (kind.Inner id) → SummedAfter after m left is_summary outcome
    pair_summed h =
        let each = old_each h in
        rebalances.summed (left_before.summed (every (IsSummed old is_summary m) bare.children slot child each.0 below)) (right_before.summed each.1)

    pub pair_few : length (pairs_after after m left outcome) ≤ length (edit (pairs_at old (suc m) (kind.Inner id)))
    pair_few = rw is
        (omega (
          arith,
          ap length rebalances.pairs,
          ap length pairs_now,
          ap length pairs_unmerged,
          length-append (flat (pairs_at old m) (take slot bare.children)) ((pairs_at now m left ++ pairs_at now m right) ++ flat (pairs_at old m) (drop (suc slot) bare.children)),
          length-append (pairs_at now m left ++ pairs_at now m right) (flat (pairs_at old m) (drop (suc slot) bare.children)),
        ))

    -- the order of the leaves after the change, and their links
    pub record Ordered (leaf' : LeafNodeId) (turn' : Turn) (cs : List NodeId) : Type 0 where
      pub order : Extends (flat (leaves_at old m) node.children) leaf' turn' (flat (leaves_at after m) cs)
      pub links : LinksAt old after leaf' turn'
      pub untouched : (x : LeafNodeId) → (x.0 ≡ leaf'.0 → ⊥) → Spares turn' x.0 → IsPresent (old.leaf x.0) → SameLinks old after x × IsPresent (after.leaf x.0)

  -- each inner node that the two reach is reached once
  pub pair_own : (x : ℕ) → cond (eqb id.0 x) 1 0 + (inner_count now m left x + inner_count now m right x) ≤ stored (now.inner x)
  pair_own x =
      omega (
        arith,
        own_inner x,
        count_inners_old x,
        count_inners_now x,
        (grown_done total' is_summary edit kept old now m id k node i child leaf turn local can is leads read 15 short (omega arith) at).inners x,
        in_total (λ c. inner_count now m c x) bare.children slot child below,
      )

  pub order_now : Extends (flat (leaves_at old m) node.children) leaf turn (flat (leaves_at now m) node.children)
  order_now = (grown_done total' is_summary edit kept old now m id k node i child leaf turn local can is leads read 15 short (omega arith) at).order

  pub order_unmerged : flat (leaves_at now m) node.children ≡ flat (leaves_at old m) (take slot bare.children) ++ ((leaves_at now m left ++ leaves_at now m right) ++ flat (leaves_at old m) (drop (suc slot) bare.children))
  order_unmerged = ap (flat (leaves_at now m)) children_are ∙ flat_around_two (leaves_at old m) (leaves_at now m) bare.children slot child right below (but_so _ _ (λ c x. x.order) bare.children slot others_now)

  module _ (outcome : Outcome K) (rebalances : RebalancesPair cmp is_summary now after m id.0 left s right outcome) where
    pub order_after : flat (leaves_at after m) bare.children ≡ flat (leaves_at old m) (take slot bare.children) ++ (leaves_at after m left ++ flat (leaves_at old m) (drop (suc slot) bare.children))
    order_after = flat_around (leaves_at old m) (leaves_at after m) bare.children slot child below (but_so _ _ (λ c x. x.order) bare.children slot (others_after outcome rebalances))

    pub order_after_two : flat (leaves_at after m) (insert bare.children (suc slot) right) ≡ flat (leaves_at old m) (take slot bare.children) ++ ((leaves_at after m left ++ leaves_at after m right) ++ flat (leaves_at old m) (drop (suc slot) bare.children))
    order_after_two = flat_around_two (leaves_at old m) (leaves_at after m) bare.children slot child right below (but_so _ _ (λ c x. x.order) bare.children slot (others_after outcome rebalances))

    -- the leaves that all children count after the change, from those of the others and of the two
    leaves_so : (x there : ℕ) → there + leaf_count old m left x ≡ total (λ c. leaf_count old m c x) bare.children + leaf_count_after after m left outcome x → there + stored (old.leaf x) ≡ total (λ c. leaf_count old m c x) node.children + stored (after.leaf x)
    leaves_so x there e = omega (arith, e, leaves_now outcome rebalances x, grown outcome rebalances x, count_leaves_now x, rebalances.leaves x)

    inners_so : (x there : ℕ) → (x ≡ id.0 → ⊥) → there + inner_count old m left x ≡ total (λ c. inner_count old m c x) bare.children + inner_count_after after m left outcome x → there + stored (old.inner x) ≡ total (λ c. inner_count old m c x) node.children + stored (after.inner x)
    inners_so x there far e = omega (arith, e, inners_now outcome rebalances x, grown_inners outcome rebalances x, count_inners_now x, rebalances.inners x far)

    none_above : (there : ℕ) → there + inner_count old m left id.0 ≡ total (λ c. inner_count old m c id.0) bare.children + inner_count_after after m left outcome id.0 → there ≡ 0
    none_above there e =
        let own_one = rw (eq-eqb id.0 id.0 refl) at (own_inner id.0) in
        omega (arith, e, own_one, stored_le (old.inner id.0), in_total (λ c. inner_count old m c id.0) bare.children slot child below, rebalances.above)

  -- the inner nodes are counted with the node itself, which is still present
  with_own : (at : Inner K A) → after.inner id.0 ≡ Present at → (there : ℕ → ℕ) → there id.0 ≡ 0 → ((x : ℕ) → (x ≡ id.0 → ⊥) → there x + stored (old.inner x) ≡ total (λ c. inner_count old m c x) node.children + stored (after.inner x))
      → (x : ℕ) → (cond (eqb id.0 x) 1 0 + there x) + stored (old.inner x) ≡ (cond (eqb id.0 x) 1 0 + total (λ c. inner_count old m c x) node.children) + stored (after.inner x)
  with_own at here there none so x =
      elim (eqb_tells id.0 x) [
        | inl h ↦ (rw h.0 (let own_one = rw (eq-eqb id.0 id.0 refl) at (own_inner id.0) in
            let z : stored (after.inner x) ≡ 1 = ap (λ n. stored (after.inner n)) (sym h.1) ∙ ap stored here in
            let y : stored (old.inner x) ≡ 1 = ap (λ n. stored (old.inner n)) (sym h.1) ∙ ap stored is in
            let gone : there x ≡ 0 = subst (λ n. there n ≡ 0) h.1 none in
            let none_old : total (λ c. inner_count old m c x) node.children ≡ 0 = subst (λ n. total (λ c. inner_count old m c n) node.children ≡ 0) h.1 (omega (arith, own_one, stored_le (old.inner id.0), count_inners_old id.0)) in
            omega arith))
        | inr h ↦ (rw h.0 (omega (arith, so x (λ q. h.1 (sym q)))))
      ]

  -- the two merged
  module _ (both : A) (rebalances : RebalancesPair cmp is_summary now after m id.0 left s right Done) (here : after.inner id.0 ≡ Present (with_summary bare slot both)) (reported : is_summary both (keys_of (pairs_at after m left)))
      (most : ℕ) (low : most ≤ length bare.keys) (leaf' : LeafNodeId) (turn' : Turn) (ordered : Ordered Done rebalances leaf' turn' bare.children) where
    merged_chain : (lo hi : Option K) (least : ℕ) → IsTree cmp old least (suc m) (kind.Inner id) lo hi → Within cmp lo hi k → Chain cmp (IsTree cmp after 16 m) bare.keys bare.children lo hi
    merged_chain lo hi least t w =
        chain_merged total' (IsTree cmp old 16 m) (IsTree cmp after 16 m) k bare.keys bare.children lo hi slot i child right s entry.index.within (old_chain Done rebalances lo hi least t) below
        (but_so _ _ (λ c x a b. x.tree 16 a b) bare.children slot (others_after Done rebalances)) (leads_here Done rebalances) beside w (pair_after Done rebalances)

    merged_leaves : (x : ℕ) → total (λ c. leaf_count after m c x) bare.children + stored (old.leaf x) ≡ total (λ c. leaf_count old m c x) node.children + stored (after.leaf x)
    merged_leaves x = leaves_so Done rebalances x _ (total_around (λ c. leaf_count old m c x) (λ c. leaf_count after m c x) bare.children slot child below (but_so _ _ (λ c y. y.leaves x) bare.children slot (others_after Done rebalances)))

    merged_inners : (x : ℕ) → (x ≡ id.0 → ⊥) → total (λ c. inner_count after m c x) bare.children + stored (old.inner x) ≡ total (λ c. inner_count old m c x) node.children + stored (after.inner x)
    merged_inners x far = inners_so Done rebalances x _ far (total_around (λ c. inner_count old m c x) (λ c. inner_count after m c x) bare.children slot child below (but_so _ _ (λ c y. y.inners x) bare.children slot (others_after Done rebalances)))

    merged_above : total (λ c. inner_count after m c id.0) bare.children ≡ 0
    merged_above = none_above Done rebalances _ (total_around (λ c. inner_count old m c id.0) (λ c. inner_count after m c id.0) bare.children slot child below (but_so _ _ (λ c y. y.inners id.0) bare.children slot (others_after Done rebalances)))

    pub node_merged : Edits cmp is_summary edit most old after (suc m) (kind.Inner id) k leaf' turn' Done
    node_merged = record {
      tree = λ least lo hi under t w.
          let sizes = old_sizes Done rebalances lo hi least t in
          rw here (tt, merged_chain lo hi least t w, omega (arith, low), omega (arith, sizes.1, ap length keys_are, length-insert bare.keys slot s entry.index.within));
      pairs = rw (here, is)
          (flat_around (pairs_at old m) (pairs_at after m) bare.children slot child below (but_so _ _ (λ c x. x.pairs) bare.children slot (others_after Done rebalances))
          ∙ (ap (λ l. flat (pairs_at old m) (take slot bare.children) ++ (l ++ flat (pairs_at old m) (drop (suc slot) bare.children))) rebalances.pairs
          ∙ (sym (pairs_unmerged Done rebalances) ∙ pairs_now Done rebalances)));
      leaves = λ x. rw (here, is) (merged_leaves x);
      inners = λ x. rw (here, is) (with_own (with_summary bare slot both) here (λ n. total (λ c. inner_count after m c n) bare.children) merged_above merged_inners x);
      other_leaves = kept_leaf Done rebalances;
      other_inners = kept_inner Done rebalances;
      order = rw (here, is) ordered.order;
      links = ordered.links;
      untouched = ordered.untouched;
      summed = λ h.
          let each = old_each Done rebalances h in
          rw here (
            zip_around is_summary (λ c. keys_of (pairs_at old m c)) (λ c. keys_of (pairs_at after m c)) bare.arguments bare.children slot child both below (old_zip Done rebalances h) (but_so _ _ (λ c x. ap keys_of x.pairs) bare.children slot (others_after Done rebalances)) reported,
            each_around (IsSummed old is_summary m) (IsSummed after is_summary m) bare.children slot child below (but_so _ _ (λ c x. x.summed) bare.children slot (others_after Done rebalances))
                (λ l. rebalances.summed (left_before.summed l) (right_before.summed each.1)) each.0,
          );
    }

  -- the two became two others
  module _ (l r : A) (up : K) (rebalances : RebalancesPair cmp is_summary now after m id.0 left s right (Split up right)) (here : after.inner id.0 ≡ Present (with_split bare slot l up right r))
      (left_told : is_summary l (keys_of (pairs_at after m left))) (right_told : is_summary r (keys_of (pairs_at after m right))) (most : ℕ) (leaf' : LeafNodeId) (turn' : Turn) (ordered : Ordered (Split up right) rebalances leaf' turn' (insert bare.children (suc slot) right)) where
    here_is : after.inner id.0 ≡ Present (record { keys = insert bare.keys slot up; children = insert bare.children (suc slot) right; arguments = insert (slice_set bare.arguments slot l) (suc slot) r })
    here_is = here ∙ rw add-one refl

    rotated_chain : (lo hi : Option K) (least : ℕ) → IsTree cmp old least (suc m) (kind.Inner id) lo hi → Within cmp lo hi k → Chain cmp (IsTree cmp after 16 m) (insert bare.keys slot up) (insert bare.children (suc slot) right) lo hi
    rotated_chain lo hi least t w =
        chain_rotated total' (IsTree cmp old 16 m) (IsTree cmp after 16 m) k bare.keys bare.children lo hi slot i child right s up entry.index.within (old_chain (Split up right) rebalances lo hi least t) below
        (but_so _ _ (λ c x a b. x.tree 16 a b) bare.children slot (others_after (Split up right) rebalances)) (leads_here (Split up right) rebalances) beside w (pair_after (Split up right) rebalances)

    rotated_leaves : (x : ℕ) → total (λ c. leaf_count after m c x) (insert bare.children (suc slot) right) + stored (old.leaf x) ≡ total (λ c. leaf_count old m c x) node.children + stored (after.leaf x)
    rotated_leaves x = leaves_so (Split up right) rebalances x _ (total_around_two (λ c. leaf_count old m c x) (λ c. leaf_count after m c x) bare.children slot child right below (but_so _ _ (λ c y. y.leaves x) bare.children slot (others_after (Split up right) rebalances)))

    rotated_inners : (x : ℕ) → (x ≡ id.0 → ⊥) → total (λ c. inner_count after m c x) (insert bare.children (suc slot) right) + stored (old.inner x) ≡ total (λ c. inner_count old m c x) node.children + stored (after.inner x)
    rotated_inners x far = inners_so (Split up right) rebalances x _ far (total_around_two (λ c. inner_count old m c x) (λ c. inner_count after m c x) bare.children slot child right below (but_so _ _ (λ c y. y.inners x) bare.children slot (others_after (Split up right) rebalances)))

    rotated_above : total (λ c. inner_count after m c id.0) (insert bare.children (suc slot) right) ≡ 0
    rotated_above = none_above (Split up right) rebalances _ (total_around_two (λ c. inner_count old m c id.0) (λ c. inner_count after m c id.0) bare.children slot child right below (but_so _ _ (λ c y. y.inners id.0) bare.children slot (others_after (Split up right) rebalances)))

    pub node_rotated : Edits cmp is_summary edit most old after (suc m) (kind.Inner id) k leaf' turn' Done
    node_rotated = record {
      tree = λ least lo hi under t w.
          let sizes = old_sizes (Split up right) rebalances lo hi least t in
          let wide : length (insert bare.keys slot up) ≡ length node.keys = length-insert bare.keys slot up entry.index.within ∙ sym (ap length keys_are ∙ length-insert bare.keys slot s entry.index.within) in
          rw here_is (tt, rotated_chain lo hi least t w, omega (arith, sizes.0, wide), omega (arith, sizes.1, wide));
      pairs = rw (here_is, is)
          (flat_around_two (pairs_at old m) (pairs_at after m) bare.children slot child right below (but_so _ _ (λ c x. x.pairs) bare.children slot (others_after (Split up right) rebalances))
          ∙ (ap (λ l. flat (pairs_at old m) (take slot bare.children) ++ (l ++ flat (pairs_at old m) (drop (suc slot) bare.children))) rebalances.pairs
          ∙ (sym (pairs_unmerged (Split up right) rebalances) ∙ pairs_now (Split up right) rebalances)));
      leaves = λ x. rw (here_is, is) (rotated_leaves x);
      inners = λ x. rw (here_is, is) (with_own (with_split bare slot l up right r) here (λ n. total (λ c. inner_count after m c n) (insert bare.children (suc slot) right)) rotated_above rotated_inners x);
      other_leaves = kept_leaf (Split up right) rebalances;
      other_inners = kept_inner (Split up right) rebalances;
      order = rw (here_is, is) ordered.order;
      links = ordered.links;
      untouched = ordered.untouched;
      summed = λ h.
          let each = old_each (Split up right) rebalances h in
          rw here_is (
            zip_around_two is_summary (λ c. keys_of (pairs_at old m c)) (λ c. keys_of (pairs_at after m c)) bare.arguments bare.children slot child right l r below (old_zip (Split up right) rebalances h)
                (but_so _ _ (λ c x. ap keys_of x.pairs) bare.children slot (others_after (Split up right) rebalances)) left_told right_told,
            each_around_two (IsSummed old is_summary m) (IsSummed after is_summary m) bare.children slot child right below (but_so _ _ (λ c x. x.summed) bare.children slot (others_after (Split up right) rebalances))
                (λ l. rebalances.summed (left_before.summed l) (right_before.summed each.1)) each.0,
          );
    }
