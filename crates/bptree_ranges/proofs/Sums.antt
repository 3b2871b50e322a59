-- The keys between two ends, by the children of a node that the ends lead to, and their summaries.
use Rattle.std.proofs.Common.{◌≡◌, ℕ, zero, suc, ◌+◌, ◌-◌, ◌<◌, ◌≤◌, ◌^◌, min, ◌⊎◌, inl, inr, Bool, true, false, not, ◌&&◌, cond, List, [], ◌∷◌, ◌++◌, length, filter, take, drop, refl, sym, ap, subst, ◌∙◌, arith, Option, Some, None, Result, Ok, Err, IfOk, slice_get, length-append, append-nil, length-drop}
use mathlib.Core.Bool.{true≢false}
use Rattle.std.specs.declared.cmp.Ordering.{Ordering}
use Rattle.std.specs.declared.cmp.Ordering.TheVariants.{Less, Equal, Greater}
use Rattle.std.specs.Ordering.{is_lt}
use Rattle.std.specs.Cmp.{IsTotalOrder}
use Rattle.std.specs.List.{AllByRecursion, AllZip, slice_range, sum_by}
use Rattle.std.specs.List.Sorted.{IsSearchInRange, IsStrictlySortedBy}
use Rattle.std.specs.Map.{keys_of}
use Rattle.std.proofs.lemmas.List.{length-map, length-take-le, take-append-drop}
use Rattle.std.proofs.lemmas.List.Elements.{filter-append}
use Rattle.std.proofs.lemmas.List.Kept.{IsStrictlySortedBy-filter}
use Rattle.std.proofs.lemmas.Map.Entries.{length-keys_of}
use Rattle.std.proofs.lemmas.Option.{get_or_from_slice_get}
use Rattle.std.proofs.lemmas.Result.{IfOk-weaker}
use Rattle.std.proofs.lemmas.Slice.{between_to_end, between_from_start}
use Rattle.bptree_arguments.proofs.CountLemmas.{sum_by-lengths}
use Rattle.bptree_keys.specs.Contents.{IsAscending, pairs_below}
use Rattle.bptree_keys.specs.Pieces.{flatten, AllNonEmpty, ArePieces}
use Rattle.bptree_keys.specs.Indexes.{AllCompare, IsIndexOf}
use Rattle.bptree_keys.specs.Ranges.{between, falls_short, stays_below}
use Rattle.bptree_keys.specs.declared.node_id.InnerNodeId.{InnerNodeId}
use Rattle.bptree_keys.specs.declared.node_id.LeafNodeId.{LeafNodeId}
use Rattle.bptree_keys.specs.declared.node_id.NodeId.{NodeId}
use Rattle.bptree_keys.specs.declared.node_id.NodeId.TheVariants as kind
use Rattle.bptree_keys.proofs.Ascending.{greater_turned}
use Rattle.bptree_keys.proofs.PieceLemmas.{AllZip-take, AllZip-length, AllByRecursion-weaker, pieces_part, sorted_right}
use Rattle.bptree_nodes.specs.Inner.{Inner, LeadsToChild}
use Rattle.bptree_nodes.specs.Leaf.{Leaf}
use Rattle.bptree_nodes.specs.LeafResults.{index_of_result}
use Rattle.bptree_nodes.specs.Slot.{Slot, Slots, Present}
use Rattle.bptree_ranges.specs.Summaries.{SumsUpSome, SumsUpRange, SumsUpBoth}
use Rattle.bptree_invariant.specs.Order.{flat, Within, Chain, LeadsDown}
use Rattle.bptree_invariant.specs.Shape.{inner_keys, inner_children, pairs_at, IsTree}
use Rattle.bptree_invariant.proofs.Between.{none_pass, all_pass, between_is, between_none, no_key}
use Rattle.bptree_invariant.proofs.NodePieces.{keys-append, keys_of_flat, keys_take, keys_drop}
use Rattle.bptree_invariant.proofs.Ordered.{less_then_up}
use Rattle.bptree_invariant.proofs.Walk.{flat_parts, chain_inside, chain_smaller, chain_greater, tree_inside, tree_ascends}
use Rattle.bptree_search.specs.ByArgument.{IsSubtree}
use Rattle.bptree_search.proofs.Beside.{before_index, below_upto, index_within}
use Rattle.bptree_search.specs.Neighbours.{beside}
use Rattle.bptree_search.proofs.Child.{IsChildAt, IsNodeAt, leads}
use Rattle.bptree_search.proofs.Summed.{pieces, summaries, whole, down, are_pieces, leaf_whole, leaf_sorted}

and_false : (b : Bool) → (b && false) ≡ false
and_false true = refl
and_false false = refl

module _ {X : Type 0} where
  same_filter : (t u : X → Bool) (l : List X) → AllByRecursion (λ x. t x ≡ u x) l → filter t l ≡ filter u l
  same_filter t u [] all = refl
  same_filter t u (x ∷ l) all = ap (λ b. cond b (x ∷ filter t l) (filter t l)) all.0 ∙ ap (λ rest. cond (u x) (x ∷ rest) rest) (same_filter t u l all.1)

  every_kept : (t : X → Bool) (l : List X) → AllByRecursion (λ x. t x ≡ true) l → filter t l ≡ l
  every_kept t [] all = refl
  every_kept t (x ∷ l) all = rw all.0 (ap (λ more. x ∷ more) (every_kept t l all.1))

  pub filter_few : (t : X → Bool) (l : List X) → length (filter t l) ≤ length l
  filter_few t [] = omega arith
  filter_few t (x ∷ l) = by (t x) (filter_few t l)
    where
      by : (b : Bool) → length (filter t l) ≤ length l → length (cond b (x ∷ filter t l) (filter t l)) ≤ length (x ∷ l)
      by true few = omega arith
      by false few = omega arith

filter_keys : {K V : Type 0} (t : K → Bool) (l : List (K × V)) → keys_of (filter (λ (p : K × V). t p.0) l) ≡ filter t (keys_of l)
filter_keys t [] = refl
filter_keys {K} {V} t (p ∷ l) = by (t p.0) (filter_keys t l)
  where
    by : (b : Bool) → keys_of (filter (λ (p : K × V). t p.0) l) ≡ filter t (keys_of l) → keys_of (cond b (p ∷ filter (λ (p : K × V). t p.0) l) (filter (λ (p : K × V). t p.0) l)) ≡ cond b (p.0 ∷ filter t (keys_of l)) (filter t (keys_of l))
    by true e = ap (λ rest. p.0 ∷ rest) e
    by false e = e

pub keys_of_take : {K V : Type 0} (n : ℕ) (l : List (K × V)) → keys_of (take n l) ≡ take n (keys_of l)
keys_of_take zero l = refl
keys_of_take (suc n) [] = refl
keys_of_take (suc n) (p ∷ l) = ap (λ rest. p.0 ∷ rest) (keys_of_take n l)

pub keys_of_drop : {K V : Type 0} (n : ℕ) (l : List (K × V)) → keys_of (drop n l) ≡ drop n (keys_of l)
keys_of_drop zero l = refl
keys_of_drop (suc n) [] = refl
keys_of_drop (suc n) (p ∷ l) = keys_of_drop n l

AllZip-drop : {X Y : Type 0} (R : X → Y → Type 0) (n : ℕ) (xs : List X) (ys : List Y) → AllZip R xs ys → AllZip R (drop n xs) (drop n ys)
AllZip-drop R zero xs ys h = h
AllZip-drop R (suc n) [] [] h = tt
AllZip-drop R (suc n) [] (y ∷ ys) h = absurd h
AllZip-drop R (suc n) (x ∷ xs) [] h = absurd h
AllZip-drop R (suc n) (x ∷ xs) (y ∷ ys) h = AllZip-drop R n xs ys h.1

AllZip-weaker : {X Y : Type 0} (P Q : X → Y → Type 0) → ((x : X) (y : Y) → P x y → Q x y) → (xs : List X) (ys : List Y) → AllZip P xs ys → AllZip Q xs ys
AllZip-weaker P Q weaker [] [] all = tt
AllZip-weaker P Q weaker [] (y ∷ ys) all = absurd all
AllZip-weaker P Q weaker (x ∷ xs) [] all = absurd all
AllZip-weaker P Q weaker (x ∷ xs) (y ∷ ys) all = (weaker x y all.0, AllZip-weaker P Q weaker xs ys all.1)

flatten_some : {X : Type 0} (ps : List (List X)) → AllNonEmpty ps → 0 < length ps → 0 < length (flatten ps)
flatten_some [] all some = absurd (omega arith)
flatten_some (p ∷ ps) all some = omega (arith, all.0, length-append p (flatten ps))

pub two_pushed : {X : Type 0} (none one two both : List X) (x y : X) → none ≡ [] → one ≡ none ++ x ∷ [] → two ≡ one ++ y ∷ [] → both ≡ two → both ≡ x ∷ y ∷ []
two_pushed none one two both x y a b c d = d ∙ (c ∙ ap (λ l. l ++ y ∷ []) (b ∙ ap (λ l. l ++ x ∷ []) a))

module _ {K A : Type 0} {cmp : K → K → Ordering} (is_summary : A → List K → Type 0) (a : A) where
  -- the law of summaries gives a summary of some of the pieces
  pub range_summed : (arguments : List A) (from to : ℕ) → to ≤ length arguments → from < to → ((ps : List (List K)) → ArePieces cmp ps → AllZip is_summary (slice_range arguments from to) ps → is_summary a (flatten ps))
      → (pieces : List (List K)) → ArePieces cmp pieces → AllZip is_summary arguments pieces → (0 < length (flatten (slice_range pieces from to))) × is_summary a (flatten (slice_range pieces from to))
  range_summed arguments from to within less law pieces are zip =
      let behind = (pieces_part cmp (take from pieces) (drop from pieces) (subst (ArePieces cmp) (sym (take-append-drop from pieces)) are)).1 in
      let there : ArePieces cmp (slice_range pieces from to) = (pieces_part cmp (take (to - from) (drop from pieces)) (drop (to - from) (drop from pieces)) (subst (ArePieces cmp) (sym (take-append-drop (to - from) (drop from pieces))) behind)).0 in
      let zip' : AllZip is_summary (slice_range arguments from to) (slice_range pieces from to) = AllZip-take is_summary (to - from) (drop from arguments) (drop from pieces) (AllZip-drop is_summary from arguments pieces zip) in
      let fewer : to - from ≤ length (drop from arguments) = omega (arith, length-drop from arguments) in
      let many : 0 < length (slice_range pieces from to) = omega (arith, AllZip-length is_summary (slice_range arguments from to) (slice_range pieces from to) zip', length-take-le (to - from) (drop from arguments) fewer) in
      (flatten_some (slice_range pieces from to) there.nonempty many, law (slice_range pieces from to) there zip')

  -- the law of summaries gives a summary of two lists, one before the other
  pub both_summed : (first second : Option A) (one other : A) → first ≡ Some one → second ≡ Some other → (both : List A) → both ≡ one ∷ other ∷ [] → ((ps : List (List K)) → ArePieces cmp ps → AllZip is_summary both ps → is_summary a (flatten ps))
      → (front back : List K) → IsStrictlySortedBy cmp (front ++ back) → length (front ++ back) < 2 ^ 64 → SumsUpSome is_summary front first → SumsUpSome is_summary back second → (0 < length (front ++ back)) × is_summary a (front ++ back)
  both_summed first second one other is is' both are law front back sorted fits here there =
      let here' = subst (SumsUpSome is_summary front) is here in
      let there' = subst (SumsUpSome is_summary back) is' there in
      let whole' : front ++ (back ++ []) ≡ front ++ back = ap (λ l. front ++ l) (append-nil back) in
      let ps : ArePieces cmp (front ∷ back ∷ []) = record { nonempty = (here'.0, (there'.0, tt)); ascending = subst (IsStrictlySortedBy cmp) (sym whole') sorted; fits = subst (λ l. length l < 2 ^ 64) (sym whole') fits } in
      let zip : AllZip is_summary both (front ∷ back ∷ []) = subst (λ l. AllZip is_summary l (front ∷ back ∷ [])) (sym are) (here'.1, (there'.1, tt)) in (
        omega (arith, here'.0, length-append front back),
        subst (is_summary a) whole' (law (front ∷ back ∷ []) ps zip),
      )

pub smaller_within : (index : Result ℕ ℕ) (n m : ℕ) → m ≡ beside index false → IsSearchInRange index n → m ≤ n
smaller_within (Ok i) n m reported within = omega (arith, reported, within)
smaller_within (Err i) n m reported within = omega (arith, reported, within)

module _ {K V : Type 0} {cmp : K → K → Ordering} (total : IsTotalOrder cmp) where
  -- the index beside a key is the number of smaller keys
  pub smaller_of : (k : K) (l : List (K × V)) (index : Result ℕ ℕ) (n : ℕ) → n ≡ beside index false → IsAscending cmp l → IsIndexOf cmp l k index → n ≡ length (pairs_below cmp l k)
  smaller_of k l index n reported ascending is =
      reported ∙ before_index index ∙ sym (ap length (below_upto cmp total l ascending k index is) ∙ length-take-le (index_of_result index) l (index_within cmp total l ascending k index is))

  sorted_part : (l : List (K × V)) (lo hi : Option K) → IsAscending cmp l → IsStrictlySortedBy cmp (keys_of (between cmp l lo hi))
  sorted_part l lo hi ascending =
      let t = λ (k : K). not (falls_short cmp lo k) && stays_below cmp hi k in
      subst (IsStrictlySortedBy cmp) (sym (filter_keys t l)) (IsStrictlySortedBy-filter cmp t (keys_of l) ascending)

  module _ (l : List (K × V)) (lo hi : Option K) (i j : ℕ) (ascending : IsAscending cmp l) (short : i ≡ length (filter (λ (p : K × V). falls_short cmp lo p.0) l)) (below : j ≡ length (filter (λ (p : K × V). stays_below cmp hi p.0) l)) where
    pub none_in_leaf : j ≤ i → keys_of (between cmp l lo hi) ≡ []
    none_in_leaf less = let n : j - i ≡ 0 = omega arith in ap keys_of (between_is total l lo hi i j ascending short below) ∙ rw n refl

    pub some_in_leaf : {A : Type 0} (is_summary : A → List K → Type 0) (a : A) (keys : List K) → keys ≡ keys_of l → i < j → j ≤ length l → (0 < length (slice_range keys i j) → IsStrictlySortedBy cmp (slice_range keys i j) → is_summary a (slice_range keys i j))
        → (0 < length (keys_of (between cmp l lo hi))) × is_summary a (keys_of (between cmp l lo hi))
    some_in_leaf is_summary a keys is less within law =
        let cut : keys_of (between cmp l lo hi) ≡ slice_range keys i j =
        ap keys_of (between_is total l lo hi i j ascending short below)
        ∙ (keys_of_take (j - i) (drop i l) ∙ (ap (take (j - i)) (keys_of_drop i l) ∙ ap (λ k. slice_range k i j) (sym is))) in
        let fewer : j - i ≤ length (drop i keys) = omega (arith, length-drop i keys, ap length is, length-keys_of l) in
        let long : 0 < length (slice_range keys i j) = omega (arith, length-take-le (j - i) (drop i keys) fewer) in
        let sorted = subst (IsStrictlySortedBy cmp) cut (sorted_part l lo hi ascending) in
        (subst (λ k. 0 < length k) (sym cut) long, subst (is_summary a) (sym cut) (law long sorted))

-- the pairs between two ends, of parts that are on one side of an end or of both
module _ {K V : Type 0} (cmp : K → K → Ordering) where
  abbrev test : Option K → Option K → K × V → Bool
  test lo hi p = not (falls_short cmp lo p.0) && stays_below cmp hi p.0

  none_before : (lo : K) (hi : Option K) (l : List (K × V)) → AllCompare cmp lo Less l → between cmp l (Some lo) hi ≡ []
  none_before lo hi l all = none_pass (test (Some lo) hi) l (AllByRecursion-weaker (λ p. cmp p.0 lo ≡ Less) (λ p. test (Some lo) hi p ≡ false) (λ p less. ap (λ o. not (is_lt o) && stays_below cmp hi p.0) less) l all)

  none_behind : (lo : Option K) (hi : K) (l : List (K × V)) → AllCompare cmp hi Greater l → between cmp l lo (Some hi) ≡ []
  none_behind lo hi l all =
      none_pass (test lo (Some hi)) l
      (AllByRecursion-weaker (λ p. cmp p.0 hi ≡ Greater) (λ p. test lo (Some hi) p ≡ false) (λ p more. ap (λ o. not (falls_short cmp lo p.0) && is_lt o) more ∙ and_false (not (falls_short cmp lo p.0))) l all)

  no_lower : (lo : K) (hi : Option K) (l : List (K × V)) → AllCompare cmp lo Greater l → between cmp l (Some lo) hi ≡ between cmp l None hi
  no_lower lo hi l all = same_filter (test (Some lo) hi) (test None hi) l (AllByRecursion-weaker (λ p. cmp p.0 lo ≡ Greater) (λ p. test (Some lo) hi p ≡ test None hi p) (λ p more. ap (λ o. not (is_lt o) && stays_below cmp hi p.0) more) l all)

  no_upper : (lo : Option K) (hi : K) (l : List (K × V)) → AllCompare cmp hi Less l → between cmp l lo (Some hi) ≡ between cmp l lo None
  no_upper lo hi l all = same_filter (test lo (Some hi)) (test lo None) l (AllByRecursion-weaker (λ p. cmp p.0 hi ≡ Less) (λ p. test lo (Some hi) p ≡ test lo None p) (λ p less. ap (λ o. not (falls_short cmp lo p.0) && is_lt o) less) l all)

  pub no_ends : (l : List (K × V)) → between cmp l None None ≡ l
  no_ends l = all_pass (test None None) l (λ p. refl)

  between-append : (lo hi : Option K) (xs ys : List (K × V)) → between cmp (xs ++ ys) lo hi ≡ between cmp xs lo hi ++ between cmp ys lo hi
  between-append lo hi xs ys = filter-append (test lo hi) xs ys

  from_parts : (lo : K) (a c b : List (K × V)) → AllCompare cmp lo Less a → AllCompare cmp lo Greater b → between cmp (a ++ (c ++ b)) (Some lo) None ≡ between cmp c (Some lo) None ++ b
  from_parts lo a c b low high =
      between-append (Some lo) None a (c ++ b)
      ∙ (ap (λ l. l ++ between cmp (c ++ b) (Some lo) None) (none_before lo None a low)
      ∙ (between-append (Some lo) None c b ∙ ap (λ l. between cmp c (Some lo) None ++ l) (no_lower lo None b high ∙ no_ends b)))

  upto_parts : (hi : K) (a c b : List (K × V)) → AllCompare cmp hi Less a → AllCompare cmp hi Greater b → between cmp (a ++ (c ++ b)) None (Some hi) ≡ a ++ between cmp c None (Some hi)
  upto_parts hi a c b low high =
      between-append None (Some hi) a (c ++ b)
      ∙ (ap (λ l. l ++ between cmp (c ++ b) None (Some hi)) (no_upper None hi a low ∙ no_ends a)
      ∙ ap (λ l. a ++ l) (between-append None (Some hi) c b ∙ (ap (λ l. between cmp c None (Some hi) ++ l) (none_behind None hi b high) ∙ append-nil (between cmp c None (Some hi)))))

  one_part : (lo hi : K) (a c b : List (K × V)) → AllCompare cmp lo Less a → AllCompare cmp hi Greater b → between cmp (a ++ (c ++ b)) (Some lo) (Some hi) ≡ between cmp c (Some lo) (Some hi)
  one_part lo hi a c b low high =
      between-append (Some lo) (Some hi) a (c ++ b)
      ∙ (ap (λ l. l ++ between cmp (c ++ b) (Some lo) (Some hi)) (none_before lo (Some hi) a low)
      ∙ (between-append (Some lo) (Some hi) c b ∙ (ap (λ l. between cmp c (Some lo) (Some hi) ++ l) (none_behind (Some lo) hi b high) ∙ append-nil (between cmp c (Some lo) (Some hi)))))

module _ {K : Type 0} {cmp : K → K → Ordering} (total : IsTotalOrder cmp) (lo hi : K) (apart : cmp lo hi ≡ Less) where
  -- the smaller of two keys leads to no later child than the other
  leads_rise : (ks : List K) (i j : ℕ) → LeadsDown cmp lo ks i → LeadsDown cmp hi ks j → i ≤ j
  leads_rise [] i j at to = omega (arith, at)
  leads_rise (s ∷ ss) zero j at to = omega arith
  leads_rise (s ∷ ss) (suc i) zero at to = absurd (true≢false (sym (ap is_lt (total.trans lo hi s apart to)) ∙ at.0))
  leads_rise (s ∷ ss) (suc i) (suc j) at to = omega (arith, leads_rise ss i j at.1 to.1)

module _ {C K V : Type 0} {cmp : K → K → Ordering} (total : IsTotalOrder cmp) (f : C → List (K × V)) (P : C → Option K → Option K → Type 0) (inside : (c : C) (lo hi : Option K) → P c lo hi → AllByRecursion (λ p. Within cmp lo hi p.0) (f c)) where
  cut_at : (cs : List C) (i : ℕ) (child : C) → i < length cs → slice_get cs i ≡ Some child → flat f cs ≡ flat f (take i cs) ++ (f child ++ flat f (drop (suc i) cs))
  cut_at cs i child within read =
      flat_parts f cs i child within ∙ ap (λ c. flat f (take i cs) ++ (f c ++ flat f (drop (suc i) cs))) (get_or_from_slice_get cs i child child read)

  module _ (ks : List K) (cs : List C) (low high : Option K) (chain : Chain cmp P ks cs low high) where
    from_chain : (lo : K) (i : ℕ) (child : C) → LeadsDown cmp lo ks i → i < length cs → slice_get cs i ≡ Some child → between cmp (flat f cs) (Some lo) None ≡ between cmp (f child) (Some lo) None ++ flat f (drop (suc i) cs)
    from_chain lo i child leads within read =
        ap (λ l. between cmp l (Some lo) None) (cut_at cs i child within read)
        ∙ from_parts cmp lo (flat f (take i cs)) (f child) (flat f (drop (suc i) cs)) (chain_smaller total f P inside lo ks cs low high i chain leads) (chain_greater total f P inside lo ks cs low high i chain leads)

    upto_chain : (hi : K) (i : ℕ) (child : C) → LeadsDown cmp hi ks i → i < length cs → slice_get cs i ≡ Some child → between cmp (flat f cs) None (Some hi) ≡ flat f (take i cs) ++ between cmp (f child) None (Some hi)
    upto_chain hi i child leads within read =
        ap (λ l. between cmp l None (Some hi)) (cut_at cs i child within read)
        ∙ upto_parts cmp hi (flat f (take i cs)) (f child) (flat f (drop (suc i) cs)) (chain_smaller total f P inside hi ks cs low high i chain leads) (chain_greater total f P inside hi ks cs low high i chain leads)

    one_chain : (lo hi : K) (i : ℕ) (child : C) → LeadsDown cmp lo ks i → LeadsDown cmp hi ks i → i < length cs → slice_get cs i ≡ Some child → between cmp (flat f cs) (Some lo) (Some hi) ≡ between cmp (f child) (Some lo) (Some hi)
    one_chain lo hi i child leads leads' within read =
        ap (λ l. between cmp l (Some lo) (Some hi)) (cut_at cs i child within read)
        ∙ one_part cmp lo hi (flat f (take i cs)) (f child) (flat f (drop (suc i) cs)) (chain_smaller total f P inside lo ks cs low high i chain leads) (chain_greater total f P inside hi ks cs low high i chain leads')

  -- if the ends lead to two children, the pairs between the ends are those of the first from the
  -- lower end on, all of the children between the two, and those of the second up to the upper end
  within_chain : (lo hi : K) (ks : List K) (cs : List C) (low high : Option K) (i j : ℕ) (first last : C) → Chain cmp P ks cs low high → LeadsDown cmp lo ks i → LeadsDown cmp hi ks j → i < j → j < length cs → slice_get cs i ≡ Some first → slice_get cs j ≡ Some last
      → between cmp (flat f cs) (Some lo) (Some hi) ≡ between cmp (f first) (Some lo) None ++ (flat f (slice_range cs (suc i) j) ++ between cmp (f last) None (Some hi))
  within_chain lo hi ks [] low high i j first last chain at to less within r r' = absurd chain
  within_chain lo hi [] (c ∷ []) low high i j first last chain at to less within r r' = absurd (omega (arith, to))
  within_chain lo hi [] (c ∷ d ∷ cs) low high i j first last chain at to less within r r' = absurd chain
  within_chain lo hi (s ∷ ss) (c ∷ cs) low high i zero first last chain at to less within r r' = absurd (omega arith)
  within_chain lo hi (s ∷ ss) (c ∷ cs) low high zero (suc j) first last chain at to less within r r' =
      let same : c ≡ first = cc in
      let n : suc j - 1 ≡ j = omega arith in
      let below : AllCompare cmp hi Less (f c) = AllByRecursion-weaker _ _ (λ p w. less_then_up total p.0 s hi w.1 to.0) (f c) (inside c low (Some s) chain.0) in
      let above : AllCompare cmp lo Greater (flat f cs) =
      AllByRecursion-weaker _ _ (λ p w. greater_turned cmp total lo p.0 (less_then_up total lo s p.0 at w.0)) (flat f cs) (chain_inside total f P inside ss cs (Some s) high chain.2) in
      rw (n, ← same)
      (between-append cmp (Some lo) (Some hi) (f c) (flat f cs)
      ∙ (ap (λ l. l ++ between cmp (flat f cs) (Some lo) (Some hi)) (no_upper cmp (Some lo) hi (f c) below)
      ∙ ap (λ l. between cmp (f c) (Some lo) None ++ l) (no_lower cmp lo (Some hi) (flat f cs) above ∙ upto_chain ss cs (Some s) high chain.2 hi j last to.1 (omega arith) r')))
  within_chain lo hi (s ∷ ss) (c ∷ cs) low high (suc i) (suc j) first last chain at to less within r r' =
      let n : suc j - suc (suc i) ≡ j - suc i = omega arith in
      let before : AllCompare cmp lo Less (f c) = AllByRecursion-weaker _ _ (λ p w. less_then_up total p.0 s lo w.1 at.0) (f c) (inside c low (Some s) chain.0) in
      rw n
      (between-append cmp (Some lo) (Some hi) (f c) (flat f cs)
      ∙ (ap (λ l. l ++ between cmp (flat f cs) (Some lo) (Some hi)) (none_before cmp lo (Some hi) (f c) before)
      ∙ within_chain lo hi ss cs (Some s) high i j first last chain.2 at.1 to.1 (omega arith) (omega arith) r r'))

module _ {K V A : Type 0} {cmp : K → K → Ordering} (total : IsTotalOrder cmp) (is_summary : A → List K → Type 0) (slots : Slots (Inner K A) (Leaf K V)) where
  -- the keys between two ends ascend, and their number fits
  sorted_between : (h : ℕ) (id : NodeId) → IsSubtree cmp is_summary slots h id → (lo hi : Option K) → IsStrictlySortedBy cmp (keys_of (between cmp (pairs_at slots h id) lo hi))
  sorted_between h id s lo hi = sorted_part total (pairs_at slots h id) lo hi (tree_ascends total slots s.stored.least h id s.stored.low s.stored.high s.stored.tree)

  fits_between : (h : ℕ) (id : NodeId) → IsSubtree cmp is_summary slots h id → (lo hi : Option K) → length (keys_of (between cmp (pairs_at slots h id) lo hi)) < 2 ^ 64
  fits_between h id s lo hi = omega (arith, s.fits, length-keys_of (between cmp (pairs_at slots h id) lo hi), filter_few (test cmp lo hi) (pairs_at slots h id))

  module _ (h : ℕ) (id : InnerNodeId) (node : Inner K A) (s : IsSubtree cmp is_summary slots (suc h) (kind.Inner id)) (e : slots.inner id.0 ≡ Present node) (arguments : List A) (is : arguments ≡ node.arguments) where
    abbrev f : NodeId → List (K × V)
    f c = pairs_at slots h c

    abbrev cs : List NodeId
    cs = node.children

    abbrev ps : List (List K)
    ps = pieces total is_summary slots h id node s e

    abbrev all : List (K × V)
    all = pairs_at slots (suc h) (kind.Inner id)

    chain : Chain cmp (IsTree cmp slots 16 h) node.keys node.children s.stored.low s.stored.high
    chain = subst (λ (x : Slot (Inner K A)). Chain cmp (IsTree cmp slots 16 h) (inner_keys x) (inner_children x) s.stored.low s.stored.high) e s.stored.tree.1

    inside : (c : NodeId) (a b : Option K) → IsTree cmp slots 16 h c a b → AllByRecursion (λ p. Within cmp a b p.0) (f c)
    inside c a b u = tree_inside total slots 16 h c a b u

    zipped : AllZip is_summary arguments ps
    zipped = subst (λ l. AllZip is_summary l ps) (sym is) (summaries total is_summary slots h id node s e)

    as_many : length arguments ≡ length node.children
    as_many = AllZip-length is_summary arguments ps zipped ∙ length-map node.children (λ c. keys_of (f c))

    keys_range : (i j : ℕ) → keys_of (flat (λ c. f c) (slice_range node.children i j)) ≡ flatten (slice_range ps i j)
    keys_range i j =
        keys_of_flat (λ c. f c) (slice_range node.children i j)
        ∙ ap flatten (sym (ap (take (j - i)) (keys_drop (λ c. f c) node.children i) ∙ keys_take (λ c. f c) (drop i node.children) (j - i)))

    -- a summary of the pairs below the children from one index up to another
    summed_range : (i j : ℕ) (found : Option A) → SumsUpRange is_summary cmp arguments i j found → SumsUpSome is_summary (keys_of (flat (λ c. f c) (slice_range node.children i j))) found
    summed_range i j found clause = subst (λ keys. SumsUpSome is_summary keys found) (sym (keys_range i j)) (clause ps (are_pieces total is_summary slots h id node s e) zipped)

    joined : (lo hi : Option K) (front back : List (K × V)) → between cmp all lo hi ≡ front ++ back → (first second found : Option A) → SumsUpSome is_summary (keys_of front) first → SumsUpSome is_summary (keys_of back) second → SumsUpBoth is_summary cmp first second found
        → SumsUpSome is_summary (keys_of (between cmp all lo hi)) found
    joined lo hi front back cut first second found one other both =
        let same : keys_of (between cmp all lo hi) ≡ keys_of front ++ keys_of back = ap keys_of cut ∙ keys-append front back in
        subst (λ keys. SumsUpSome is_summary keys found) (sym same)
        (both (keys_of front) (keys_of back) (subst (IsStrictlySortedBy cmp) same (sorted_between (suc h) (kind.Inner id) s lo hi)) (subst (λ l. length l < 2 ^ 64) same (fits_between (suc h) (kind.Inner id) s lo hi)) one other)

    from_here : (lo : K) (i m n : ℕ) (child : NodeId) → LeadsDown cmp lo node.keys i → i < length node.children → slice_get node.children i ≡ Some child → m ≡ suc i → n ≡ length arguments
        → (first second found : Option A) → SumsUpSome is_summary (keys_of (between cmp (f child) (Some lo) None)) first → SumsUpRange is_summary cmp arguments m n second → SumsUpBoth is_summary cmp first second found → SumsUpSome is_summary (keys_of (between cmp all (Some lo) None)) found
    from_here lo i m n child leads within read next end first second found one clause both =
        let front = between cmp (f child) (Some lo) None in
        let back = flat (λ c. f c) (slice_range node.children m n) in
        let rest : slice_range node.children m n ≡ drop (suc i) node.children = between_to_end node.children m n (omega (arith, as_many, end)) ∙ ap (λ k. drop k node.children) next in
        let cut : between cmp all (Some lo) None ≡ front ++ back =
        ap (λ l. between cmp l (Some lo) None) (whole total is_summary slots h id node s e)
        ∙ (from_chain total (λ c. f c) (IsTree cmp slots 16 h) inside node.keys node.children s.stored.low s.stored.high chain lo i child leads within read ∙ ap (λ l. front ++ flat (λ c. f c) l) (sym rest)) in
        joined (Some lo) None front back cut first second found one (summed_range m n second clause) both

    upto_here : (hi : K) (i : ℕ) (child : NodeId) → LeadsDown cmp hi node.keys i → i < length node.children → slice_get node.children i ≡ Some child
        → (first second found : Option A) → SumsUpRange is_summary cmp arguments 0 i first → SumsUpSome is_summary (keys_of (between cmp (f child) None (Some hi))) second → SumsUpBoth is_summary cmp first second found → SumsUpSome is_summary (keys_of (between cmp all None (Some hi))) found
    upto_here hi i child leads within read first second found clause other both =
        let front = flat (λ c. f c) (slice_range node.children 0 i) in
        let back = between cmp (f child) None (Some hi) in
        let cut : between cmp all None (Some hi) ≡ front ++ back =
        ap (λ l. between cmp l None (Some hi)) (whole total is_summary slots h id node s e)
        ∙ (upto_chain total (λ c. f c) (IsTree cmp slots 16 h) inside node.keys node.children s.stored.low s.stored.high chain hi i child leads within read ∙ ap (λ l. flat (λ c. f c) l ++ back) (sym (between_from_start node.children i))) in
        joined None (Some hi) front back cut first second found (summed_range 0 i first clause) other both

    one_here : (lo hi : K) (i : ℕ) (child : NodeId) → LeadsDown cmp lo node.keys i → LeadsDown cmp hi node.keys i → i < length node.children → slice_get node.children i ≡ Some child → between cmp all (Some lo) (Some hi) ≡ between cmp (f child) (Some lo) (Some hi)
    one_here lo hi i child leads leads' within read =
        ap (λ l. between cmp l (Some lo) (Some hi)) (whole total is_summary slots h id node s e)
        ∙ one_chain total (λ c. f c) (IsTree cmp slots 16 h) inside node.keys node.children s.stored.low s.stored.high chain lo hi i child leads leads' within read

    within_here : (lo hi : K) (i j m : ℕ) (first last : NodeId) → LeadsDown cmp lo node.keys i → LeadsDown cmp hi node.keys j → i < j → j < length node.children → slice_get node.children i ≡ Some first → slice_get node.children j ≡ Some last → m ≡ suc i
        → (front middle back rest found : Option A) → SumsUpSome is_summary (keys_of (between cmp (f first) (Some lo) None)) front → SumsUpRange is_summary cmp arguments m j middle → SumsUpSome is_summary (keys_of (between cmp (f last) None (Some hi))) back
        → SumsUpBoth is_summary cmp middle back rest → SumsUpBoth is_summary cmp front rest found → SumsUpSome is_summary (keys_of (between cmp all (Some lo) (Some hi))) found
    within_here lo hi i j m first last leads leads' less within read read' next front middle back rest found one clause other both both' =
        let left = between cmp (f first) (Some lo) None in
        let mid = flat (λ c. f c) (slice_range node.children m j) in
        let right = between cmp (f last) None (Some hi) in
        let cut : between cmp all (Some lo) (Some hi) ≡ left ++ (mid ++ right) =
        ap (λ l. between cmp l (Some lo) (Some hi)) (whole total is_summary slots h id node s e)
        ∙ (within_chain total (λ c. f c) (IsTree cmp slots 16 h) inside lo hi node.keys node.children s.stored.low s.stored.high i j first last chain leads leads' less within read read'
        ∙ ap (λ k. left ++ (flat (λ c. f c) (slice_range node.children k j) ++ right)) (sym next)) in
        let same : keys_of (between cmp all (Some lo) (Some hi)) ≡ keys_of left ++ keys_of (mid ++ right) = ap keys_of cut ∙ keys-append left (mid ++ right) in
        let split : keys_of (mid ++ right) ≡ keys_of mid ++ keys_of right = keys-append mid right in
        let sorted = sorted_right cmp (keys_of left) (keys_of (mid ++ right)) (subst (IsStrictlySortedBy cmp) same (sorted_between (suc h) (kind.Inner id) s (Some lo) (Some hi))) in
        let fits : length (keys_of (mid ++ right)) < 2 ^ 64 = omega (arith, fits_between (suc h) (kind.Inner id) s (Some lo) (Some hi), ap length same, length-append (keys_of left) (keys_of (mid ++ right))) in
        let other' : SumsUpSome is_summary (keys_of (mid ++ right)) rest =
        subst (λ keys. SumsUpSome is_summary keys rest) (sym split)
        (both (keys_of mid) (keys_of right) (subst (IsStrictlySortedBy cmp) split sorted) (subst (λ l. length l < 2 ^ 64) split fits) (summed_range m j middle clause) other) in
        joined (Some lo) (Some hi) left (mid ++ right) cut front rest found one other' both'

    all_here : (n : ℕ) → n ≡ length arguments → (found : Option A) → SumsUpRange is_summary cmp arguments 0 n found → SumsUpSome is_summary (keys_of (between cmp all None None)) found
    all_here n end found clause =
        let same : between cmp all None None ≡ flat (λ c. f c) (slice_range node.children 0 n) =
        no_ends cmp all ∙ (whole total is_summary slots h id node s e ∙ ap (λ l. flat (λ c. f c) l) (sym (between_to_end node.children 0 n (omega (arith, as_many, end))))) in
        subst (λ l. SumsUpSome is_summary (keys_of l) found) (sym same) (summed_range 0 n found clause)

    -- the number of smaller keys below a node is that below the child that the key leads to, and
    -- the counts of the children before it
    counted_here : (count : A → ℕ) → ((a : A) (keys : List K) → is_summary a keys → count a ≡ length keys) → (k : K) (i : ℕ) (child : NodeId) → LeadsDown cmp k node.keys i → i < length node.children → slice_get node.children i ≡ Some child
        → (below : ℕ) → below ≡ length (pairs_below cmp (f child) k) → min (below + sum_by count (take i arguments)) (2 ^ 64 - 1) ≡ length (pairs_below cmp all k)
    counted_here count counts k i child leads within read below is_below =
        let front = flat (λ c. f c) (take i node.children) in
        let cut : between cmp all None (Some k) ≡ front ++ between cmp (f child) None (Some k) =
        ap (λ l. between cmp l None (Some k)) (whole total is_summary slots h id node s e)
        ∙ upto_chain total (λ c. f c) (IsTree cmp slots 16 h) inside node.keys node.children s.stored.low s.stored.high chain k i child leads within read in
        let lengths : AllZip (λ a keys. count a ≡ length keys) arguments ps = AllZip-weaker is_summary (λ a keys. count a ≡ length keys) counts arguments ps zipped in
        let sum : sum_by count (take i arguments) ≡ length (flatten (take i ps)) = sum_by-lengths count (take i arguments) (take i ps) (AllZip-take (λ a keys. count a ≡ length keys) i arguments ps lengths) in
        let long : length (flatten (take i ps)) ≡ length front =
        ap length (ap flatten (keys_take (λ c. f c) node.children i) ∙ sym (keys_of_flat (λ c. f c) (take i node.children))) ∙ length-keys_of front in
        omega (arith, is_below, sum, long, ap length cut, length-append front (between cmp (f child) None (Some k)), s.fits, filter_few (test cmp None (Some k)) all)

  -- the lemmas above, for a node at a height that the code knows
  module _ {E : Type 0} (top : NodeId) (id : InnerNodeId) (node : Inner K A) (arguments : List A) (is : arguments ≡ node.arguments) where
    pub from_node : (h : ℕ) (lo : K) (i m n : ℕ) (child : NodeId) → IsChildAt cmp is_summary slots h top id node i child → LeadsToChild cmp lo node.keys i → m ≡ i + 1 → n ≡ length arguments → (first second : Option A) (outcome : Result (Option A) E)
        → SumsUpSome is_summary (keys_of (between cmp (pairs_at slots (h - 1) child) (Some lo) None)) first → SumsUpRange is_summary cmp arguments m n second → IfOk outcome (SumsUpBoth is_summary cmp first second) → IfOk outcome (SumsUpSome is_summary (keys_of (between cmp (pairs_at slots h top) (Some lo) None)))
    from_node zero lo i m n child there found next end first second outcome one clause both = absurd there.at.subtree.stored.tree
    from_node (suc h) lo i m n child there found next end first second outcome one clause both =
        let way = leads total is_summary slots (suc h) top id node i child there lo found in
        let next' : m ≡ suc i = omega (arith, next) in
        rw there.at.is
        (IfOk-weaker outcome (SumsUpBoth is_summary cmp first second) (SumsUpSome is_summary (keys_of (between cmp (pairs_at slots (suc h) (kind.Inner id)) (Some lo) None)))
        (λ sum clause'. from_here h id node there.at.subtree there.at.read arguments is lo i m n child way there.within there.child_is next' end first second sum (rw (down total is_summary slots h) at one) clause clause') both)

    pub upto_node : (h : ℕ) (hi : K) (i : ℕ) (child : NodeId) → IsChildAt cmp is_summary slots h top id node i child → LeadsToChild cmp hi node.keys i → (first second : Option A) (outcome : Result (Option A) E)
        → SumsUpRange is_summary cmp arguments 0 i first → SumsUpSome is_summary (keys_of (between cmp (pairs_at slots (h - 1) child) None (Some hi))) second → IfOk outcome (SumsUpBoth is_summary cmp first second) → IfOk outcome (SumsUpSome is_summary (keys_of (between cmp (pairs_at slots h top) None (Some hi))))
    upto_node zero hi i child there found first second outcome clause other both = absurd there.at.subtree.stored.tree
    upto_node (suc h) hi i child there found first second outcome clause other both =
        let way = leads total is_summary slots (suc h) top id node i child there hi found in
        rw there.at.is
        (IfOk-weaker outcome (SumsUpBoth is_summary cmp first second) (SumsUpSome is_summary (keys_of (between cmp (pairs_at slots (suc h) (kind.Inner id)) None (Some hi))))
        (λ sum clause'. upto_here h id node there.at.subtree there.at.read arguments is hi i child way there.within there.child_is first second sum clause (rw (down total is_summary slots h) at other) clause') both)

    pub all_node : (h : ℕ) → IsNodeAt cmp is_summary slots h top id node → (n : ℕ) → n ≡ length arguments → (outcome : Result (Option A) E) → IfOk outcome (SumsUpRange is_summary cmp arguments 0 n) → IfOk outcome (SumsUpSome is_summary (keys_of (between cmp (pairs_at slots h top) None None)))
    all_node zero at n end outcome clause = absurd at.subtree.stored.tree
    all_node (suc h) at n end outcome clause =
        rw at.is
        (IfOk-weaker outcome (SumsUpRange is_summary cmp arguments 0 n) (SumsUpSome is_summary (keys_of (between cmp (pairs_at slots (suc h) (kind.Inner id)) None None)))
        (λ sum clause'. all_here h id node at.subtree at.read arguments is n end sum clause') clause)

    module _ (lo hi : K) (i j : ℕ) (first last : NodeId) where
      pub within_node : (h : ℕ) → IsChildAt cmp is_summary slots h top id node i first → IsChildAt cmp is_summary slots h top id node j last → LeadsToChild cmp lo node.keys i → LeadsToChild cmp hi node.keys j → cmp lo hi ≡ Less → (i ≡ j → ⊥) → (m : ℕ) → m ≡ i + 1
          → (front middle back rest : Option A) (outcome : Result (Option A) E) → SumsUpSome is_summary (keys_of (between cmp (pairs_at slots (h - 1) first) (Some lo) None)) front → SumsUpRange is_summary cmp arguments m j middle → SumsUpSome is_summary (keys_of (between cmp (pairs_at slots (h - 1) last) None (Some hi))) back
          → SumsUpBoth is_summary cmp middle back rest → IfOk outcome (SumsUpBoth is_summary cmp front rest) → IfOk outcome (SumsUpSome is_summary (keys_of (between cmp (pairs_at slots h top) (Some lo) (Some hi))))
      within_node zero there other found found' apart differ m next front middle back rest outcome one clause two both both' = absurd there.at.subtree.stored.tree
      within_node (suc h) there other found found' apart differ m next front middle back rest outcome one clause two both both' =
          let way = leads total is_summary slots (suc h) top id node i first there lo found in
          let way' = leads total is_summary slots (suc h) top id node j last other hi found' in
          let up : i ≤ j = leads_rise total lo hi apart node.keys i j way way' in
          let less : i < j = omega (arith, up, differ) in
          let next' : m ≡ suc i = omega (arith, next) in
          rw there.at.is
          (IfOk-weaker outcome (SumsUpBoth is_summary cmp front rest) (SumsUpSome is_summary (keys_of (between cmp (pairs_at slots (suc h) (kind.Inner id)) (Some lo) (Some hi))))
          (λ sum clause'. within_here h id node there.at.subtree there.at.read arguments is lo hi i j m first last way way' less other.within there.child_is other.child_is next' front middle back rest sum (rw (down total is_summary slots h) at one) clause (rw (down total is_summary slots h) at two) both clause') both')

      pub one_node : (h : ℕ) → IsChildAt cmp is_summary slots h top id node i first → LeadsToChild cmp lo node.keys i → LeadsToChild cmp hi node.keys j → i ≡ j → (outcome : Result (Option A) E)
          → IfOk outcome (SumsUpSome is_summary (keys_of (between cmp (pairs_at slots (h - 1) first) (Some lo) (Some hi)))) → IfOk outcome (SumsUpSome is_summary (keys_of (between cmp (pairs_at slots h top) (Some lo) (Some hi))))
      one_node zero there found found' same outcome one = absurd there.at.subtree.stored.tree
      one_node (suc h) there found found' same outcome one =
          let way = leads total is_summary slots (suc h) top id node i first there lo found in
          let way' = leads total is_summary slots (suc h) top id node i first there hi (subst (LeadsToChild cmp hi node.keys) (sym same) found') in
          let cut = one_here h id node there.at.subtree there.at.read arguments is lo hi i first way way' there.within there.child_is in
          rw (there.at.is, cut) (rw (down total is_summary slots h) at one)

  module _ (top : NodeId) (id : InnerNodeId) (node : Inner K A) (arguments : List A) (is : arguments ≡ node.arguments) where
    pub counted_node : (h : ℕ) (count : A → ℕ) → ((a : A) (keys : List K) → is_summary a keys → count a ≡ length keys) → (k : K) (i : ℕ) (child : NodeId) → IsChildAt cmp is_summary slots h top id node i child → LeadsToChild cmp k node.keys i
        → (smaller all : ℕ) → smaller ≡ length (pairs_below cmp (pairs_at slots (h - 1) child) k) → all ≡ min (smaller + sum_by count (take i arguments)) (2 ^ 64 - 1) → all ≡ length (pairs_below cmp (pairs_at slots h top) k)
    counted_node zero count counts k i child there found smaller all is_smaller is_all = absurd there.at.subtree.stored.tree
    counted_node (suc h) count counts k i child there found smaller all is_smaller is_all =
        let way = leads total is_summary slots (suc h) top id node i child there k found in
        rw there.at.is (is_all ∙ counted_here h id node there.at.subtree there.at.read arguments is count counts k i child way there.within there.child_is smaller (rw (down total is_summary slots h) at is_smaller))

  -- if the tree is a leaf, a summary of the leaf's keys between two ends is one of the tree's
  pub leaf_node : {E : Type 0} (h : ℕ) (top : NodeId) (id : LeafNodeId) (node : Leaf K V) → IsSubtree cmp is_summary slots h top → top ≡ kind.Leaf id → slots.leaf id.0 ≡ Present node → (lo hi : Option K) (outcome : Result (Option A) E)
      → IfOk outcome (λ found. IsAscending cmp node.pairs → SumsUpSome is_summary (keys_of (between cmp node.pairs lo hi)) found) → IfOk outcome (SumsUpSome is_summary (keys_of (between cmp (pairs_at slots h top) lo hi)))
  leaf_node h top id node s is e lo hi outcome clause =
      let s' : IsSubtree cmp is_summary slots h (kind.Leaf id) = rw is at s in
      rw (is, leaf_whole total is_summary slots h id node s' e)
      (IfOk-weaker outcome (λ found. IsAscending cmp node.pairs → SumsUpSome is_summary (keys_of (between cmp node.pairs lo hi)) found) (SumsUpSome is_summary (keys_of (between cmp node.pairs lo hi)))
      (λ found law. law (leaf_sorted total is_summary slots h id node s' e)) clause)

-- no key is between two ends of which the lower is not below the upper
pub nothing_between : {K V : Type 0} {cmp : K → K → Ordering} (total : IsTotalOrder cmp) (lo hi : K) → is_lt (cmp lo hi) ≡ false → (l : List (K × V)) → keys_of (between cmp l (Some lo) (Some hi)) ≡ []
nothing_between total lo hi high l = ap keys_of (between_none total l (Some lo) (Some hi) (no_key total lo hi high))

pub not_less : (r : Ordering) → (r ≡ Equal) ⊎ (r ≡ Greater) → is_lt r ≡ false
not_less r (inl e) = ap is_lt e
not_less r (inr e) = ap is_lt e
