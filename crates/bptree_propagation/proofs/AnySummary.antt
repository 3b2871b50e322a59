-- If every value is a summary of every list, an edit is one of the whole tree with no change above
-- it.
use Rattle.std.proofs.Common.{◌≡◌, ℕ, zero, suc, ◌≤◌, List, [], ◌∷◌, ◌++◌, length, get_or, refl, inl, sym, ap, subst, ◌∙◌, arith, Some, slice_get, length-append}
use Rattle.std.specs.declared.cmp.Ordering.{Ordering}
use Rattle.std.specs.Cmp.{IsTotalOrder}
use Rattle.std.proofs.lemmas.List.{set-get_or}
use Rattle.std.proofs.lemmas.Option.{slice_get-get_or}
use Rattle.bptree_nodes.specs.Inner.{Inner}
use Rattle.bptree_nodes.specs.Leaf.{Leaf}
use Rattle.bptree_nodes.specs.Slot.{Slot, Slots, Present}
use Rattle.bptree_keys.specs.declared.node_id.InnerNodeId.{InnerNodeId}
use Rattle.bptree_keys.specs.declared.node_id.NodeId.{NodeId}
use Rattle.bptree_propagation.specs.Change.{Keeps}
use Rattle.bptree_propagation.specs.Climb.{EditBelow, Propagated}
use Rattle.bptree_propagation.specs.Sums.{SumsUpAt, with_summary}
use Rattle.bptree_propagation.proofs.Climbing.{last, stays, has_index, risen_keeps, risen_here}
use Rattle.bptree_propagation.proofs.Undone.{same_node}
use Rattle.bptree_invariant.specs.Outcome.{Done}

-- a list that is not empty has a last member, behind the others
record Ends {X : Type 0} (xs : List X) : Type 0 where
  rest : List X
  last : X
  is : xs ≡ rest ++ last ∷ []

ends : {X : Type 0} (x : X) (xs : List X) → Ends (x ∷ xs)
ends x [] = record { rest = []; last = x; is = refl }
ends x (y ∷ ys) = let e = ends y ys in record { rest = x ∷ e.rest; last = e.last; is = ap (λ l. x ∷ l) e.is }

sums_any : {K A : Type 0} (cmp : K → K → Ordering) (is_summary : A → List K → Type 0) (any : (a : A) (keys : List K) → is_summary a keys) (slot : Slot (Inner K A)) (node : Inner K A) (a : A) → slot ≡ Present node → SumsUpAt cmp is_summary slot a
sums_any cmp is_summary any slot node a e = rw e (λ pieces are zip. any a _)

module _ {K V A : Type 0} {cmp : K → K → Ordering} (total : IsTotalOrder cmp) (is_summary : A → List K → Type 0) (any : (a : A) (keys : List K) → is_summary a keys) where
  module _ (now : Slots (Inner K A) (Leaf K V)) (path : List (InnerNodeId × ℕ × NodeId)) (a : A) (c : EditBelow cmp is_summary now path a) (rest : List (InnerNodeId × ℕ × NodeId)) (number : InnerNodeId) (i : ℕ) (child : NodeId) (e : path ≡ rest ++ (number, i, child) ∷ []) where
    abbrev node : Inner K A
    node = (last total is_summary now path Done c.climb rest number i child e).node

    here : now.inner number.0 ≡ Present node
    here = stays total is_summary now path Done c.climb rest number i child e

    -- the summary that is stored at the child index
    abbrev there : A
    there = get_or node.arguments i a

    same : with_summary node i there ≡ node
    same = ap (λ l. record node { arguments = l }) (set-get_or node.arguments i a)

    keep : (was : Inner K A) → now.inner number.0 ≡ Present was → Keeps now now number i there was × (slice_get was.arguments i ≡ Some there)
    keep was is =
        let is_node : was ≡ node = same_node (now.inner number.0) was node is here in
        let h = has_index total is_summary now path Done c.climb rest number i child e in
        subst (λ w. Keeps now now number i there w × (slice_get w.arguments i ≡ Some there)) (sym is_node)
        (record { sets = record { changed = here ∙ ap Present (sym same); others = λ n other. refl }; leaf = refl }, slice_get-get_or node.arguments i a (omega (arith, h.within, h.children, h.arguments)))

    above : (top : A) → ((up : EditBelow cmp is_summary now rest top) → Propagated up.climb now top) → Propagated c.climb now top
    above top rises =
        let with_there : EditBelow cmp is_summary now path there = record { climb = c.climb; enough = c.enough; reported = any there _ } in
        risen_keeps total is_summary now now path there with_there rest number i child e there keep there (any there _) top (inl (sums_any cmp is_summary any (now.inner number.0) node top here)) now top (λ up. rises up.climbs)

  by_length : (n : ℕ) (now : Slots (Inner K A) (Leaf K V)) (path : List (InnerNodeId × ℕ × NodeId)) (a : A) (c : EditBelow cmp is_summary now path a) → length path ≤ n → Propagated c.climb now a
  by_length n now [] a c short = risen_here total is_summary now [] a c refl
  by_length zero now (x ∷ path) a c short = absurd (omega arith)
  by_length (suc n) now (x ∷ path) a c short =
      let e = ends x path in
      above now (x ∷ path) a c e.rest e.last.0 e.last.1 e.last.2 e.is a
      (λ up. by_length n now e.rest a up (omega (arith, short, ap length e.is, length-append e.rest (e.last ∷ []))))

  pub risen_untouched : (now : Slots (Inner K A) (Leaf K V)) (path : List (InnerNodeId × ℕ × NodeId)) (a : A) (c : EditBelow cmp is_summary now path a) → Propagated c.climb now a
  risen_untouched now path a c = by_length (length path) now path a c (omega arith)
