-- Lists of trees, one after another, and one tree that replaces several.
use Rattle.std.proofs.Common.{◌≡◌, ℕ, ◌+◌, ◌<◌, List, [], ◌∷◌, ◌++◌, length, refl, sym, ap, ◌∙◌, arith, append-nil, append_assoc, length-append}
use Rattle.std.proofs.lemmas.List.{map-append}
use Rattle.bptree_keys.specs.declared.node_id.NodeId.{NodeId}
use Rattle.bptree_invariant.specs.Order.{flat, total}
use Rattle.bptree_invariant.proofs.Hinted.{total-append}
use Rattle.bptree_invariant.proofs.Walk.{flat-append}
use Rattle.bptree_bulk_load.specs.Layer.{roots}
use Rattle.bptree_bulk_load.specs.declared.subtree.Subtree.{Subtree}

pub nothing : {X : Type 0} (xs : List X) → length xs ≡ 0 → xs ≡ []
nothing [] e = refl
nothing (x ∷ xs) e = absurd (omega arith)

pub not_empty : {X : Type 0} (xs : List X) (x : X) → 0 < length (xs ++ x ∷ [])
not_empty xs x = omega (arith, length-append xs (x ∷ []))

module _ {K A : Type 0} where
  pub roots-append : (xs ys : List (Subtree K A)) → roots (xs ++ ys) ≡ roots xs ++ roots ys
  roots-append xs ys = map-append (λ (tree : Subtree K A). tree.root) xs ys

  module _ {Y : Type 0} (F : NodeId → List Y) where
    pub flat_parts_of : (xs ys : List (Subtree K A)) → flat F (roots (xs ++ ys)) ≡ flat F (roots xs) ++ flat F (roots ys)
    flat_parts_of xs ys = ap (flat F) (roots-append xs ys) ∙ flat-append F (roots xs) (roots ys)

    -- a list with one more tree at the end
    pub flat_end : (xs : List (Subtree K A)) (tree : Subtree K A) → flat F (roots (xs ++ tree ∷ [])) ≡ flat F (roots xs) ++ F tree.root
    flat_end xs tree = flat_parts_of xs (tree ∷ []) ∙ ap (λ l. flat F (roots xs) ++ l) (append-nil (F tree.root))

    -- a tree contains what the first of the trees after it contained
    pub flat_moved : (G : NodeId → List Y) (done group rest : List (Subtree K A)) (tree : Subtree K A) → F tree.root ≡ flat G (roots group)
        → flat F (roots (done ++ tree ∷ [])) ++ flat G (roots rest) ≡ flat F (roots done) ++ flat G (roots (group ++ rest))
    flat_moved G done group rest tree same =
        ap (λ l. l ++ flat G (roots rest)) (flat_end done tree ∙ ap (λ l. flat F (roots done) ++ l) same)
        ∙ (append_assoc (flat F (roots done)) (flat G (roots group)) (flat G (roots rest))
        ∙ ap (λ l. flat F (roots done) ++ l) (sym (ap (flat G) (roots-append group rest) ∙ flat-append G (roots group) (roots rest))))

  module _ (F : NodeId → ℕ) where
    pub total_parts_of : (xs ys : List (Subtree K A)) → total F (roots (xs ++ ys)) ≡ total F (roots xs) + total F (roots ys)
    total_parts_of xs ys = ap (total F) (roots-append xs ys) ∙ total-append F (roots xs) (roots ys)

    pub total_end : (xs : List (Subtree K A)) (tree : Subtree K A) → total F (roots (xs ++ tree ∷ [])) ≡ total F (roots xs) + F tree.root
    total_end xs tree = omega (arith, total_parts_of xs (tree ∷ []))
