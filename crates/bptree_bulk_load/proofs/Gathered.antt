-- Trees that are moved below a node, one after another.
use Rattle.std.proofs.Common.{◌≡◌, List, [], ◌∷◌, ◌++◌, length, refl, sym, ap, ◌∙◌, arith, append_assoc, length-append}
use Rattle.std.proofs.lemmas.List.{map-append}
use Rattle.bptree_nodes.specs.Inner.{Inner}
use Rattle.bptree_bulk_load.specs.Steps.{IsLayerAbove}
use Rattle.bptree_bulk_load.specs.declared.subtree.Subtree.{Subtree}

module _ {K A : Type 0} where
  pub above_first : (all : List (Subtree K A)) (node : Inner K A) (tree : Subtree K A) (rest : List (Subtree K A)) → all ≡ tree ∷ rest
      → node ≡ record { keys = []; children = tree.root ∷ []; arguments = tree.summary ∷ [] } → IsLayerAbove all (length node.children) node tree.first rest
  above_first all node tree rest taken is =
      rw is (record { head = tree; others = []; taken = taken; len = refl; keys = refl; children = refl; arguments = refl; starts = refl })

  pub above_more : (all : List (Subtree K A)) (node new : Inner K A) (first : K) (trees : List (Subtree K A)) (tree : Subtree K A) (rest : List (Subtree K A)) → IsLayerAbove all (length node.children) node first trees → trees ≡ tree ∷ rest
      → new ≡ record { keys = node.keys ++ tree.first ∷ []; children = node.children ++ tree.root ∷ []; arguments = node.arguments ++ tree.summary ∷ [] } → IsLayerAbove all (length new.children) new first rest
  above_more all node new first trees tree rest above more is =
      rw is (record {
        head = above.head;
        others = above.others ++ tree ∷ [];
        taken = above.taken ∙ ap (λ l. above.head ∷ l) (ap (λ l. above.others ++ l) more ∙ sym (append_assoc above.others (tree ∷ []) rest));
        len = omega (arith, above.len, length-append above.others (tree ∷ []), length-append node.children (tree.root ∷ []));
        keys = ap (λ l. l ++ tree.first ∷ []) above.keys ∙ sym (map-append (λ (t : Subtree K A). t.first) above.others (tree ∷ []));
        children = ap (λ l. l ++ tree.root ∷ []) above.children ∙ ap (λ l. above.head.root ∷ l) (sym (map-append (λ (t : Subtree K A). t.root) above.others (tree ∷ [])));
        arguments = ap (λ l. l ++ tree.summary ∷ []) above.arguments ∙ ap (λ l. above.head.summary ∷ l) (sym (map-append (λ (t : Subtree K A). t.summary) above.others (tree ∷ [])));
        starts = above.starts;
      })
