-- The pairs of two lists that are reversed.
use Rattle.std.proofs.Common.{◌≡◌, ◌∙◌, List, [], ◌∷◌, ◌++◌, length, reverse, refl, ap, arith}
use Rattle.std.proofs.lemmas.List.{length-reverse, reverse-append}
use Rattle.std.specs.List.{zip}
use Rattle.bptree_nodes.proofs.Pairs.{append_pairs}

pub reversed_pairs : {K V : Type 0} (ks : List K) (vs : List V) → length vs ≡ length ks → zip (reverse ks) (reverse vs) ≡ reverse (zip ks vs)
reversed_pairs [] [] same = refl
reversed_pairs [] (v ∷ vs) same = cc
reversed_pairs (k ∷ ks) [] same = cc
reversed_pairs (k ∷ ks) (v ∷ vs) same =
    let rest : length vs ≡ length ks = omega (arith, same) in
    let long : length (reverse vs) ≡ length (reverse ks) = omega (arith, rest, length-reverse vs, length-reverse ks) in
    rw (reverse-append (k ∷ []) ks, reverse-append (v ∷ []) vs, reverse-append ((k, v) ∷ []) (zip ks vs))
    (append_pairs (reverse ks) (k ∷ []) (reverse vs) (v ∷ []) long ∙ ap (λ l. l ++ (k, v) ∷ []) (reversed_pairs ks vs rest))
