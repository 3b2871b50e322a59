use Rattle.std.proofs.Common.{◌≡◌, ◌∙◌, ◌∷◌, ◌++◌, ◌+◌, [], take, sym, ap, arith}
use Rattle.std.proofs.lemmas.List.{take_more}
use Rattle.std.specs.Map.{keys_of}
use Rattle.bptree_keys.proofs.PieceLemmas.{AllZip-append}
use Rattle.bptree_map.proofs.KeyLemmas.{keys_append}
use Rattle.bptree_set.proofs.set.extending.clones_of.Goals as goal

-- the clone of one key more is appended to the others
pub loop-k-preserved : goal.loop-k-preserved
loop-k-preserved g c =
    let keys = c.args.keys.now in
    let i = c.loop-k.k-index in
    let pairs = c.loop-k.pairs.items in
    let k = c.k-item.result in
    let clone = c.in_ok-clone.field-0 in
    let came : take (i + 1) keys ≡ take i keys ++ k ∷ [] = take_more keys i k (omega arith) ∙ ap (λ x. take i keys ++ x ∷ []) (sym c.k-item.is) in
    let made : keys_of c.push.new.self.items ≡ keys_of pairs ++ clone ∷ [] = rw c.in_ok-push.ensures.items (keys_append pairs ((clone, tt) ∷ [])) in
    rw (came, made) (AllZip-append g.K.Clone.is_clone (take i keys) (keys_of pairs) (k ∷ []) (clone ∷ []) c.loop-k.invariant (c.in_ok-clone.ensures.cases, tt))
