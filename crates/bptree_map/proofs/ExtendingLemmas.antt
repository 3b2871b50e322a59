-- Keys that are gathered, and the keys of their clones.
use Rattle.std.proofs.Common.{◌≡◌, ◌∙◌, ◌+◌, Bool, true, false, List, [], ◌∷◌, length, cond, ◌||◌, refl, sym, ap}
use Rattle.std.proofs.lemmas.Cmp.{alike_right}
use Rattle.std.proofs.lemmas.Map.Entries.{length-keys_of}
use Rattle.std.specs.declared.cmp.Ordering.{Ordering}
use Rattle.std.specs.declared.cmp.Ordering.TheVariants.{Less, Equal, Greater}
use Rattle.std.specs.Cmp.{IsTotalOrder}
use Rattle.std.specs.List.{AllZip}
use Rattle.std.specs.Map.{keys_of}
use Rattle.std.specs.Ordering.{is_eq}
use Rattle.bptree_keys.specs.Contents.{gather}
use Rattle.bptree_map.specs.Keys.{gathered, holds}
use Rattle.bptree_map.proofs.KeyLemmas.{gathered_ascending, keys_gather, with_holds, with_length}

module _ {K : Type 0} {cmp : K → K → Ordering} (total : IsTotalOrder cmp) where
  -- a list holds both of two equal keys, or neither
  pub holds_equal : (keys : List K) (j k : K) → cmp j k ≡ Equal → holds cmp keys j ≡ holds cmp keys k
  holds_equal [] j k same = refl
  holds_equal (key ∷ keys) j k same = rw (alike_right total j k key same, holds_equal keys j k same) refl

  -- one step of `holds_gathered`, by whether the key occurs again and by its order with k
  holds_step : (key : K) (keys : List K) (k : K) → holds cmp (gathered cmp keys) k ≡ holds cmp keys k → (b : Bool) → holds cmp keys key ≡ b → (o : Ordering) → cmp key k ≡ o → holds cmp (gathered cmp (key ∷ keys)) k ≡ holds cmp (key ∷ keys) k
  holds_step key keys k later false absent o is = rw absent (with_holds cmp total (gathered cmp keys) (gathered_ascending cmp total keys) key k ∙ ap (λ b. is_eq (cmp key k) || b) later)
  holds_step key keys k later true there Less is = rw (there, is) later
  holds_step key keys k later true there Greater is = rw (there, is) later
  holds_step key keys k later true there Equal is = rw (there, is) (later ∙ (sym (holds_equal keys key k is) ∙ there))

  -- the gathered list holds the keys of the list
  pub holds_gathered : (keys : List K) (k : K) → holds cmp (gathered cmp keys) k ≡ holds cmp keys k
  holds_gathered [] k = refl
  holds_gathered (key ∷ keys) k = holds_step key keys k (holds_gathered keys k) (holds cmp keys key) refl (cmp key k) refl

  length_by : (key : K) (keys : List K) (b : Bool) → holds cmp keys key ≡ b → length (gathered cmp (key ∷ keys)) ≡ cond b (length (gathered cmp keys)) (length (gathered cmp keys) + 1)
  length_by key keys true there = rw there refl
  length_by key keys false absent =
      rw absent (with_length cmp total (gathered cmp keys) (gathered_ascending cmp total keys) key
      ∙ ap (λ b. cond b (length (gathered cmp keys)) (length (gathered cmp keys) + 1)) (holds_gathered keys key ∙ absent))

  -- one more key lengthens the gathered list by one if no equal key follows
  pub length_gathered : (key : K) (keys : List K) → length (gathered cmp (key ∷ keys)) ≡ cond (holds cmp keys key) (length (gathered cmp keys)) (length (gathered cmp keys) + 1)
  length_gathered key keys = length_by key keys (holds cmp keys key) refl

  -- lists of equal keys hold the same keys
  pub holds_alike : (keys copies : List K) → AllZip (λ k c. cmp k c ≡ Equal) keys copies → (k : K) → holds cmp keys k ≡ holds cmp copies k
  holds_alike [] [] all k = refl
  holds_alike [] (c ∷ copies) all k = absurd all
  holds_alike (x ∷ keys) [] all k = absurd all
  holds_alike (x ∷ keys) (c ∷ copies) all k =
      ap (λ o. is_eq o || holds cmp keys k) (total.congr x c k all.0) ∙ ap (λ b. is_eq (cmp c k) || b) (holds_alike keys copies all.1 k)

  -- equally many keys are gathered of lists of equal keys
  pub gathered_alike : (keys copies : List K) → AllZip (λ k c. cmp k c ≡ Equal) keys copies → length (gathered cmp keys) ≡ length (gathered cmp copies)
  gathered_alike [] [] all = refl
  gathered_alike [] (c ∷ copies) all = absurd all
  gathered_alike (x ∷ keys) [] all = absurd all
  gathered_alike (x ∷ keys) (c ∷ copies) all =
      length_gathered x keys
      ∙ (ap (λ b. cond b (length (gathered cmp keys)) (length (gathered cmp keys) + 1)) (holds_equal keys x c all.0 ∙ holds_alike keys copies all.1 c)
      ∙ (ap (λ n. cond (holds cmp copies c) n (n + 1)) (gathered_alike keys copies all.1)
      ∙ sym (length_gathered c copies)))

-- as many pairs are gathered as keys
pub length_gather : {K V : Type 0} (cmp : K → K → Ordering) (pairs : List (K × V)) → length (gather cmp pairs) ≡ length (gathered cmp (keys_of pairs))
length_gather cmp pairs = sym (length-keys_of (gather cmp pairs)) ∙ ap length (keys_gather cmp pairs)

module _ {K : Type 0} {cmp : K → K → Ordering} (is_clone : K → K → Type 0) (equal : (k c : K) → is_clone k c → cmp k c ≡ Equal) where
  -- clones of keys are equal keys
  pub clones_equal : (keys copies : List K) → AllZip is_clone keys copies → AllZip (λ k c. cmp k c ≡ Equal) keys copies
  clones_equal [] [] all = tt
  clones_equal [] (c ∷ copies) all = absurd all
  clones_equal (k ∷ keys) [] all = absurd all
  clones_equal (k ∷ keys) (c ∷ copies) all = (equal k c all.0, clones_equal keys copies all.1)

-- the keys of clones of pairs are clones of the keys
pub keys_cloned : {K V : Type 0} (is_clone : K → K → Type 0) (is_value_clone : V → V → Type 0) (pairs clones : List (K × V)) → AllZip (λ p q. is_clone p.0 q.0 × is_value_clone p.1 q.1) pairs clones → AllZip is_clone (keys_of pairs) (keys_of clones)
keys_cloned is_clone is_value_clone [] [] all = tt
keys_cloned is_clone is_value_clone [] (q ∷ clones) all = absurd all
keys_cloned is_clone is_value_clone (p ∷ pairs) [] all = absurd all
keys_cloned is_clone is_value_clone (p ∷ pairs) (q ∷ clones) all = (all.0.0, keys_cloned is_clone is_value_clone pairs clones all.1)

module _ {K V : Type 0} {cmp : K → K → Ordering} (total : IsTotalOrder cmp) (is_clone : K → K → Type 0) (equal : (k c : K) → is_clone k c → cmp k c ≡ Equal) (is_value_clone : V → V → Type 0) where
  -- equally many pairs are gathered of clones of pairs
  pub clones_as_many : (pairs clones : List (K × V)) → AllZip (λ p q. is_clone p.0 q.0 × is_value_clone p.1 q.1) pairs clones → length (gather cmp pairs) ≡ length (gather cmp clones)
  clones_as_many pairs clones all =
      length_gather cmp pairs
      ∙ (gathered_alike total (keys_of pairs) (keys_of clones) (clones_equal is_clone equal (keys_of pairs) (keys_of clones) (keys_cloned is_clone is_value_clone pairs clones all))
      ∙ sym (length_gather cmp clones))
