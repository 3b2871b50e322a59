-- Changes of the values of a list of pairs, one after another, from one index up to another.
use Rattle.std.proofs.Common.{◌≡◌, ◌∙◌, ℕ, ◌+◌, ◌<◌, ◌≤◌, zero, suc, List, [], ◌∷◌, ◌++◌, Some, length, take, drop, refl, sym, ap, arith, append_assoc, append-nil}
use Rattle.std.specs.Borrow.{Bor, MutBor}
use Rattle.std.specs.Fn.{Mut}
use Rattle.std.specs.List.{slice_get}
use Rattle.std.specs.Map.{keys_of}
use Rattle.std.proofs.lemmas.List.{length-append, length-take-le, take-append-drop}
use Rattle.bptree_nodes.specs.Leaf.{set_value_at}
use Rattle.bptree_nodes.specs.Updating.{ChangesInTurn, ChangesValue}
use Rattle.bptree_nodes.proofs.Pairs.{slice_get-take}

module _ {X : Type 0} where
  -- the members from an index on are the member at the index and those after it
  drop_at_index : (i : ℕ) (xs : List X) (x : X) → slice_get xs i ≡ Some x → drop i xs ≡ x ∷ drop (i + 1) xs
  drop_at_index i [] x at = cc
  drop_at_index zero (y ∷ xs) x at = let is : y ≡ x = cc in rw is refl
  drop_at_index (suc i) (y ∷ xs) x at = let n : suc i + 1 ≡ suc (i + 1) = omega arith in rw n (drop_at_index i xs x at)

  drop_all_taken : (n : ℕ) (xs : List X) → drop n (take n xs) ≡ []
  drop_all_taken zero xs = refl
  drop_all_taken (suc n) [] = refl
  drop_all_taken (suc n) (x ∷ xs) = drop_all_taken n xs

  slice_get_behind : (xs ys : List X) (i : ℕ) → i ≡ length xs → slice_get (xs ++ ys) i ≡ slice_get ys 0
  slice_get_behind [] ys i e = rw e refl
  slice_get_behind (x ∷ xs) ys zero e = absurd (omega (arith, e))
  slice_get_behind (x ∷ xs) ys (suc i) e = let s : i ≡ length xs = omega (arith, e) in slice_get_behind xs ys i s

module _ {K V : Type 0} where
  set_value_behind : (ps : List (K × V)) (p : K × V) (rest : List (K × V)) (i : ℕ) (w : V) → i ≡ length ps → set_value_at (ps ++ p ∷ rest) i w ≡ ps ++ (p.0, w) ∷ rest
  set_value_behind [] p rest i w e = rw e refl
  set_value_behind (q ∷ ps) p rest zero w e = absurd (omega (arith, e))
  set_value_behind (q ∷ ps) p rest (suc i) w e = let s : i ≡ length ps = omega (arith, e) in ap (λ l. q ∷ l) (set_value_behind ps p rest i w s)

module _ {F K V : Type 0} (calls : Mut F (Bor K × (MutBor V × Unit {0})) (Unit {0} × (MutBor V × Unit {0}))) (f : F) (old : List (K × V)) (from to : ℕ) where
  -- the values before the index i are changed, and the changes from i on continue from there
  pub record ChangedUpTo (t : F) (i : ℕ) (now : List (K × V)) : Type 0 where
    pub done : List (K × V)
    pub is : now ≡ take from old ++ (done ++ drop i old)
    pub long : length done + from ≡ i
    pub goes : (after : F) (rest : List (K × V)) → ChangesInTurn calls t (drop i (take to old)) after rest → ChangesInTurn calls f (drop from (take to old)) after (done ++ rest)

  pub none_changed : ChangedUpTo f from old
  none_changed = record { done = []; is = sym (take-append-drop from old); long = omega arith; goes = λ after rest r. r }

  module _ (below : from ≤ to) (fits : to ≤ length old) (t : F) (i : ℕ) (now : List (K × V)) (up : ChangedUpTo t i now) where
    pub one_changed : (u : F) (k : K) (v w : V) → i < to → slice_get now i ≡ Some (k, v) → ChangesValue calls t (k, v) u (k, w) → ChangedUpTo u (i + 1) (set_value_at now i w)
    one_changed u k v w h at call =
        let first = take from old ++ up.done in
        let long : i ≡ length first = omega (arith, length-append (take from old) up.done, length-take-le from old (omega arith), up.long) in
        let is : now ≡ first ++ drop i old = up.is ∙ sym (append_assoc (take from old) up.done (drop i old)) in
        let there : slice_get old i ≡ Some (k, v) =
        ap (λ l. slice_get l i) (sym (take-append-drop i old))
        ∙ (slice_get_behind (take i old) (drop i old) i (omega (arith, length-take-le i old (omega arith)))
        ∙ (sym (slice_get_behind first (drop i old) i long) ∙ (ap (λ l. slice_get l i) (sym is) ∙ at))) in
        let cut : drop i old ≡ (k, v) ∷ drop (i + 1) old = drop_at_index i old (k, v) there in
        let taken : drop i (take to old) ≡ (k, v) ∷ drop (i + 1) (take to old) = drop_at_index i (take to old) (k, v) (slice_get-take to old i h ∙ there) in
        record {
          done = up.done ++ (k, w) ∷ [];
          is = ap (λ l. set_value_at l i w) (is ∙ ap (λ l. first ++ l) cut)
              ∙ (set_value_behind first (k, v) (drop (i + 1) old) i w long
              ∙ (append_assoc (take from old) up.done ((k, w) ∷ drop (i + 1) old)
              ∙ ap (λ l. take from old ++ l) (sym (append_assoc up.done ((k, w) ∷ []) (drop (i + 1) old)))));
          long = omega (arith, length-append up.done ((k, w) ∷ []), up.long);
          goes = λ after rest r.
              rw (append_assoc up.done ((k, w) ∷ []) rest) (up.goes after ((k, w) ∷ rest) (rw taken (u, (k, w), rest, call, r, refl)));
        }

  pub all_changed : (t : F) (now : List (K × V)) → ChangedUpTo t to now → (changed : List (K × V)) × ChangesInTurn calls f (drop from (take to old)) t changed × (now ≡ take from old ++ changed ++ drop to old)
  all_changed t now up =
      let ends : drop to (take to old) ≡ [] = drop_all_taken to old in
      let goes = up.goes t [] (rw ends (refl, refl)) in
      (up.done, rw (append-nil up.done) at goes, up.is ∙ sym (append_assoc (take from old) up.done (drop to old)))

module _ {F K V : Type 0} (calls : Mut F (Bor K × (MutBor V × Unit {0})) (Unit {0} × (MutBor V × Unit {0}))) where
  -- the changes keep the keys
  pub changed_keys : (f : F) (old : List (K × V)) (after : F) (new : List (K × V)) → ChangesInTurn calls f old after new → keys_of new ≡ keys_of old
  changed_keys f [] after new changes = rw changes.1 refl
  changed_keys f (p ∷ old) after new (g, q, rest, call, changes, is) =
      ap keys_of is ∙ (ap (λ pair. pair.0 ∷ keys_of rest) call.leaves ∙ ap (λ keys. p.0 ∷ keys) (changed_keys g old after rest changes))

  -- the changes of two lists, one after the other, are the changes of their concatenation
  pub changed_joined : (f g h : F) (old more new newer : List (K × V)) → ChangesInTurn calls f old g new → ChangesInTurn calls g more h newer → ChangesInTurn calls f (old ++ more) h (new ++ newer)
  changed_joined f g h [] more new newer first then' = rw first.1 (rw first.0 at then')
  changed_joined f g h (p ∷ old) more new newer (t, q, rest, call, changes, is) then' =
      (t, q, rest ++ newer, call, changed_joined t g h old more rest newer changes then', ap (λ l. l ++ newer) is)
