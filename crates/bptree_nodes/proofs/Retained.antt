-- The pairs of a leaf that a closure keeps, one after another.
use Rattle.std.proofs.Common.{◌≡◌, ◌∙◌, ℕ, ◌+◌, ◌<◌, ◌≤◌, zero, suc, Bool, true, false, List, [], ◌∷◌, ◌++◌, length, take, drop, get_or, refl, sym, ap, arith, append_assoc}
use Rattle.std.proofs.lemmas.List.{get_or-drop, length-take-le, take_at}
use Rattle.std.specs.Borrow.{Bor, MutBor}
use Rattle.std.specs.Fn.{Mut}
use Rattle.std.specs.List.{zip}
use Rattle.bptree_nodes.specs.Retaining.{CallsAtPair, RetainsFirst, RetainsInFront}
use Rattle.bptree_nodes.proofs.Pairs.{append_pairs}
use mir.Val.{bool_byte}

pub byte_small : (b : Bool) → bool_byte b ≤ 1
byte_small true = omega arith
byte_small false = omega arith

module _ {X : Type 0} where
  take_less : (n : ℕ) (l : List X) → take n (take (suc n) l) ≡ take n l
  take_less zero l = refl
  take_less (suc n) [] = refl
  take_less (suc n) (x ∷ l) = ap (λ r. x ∷ r) (take_less n l)

  drop_next : (i : ℕ) (l : List X) → drop (suc i) l ≡ drop 1 (drop i l)
  drop_next zero l = refl
  drop_next (suc i) [] = refl
  drop_next (suc i) (x ∷ l) = drop_next i l

  -- two lists that agree from an index on agree behind it, and there
  pub same_behind : (l m : List X) (i : ℕ) → drop i l ≡ drop i m → drop (i + 1) l ≡ drop (i + 1) m
  same_behind l m i same =
      let on : i + 1 ≡ suc i = omega arith in
      ap (λ n. drop n l) on ∙ (drop_next i l ∙ (ap (drop 1) same ∙ (sym (drop_next i m) ∙ ap (λ n. drop n m) (sym on))))

  pub same_at : (l m : List X) (i : ℕ) (d : X) → drop i l ≡ drop i m → get_or l i d ≡ get_or m i d
  same_at l m i d same =
      let none : i + 0 ≡ i = omega arith in
      ap (λ n. get_or l n d) (sym none) ∙ (sym (get_or-drop i l 0 d) ∙ (ap (λ k. get_or k 0 d) same ∙ (get_or-drop i m 0 d ∙ ap (λ n. get_or m n d) none)))

  pub one_at : (l : List X) (i : ℕ) (x : X) → i < length l → x ≡ get_or l i x → take 1 (drop i l) ≡ x ∷ []
  one_at [] i x less is = absurd (omega (arith, less))
  one_at (y ∷ l) zero x less is = ap (λ z. z ∷ []) (sym is)
  one_at (y ∷ l) (suc i) x less is = one_at l i x (omega (arith, less)) is

  -- items before a moved one stay
  pub front_stays : (l l' : List X) (to : ℕ) (x : X) → to ≤ length l → take (to + 1) l' ≡ take to l ++ x ∷ [] → take to l' ≡ take to l
  front_stays l l' to x within moved =
      let on : to + 1 ≡ suc to = omega arith in
      sym (take_less to l') ∙ (ap (take to) (ap (λ n. take n l') (sym on) ∙ moved) ∙ take_at (take to l) (x ∷ []) to (length-take-le to l within))

module _ {F K V : Type 0} (calls : Mut F (Bor K × (MutBor V × Unit {0})) (Bool × (MutBor V × Unit {0}))) where
  pub none_retained : (f : F) → RetainsFirst calls f [] f []
  none_retained f = λ more stay r. r

  module _ (f : F) (old : List (K × V)) (g : F) (new : List (K × V)) (so_far : RetainsFirst calls f old g new) (p : K × V) (h : F) (q : K × V) where
    one_kept : CallsAtPair calls g p true h q → RetainsFirst calls f (old ++ p ∷ []) h (new ++ q ∷ [])
    one_kept call = λ more stay r. rw (append_assoc old (p ∷ []) more, append_assoc new (q ∷ []) stay) (so_far (p ∷ more) (q ∷ stay) (true, h, q, call, stay, r, refl))

    one_dropped : CallsAtPair calls g p false h q → RetainsFirst calls f (old ++ p ∷ []) h new
    one_dropped call = λ more stay r. rw (append_assoc old (p ∷ []) more) (so_far (p ∷ more) stay (false, h, q, call, stay, r, refl))

  -- the pairs of two lists are retained one behind the other
  pub retained_on : (f : F) (old : List (K × V)) (g : F) (new : List (K × V)) (old' : List (K × V)) (h : F) (new' : List (K × V)) → RetainsFirst calls f old g new → RetainsFirst calls g old' h new' → RetainsFirst calls f (old ++ old') h (new ++ new')
  retained_on f old g new old' h new' first then = λ more stay r. rw (append_assoc old old' more, append_assoc new new' stay) (first (old' ++ more) (new' ++ stay) (then more stay r))

  -- one call more, after which the pair at an index is moved behind those that stay
  pub one_more : (f : F) (old : List (K × V)) (g : F) (keys keys' : List K) (values values' : List V) (kept : ℕ) (k : K) (v w : V) (h : F) (stays : Bool) (count : ℕ)
      → kept ≤ length keys → kept ≤ length values → RetainsInFront calls f old g kept keys values → CallsAtPair calls g (k, v) stays h (k, w)
      → take (kept + 1) keys' ≡ take kept keys ++ k ∷ [] → take (kept + 1) values' ≡ take kept values ++ w ∷ []
      → (stays ≡ true → count ≡ kept + 1) → (stays ≡ false → count ≡ kept) → RetainsInFront calls f (old ++ (k, v) ∷ []) h count keys' values'
  one_more f old g keys keys' values values' kept k v w h true count within within' so_far call moved moved' up same =
      let long : length (take kept values) ≡ length (take kept keys) = length-take-le kept values within' ∙ sym (length-take-le kept keys within) in
      rw (up refl, moved, moved', append_pairs (take kept keys) (k ∷ []) (take kept values) (w ∷ []) long)
      (one_kept f old g (zip (take kept keys) (take kept values)) so_far (k, v) h (k, w) call)
  one_more f old g keys keys' values values' kept k v w h false count within within' so_far call moved moved' up same =
      rw (same refl, front_stays keys keys' kept k within moved, front_stays values values' kept w within' moved')
      (one_dropped f old g (zip (take kept keys) (take kept values)) so_far (k, v) h (k, w) call)
