-- The last members of a list are removed one by one.
use Rattle.std.proofs.Common.{◌≡◌, ◌∙◌, ◌+◌, ◌-◌, ℕ, sym, ap, List, [], ◌∷◌, ◌++◌, length, take, drop, reverse, arith, append_assoc, length-append}
use Rattle.std.proofs.Math.Seq.{drop-append_seam, take-append_seam}
use Rattle.std.proofs.lemmas.Grind.{reverse_onto}

module _ {X : Type 0} where
  -- some members were removed and appended to others, the last first; `left` are still to come
  pub record AreTaken (old cur taken : List X) (count left : ℕ) (before after : List X) : Type 0 where
    pub all : old ≡ cur ++ taken
    pub sum : length taken + left ≡ count
    pub moved : after ≡ before ++ reverse taken

  pub one_taken : (old cur taken : List X) (count left : ℕ) (before after : List X) (new : List X) (x : X) (left' : ℕ) → AreTaken old cur taken count left before after → cur ≡ new ++ x ∷ [] → left' + 1 ≡ left → AreTaken old new (x ∷ taken) count left' before (after ++ x ∷ [])
  one_taken old cur taken count left before after new x left' are one less = record {
    all = are.all ∙ (ap (λ l. l ++ taken) one ∙ append_assoc new (x ∷ []) taken);
    sum = omega (arith, are.sum, less);
    moved = ap (λ l. l ++ x ∷ []) are.moved ∙ (append_assoc before (reverse taken) (x ∷ []) ∙ ap (λ l. before ++ l) (sym (reverse_onto taken x [])));
  }

  -- the members that are left, and those that were removed
  module _ (old cur taken : List X) (all : old ≡ cur ++ taken) (count : ℕ) (long : length taken ≡ count) where
    rest_long : length old - count ≡ length cur
    rest_long = omega (arith, ap length all, length-append cur taken, long)

    pub rest_is : cur ≡ take (length old - count) old
    rest_is = sym (ap (λ n. take n old) rest_long ∙ (ap (take (length cur)) all ∙ take-append_seam cur taken))

    pub taken_is : taken ≡ drop (length old - count) old
    taken_is = sym (ap (λ n. drop n old) rest_long ∙ (ap (drop (length cur)) all ∙ drop-append_seam cur taken))
