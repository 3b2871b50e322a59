-- Steps that are counted leave out as many pairs.
use Rattle.std.proofs.Common.{◌≡◌, ◌≤◌, List, [], ◌∷◌, Some, arith, drop, length, sym, ◌∙◌}
use Rattle.std.specs.declared.cmp.Ordering.{Ordering}
use Rattle.bptree_bulk.proofs.Segments.{drop_more}
use Rattle.bptree_bulk.specs.Weave.{first_rest, first_count, next_source, second_rest, second_count, Goes}
use Rattle.bptree_bulk.specs.declared.weaving.Source.{Source}
use Rattle.bptree_bulk.specs.declared.weaving.Source.TheVariants.{First, Second, Both}

-- the lists that steps go on to are the first ones without as many pairs as the steps take
pub record Skips {K V : Type 0} (steps : List Source) (a b a' b' : List (K × V)) : Type 0 where
  pub first : a' ≡ drop (first_count steps) a
  pub second : b' ≡ drop (second_count steps) b
  pub first_within : first_count steps ≤ length a
  pub second_within : second_count steps ≤ length b

module _ {K V : Type 0} (cmp : K → K → Ordering) where
  more : (s : Source) (steps : List Source) (a b a' b' : List (K × V)) → next_source cmp a b ≡ Some s → Skips steps (first_rest s a) (second_rest s b) a' b' → Skips (s ∷ steps) a b a' b'
  more First steps [] [] a' b' next rest = cc
  more First steps [] (q ∷ b) a' b' next rest = cc
  more First steps (p ∷ a) b a' b' next rest = record { first = rest.first ∙ drop_more 1 (first_count steps) (p ∷ a); second = rest.second ∙ drop_more 0 (second_count steps) b; first_within = omega (arith, rest.first_within); second_within = omega (arith, rest.second_within) }
  more Second steps [] [] a' b' next rest = cc
  more Second steps (p ∷ a) [] a' b' next rest = cc
  more Second steps a (q ∷ b) a' b' next rest = record { first = rest.first ∙ drop_more 0 (first_count steps) a; second = rest.second ∙ drop_more 1 (second_count steps) (q ∷ b); first_within = omega (arith, rest.first_within); second_within = omega (arith, rest.second_within) }
  more Both steps [] [] a' b' next rest = cc
  more Both steps [] (q ∷ b) a' b' next rest = cc
  more Both steps (p ∷ a) [] a' b' next rest = cc
  more Both steps (p ∷ a) (q ∷ b) a' b' next rest = record { first = rest.first ∙ drop_more 1 (first_count steps) (p ∷ a); second = rest.second ∙ drop_more 1 (second_count steps) (q ∷ b); first_within = omega (arith, rest.first_within); second_within = omega (arith, rest.second_within) }

  pub skips : (steps : List Source) (a b a' b' : List (K × V)) → Goes cmp steps a b a' b' → Skips steps a b a' b'
  skips [] a b a' b' goes = record { first = sym goes.0; second = sym goes.1; first_within = omega arith; second_within = omega arith }
  skips (s ∷ steps) a b a' b' goes = more s steps a b a' b' goes.0 (skips steps (first_rest s a) (second_rest s b) a' b' goes.1)
