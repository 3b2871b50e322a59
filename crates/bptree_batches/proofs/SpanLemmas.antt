-- The searches of a few keys in their leaves, step by step.
use Rattle.std.proofs.Common.{◌≡◌, ℕ, ◌+◌, ◌-◌, ◌*◌, ◌/◌, ◌<◌, ◌≤◌, Bool, true, false, true≢false, List, [], ◌∷◌, length, get_or, refl, sym, ◌∙◌, arith, Ok, Err}
use Rattle.std.specs.declared.cmp.Ordering.{Ordering}
use Rattle.std.specs.declared.cmp.Ordering.TheVariants.{Less, Equal, Greater}
use Rattle.std.specs.Cmp.{IsTotalOrder}
use Rattle.std.specs.List.Sorted.{IsStrictlySortedBy}
use Rattle.std.specs.Ordering.{is_eq, is_le, is_lt}
use Rattle.bptree_keys.specs.Locate.{locate}
use Rattle.bptree_keys.proofs.Locating.{locate_from_search}
use Rattle.bptree_keys.proofs.Steps.{at_x, window_end, window_then}
use Rattle.bptree_batches.specs.Slots.{IsSearchSpan}
use mir.Val.{bool_byte}

bit_small : (b : Bool) → bool_byte b ≤ 1
bit_small true = omega arith
bit_small false = omega arith

is_Equal : (o : Ordering) → is_eq o ≡ true → o ≡ Equal
is_Equal Less same = absurd (true≢false (sym same))
is_Equal Equal same = refl
is_Equal Greater same = absurd (true≢false (sym same))

module _ {K : Type 0} (cmp : K → K → Ordering) (xs : List K) (k : K) (span : ℕ × ℕ) where
  -- the span after a comparison, whose result moves the first index by a product
  pub span_halved : (most bit : ℕ) (x : K) (o : Ordering) (is_past : Bool) → 2 ≤ span.1 → x ≡ get_or xs (span.0 + span.1 / 2) x → o ≡ cmp x k → is_past ≡ is_le o → bit ≡ bool_byte is_past → IsSearchSpan (λ y. cmp y k) xs (most + most) span
      → IsSearchSpan (λ y. cmp y k) xs most (span.0 + bit * (span.1 / 2), span.1 - span.1 / 2)
  span_halved most bit x o is_past two read order past moved s =
      let next = window_then (λ y. cmp y k) xs span.0 (span.0 + bit * (span.1 / 2)) (span.1 / 2) span.1 (span.1 - span.1 / 2) bit x o is_past (omega (arith, s.within)) read order past moved refl (omega arith) (omega arith) s.among in
      record { some = λ any. omega arith; within = omega (arith, next.0, s.within); few = omega (arith, s.few); among = next.1 }

  pub span_empty : IsSearchSpan (λ y. cmp y k) xs 1 span → span.1 ≡ 0 → Err 0 ≡ locate cmp xs k
  span_empty s none = empty xs s.some
    where
      empty : (ys : List K) → (0 < length ys → 0 < span.1) → Err 0 ≡ locate cmp ys k
      empty [] some = refl
      empty (y ∷ ys) some = absurd (omega (arith, none, some (omega arith)))

  module _ (total : IsTotalOrder cmp) (x : K) where
    -- the one key that is left equals the searched key
    pub span_found : (o : Ordering) (equal : Bool) → span.0 < length xs → x ≡ get_or xs span.0 x → o ≡ cmp x k → equal ≡ is_eq o → equal ≡ true → IsStrictlySortedBy cmp xs → Ok span.0 ≡ locate cmp xs k
    span_found o equal within read order is_equal same =
        locate_from_search cmp total xs k (Ok span.0) within (at_x (λ y. cmp y k) xs (λ y. cmp y k ≡ Equal) span.0 x within read (sym order ∙ is_Equal o (sym is_equal ∙ same)))

    -- the one key that is left differs from the searched key
    pub span_ended : (bit : ℕ) (o : Ordering) (equal lower : Bool) → span.0 < length xs → x ≡ get_or xs span.0 x → o ≡ cmp x k → equal ≡ is_eq o → equal ≡ false → lower ≡ is_lt o → bit ≡ bool_byte lower → IsSearchSpan (λ y. cmp y k) xs 1 span
        → IsStrictlySortedBy cmp xs → Err (span.0 + bit) ≡ locate cmp xs k
    span_ended bit o equal lower within read order is_equal differs is_lower moved s =
        locate_from_search cmp total xs k (Err (span.0 + bit)) (omega (arith, moved, bit_small lower, within)) (window_end (λ y. cmp y k) xs span.0 span.1 bit x o equal lower s.few within read order is_equal differs is_lower moved s.among)
