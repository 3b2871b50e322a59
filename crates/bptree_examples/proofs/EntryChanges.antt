-- A list of pairs after changes that are undone.
use Rattle.std.proofs.Common.{◌≡◌, Bool, true, false, cond, ◌||◌, List, [], ◌∷◌, Option, Some, Result, Ok, Err, ◌⊎◌, inl, inr, refl, sym, ap, ◌∙◌}
use Rattle.std.specs.Prelude.{IfOk, OnErr}
use Rattle.std.specs.Option.{is_some}
use Rattle.std.specs.declared.cmp.Ordering.{Ordering}
use Rattle.std.specs.Ordering.{is_eq, nat_cmp, ordering_then}
use Rattle.std.specs.Cmp.{IsTotalOrder, nat_cmp_total}
use Rattle.std.proofs.lemmas.Cmp.{on_total, then_total, tied_itself}
use Rattle.bptree_keys.specs.Contents.{IsAscending, pairs_below, pairs_above, has, value, put, del}
use Rattle.bptree_keys.specs.Indexes.{IsHit}
use Rattle.bptree_keys.proofs.Ascending.{gap_if_absent}
use Rattle.bptree_keys.proofs.Parted.{put_gap, del_hit}
use Rattle.bptree_examples.specs.declared.uses.secondary_index.Entry.{Entry}

module _ {K V : Type 0} (cmp : K → K → Ordering) (k : K) where
  -- A key is present if and only if it has a value.
  pub has_by_value : (l : List (K × V)) → has cmp l k ≡ is_some (value cmp l k)
  has_by_value [] = refl
  has_by_value (p ∷ l) = by (is_eq (cmp p.0 k)) (has_by_value l) where
    by : (b : Bool) → has cmp l k ≡ is_some (value cmp l k) → (b || has cmp l k) ≡ is_some (cond b (Some p.1) (value cmp l k))
    by true e = refl
    by false e = e

  module _ (total : IsTotalOrder cmp) (l : List (K × V)) (ascending : IsAscending cmp l) (absent : has cmp l k ≡ false) (v : V) where
    -- Inserting a new pair and removing it again leaves the list.
    taken_back : del cmp (put cmp l k v) k ≡ l
    taken_back =
        let gap = gap_if_absent cmp total l k ascending absent in
        let hit : IsHit cmp (put cmp l k v) (pairs_below cmp l k) (k, v) (pairs_above cmp l k) k = record { parts = put_gap cmp l (pairs_below cmp l k) (pairs_above cmp l k) k gap v; smaller = gap.smaller; equal = tied_itself total k; greater = gap.greater } in
        del_hit cmp (put cmp l k v) (pairs_below cmp l k) (k, v) (pairs_above cmp l k) k hit ∙ sym gap.parts

    pub taken_back_or_kept : {E : Type 0} (r : Result (Option V) E) (added now : List (K × V)) → added ≡ put cmp l k v → IfOk r (λ old. (old ≡ value cmp added k) × (now ≡ del cmp added k)) → OnErr r (now ≡ added) → (now ≡ l) ⊎ (now ≡ put cmp l k v)
    taken_back_or_kept (Ok old) added now e removed unchanged = inl (removed.1 ∙ (ap (λ t. del cmp t k) e ∙ taken_back))
    taken_back_or_kept (Err error) added now e removed unchanged = inr (unchanged ∙ e)

-- The order of entries.
abbrev pub entry_order : Entry → Entry → Ordering
entry_order x y = ordering_then (nat_cmp x.value y.value) (nat_cmp x.row y.row)

pub entry_total : IsTotalOrder entry_order
entry_total = then_total (on_total (λ (x : Entry). x.value) nat_cmp_total) (on_total (λ (x : Entry). x.row) nat_cmp_total)
