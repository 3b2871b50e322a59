-- Pairs that were put and are taken back.
use Rattle.std.proofs.Common.{◌≡◌, ◌∙◌, sym, ap, subst, refl, true, false, None, Option, Some, List, [], ◌∷◌, ◌++◌, reverse}
use Rattle.std.proofs.lemmas.List.{reverse-append, reverse-reverse}
use Rattle.std.specs.Cmp.{IsTotalOrder}
use Rattle.std.specs.Borrow.{MutBor}
use Rattle.std.specs.Option.{option_copied_mut, is_some as has_value}
use Rattle.std.specs.Prelude.{IsSome}
use Rattle.std.specs.declared.cmp.Ordering.{Ordering}
use Rattle.std.specs.declared.cmp.Ordering.TheVariants.{Equal}
use Rattle.bptree_propagation.specs.Borrowing.{written}
use Rattle.std.specs.declared.alloc.Global.{Global}
use Rattle.std.specs.declared.vec.Vec.{Vec}
use Rattle.bptree_bulk.specs.Filling.{IsFilling}
use Rattle.bptree_bulk.specs.declared.filling.Filling.{Filling}
use Rattle.bptree_bulk.specs.Weave.{put_pair}
use Rattle.bptree_nodes.specs.Inner.{Inner}
use Rattle.bptree_nodes.specs.Leaf.{Leaf}
use Rattle.bptree_nodes.specs.Slot.{Slots}
use Rattle.bptree_keys.specs.Contents.{has, value, put, del, pairs_below, pairs_above, IsAscending}
use Rattle.bptree_keys.specs.Indexes.{IsHit}
use Rattle.bptree_keys.proofs.Ascending.{equal_parts, gap_if_absent}
use Rattle.bptree_keys.proofs.Equal.{has_where_value}
use Rattle.bptree_keys.proofs.Laws.{found_if_there, hit_if_there, put_ascending}
use Rattle.bptree_keys.proofs.Parted.{del_hit, put_gap, put_hit, value_hit}
use Rattle.bptree_tree.specs.Entries.{entry}
use Rattle.bptree_tree.specs.Undoing.{CanUndo, CanUndoAll}
use Rattle.bptree_tree.specs.declared.tree.merging.Undo.{Undo}
use Rattle.bptree_tree.proofs.EntryLemmas.{entry_hit}

pub some_same : {X : Type 0} (x y : X) → Some x ≡ Some y → x ≡ y
some_same x y same = cc

pub is_some : {X : Type 0} (o : Option X) (x : X) → o ≡ Some x → IsSome o
is_some None x is = let z : None ≡ Some x = is in cc
is_some (Some y) x is = refl

pub some_read : {V : Type 0} (o : Option (MutBor V)) (v : V) → option_copied_mut o ≡ Some v → IsSome o
some_read None v is = let z : None ≡ Some v = is in cc
some_read (Some b) v is = refl

pub value_read : {V : Type 0} (o : Option (MutBor V)) (b : MutBor V) (v : V) → o ≡ Some b → option_copied_mut o ≡ Some v → b.now ≡ v
value_read o b v is read = some_same b.now v (ap option_copied_mut (sym is) ∙ read)

pub absent_is : {K V : Type 0} (cmp : K → K → Ordering) (l : List (K × V)) (k : K) → None ≡ value cmp l k → has cmp l k ≡ false
absent_is cmp l k none = sym (has_where_value cmp l k) ∙ ap has_value (sym none)

-- writing a value at a key that is there is putting it there
pub written_is : {K V : Type 0} (cmp : K → K → Ordering) (l : List (K × V)) (k : K) (was w v : V) → value cmp l k ≡ Some was → w ≡ v → written cmp k l w ≡ put cmp l k v
written_is cmp l k was w v there same = ap (written cmp k l) same ∙ rw (sym (has_where_value cmp l k) ∙ ap has_value there) refl

module _ {K V : Type 0} {cmp : K → K → Ordering} (total : IsTotalOrder cmp) (l : List (K × V)) (up : IsAscending cmp l) (k : K) (v : V) where
  -- undoing the insertion of a pair
  module _ (absent : has cmp l k ≡ false) (c : K) (equal : cmp k c ≡ Equal) where
    abbrev before : List (K × V)
    before = pairs_below cmp l k

    abbrev after : List (K × V)
    after = pairs_above cmp l k

    put_is : put cmp l k v ≡ before ++ (k, v) ∷ after
    put_is = put_gap cmp l before after k (gap_if_absent cmp total l k up absent) v

    inserted_hit : IsHit cmp (put cmp l k v) before (k, v) after c
    inserted_hit =
        let hit = equal_parts cmp total before (k, v) after c (subst (IsAscending cmp) put_is (put_ascending cmp total l up k v)) equal in
        record { parts = put_is; smaller = hit.smaller; equal = equal; greater = hit.greater }

    pub entry_there : entry cmp (put cmp l k v) c ≡ Some (k, v)
    entry_there = entry_hit cmp (put cmp l k v) before (k, v) after c inserted_hit

    pub taken_out : del cmp (put cmp l k v) c ≡ l
    taken_out = del_hit cmp (put cmp l k v) before (k, v) after c inserted_hit ∙ sym (gap_if_absent cmp total l k up absent).parts

  -- undoing the replacement of a value
  module _ (old : V) (was : value cmp l k ≡ Some old) where
    there : has cmp l k ≡ true
    there = sym (has_where_value cmp l k) ∙ ap has_value was

    hit : IsHit cmp l (found_if_there cmp k l there).before (found_if_there cmp k l there).pair (found_if_there cmp k l there).after k
    hit = hit_if_there cmp total l up k there

    hit_then : IsHit cmp (put cmp l k v) (found_if_there cmp k l there).before ((found_if_there cmp k l there).pair.0, v) (found_if_there cmp k l there).after k
    hit_then = record { parts = put_hit cmp l _ _ _ k hit v; smaller = hit.smaller; equal = hit.equal; greater = hit.greater }

    pub value_there : value cmp (put cmp l k v) k ≡ Some v
    value_there = value_hit cmp (put cmp l k v) _ _ _ k hit_then

    pub put_back : put cmp (put cmp l k v) k old ≡ l
    put_back =
        let found = found_if_there cmp k l there in
        let same : old ≡ found.pair.1 = some_same old found.pair.1 (sym was ∙ value_hit cmp l _ _ _ k hit) in
        put_hit cmp (put cmp l k v) _ _ _ k hit_then old ∙ (ap (λ w. found.before ++ (found.pair.0, w) ∷ found.after) same ∙ sym hit.parts)

    -- any key that equals the one there replaces its value
    pub put_same : (c : K) → cmp k c ≡ Equal → put cmp l k v ≡ put cmp l c v
    put_same c equal =
        let found = found_if_there cmp k l there in
        let same : cmp found.pair.0 c ≡ Equal = total.congr found.pair.0 k c hit.equal ∙ equal in
        let at = equal_parts cmp total found.before found.pair found.after c (subst (IsAscending cmp) hit.parts up) same in
        let hit' : IsHit cmp l found.before found.pair found.after c = record { parts = hit.parts; smaller = at.smaller; equal = same; greater = at.greater } in
        put_hit cmp l _ _ _ k hit v ∙ sym (put_hit cmp l _ _ _ c hit' v)

module _ {K V : Type 0} {cmp : K → K → Ordering} (total : IsTotalOrder cmp) (l : List (K × V)) (up : IsAscending cmp l) (pair : K × V) where
  -- undoing an insertion restores the pair and the list
  module _ (c : K) (can : (has cmp l pair.0 ≡ false) × (cmp pair.0 c ≡ Equal)) (now : List (K × V)) (put : now ≡ put_pair cmp l pair) where
    pub inserted_pair : entry cmp now c ≡ Some pair
    inserted_pair = ap (λ m. entry cmp m c) put ∙ entry_there total l up pair.0 pair.1 can.0 c can.1

    pub inserted_undone : del cmp now c ≡ l
    inserted_undone = ap (λ m. del cmp m c) put ∙ taken_out total l up pair.0 pair.1 can.0 c can.1

  -- undoing a replacement restores the pair and the list
  module _ (k : K) (old : V) (can : (pair.0 ≡ k) × (value cmp l k ≡ Some old)) (now : List (K × V)) (put' : now ≡ put_pair cmp l pair) where
    now_is : now ≡ put cmp l k pair.1
    now_is = put' ∙ ap (λ j. put cmp l j pair.1) can.0

    pub replaced_pair : value cmp now k ≡ Some pair.1
    replaced_pair = ap (λ m. value cmp m k) now_is ∙ value_there total l up k pair.1 old can.1

    pub replaced_undone : (w : V) → w ≡ old → written cmp k now w ≡ l
    replaced_undone w same = written_is cmp now k pair.1 w old replaced_pair same ∙ (ap (λ m. put cmp m k old) now_is ∙ put_back total l up k pair.1 old can.1)

module _ {K V : Type 0} (cmp : K → K → Ordering) where
  -- one pair more was put
  pub undo_more : (es : List (Undo K V)) (ps : List (K × V)) (l new : List (K × V)) (e : Undo K V) (p : K × V) → CanUndoAll cmp es ps l new → CanUndo cmp e p new → CanUndoAll cmp (es ++ e ∷ []) (ps ++ p ∷ []) l (put_pair cmp new p)
  undo_more [] [] l new e p all can = (subst (CanUndo cmp e p) all can, ap (λ m. put_pair cmp m p) all)
  undo_more [] (q ∷ ps) l new e p all can = absurd all
  undo_more (d ∷ es) [] l new e p all can = absurd all
  undo_more (d ∷ es) (q ∷ ps) l new e p all can = (all.0, undo_more es ps (put_pair cmp l q) new e p all.1 can)

  -- the last put is undone
  pub record LastUndone (es : List (Undo K V)) (e : Undo K V) (ps l new : List (K × V)) : Type 0 where
    pub firsts : List (K × V)
    pub pair : K × V
    pub list : List (K × V)
    pub up : IsAscending cmp list
    pub are : ps ≡ firsts ++ pair ∷ []
    pub all : CanUndoAll cmp es firsts l list
    pub can : CanUndo cmp e pair list
    pub put : new ≡ put_pair cmp list pair

  last_undone : IsTotalOrder cmp → (es : List (Undo K V)) (e : Undo K V) (ps l new : List (K × V)) → IsAscending cmp l → CanUndoAll cmp (es ++ e ∷ []) ps l new → LastUndone es e ps l new
  last_undone total [] e [] l new up all = absurd all
  last_undone total [] e (p ∷ []) l new up all = record { firsts = []; pair = p; list = l; up = up; are = refl; all = refl; can = all.0; put = all.1 }
  last_undone total [] e (p ∷ q ∷ ps) l new up all = absurd all.1
  last_undone total (d ∷ es) e [] l new up all = absurd all
  last_undone total (d ∷ es) e (p ∷ ps) l new up all =
      let rest = last_undone total es e ps (put_pair cmp l p) new (put_ascending cmp total l up p.0 p.1) all.1 in
      record { firsts = p ∷ rest.firsts; pair = rest.pair; list = rest.list; up = rest.up; are = ap (λ m. p ∷ m) rest.are; all = (all.0, rest.all); can = rest.can; put = rest.put }

  pub last_of : IsTotalOrder cmp → {all es : List (Undo K V)} {e : Undo K V} → all ≡ es ++ e ∷ [] → (ps l new : List (K × V)) → IsAscending cmp l → CanUndoAll cmp all ps l new → LastUndone es e ps l new
  last_of total {es = es} {e = e} is ps l new up can = last_undone total es e ps l new up (subst (λ es. CanUndoAll cmp es ps l new) is can)

-- the pairs that came back, the last one first, are all pairs
pub all_back : {X : Type 0} (moved rest : List X) (p : X) (front back : List X) → front ≡ [] → back ≡ ((front ++ reverse rest) ++ p ∷ []) ++ reverse moved → reverse back ≡ moved ++ p ∷ rest
all_back moved rest p front back none is =
    ap reverse (is ∙ ap (λ l. ((l ++ reverse rest) ++ p ∷ []) ++ reverse moved) none)
    ∙ (reverse-append (reverse rest ++ p ∷ []) (reverse moved)
    ∙ (ap (λ l. l ++ reverse (reverse rest ++ p ∷ [])) (reverse-reverse moved)
    ∙ ap (λ l. moved ++ l) (reverse-append (reverse rest) (p ∷ []) ∙ ap (λ l. p ∷ l) (reverse-reverse rest))))

-- the room for the pairs is no part of what is prepared for them
pub filling_with : {S K V A : Type 0} (cmp : K → K → Ordering) (is_summary : A → List K → Type 0) (slots : S → Slots (Inner K A) (Leaf K V)) (filling : Filling S K V A) (pairs : Vec (K × V) Global) (l : List (K × V)) → IsFilling cmp is_summary slots filling l → IsFilling cmp is_summary slots (record filling { pairs = pairs }) l
filling_with cmp is_summary slots filling pairs l is = record { parts = is.parts; are = is.are; framed = is.framed; empty = is.empty; as_many = is.as_many; leaves = is.leaves; count = is.count; ascending = is.ascending }
