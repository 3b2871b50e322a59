-- The first pairs of a span, found leaf by leaf.
use Rattle.std.proofs.Common.{◌≡◌, ℕ, zero, suc, ◌+◌, ◌-◌, ◌<◌, ◌≤◌, List, [], ◌∷◌, ◌++◌, length, take, drop, Option, Some, refl, sym, subst, ◌∙◌, ap, arith, length-append, length-drop, append_assoc}
use Rattle.std.proofs.Math.Seq.{take-append-add}
use Rattle.std.proofs.lemmas.List.{drop-take, length-take-le, take_all}
use Rattle.bptree_iter.specs.declared.part.PartLen.{PartLen}
use Rattle.bptree_iter.specs.declared.part.PartLen.TheVariants.{Exact}
use Rattle.bptree_keys.specs.declared.node_id.LeafNodeId.{LeafNodeId}
use Rattle.bptree_keys.specs.declared.node_id.Position.{Position}
use Rattle.bptree_nodes.specs.Inner.{Inner}
use Rattle.bptree_nodes.specs.Leaf.{Leaf}
use Rattle.bptree_nodes.specs.Slot.{Slots}
use Rattle.bptree_iter.specs.declared.part.Part.{Part}
use Rattle.bptree_iter.specs.Span.{leaves_of, pairs_of_part, AreSame, IsSpan, AreApart, first_between, IsBetween, IsPartIn}
use Rattle.bptree_iter.proofs.SpanLemmas.{first_of_span, from_le, take-part}

take_take : {X : Type 0} (n m : ℕ) (xs : List X) → n ≤ m → take n (take m xs) ≡ take n xs
take_take zero m xs h = refl
take_take (suc n) zero xs h = absurd (omega arith)
take_take (suc n) (suc m) [] h = refl
take_take (suc n) (suc m) (x ∷ xs) h = ap (λ ys. x ∷ ys) (take_take n m xs (omega arith))

-- the first n items from index `from` on of those before `to` are the items from `from` up to
-- `from + n`
take_within : {X : Type 0} (ps : List X) (from to n : ℕ) → from ≤ to → to ≤ length ps → from + n ≤ to → take n (drop from (take to ps)) ≡ drop from (take (from + n) ps)
take_within ps from to n h g k = sym (drop-take from n (take to ps)) ∙ ap (drop from) (take_take (from + n) to ps k)

long_within : {X : Type 0} (ps : List X) (from n : ℕ) → from + n ≤ length ps → length (drop from (take (from + n) ps)) ≡ n
long_within ps from n h = omega (arith, length-drop from (take (from + n) ps), length-take-le (from + n) ps h)

module _ {K V : Type 0} (leaves : LeafNodeId → Option (Leaf K V)) where
  -- two walks from one leaf to another pass the same number of leaves
  same_way : (front : LeafNodeId) (f g : ℕ) (ids jds : List LeafNodeId) (back : LeafNodeId) (t u : ℕ) (xs ys : List (K × V)) → IsSpan leaves front f ids back t xs → AreApart front ids back → IsSpan leaves front g jds back u ys → AreApart front jds back → length ids ≡ length jds
  same_way front f g [] [] back t u xs ys s a s' a' = refl
  same_way front f g [] (j ∷ jds) back t u xs ys (leaf, l, b, ft, tl, e) a s' a' = absurd (a'.0 (sym b))
  same_way front f g (i ∷ ids) [] back t u xs ys s a (leaf, l, b, ft, tl, e) a' = absurd (a.0 (sym b))
  same_way front f g (i ∷ ids) (j ∷ jds) back t u xs ys (leaf, after, l, n, la, p, fl, pos, zs, e, rest) a (leaf', after', l', n', la', p', fl', pos', zs', e', rest') a' =
      let same : leaf ≡ leaf' = cc (l, l') in
      let here : j ≡ i = cc (n, n', same) in
      let more = same_way i 0 0 ids jds back t u zs zs' rest a.1 (subst (λ x. IsSpan leaves x 0 jds back u zs') here rest') (subst (λ x. AreApart x jds back) here a'.1) in
      ap (λ m. suc m) more

  -- a span that ends at slot `t` of the leaf `b`
  pub record Joined (front : LeafNodeId) (from : ℕ) (b : LeafNodeId) (t : ℕ) (zs : List (K × V)) : Type 0 where
    pub ids : List LeafNodeId
    pub span : IsSpan leaves front from ids b t zs
    pub apart : AreApart front ids b

  -- the walk is at slot `passed` of the leaf `at`, and `left` of the first `limit` pairs are still
  -- ahead
  pub record Walked (front : LeafNodeId) (from : ℕ) (back : LeafNodeId) (to limit : ℕ) (at : LeafNodeId) (passed left : ℕ) : Type 0 where
    pub ids : List LeafNodeId
    pub ws : List (K × V)
    pub ys : List (K × V)
    pub span : IsSpan leaves at passed ids back to ys
    pub apart : AreApart at ids back
    pub count : length ws + left ≡ limit
    pub whole : first_between leaves front from back to limit ≡ take limit (ws ++ ys)
    pub join : (b : LeafNodeId) (t u : ℕ) (kds : List LeafNodeId) (zs : List (K × V)) (after : List LeafNodeId) (vs : List (K × V)) → IsSpan leaves at passed kds b t zs → AreApart at kds b → IsSpan leaves b u after back to vs → AreApart b after back → length after ≤ length ids → Joined front from b t (ws ++ zs)

  pub walked_none : (front : LeafNodeId) (from : ℕ) (back : LeafNodeId) (to limit : ℕ) (extent : PartLen) → IsBetween leaves front from back to limit extent → Walked front from back to limit front from limit
  walked_none front from back to limit extent h =
      record {
        ids = h.ids;
        ws = [];
        ys = h.pairs;
        span = h.span;
        apart = h.apart;
        count = omega arith;
        whole = first_of_span leaves front from h.ids back to h.pairs limit h.span h.apart;
        join = λ b t u kds zs after vs s a s' a' le. record { ids = kds; span = s; apart = a };
      }

  -- the walk moves to the next leaf
  pub record Next (front : LeafNodeId) (from : ℕ) (back : LeafNodeId) (to limit : ℕ) (leaf : Leaf K V) (left : ℕ) (passed : ℕ) : Type 0 where
    pub id : LeafNodeId
    pub after : Leaf K V
    pub next : leaf.next ≡ Some id
    pub found : leaves id ≡ Some after
    pub some : 0 < length leaf.pairs
    pub walked : length leaf.pairs - passed < left → Walked front from back to limit id 0 (left - (length leaf.pairs - passed))

  walk_on : (front : LeafNodeId) (from : ℕ) (back : LeafNodeId) (to limit : ℕ) (at : LeafNodeId) (passed left : ℕ) (leaf : Leaf K V) (ids : List LeafNodeId) (ws ys : List (K × V)) → IsSpan leaves at passed ids back to ys → AreApart at ids back
      → length ws + left ≡ limit → first_between leaves front from back to limit ≡ take limit (ws ++ ys)
      → ((b : LeafNodeId) (t u : ℕ) (kds : List LeafNodeId) (zs : List (K × V)) (after : List LeafNodeId) (vs : List (K × V)) → IsSpan leaves at passed kds b t zs → AreApart at kds b → IsSpan leaves b u after back to vs → AreApart b after back → length after ≤ length ids → Joined front from b t (ws ++ zs))
      → (at ≡ back → ⊥) → leaves at ≡ Some leaf → Next front from back to limit leaf left passed
  walk_on front from back to limit at passed left leaf [] ws ys (leaf', l, b, ft, tl, e) a count whole join other is = absurd (other (sym b))
  walk_on front from back to limit at passed left leaf (id ∷ ids) ws ys (leaf', after, l, n, la, p, fl, pos, zs, e, rest) a count whole join other is =
      let same : leaf' ≡ leaf = cc (l, is) in
      let fits : passed ≤ length leaf.pairs = rw (← same) fl in
      let seam : (us : List (K × V)) → (ws ++ drop passed leaf'.pairs) ++ us ≡ ws ++ (drop passed leaf'.pairs ++ us) = (λ us. append_assoc ws (drop passed leaf'.pairs) us) in
      let long : length leaf'.pairs ≡ length leaf.pairs = ap (λ (x : Leaf K V). length x.pairs) same in
      record {
        id = id;
        after = after;
        next = rw (← same) n;
        found = la;
        some = rw (← same) pos;
        walked = λ more. record {
          ids = ids;
          ws = ws ++ drop passed leaf'.pairs;
          ys = zs;
          span = rest;
          apart = a.1;
          count = omega (arith, count, more, fits, long, length-append ws (drop passed leaf'.pairs), length-drop passed leaf'.pairs);
          whole = whole ∙ ap (take limit) (ap (λ us. ws ++ us) e ∙ sym (seam zs));
          join = λ b t u kds us behind vs s a' s' a'' le. (
              let apart : at ≡ b → ⊥ =
              (λ eq. let e' = same_way at u passed behind (id ∷ ids) back to to vs ys (subst (λ x. IsSpan leaves x u behind back to vs) (sym eq) s') (subst (λ x. AreApart x behind back) (sym eq) a'') (leaf', after, l, n, la, p, fl, pos, zs, e, rest) a in omega (arith, e', le)) in
              let got = join b t u (id ∷ kds) (drop passed leaf'.pairs ++ us) behind vs (leaf', after, l, n, la, p, fl, pos, us, refl, s) (apart, a') s' a'' (omega (arith, le)) in
              subst (Joined front from b t) (sym (seam us)) got);
        };
      }

  pub next_of_walk : (front : LeafNodeId) (from : ℕ) (back : LeafNodeId) (to limit : ℕ) (at : LeafNodeId) (passed left : ℕ) (leaf : Leaf K V) → Walked front from back to limit at passed left → (at ≡ back → ⊥) → leaves at ≡ Some leaf → Next front from back to limit leaf left passed
  next_of_walk front from back to limit at passed left leaf w other is =
      walk_on front from back to limit at passed left leaf w.ids w.ws w.ys w.span w.apart w.count w.whole w.join other is

  -- what follows when a walk ends: a part with an exact limit has the same pairs
  pub record Ended (front : LeafNodeId) (from : ℕ) (back : LeafNodeId) (to limit : ℕ) (b : LeafNodeId) (t n : ℕ) : Type 0 where
    pub between : IsBetween leaves front from b t n Exact
    pub same : first_between leaves front from b t n ≡ first_between leaves front from back to limit

  ended : (front : LeafNodeId) (from : ℕ) (back : LeafNodeId) (to limit : ℕ) (b : LeafNodeId) (t n : ℕ) (us : List (K × V)) → Joined front from b t us → length us ≡ n → first_between leaves front from back to limit ≡ us → Ended front from back to limit b t n
  ended front from back to limit b t n us j long is =
      record {
        between = record { ids = j.ids; pairs = us; span = j.span; apart = j.apart; reports = long };
        same = first_of_span leaves front from j.ids b t us n j.span j.apart ∙ (take_all n us (omega (arith, long)) ∙ sym is);
      }

  -- the first pairs of a span that are in its first leaf
  start_of_span : (at : LeafNodeId) (passed : ℕ) (ids : List LeafNodeId) (back : LeafNodeId) (to : ℕ) (ys : List (K × V)) (leaf : Leaf K V) (left : ℕ) → IsSpan leaves at passed ids back to ys → AreApart at ids back → leaves at ≡ Some leaf → passed + left ≤ length leaf.pairs → (at ≡ back → passed + left ≤ to) → take left ys ≡ drop passed (take (passed + left) leaf.pairs)
  start_of_span at passed [] back to ys leaf left (leaf', l, b, ft, tl, e) a is fits last =
      let same : leaf' ≡ leaf = cc (l, is) in
      let short = last (sym b) in
      rw (← same) (ap (take left) e ∙ take_within leaf'.pairs passed to left ft tl short)
  start_of_span at passed (id ∷ ids) back to ys leaf left (leaf', after, l, n, la, p, fl, pos, zs, e, rest) a is fits last =
      let same : leaf' ≡ leaf = cc (l, is) in
      let fits' : passed + left ≤ length leaf'.pairs = rw same fits in
      let part = take-part leaf'.pairs zs passed (passed + left) (omega arith) fits' in
      let long = long_within leaf'.pairs passed left fits' in
      rw (← same) (ap (take left) e ∙ (ap (λ m. take m (drop passed leaf'.pairs ++ zs)) (sym long) ∙ part))

  pub ends_here : (front : LeafNodeId) (from : ℕ) (back : LeafNodeId) (to limit : ℕ) (at : LeafNodeId) (passed left : ℕ) (leaf : Leaf K V) → Walked front from back to limit at passed left → leaves at ≡ Some leaf → passed + left ≤ length leaf.pairs → (at ≡ back → passed + left ≤ to) → Ended front from back to limit at (passed + left) limit
  ends_here front from back to limit at passed left leaf w is fits last =
      let us = drop passed (take (passed + left) leaf.pairs) in
      let start = start_of_span at passed w.ids back to w.ys leaf left w.span w.apart is fits last in
      let j = w.join at (passed + left) passed [] us w.ids w.ys (leaf, is, refl, omega arith, fits, refl) tt w.span w.apart (omega arith) in
      let long : length us ≡ left = long_within leaf.pairs passed left fits in
      ended front from back to limit at (passed + left) limit (w.ws ++ us) j (omega (arith, length-append w.ws us, long, w.count))
      (w.whole ∙ (ap (λ m. take m (w.ws ++ w.ys)) (sym w.count) ∙ (take-append-add w.ws w.ys left ∙ ap (λ vs. w.ws ++ vs) start)))

  -- in the last leaf, the pairs that are left are those from `passed` up to `to`
  rest_is : (at : LeafNodeId) (passed : ℕ) (ids : List LeafNodeId) (back : LeafNodeId) (to : ℕ) (ys : List (K × V)) → IsSpan leaves at passed ids back to ys → AreApart at ids back → at ≡ back → (leaf : Leaf K V) × (leaves back ≡ Some leaf) × (passed ≤ to) × (to ≤ length leaf.pairs) × (length ys ≡ to - passed)
  rest_is at passed [] back to ys (leaf, l, b, ft, tl, e) a same =
      (leaf, rw b l, ft, tl, omega (arith, ap length e, length-drop passed (take to leaf.pairs), length-take-le to leaf.pairs tl))
  rest_is at passed (id ∷ ids) back to ys s a same = absurd (a.0 same)

  pub last_of_walk : (front : LeafNodeId) (from : ℕ) (back : LeafNodeId) (to limit : ℕ) (at : LeafNodeId) (passed left : ℕ) (w : Walked front from back to limit at passed left) → at ≡ back → (leaf : Leaf K V) × (leaves back ≡ Some leaf) × (passed ≤ to) × (to ≤ length leaf.pairs) × (length w.ys ≡ to - passed)
  last_of_walk front from back to limit at passed left w same = rest_is at passed w.ids back to w.ys w.span w.apart same

  pub ends_behind : (front : LeafNodeId) (from : ℕ) (back : LeafNodeId) (to limit : ℕ) (at : LeafNodeId) (passed left : ℕ) → Walked front from back to limit at passed left → at ≡ back → to - passed < left → Ended front from back to limit back to (limit - left + (to - passed))
  ends_behind front from back to limit at passed left w same more =
      let last = rest_is at passed w.ids back to w.ys w.span w.apart same in
      let j = w.join back to to w.ids w.ys [] (drop to (take to last.0.pairs)) w.span w.apart (last.0, last.1, refl, omega arith, last.3, refl) tt (omega arith) in
      let long : length (w.ws ++ w.ys) ≡ limit - left + (to - passed) = omega (arith, length-append w.ws w.ys, w.count, last.4) in
      ended front from back to limit back to (limit - left + (to - passed)) (w.ws ++ w.ys) j long
      (w.whole ∙ take_all limit (w.ws ++ w.ys) (omega (arith, long, more, w.count)))

  -- the slot that the walk is at is within its leaf
  pub index_of_walk : (front : LeafNodeId) (from : ℕ) (back : LeafNodeId) (to limit : ℕ) (at : LeafNodeId) (passed left : ℕ) (leaf : Leaf K V) → Walked front from back to limit at passed left → leaves at ≡ Some leaf → passed ≤ length leaf.pairs
  index_of_walk front from back to limit at passed left leaf w is = from_le leaves at passed w.ids back to w.ys leaf w.span is

-- another part with the same pairs has an end at which the first part can end too
pub record EndsPart {K V A : Type 0} (slots : Slots (Inner K A) (Leaf K V)) (part other : Part) : Type 0 where
  pub between : IsBetween (leaves_of slots) part.front.leaf part.front.slot other.back.leaf other.back.slot other.limit other.extent
  pub same : first_between (leaves_of slots) part.front.leaf part.front.slot other.back.leaf other.back.slot other.limit ≡ pairs_of_part slots part

pub ends_part : {K V A : Type 0} (slots : Slots (Inner K A) (Leaf K V)) (part other : Part) → IsPartIn slots other → AreSame slots part other → EndsPart slots part other
ends_part slots part other is same = record {
  between = subst (λ (front : Position). IsBetween (leaves_of slots) front.leaf front.slot other.back.leaf other.back.slot other.limit other.extent) same.0 is;
  same = subst (λ (front : Position). first_between (leaves_of slots) front.leaf front.slot other.back.leaf other.back.slot other.limit ≡ pairs_of_part slots part) same.0 same.1;
}
