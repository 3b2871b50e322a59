use Rattle.std.proofs.Common.{◌≡◌, ◌∙◌, ◌∷◌, Bool, List, [], Option, Some, None, ap, filter, false, length, refl, suc, sym, true}
use mathlib.Core.Bool.{true≢false}
use Rattle.std.specs.declared.cmp.Ordering.{Ordering}
use Rattle.std.specs.declared.cmp.Ordering.TheVariants.{Less, Equal, Greater}
use Rattle.std.specs.Map.{keys_of}
use Rattle.std.specs.Map.Iter.{TakesFirst, deref_pair}
use Rattle.std.specs.Option.{IfSome}
use Rattle.std.specs.Ordering.{is_eq}
use Rattle.bptree_contract_tests.proofs.Passing.{taken_passes}
use Rattle.bptree_contract_tests.proofs.callers.ranges.gives_the_pairs_of_a_group.Goals as goal

-- As many pairs pass a test of their keys as keys pass the test.
passing : {K V : Type 0} (test : K → Bool) (l : List (K × V)) → length (filter (λ (p : K × V). test p.0) l) ≡ length (filter test (keys_of l))
passing test [] = refl
passing {K} {V} test (p ∷ l) =
    by (test p.0) refl (passing test l)
  where
    by : (b : Bool) → test p.0 ≡ b → length (filter (λ (q : K × V). test q.0) l) ≡ length (filter test (keys_of l)) → length (filter (λ (q : K × V). test q.0) (p ∷ l)) ≡ length (filter test (keys_of (p ∷ l)))
    by true e rest = rw e (ap suc rest)
    by false e rest = rw e rest

equal_from : (r : Ordering) → is_eq r ≡ true → r ≡ Equal
equal_from Less e = absurd (true≢false (sym e))
equal_from Equal e = refl
equal_from Greater e = absurd (true≢false (sym e))

pub returns-clause-len : goal.returns-clause-len
returns-clause-len g c =
    c.len-len.ensures.value ∙ (ap length c.in_ok-pairs.ensures.rest ∙ passing (λ k. is_eq (g.G.Ord.cmp (g.G.FromRef.group_of k) c.args.g.now)) c.args.tree.now.contents)

pub returns-clause-first : goal.returns-clause-first
returns-clause-first g c =
    taken_passes deref_pair (λ pair. is_eq (g.G.Ord.cmp (g.G.FromRef.group_of pair.0) c.args.g.now)) (λ pair. g.G.Ord.cmp (g.G.FromRef.group_of pair.0) c.args.g.now ≡ Equal) (λ pair e. equal_from (g.G.Ord.cmp (g.G.FromRef.group_of pair.0) c.args.g.now) e)
    _ _ c.args.tree.now.contents c.next.result c.next.ensures.steps c.in_ok-pairs.ensures.rest
