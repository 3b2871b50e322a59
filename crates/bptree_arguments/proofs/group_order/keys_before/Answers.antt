use Rattle.std.proofs.Common.{◌≡◌, ◌+◌, ◌-◌, ◌/◌, map, drop, false, subst, arith}
use Rattle.std.proofs.lemmas.Result.{IfOk-from_err}
use Rattle.std.specs.List.{AllByRecursion}
use Rattle.bptree_arguments.specs.GroupResults.{is_before}
use Rattle.bptree_keys.specs.Ends.{is_back}
use Rattle.bptree_arguments.proofs.GroupOrderLemmas.{up_to_key, from_key}
use Rattle.bptree_arguments.proofs.group_order.keys_before.Goals as goal
use Rattle.bptree_arguments.proofs.group_order.keys_before.Goals.{then-is_before, else-is_before}

pub loop-low-preserved : goal.loop-low-preserved
loop-low-preserved g c =
    let middle = c.loop-low.low + (c.loop-low.high - c.loop-low.low) / 2 in
    elim c.if-is_before.branch [
      | then-is_before w ↦ record {
        order = omega (arith, w.low-is, w.high-is);
        within = omega (arith, w.high-is);
        before = λ ascending. rw w.low-is (up_to_key g.K.Ord.cmp g.G.Ord.cmp g.G.FromRef.group_of g.met.G.Ord.total c.args.group.now c.args.keys.now ascending g.met.G.FromRef.keeps_order (is_back c.args.end) middle c.index-keys-middle.result (omega arith) c.index-keys-middle.is c.in_ok-of_key.of_key c.in_ok-of_key.ensures c.cmp.result c.cmp.ensures w.if-is_before.ensures);
        from_there = λ ascending. rw w.high-is (c.loop-low.invariant.from_there ascending);
      }
      | else-is_before w ↦ record {
        order = omega (arith, w.low-is, w.high-is);
        within = omega (arith, w.high-is);
        before = λ ascending. rw w.low-is (c.loop-low.invariant.before ascending);
        from_there = λ ascending. rw w.high-is (from_key g.K.Ord.cmp g.G.Ord.cmp g.G.FromRef.group_of g.met.G.Ord.total c.args.group.now c.args.keys.now ascending g.met.G.FromRef.keeps_order (is_back c.args.end) middle c.index-keys-middle.result (omega arith) c.index-keys-middle.is c.in_ok-of_key.of_key c.in_ok-of_key.ensures c.cmp.result c.cmp.ensures w.if-is_before.ensures);
      }
    ]

pub returns : goal.returns
returns g c = record {
  in_range = omega arith;
  border = λ ascending.
      let met : c.loop-low.high ≡ c.loop-low.low = omega arith in
      record {
        before = c.loop-low.invariant.before ascending;
        from_there = subst (λ n. AllByRecursion (λ x. is_before (is_back c.args.end) (g.G.Ord.cmp x c.args.group.now) ≡ false) (drop n (map g.G.FromRef.group_of c.args.keys.now))) met (c.loop-low.invariant.from_there ascending);
      };
}

pub returns-in_err-of_key-clause-in_range : goal.returns-in_err-of_key-clause-in_range
returns-in_err-of_key-clause-in_range g c = IfOk-from_err c.from_residual.result _ c.from_residual.ensures.0

pub returns-in_err-of_key-clause-border : goal.returns-in_err-of_key-clause-border
returns-in_err-of_key-clause-border g c = IfOk-from_err c.from_residual.result _ c.from_residual.ensures.0
