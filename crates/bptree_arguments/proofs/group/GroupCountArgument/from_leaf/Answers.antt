use Rattle.std.proofs.Common.{◌≡◌, ◌+◌, ◌-◌, ◌<◌, List, [], ◌∷◌, length, false, sym, ap, ◌∙◌, arith}
use Rattle.std.specs.Bool.{◌==◌}
use Rattle.std.proofs.lemmas.Bool.{true≢false}
use Rattle.std.proofs.lemmas.List.{take_all}
use Rattle.std.proofs.lemmas.Result.{IfOk-from_err}
use Rattle.bptree_arguments.proofs.GroupLemmas.{key_step}
use Rattle.bptree_arguments.proofs.GroupEndsLemmas.{one_group_throughout, two_keys, first_key}
use Rattle.bptree_arguments.proofs.group.GroupCountArgument.from_leaf.Goals as goal

-- a list that is not empty has elements
some_length : {X : Type 0} (xs : List X) → false ≡ (length xs == 0) → 0 < length xs
some_length [] e = absurd (true≢false (sym e))
some_length (x ∷ xs) e = omega arith

pub returns-in-Equal-clause-summary : goal.returns-in-Equal-clause-summary
returns-in-Equal-clause-summary g c = λ l ascending.
    one_group_throughout g.K.Ord.cmp g.G.Ord.cmp g.G.FromRef.group_of g.met.G.FromRef.keeps_order g.met.G.Ord.total c.args.keys.now c.index-keys-0.result c.index-keys-keys.result c.in_ok-first.first c.in_ok-last.last c.index-keys-0.is c.index-keys-keys.is c.in_ok-first.ensures c.in_ok-last.ensures l (sym c.cmp.ensures ∙ c.in-Equal.is) ascending

pub loop-i-init : goal.loop-i-init
loop-i-init g c = λ _. first_key g.K.Ord.cmp g.G.Ord.cmp g.G.FromRef.group_of g.met.G.FromRef.keeps_order g.met.G.Ord.total c.args.keys.now c.index-keys-0.result c.index-keys-keys.result c.in_ok-first.first c.in_ok-last.last c.index-keys-0.is c.index-keys-keys.is c.in_ok-first.ensures c.in_ok-last.ensures (some_length c.args.keys.now c.if-is_empty.ensures)

pub loop-i-preserved : goal.loop-i-preserved
loop-i-preserved g c = λ ascending.
    key_step g.K.Ord.cmp g.G.Ord.cmp g.G.FromRef.group_of g.met.G.FromRef.keeps_order g.met.G.Ord.total c.args.keys.now c.loop-i.i c.index-keys-i.result c.in_ok-from_ref.field-0 c.loop-i.summary c.with_next-summary.result (omega (arith, c.loop-i-test.true)) c.index-keys-i.is (omega arith) ascending c.in_ok-from_ref.ensures c.with_next-summary.ensures (c.loop-i.invariant ascending)

pub returns-clause-summary : goal.returns-clause-summary
returns-clause-summary g c = λ l ascending.
    let two = two_keys g.K.Ord.cmp g.G.Ord.cmp g.G.FromRef.group_of g.met.G.FromRef.keeps_order g.met.G.Ord.total c.args.keys.now c.index-keys-0.result c.index-keys-keys.result c.in_ok-first.first c.in_ok-last.last c.index-keys-0.is c.index-keys-keys.is c.in_ok-first.ensures c.in_ok-last.ensures l (λ q. c.in_default.not-Equal (c.cmp.ensures ∙ q)) in
    let at_last : c.loop-i.i ≡ length c.args.keys.now - 1 = omega (arith, c.loop-i-test.false, c.loop-i.auto.i-end, two) in
    let whole = take_all (c.loop-i.i + 1) c.args.keys.now (omega (arith, at_last)) in
    rw whole at (key_step g.K.Ord.cmp g.G.Ord.cmp g.G.FromRef.group_of g.met.G.FromRef.keeps_order g.met.G.Ord.total c.args.keys.now c.loop-i.i c.index-keys-keys.result c.in_ok-last.last c.loop-i.summary c.with_next.result (omega (arith, at_last, two)) (rw (← at_last) at c.index-keys-keys.is) (omega arith) ascending c.in_ok-last.ensures c.with_next.ensures (c.loop-i.invariant ascending))

pub returns-clause-empty : goal.returns-clause-empty
returns-clause-empty g c = λ e. absurd (omega (arith, some_length c.args.keys.now c.if-is_empty.ensures, ap length e))

pub returns-in_err-first-clause-summary : goal.returns-in_err-first-clause-summary
returns-in_err-first-clause-summary g c = IfOk-from_err c.from_residual.result _ c.from_residual.ensures.0

pub returns-in_err-first-clause-empty : goal.returns-in_err-first-clause-empty
returns-in_err-first-clause-empty g c = λ e. absurd (omega (arith, some_length c.args.keys.now c.if-is_empty.ensures, ap length e))

pub returns-in_err-last-clause-summary : goal.returns-in_err-last-clause-summary
returns-in_err-last-clause-summary g c = IfOk-from_err c.from_residual-in_err-last.result _ c.from_residual-in_err-last.ensures.0

pub returns-in_err-last-clause-empty : goal.returns-in_err-last-clause-empty
returns-in_err-last-clause-empty g c = λ e. absurd (omega (arith, some_length c.args.keys.now c.if-is_empty.ensures, ap length e))

pub returns-in-Equal-clause-empty : goal.returns-in-Equal-clause-empty
returns-in-Equal-clause-empty g c = λ e. absurd (omega (arith, some_length c.args.keys.now c.if-is_empty.ensures, ap length e))

pub bounds-keys-0 : goal.bounds-keys-0
bounds-keys-0 g c = some_length c.args.keys.now c.if-is_empty.ensures
