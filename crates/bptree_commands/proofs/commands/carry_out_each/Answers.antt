use Rattle.std.proofs.Common.{◌≡◌, ◌∙◌, ◌++◌, ◌∷◌, [], ap, sym, length, append_assoc, append-nil, length-append, arith}
use Rattle.std.proofs.lemmas.List.{nil_from_length}
use Rattle.std.specs.Vec.Iter.{into_iter_items}
use Rattle.bptree_commands.proofs.RunLemmas.{Run-more}
use Rattle.bptree_commands.proofs.commands.carry_out_each.Goals as goal

pub loop-command-preserved : goal.loop-command-preserved
loop-command-preserved g c =
    let inv = c.loop-command.invariant in
    let done = c.loop-command.yielded in (
      tt,
      tt,
      inv.2 ∙ ap (λ rest. done ++ rest) c.in-Some.ensures.steps.0 ∙ sym (append_assoc done (c.in-Some.command ∷ []) (into_iter_items c.next.new.self)),
      omega (arith, length-append done (c.in-Some.command ∷ []), c.push_reserved.ensures.len, inv.3),
      omega (arith, c.push_reserved.ensures.capacity, inv.4),
      rw c.push_reserved.ensures.items (Run-more g.S.K.Ord.cmp g.S.Argument.SearchArgument.selects g.S.Argument.RankArgument.ranks done c.loop-command.replies.items _ _ _ _ _ _ _ _ inv.5 c.carry_out.ensures),
    )

-- No command is left.
pub returns-clause-run : goal.returns-clause-run
returns-clause-run g c =
    let none = nil_from_length (into_iter_items c.loop-command.command-iterator) (sym c.loop-command.command-iterator.rest.ok.0 ∙ c.in-None.ensures.steps.0) in
    let all : c.args.commands.items ≡ c.loop-command.yielded = c.loop-command.invariant.2 ∙ ap (λ rest. c.loop-command.yielded ++ rest) none ∙ append-nil c.loop-command.yielded in
    rw all c.loop-command.invariant.5

pub returns-clause-all : goal.returns-clause-all
returns-clause-all g c =
    let none = nil_from_length (into_iter_items c.loop-command.command-iterator) (sym c.loop-command.command-iterator.rest.ok.0 ∙ c.in-None.ensures.steps.0) in
    let all : c.args.commands.items ≡ c.loop-command.yielded = c.loop-command.invariant.2 ∙ ap (λ rest. c.loop-command.yielded ++ rest) none ∙ append-nil c.loop-command.yielded in
    c.loop-command.invariant.3 ∙ ap length (sym all) ∙ sym c.args.commands.ok.0
