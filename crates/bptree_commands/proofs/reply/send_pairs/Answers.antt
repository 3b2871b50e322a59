use Rattle.std.proofs.Common.{ℕ, ◌≡◌, ◌++◌, [], ap, sym, ◌∙◌, append_assoc, append-nil, false, refl, true}
use Rattle.std.proofs.lemmas.Result.{err_from_is_err_and}
use Rattle.bptree_commands.specs.ReplyLists.{item_text, pairs_text}
use Rattle.bptree_commands.specs.Ends.{seen_from}
use Rattle.bptree_commands.proofs.EndLemmas.{none_from, some_seen, fewer_left}
use Rattle.bptree_commands.proofs.PairLemmas.{items_text, items_text-is}
use Rattle.bptree_commands.proofs.SentLemmas.{SendsOrFails-then, SendsOrFails-cut, Sends-then, Sends-nothing}
use Rattle.bptree_commands.proofs.reply.send_pairs.Goals as goal

-- Nothing was sent yet, and all pairs are left.
pub loop-key-init : goal.loop-key-init
loop-key-init g c = ([], Sends-nothing _, refl)

pub returns-in_err-send_item : goal.returns-in_err-send_item
returns-in_err-send_item g c =
    let p = err_from_is_err_and c.from_residual.result c.from_residual.ensures.1 in
    let pair : ℕ × ℕ = (c.in-Some.key.now, c.in-Some.value.now) in
    let left = seen_from c.args.end c.take_pair.new.pairs in
    let inv = c.loop-key.invariant in
    let e : inv.0 ++ (item_text c.loop-key.is_first pair ++ items_text false left) ≡ pairs_text (seen_from c.args.end c.args.pairs) =
    ap (λ it. inv.0 ++ items_text c.loop-key.is_first it) (sym c.in-Some.ensures.seen) ∙ inv.2
    ∙ items_text-is (seen_from c.args.end c.args.pairs) (some_seen c.args.end c.args.pairs (λ none. c.if-len-eq0.false (c.len.ensures.value ∙ none))) in
    rw (← e) (SendsOrFails-then _ c.loop-key.out _ inv.0 (item_text c.loop-key.is_first pair ++ items_text false left) _ inv.1
    (SendsOrFails-cut _ _ (item_text c.loop-key.is_first pair) (items_text false left) _ _ _ p.1 p.2 c.in_err-send_item.ensures))

pub loop-key-preserved : goal.loop-key-preserved
loop-key-preserved g c =
    let pair : ℕ × ℕ = (c.in-Some.key.now, c.in-Some.value.now) in
    let left = seen_from c.args.end c.take_pair.new.pairs in
    let inv = c.loop-key.invariant in
    let e : inv.0 ++ (item_text c.loop-key.is_first pair ++ items_text false left) ≡ items_text true (seen_from c.args.end c.args.pairs) =
    ap (λ it. inv.0 ++ items_text c.loop-key.is_first it) (sym c.in-Some.ensures.seen) ∙ inv.2 in (
      inv.0 ++ item_text c.loop-key.is_first pair,
      Sends-then _ c.loop-key.out _ inv.0 (item_text c.loop-key.is_first pair) inv.1 c.in_ok-send_item.ensures,
      append_assoc inv.0 (item_text c.loop-key.is_first pair) (items_text false left) ∙ e,
    )

pub loop-key-smaller : goal.loop-key-smaller
loop-key-smaller g c = fewer_left c.args.end c.loop-key.pairs c.take_pair.new.pairs (c.in-Some.key.now, c.in-Some.value.now) c.in-Some.ensures.seen

-- No pair is left.
pub returns : goal.returns
returns g c =
    let inv = c.loop-key.invariant in
    let left : c.loop-key.pairs ≡ [] = rw c.in_default.is at c.take_pair.ensures.seen in
    let none : seen_from c.args.end c.loop-key.pairs ≡ [] = ap (seen_from c.args.end) left ∙ none_from c.args.end in
    let e : inv.0 ≡ pairs_text (seen_from c.args.end c.args.pairs) =
    sym (append-nil inv.0) ∙ ap (λ it. inv.0 ++ items_text c.loop-key.is_first it) (sym none) ∙ inv.2
    ∙ items_text-is (seen_from c.args.end c.args.pairs) (some_seen c.args.end c.args.pairs (λ none. c.if-len-eq0.false (c.len.ensures.value ∙ none))) in
    rw (← e) inv.1
