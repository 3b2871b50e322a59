use Rattle.std.proofs.Common.{◌≡◌, ◌+◌, ℕ, List, ◌∷◌, ◌++◌, Some, length, length-append, drop, sym, ap, ◌∙◌, arith}
use Rattle.std.proofs.lemmas.List.{length-set}
use Rattle.bptree_keys.specs.Ends.{is_back}
use Rattle.bptree_c_maps.specs.DictPages.{as_record, key_bytes}
use Rattle.bptree_c_maps.specs.Ends.{turned_pairs}
use Rattle.bptree_c_maps.proofs.BackLemmas.{length-turned}
use Rattle.bptree_c_maps.proofs.PageLemmas.{copied_more, rest_by, here_by, none_by, past_get, written, keys_more}
use Rattle.bptree_c_maps.proofs.dict_many.copy_pairs.Goals as goal

pub loop-count-preserved : goal.loop-count-preserved
loop-count-preserved c =
    let i = c.loop-count.invariant in
    let all = turned_pairs (is_back c.args.end) c.args.left in
    let n = c.loop-count.count in
    let used = c.loop-count.used in
    let p : List ℕ × ℕ = (c.in-Some.key.now, c.in-Some.value.now) in
    let rest = turned_pairs (is_back c.args.end) c.take_entry.new.left in
    let here : drop n all ≡ p ∷ rest = sym i.rest ∙ c.in-Some.ensures in
    let more = rest_by all n p rest here in
    let room = length-set c.loop-count.out n (as_record p) in
    let grown = keys_more all n p rest here in
    let kept = c.write_at.auto.out in
    let wrote : c.write_at.new.out ≡ (key_bytes all n ++ p.0) ++ drop (used + length p.0) c.args.bytes.now =
    rw c.as_slice.ensures at c.write_at.ensures ∙ written (key_bytes all n) p.0 c.args.bytes.now c.loop-count.bytes used i.keys i.used_is in
    let fits : used + length p.0 ≡ length (key_bytes all (n + 1)) = omega (arith, i.used_is, length-append (key_bytes all n) p.0, ap length grown) in
    rw c.as_slice-length.ensures record {
      in_room = omega (arith, c.loop-count-test.true, room);
      same_room = room ∙ i.same_room;
      so_far = copied_more as_record all c.args.out.now c.loop-count.out n p rest i.so_far (omega (arith, c.loop-count-test.true, i.same_room)) here;
      same_bytes = omega (arith, kept, i.same_bytes);
      keys = rw grown wrote;
      used_is = fits;
      used_in = omega (arith, kept, c.if-bytes-used.false, ap length c.as_slice-length.ensures, i.used_in);
      rest = more.0;
      there = more.1;
    }

pub returns-then-bytes-used : goal.returns-then-bytes-used
returns-then-bytes-used c =
    let i = c.loop-count.invariant in
    let all = turned_pairs (is_back c.args.end) c.args.left in
    let n = c.loop-count.count in
    let p : List ℕ × ℕ = (c.in-Some.key.now, c.in-Some.value.now) in
    let here : drop n all ≡ p ∷ turned_pairs (is_back c.args.end) c.take_entry.new.left = sym i.rest ∙ c.in-Some.ensures in
    record {
      within = i.there;
      keys = rw (← i.used_is) i.keys;
      records = i.so_far;
      full = λ pair at.
          let e : Some pair ≡ Some p = sym at ∙ here_by all n p (turned_pairs (is_back c.args.end) c.take_entry.new.left) here in
          let same : pair ≡ p = cc in
          omega (arith, ap (λ q. length q.0) same, c.if-bytes-used.true, ap length c.as_slice-length.ensures, i.used_is, i.used_in, i.same_bytes);
    }

pub returns-in-None : goal.returns-in-None
returns-in-None c =
    let i = c.loop-count.invariant in
    let all = turned_pairs (is_back c.args.end) c.args.left in
    let n = c.loop-count.count in
    record {
      within = i.there;
      keys = rw (← i.used_is) i.keys;
      records = i.so_far;
      full = λ pair at. absurd (past_get all n pair (none_by all n (sym i.rest ∙ c.in-None.ensures)) at);
    }

pub returns : goal.returns
returns c =
    let i = c.loop-count.invariant in
    record {
      within = i.there;
      keys = rw (← i.used_is) i.keys;
      records = i.so_far;
      full = λ pair at. absurd (past_get (turned_pairs (is_back c.args.end) c.args.left) c.loop-count.count pair (omega (arith, c.requires, length-turned (is_back c.args.end) c.args.left, c.loop-count-test.false, i.same_room)) at);
    }
