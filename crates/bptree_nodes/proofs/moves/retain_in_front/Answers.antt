use Rattle.std.proofs.Common.{◌≡◌, ◌∙◌, ◌+◌, ◌∷◌, ◌++◌, ◌<◌, [], ap, arith, drop, get_or, length, refl, set, subst, suc, sym, take, take_all}
use Rattle.std.proofs.Math.Seq.{take-suc}
use Rattle.std.proofs.lemmas.List.{drop-set, drop-set-lt, length-set, take-set-le}
use Rattle.std.proofs.lemmas.Slice.Zip.{get_or-zip}
use Rattle.std.specs.List.{zip}
use Rattle.bptree_nodes.specs.Retaining.{CallsAtPair, RetainsFirst}
use Rattle.bptree_nodes.proofs.Pairs.{length_pairs}
use Rattle.bptree_nodes.proofs.Retained.{byte_small, one_at, one_more, same_at, same_behind}
use denote.Param.Always.{mut_next}
use Rattle.bptree_nodes.proofs.moves.retain_in_front.Goals as goal

pub pairs-preserved : goal.pairs-preserved
pairs-preserved g c =
    let inv = c.pairs.invariant in
    let at = c.pairs.at in
    let kept = c.pairs.kept in
    let keys = c.args.keys.now in
    let values = c.args.values.now in
    let old = zip keys values in
    let k = c.index-keys-at.result in
    let v = c.index-values-at.result in
    let w = c.f-stays.new.arg3 in
    let stays = c.f-stays.result in
    let less : at < length keys = omega (arith, c.pairs-test.true, inv.keys_len) in
    let inside : at < length c.pairs.values = omega (arith, less, inv.values_len) in
    let call : CallsAtPair g.F.FnMut c.pairs.f (k, v) stays c.f-stays.new.self (k, w) = (refl, record { key = _; value = _; shows = (sym c.index-keys-at.is, sym c.index-values-at.is); left = _; called = c.f-stays.ensures; leaves = refl }) in
    let key = c.index-keys-at.is ∙ same_at c.pairs.keys keys at k inv.keys_rest in
    let value = c.index-values-at.is ∙ same_at c.pairs.values values at v inv.values_rest in
    let there : get_or old at (k, v) ≡ (k, v) = get_or-zip keys values at (k, v) less (omega (arith, less, c.requires.same)) ∙ (ap (λ x. (x, get_or values at v)) (sym key) ∙ ap (λ x. (k, x)) (sym value)) in
    let on : at + 1 ≡ suc at = omega arith in
    let taken : take (at + 1) old ≡ take at old ++ (k, v) ∷ [] = ap (λ n. take n old) on ∙ (take-suc old at (k, v) (omega (arith, less, length_pairs keys values c.requires.same)) ∙ ap (λ p. take at old ++ p ∷ []) there) in
    let moved : take (kept + 1) c.move_down.new.items ≡ take kept c.pairs.keys ++ k ∷ [] = c.move_down.ensures.first ∙ ap (λ l. take kept c.pairs.keys ++ l) (one_at c.pairs.keys at k (omega (arith, less, inv.keys_len)) c.index-keys-at.is) in
    let written = set c.pairs.values at w in
    let moved' : take (kept + 1) c.move_down-in-pairs.new.items ≡ take kept c.pairs.values ++ w ∷ [] =
    c.move_down-in-pairs.ensures.first ∙ (ap (λ l. l ++ take 1 (drop at written)) (take-set-le kept c.pairs.values at w inv.few) ∙ ap (λ l. take kept c.pairs.values ++ take 1 l) (drop-set c.pairs.values at w inside)) in
    record {
      within = omega (arith, less);
      few = omega (arith, inv.few, c.from-kept.ensures, byte_small stays);
      keys_len = c.move_down.ensures.len ∙ inv.keys_len;
      values_len = omega (arith, c.move_down-in-pairs.ensures.len, length-set c.pairs.values at w, inv.values_len);
      keys_rest = c.move_down.ensures.rest ∙ same_behind c.pairs.keys keys at inv.keys_rest;
      values_rest = c.move_down-in-pairs.ensures.rest ∙ (drop-set-lt (at + 1) c.pairs.values at w (omega arith) ∙ same_behind c.pairs.values values at inv.values_rest);
      retained = subst (λ l. RetainsFirst g.F.FnMut c.args.f l c.f-stays.new.self (zip (take (kept + c.from-kept.result) c.move_down.new.items) (take (kept + c.from-kept.result) c.move_down-in-pairs.new.items))) (sym taken)
          (one_more g.F.FnMut c.args.f (take at old) c.pairs.f c.pairs.keys c.move_down.new.items c.pairs.values c.move_down-in-pairs.new.items kept k v w c.f-stays.new.self stays (kept + c.from-kept.result)
          (omega (arith, inv.few, less, inv.keys_len)) (omega (arith, inv.few, inside)) inv.retained call moved moved' (λ t. omega (arith, rw t at c.from-kept.ensures)) (λ f. omega (arith, rw f at c.from-kept.ensures)));
      callable = mut_next g.F.FnMut _ _ _ _ _ c.f-stays.ensures refl inv.callable;
    }

pub returns-clause-retained : goal.returns-clause-retained
returns-clause-retained g c =
    let inv = c.pairs.invariant in
    let keys = c.args.keys.now in
    let old = zip keys c.args.values.now in
    let all : take c.pairs.at old ≡ old = take_all c.pairs.at old (omega (arith, c.pairs-test.false, inv.keys_len, length_pairs keys c.args.values.now c.requires.same)) in
    subst (λ l. RetainsFirst g.F.FnMut c.args.f l c.pairs.f (zip (take c.pairs.kept c.pairs.keys) (take c.pairs.kept c.pairs.values))) all inv.retained
