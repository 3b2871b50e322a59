use Rattle.std.proofs.Common.{◌∙◌, ◌∷◌, [], ap, reverse, sym}
use Rattle.std.proofs.lemmas.List.{reverse-append, reverse-reverse}
use Rattle.bptree_unit_tests.proofs.callers.leaf.takes_the_first.Goals as goal

pub returns : goal.returns
returns g c =
    let pair = c.pop-pair.result in
    let rest = c.pop-pair.new.self.pairs in
    let turned = sym (ap (λ l. l.pairs) c.reverse.ensures) ∙ c.pop-pair.ensures.pair in
    sym (reverse-reverse c.args.leaf.now.pairs) ∙ (ap reverse turned ∙ (reverse-append rest (pair ∷ []) ∙ ap (λ l. pair ∷ l) (sym (ap (λ l. l.pairs) c.reverse-2.ensures))))
