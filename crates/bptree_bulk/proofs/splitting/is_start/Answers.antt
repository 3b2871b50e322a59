use Rattle.std.proofs.Common.{◌≡◌, ◌∙◌, ◌+◌, inl, inr, ap, arith, refl, sym}
use Rattle.std.proofs.lemmas.Bool.Decides.{eqb_tells}
use mathlib.Core.Bool.{true≢false}
use Rattle.bptree_ranges.specs.Ranges.{start}
use Rattle.bptree_invariant.specs.Shape.{leaves_at}
use Rattle.bptree_bulk.proofs.Placed.{first_starts, starts_first}
use Rattle.bptree_bulk.proofs.splitting.is_start.Goals as goal

pub returns : goal.returns
returns g c =
    let tree = c.args.tree.now in
    let slots = g.S.NodeStore.slots tree.store in
    let shape = c.recall.ensures.whole.shape in
    let leaf = c.args.at.leaf in
    let first = c.first_leaf.result in
    let there = first_starts g.S.Argument.Argument.is_summary slots tree.height tree.root shape (leaves_at slots tree.height tree.root) refl leaf first c.requires.stored c.first_leaf.ensures in
    let back = starts_first g.S.Argument.Argument.is_summary slots tree.height tree.root shape (leaves_at slots tree.height tree.root) refl leaf first c.requires.stored c.first_leaf.ensures in
    elim (eqb_tells first.0 leaf.0) [
      | inl same ↦ (
        (λ t. let zero : start slots tree.height tree.root leaf ≡ 0 = there (λ i. record { 0 = same.1 i }) in omega (arith, zero, c.if-at-gt0.false)),
        (λ t. c.eq.ensures ∙ same.0),
      )
      | inr other ↦ (
        (λ t. absurd (true≢false (sym t ∙ (c.eq.ensures ∙ other.0)))),
        (λ t. let none : start slots tree.height tree.root leaf + c.args.at.slot ≡ 0 = t in absurd (other.1 (ap (λ l. l.0) (back (omega (arith, none)))))),
      )
    ]
