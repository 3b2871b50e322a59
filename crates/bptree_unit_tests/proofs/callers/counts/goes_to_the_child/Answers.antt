use Rattle.std.proofs.Common.{◌≤◌, [], ◌∷◌, ◌++◌, length, refl, arith, length-append}
use Rattle.bptree_unit_tests.proofs.Children.{leads_to_child}
use Rattle.bptree_unit_tests.proofs.callers.counts.goes_to_the_child.Goals as goal

pub returns-in-None : goal.returns-in-None
returns-in-None g c =
    let left = c.args.left.now in
    let right = c.args.right.now in
    let whole : length (left ++ (right ++ [])) ≤ c.args.query = rw c.in-None.is at (c.in_ok-locate_in_inner.ensures.leads (left ∷ right ∷ []) c.requires.pieces c.requires.counts) in
    absurd (omega (arith, whole, c.requires.inside, length-append left (right ++ []), length-append right []))

pub returns-in-Some : goal.returns-in-Some
returns-in-Some g c =
    let left = c.args.left.now in
    let right = c.args.right.now in
    let leads = rw c.in-Some.is at (c.in_ok-locate_in_inner.ensures.leads (left ∷ right ∷ []) c.requires.pieces c.requires.counts) in
    let child = leads_to_child left right c.args.query c.in-Some.rest c.in-Some.child leads c.requires.inside in
    record { first = λ h. rw ((child.0 h).0, (child.0 h).1) refl; second = λ h. rw ((child.1 h).0, (child.1 h).1) refl }
