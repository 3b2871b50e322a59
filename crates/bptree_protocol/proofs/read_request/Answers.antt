use Rattle.std.proofs.Common.{◌≡◌, [], ◌∷◌}
use Rattle.bptree_protocol.specs.Request.{words, request_of}
use Rattle.bptree_protocol.proofs.WordLemmas.{no_four_words}
use Rattle.bptree_protocol.proofs.read_request.Goals as goal

pub returns-in_default : goal.returns-in_default
unfolding request_of
returns-in_default c =
    let one : words c.args.line.now ≡ c.first_word.result.0.now ∷ [] = rw c.in_default.is at c.first_word.ensures in
    rw one c.bare_request.ensures

pub returns-in_default-rest : goal.returns-in_default-rest
unfolding request_of
returns-in_default-rest c =
    let one : words c.args.line.now ≡ c.first_word.result.0.now ∷ words c.in-Some.rest.now = rw c.in-Some.is at c.first_word.ensures in
    let two : words c.in-Some.rest.now ≡ c.first_word-2.result.0.now ∷ [] = rw c.in_default-rest.is at c.first_word-2.ensures in
    rw (one, two) c.key_request.ensures

pub returns-in-None : goal.returns-in-None
unfolding request_of
returns-in-None c =
    let one : words c.args.line.now ≡ c.first_word.result.0.now ∷ words c.in-Some.rest.now = rw c.in-Some.is at c.first_word.ensures in
    let two : words c.in-Some.rest.now ≡ c.first_word-2.result.0.now ∷ words c.in-Some-rest.rest.now = rw c.in-Some-rest.is at c.first_word-2.ensures in
    let three : words c.in-Some-rest.rest.now ≡ c.first_word-3.result.0.now ∷ [] = rw c.in-None.is at c.first_word-3.ensures in
    rw (one, two, three) c.pair_request.ensures

pub returns-in-Some-rest-2 : goal.returns-in-Some-rest-2
unfolding request_of
returns-in-Some-rest-2 c =
    let one : words c.args.line.now ≡ c.first_word.result.0.now ∷ words c.in-Some.rest.now = rw c.in-Some.is at c.first_word.ensures in
    let two : words c.in-Some.rest.now ≡ c.first_word-2.result.0.now ∷ words c.in-Some-rest.rest.now = rw c.in-Some-rest.is at c.first_word-2.ensures in
    let three : words c.in-Some-rest.rest.now ≡ c.first_word-3.result.0.now ∷ words c.in-Some-rest-2.field-0.now = rw c.in-Some-rest-2.is at c.first_word-3.ensures in
    rw (one, two, three) (no_four_words c.first_word.result.0.now c.first_word-2.result.0.now c.first_word-3.result.0.now c.in-Some-rest-2.field-0.now)
