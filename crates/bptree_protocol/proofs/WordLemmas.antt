-- Lemmas about the words of a line.
use Rattle.std.proofs.Common.{◌≡◌, ℕ, zero, suc, ◌+◌, ◌-◌, ◌<◌, List, [], ◌∷◌, length, get_or, take, drop, ◌==◌, refl, ◌∙◌, ap, arith, add-one, length-drop, None}
use Rattle.std.proofs.lemmas.Bool.Decides.{nat_tests}
use Rattle.std.proofs.lemmas.List.{take_all}
use Rattle.std.proofs.lemmas.List.Splits.{slice_split-cons_yes, slice_split-cons_no, length-slice_split}
use Rattle.std.specs.List.{onto_first}
use Rattle.bptree_protocol.specs.Request.{words, request_from}

-- None of the first n bytes is a space.
abbrev pub NoSpaceBelow : List ℕ → ℕ → Type 0
NoSpaceBelow line n = (k : ℕ) → k < n → get_or line k 0 ≡ 32 → ⊥

-- A space ends the first word.
split_words : (line : List ℕ) (i : ℕ) → i < length line → get_or line i 0 ≡ 32 → NoSpaceBelow line i → words line ≡ take i line ∷ words (drop (suc i) line)
unfolding words
split_words [] i h e none = absurd (omega arith)
split_words (b ∷ bs) zero h e none = slice_split-cons_yes _ b bs (grind (arith, nat_tests))
split_words (b ∷ bs) (suc i) h e none =
    let other : b ≡ 32 → ⊥ = none 0 (omega arith) in
    slice_split-cons_no _ b bs (grind (arith, nat_tests)) ∙ ap (onto_first b) (split_words bs i (omega arith) e (λ k below is. none (suc k) (omega arith) is))

pub first_word_split : (line : List ℕ) (i : ℕ) → i < length line → get_or line i 0 ≡ 32 → NoSpaceBelow line i
    → words line ≡ take i line ∷ words (take (length line - (i + 1)) (drop (i + 1) line))
first_word_split line i h e none =
    rw (take_all (length line - (i + 1)) (drop (i + 1) line) (omega (arith, length-drop (i + 1) line)), add-one) (split_words line i h e none)

-- A line without a space is one word.
pub one_word : (line : List ℕ) → NoSpaceBelow line (length line) → words line ≡ line ∷ []
unfolding words
one_word [] none = refl
one_word (b ∷ bs) none =
    let other : b ≡ 32 → ⊥ = none 0 (omega arith) in
    slice_split-cons_no _ b bs (grind (arith, nat_tests)) ∙ ap (onto_first b) (one_word bs (λ k below is. none (suc k) (omega arith) is))

from_four : (a b c : List ℕ) (more : List (List ℕ)) → 0 < length more → None ≡ request_from (a ∷ b ∷ c ∷ more)
from_four a b c [] some = absurd (omega arith)
from_four a b c (d ∷ more) some = refl

-- No request has four words or more.
pub no_four_words : (a b c rest : List ℕ) → None ≡ request_from (a ∷ b ∷ c ∷ words rest)
unfolding words
no_four_words a b c rest = from_four a b c (words rest) (omega (arith, length-slice_split (λ x. x == 32) rest))
