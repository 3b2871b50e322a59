-- Lemmas about taking items at the ends of a list.
use Rattle.std.proofs.Common.{◌≡◌, ◌∙◌, ◌<◌, List, [], ◌∷◌, ◌++◌, length, refl, sym, ap, subst, arith, append-nil, append_assoc, Option, Some, None, reverse}
use Rattle.std.proofs.lemmas.List.{length-reverse, reverse-append, reverse-reverse}
use Rattle.std.specs.Map.Iter.{TakesFirst, TakesLast}
use Rattle.bptree_keys.proofs.PieceLemmas.{AllZip-append}
use Rattle.bptree_nodes.proofs.Pairs.{last_apart}
use Rattle.std.specs.List.{AllZip}
use Rattle.std.specs.Option.{option_map}
use Rattle.bptree_commands.specs.Ends.{seen_from, TakesFrom, walked}
use Rattle.bptree_keys.specs.declared.end.End.{End}
use Rattle.bptree_keys.specs.declared.end.End.TheVariants.{Front, Back}

module _ {X A : Type 0} (shows : A → X) where
  pub front_taken : (left rest : List X) (taken : Option A) → TakesFirst shows left taken rest → TakesFrom shows Front left taken rest
  front_taken left rest None took = record { item = rw took.0 refl; behind = rw (took.0, took.1) refl; seen = took.0 }
  front_taken left rest (Some a) took = record { item = rw took refl; behind = rw took refl; seen = took }

  pub back_taken : (left rest : List X) (taken : Option A) → TakesLast shows left taken rest → TakesFrom shows Back left taken rest
  back_taken left rest None took = record { item = rw took.0 refl; behind = rw (took.0, took.1) refl; seen = took.0 }
  back_taken left rest (Some a) took =
      let apart = last_apart left rest (shows a) took in
      record { item = rw apart.0 refl; behind = apart.1; seen = ap reverse took ∙ reverse-append rest (shows a ∷ []) }

module _ {X : Type 0} where
  -- A list has as many items from either end.
  pub length-seen_from : (end : End) (l : List X) → length (seen_from end l) ≡ length l
  length-seen_from Front l = refl
  length-seen_from Back l = length-reverse l

  pub none_from : (end : End) → seen_from {X = X} end [] ≡ []
  none_from Front = refl
  none_from Back = refl

  pub none_seen : (end : End) (l : List X) → seen_from end l ≡ [] → l ≡ []
  none_seen Front l none = none
  none_seen Back l none = sym (reverse-reverse l) ∙ ap reverse none

  pub some_seen : (end : End) (l : List X) → (length l ≡ 0 → ⊥) → seen_from end l ≡ [] → ⊥
  some_seen end l some none = some (ap length (none_seen end l none))

  -- Taking an item leaves a list that is shorter by one.
  pub fewer_left : (end : End) (l rest : List X) (x : X) → seen_from end l ≡ x ∷ seen_from end rest → length rest < length l
  fewer_left end l rest x seen = omega (arith, ap length seen, length-seen_from end l, length-seen_from end rest)

-- The state of a walk over a word: each end so far has its result, and the other ends are still to
-- be taken.
module _ {X Y : Type 0} (R : Option X → Option Y → Type 0) where
  pub record IsWalking (whole : List (Option X)) (word : List End) (left : List X) (outcomes : List (Option Y)) : Type 0 where
    pub taken : List (Option X)
    pub returned : AllZip R taken outcomes
    pub all : taken ++ walked word left ≡ whole

  pub walking_start : (word : List End) (left : List X) → IsWalking (walked word left) word left []
  walking_start word left = record { taken = []; returned = tt; all = refl }

  pub walking_more : {A : Type 0} (shows : A → X) (whole : List (Option X)) (end : End) (word : List End) (left rest : List X) (outcomes : List (Option Y)) (a : Option A) (outcome : Option Y)
      → IsWalking whole (end ∷ word) left outcomes → TakesFrom shows end left a rest → R (option_map shows a) outcome → IsWalking whole word rest (outcomes ++ outcome ∷ [])
  walking_more shows whole end word left rest outcomes a outcome walking took r = record {
    taken = walking.taken ++ option_map shows a ∷ [];
    returned = AllZip-append R walking.taken outcomes (option_map shows a ∷ []) (outcome ∷ []) walking.returned (r, tt);
    all = append_assoc walking.taken (option_map shows a ∷ []) (walked word rest) ∙ (rw (took.item, took.behind) refl ∙ walking.all);
  }

  pub walking_end : (whole : List (Option X)) (word : List End) (left : List X) (outcomes : List (Option Y)) → IsWalking whole word left outcomes → length word ≡ 0 → AllZip R whole outcomes
  walking_end whole [] left outcomes walking over = subst (λ xs. AllZip R xs outcomes) (sym (append-nil walking.taken) ∙ walking.all) walking.returned
  walking_end whole (end ∷ word) left outcomes walking over = absurd (omega (arith, over))
