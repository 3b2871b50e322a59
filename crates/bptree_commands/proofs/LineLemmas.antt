-- Lemmas about lines and the replies to them.
use Rattle.std.proofs.Common.{◌≡◌, ℕ, ◌<◌, List, [], ◌∷◌, ◌++◌, length, take, ◌==◌, refl, sym, ap, ◌∙◌, append_assoc, append-nil, arith, inl, inr, length-take}
use Rattle.std.proofs.lemmas.Bool.{cases_Bool, cases_lt}
use Rattle.std.proofs.lemmas.List.{take_all, take-append-le}
use Rattle.std.specs.List.{slice_split, onto_first}
use Rattle.std.proofs.lemmas.List.Splits.{length-slice_split}
use Rattle.bptree_protocol.proofs.Law.{request_of-long}
use Rattle.bptree_protocol.specs.Request.{request_of}
use Rattle.bptree_protocol.specs.declared.TheConstants.{LONGEST_LINE}
use Rattle.bptree_commands.specs.ReplyLists.{outcome, outcomes, pairs_after_command, pairs_after_all}
use Rattle.bptree_commands.specs.declared.lines.TheConstants.{KEPT}
use Rattle.bptree_commands.specs.Clipped.{clipped_after, clipped_rest}
use Rattle.bptree_commands.specs.Lines.{ended_after, rest_after, ended_lines}

-- The replies to two lists of lines are those to the first list, followed by those to the second.
pub outcomes-append : (pairs : List (ℕ × ℕ)) (xs ys : List (List ℕ)) → outcomes pairs (xs ++ ys) ≡ outcomes pairs xs ++ outcomes (pairs_after_all pairs xs) ys
outcomes-append pairs [] ys = refl
outcomes-append pairs (x ∷ xs) ys = ap (λ t. outcome pairs x ++ t) (outcomes-append (pairs_after_command pairs x) xs ys) ∙ sym (append_assoc (outcome pairs x) _ _)

pub pairs_after_all-append : (pairs : List (ℕ × ℕ)) (xs ys : List (List ℕ)) → pairs_after_all pairs (xs ++ ys) ≡ pairs_after_all (pairs_after_all pairs xs) ys
pairs_after_all-append pairs [] ys = refl
pairs_after_all-append pairs (x ∷ xs) ys = pairs_after_all-append (pairs_after_command pairs x) xs ys

-- The lines of two lists of bytes are those of the first list, followed by those of the second.
pub clipped_after-append : (kept xs ys : List ℕ) → clipped_after kept (xs ++ ys) ≡ clipped_after kept xs ++ clipped_after (clipped_rest kept xs) ys
clipped_after-append kept [] ys = refl
clipped_after-append kept (x ∷ xs) ys = elim (cases_Bool (x == 10)) [
  | inl e ↦ rw e (ap (λ t. kept ∷ t) (clipped_after-append [] xs ys))
  | inr e ↦ rw e (clipped_after-append (take KEPT (kept ++ x ∷ [])) xs ys)
]

pub clipped_rest-append : (kept xs ys : List ℕ) → clipped_rest kept (xs ++ ys) ≡ clipped_rest (clipped_rest kept xs) ys
clipped_rest-append kept [] ys = refl
clipped_rest-append kept (x ∷ xs) ys = elim (cases_Bool (x == 10)) [
  | inl e ↦ rw e (clipped_rest-append [] xs ys)
  | inr e ↦ rw e (clipped_rest-append (take KEPT (kept ++ x ∷ [])) xs ys)
]

pub ended_after-append : (front xs ys : List ℕ) → ended_after front (xs ++ ys) ≡ ended_after front xs ++ ended_after (rest_after front xs) ys
ended_after-append front [] ys = refl
ended_after-append front (x ∷ xs) ys = elim (cases_Bool (x == 10)) [
  | inl e ↦ rw e (ap (λ t. front ∷ t) (ended_after-append [] xs ys))
  | inr e ↦ rw e (ended_after-append (front ++ x ∷ []) xs ys)
]

-- A line that is cut to `KEPT` bytes is read as the whole line is.
request_of-take : (line : List ℕ) → request_of (take KEPT line) ≡ request_of line
request_of-take line = elim (cases_lt LONGEST_LINE (length line)) [
  | inl long ↦ request_of-long (take KEPT line) (omega (arith, length-take KEPT line)) ∙ sym (request_of-long line long)
  | inr short ↦ ap request_of (take_all KEPT line (omega arith))
]

pub outcome-take : (pairs : List (ℕ × ℕ)) (line : List ℕ) → outcome pairs (take KEPT line) ≡ outcome pairs line
unfolding outcome
outcome-take pairs line = rw (request_of-take line) refl

pub pairs_after_command-take : (pairs : List (ℕ × ℕ)) (line : List ℕ) → pairs_after_command pairs (take KEPT line) ≡ pairs_after_command pairs line
unfolding pairs_after_command
pairs_after_command-take pairs line = rw (request_of-take line) refl

take_take_front : (n : ℕ) (front : List ℕ) (b : ℕ) → take n (take n front ++ b ∷ []) ≡ take n (front ++ b ∷ [])
take_take_front n front b = elim (cases_lt (length front) n) [
  | inl few ↦ ap (λ t. take n (t ++ b ∷ [])) (take_all n front (omega arith))
  | inr many ↦
      let short = length-take n front in
      take-append-le n (take n front) (b ∷ []) (omega arith) ∙ take_all n (take n front) (omega arith) ∙ sym (take-append-le n front (b ∷ []) many)
]

take_front : (front : List ℕ) (b : ℕ) → take KEPT (take KEPT front ++ b ∷ []) ≡ take KEPT (front ++ b ∷ [])
take_front front b = take_take_front KEPT front b

-- The replies to lines that are cut to `KEPT` bytes are those to the whole lines.
pub outcomes-clipped : (pairs : List (ℕ × ℕ)) (front bs : List ℕ) → outcomes pairs (clipped_after (take KEPT front) bs) ≡ outcomes pairs (ended_after front bs)
outcomes-clipped pairs front [] = refl
outcomes-clipped pairs front (b ∷ bs) = elim (cases_Bool (b == 10)) [
  | inl e ↦ rw (e, outcome-take pairs front, pairs_after_command-take pairs front) (ap (λ t. outcome pairs front ++ t) (outcomes-clipped (pairs_after_command pairs front) [] bs))
  | inr e ↦ rw (e, take_front front b) (outcomes-clipped pairs (front ++ b ∷ []) bs)
]

pub pairs_after_all-clipped : (pairs : List (ℕ × ℕ)) (front bs : List ℕ) → pairs_after_all pairs (clipped_after (take KEPT front) bs) ≡ pairs_after_all pairs (ended_after front bs)
pairs_after_all-clipped pairs front [] = refl
pairs_after_all-clipped pairs front (b ∷ bs) = elim (cases_Bool (b == 10)) [
  | inl e ↦ rw e (ap (λ p. pairs_after_all p (clipped_after [] bs)) (pairs_after_command-take pairs front) ∙ pairs_after_all-clipped (pairs_after_command pairs front) [] bs)
  | inr e ↦ rw (e, take_front front b) (pairs_after_all-clipped pairs (front ++ b ∷ []) bs)
]

pub clipped_rest-is : (front bs : List ℕ) → clipped_rest (take KEPT front) bs ≡ take KEPT (rest_after front bs)
clipped_rest-is front [] = refl
clipped_rest-is front (b ∷ bs) = elim (cases_Bool (b == 10)) [
  | inl e ↦ rw e (clipped_rest-is [] bs)
  | inr e ↦ rw (e, take_front front b) (clipped_rest-is (front ++ b ∷ []) bs)
]

-- A list of parts with more bytes before its first part.
abbrev glued : List ℕ → List (List ℕ) → List (List ℕ)
glued front [] = front ∷ []
glued front (part ∷ parts) = (front ++ part) ∷ parts

glued_nothing : (parts : List (List ℕ)) → 0 < length parts → glued [] parts ≡ parts
glued_nothing [] some = absurd (omega arith)
glued_nothing (part ∷ parts) some = refl

glued_one : (front : List ℕ) (b : ℕ) (parts : List (List ℕ)) → glued (front ++ b ∷ []) parts ≡ glued front (onto_first b parts)
glued_one front b [] = refl
glued_one front b (part ∷ parts) = ap (λ l. l ∷ parts) (append_assoc front (b ∷ []) part)

lines_of_parts : (front bs : List ℕ) → ended_after front bs ++ rest_after front bs ∷ [] ≡ glued front (slice_split (λ b. b == 10) bs)
lines_of_parts front [] = ap (λ l. l ∷ []) (sym (append-nil front))
lines_of_parts front (b ∷ bs) = elim (cases_Bool (b == 10)) [
  | inl e ↦ rw e (ap (λ ls. front ∷ ls) (lines_of_parts [] bs ∙ glued_nothing (slice_split (λ b. b == 10) bs) (omega (arith, length-slice_split (λ b. b == 10) bs)))
      ∙ ap (λ l. l ∷ slice_split (λ b. b == 10) bs) (sym (append-nil front)))
  | inr e ↦ rw e (lines_of_parts (front ++ b ∷ []) bs ∙ glued_one front b (slice_split (λ b. b == 10) bs))
]

pub parts_are_lines_lem : (bs : List ℕ) → ended_lines bs ++ rest_after [] bs ∷ [] ≡ slice_split (λ b. b == 10) bs
parts_are_lines_lem bs = lines_of_parts [] bs ∙ glued_nothing (slice_split (λ b. b == 10) bs) (omega (arith, length-slice_split (λ b. b == 10) bs))
