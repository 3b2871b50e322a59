-- Lemmas about the lines that line feeds end.
use Rattle.std.proofs.Common.{◌≡◌, ℕ, suc, min, ◌+◌, ◌-◌, ◌<◌, ◌≤◌, List, [], ◌∷◌, ◌++◌, length, take, drop, get_or, ◌==◌, not, cond, nat_lt, true, false, refl, sym, ap, ◌∙◌, append_assoc, append-nil, arith, subst, inl, inr, None, Some, length-take, length-drop}
use Rattle.std.specs.Prelude.{Result, Ok, Err, IsOk, OnOk}
use Rattle.std.proofs.lemmas.Bool.{cases_Bool, cases_lt}
use Rattle.std.proofs.lemmas.Bool.Decides.{nat_tests}
use Rattle.std.proofs.lemmas.List.Quantifiers.{position-Some}
use Rattle.std.proofs.lemmas.List.Sums.{prefix_len_passes}
use Rattle.std.specs.List.{position, position_or_len}
use Rattle.std.proofs.lemmas.List.{take_more, take-append-drop, take_all, take-append-le, get_or-take, take_min}
use Rattle.std.proofs.Math.Seq.{take-append_seam, take-append-add}
use Rattle.bptree_commands.proofs.LineLemmas.{outcomes-append, pairs_after_all-append, clipped_after-append, clipped_rest-append}
use Rattle.bptree_commands.proofs.SentLemmas.{Sends-then, Sends-cut}
use Rattle.bptree_commands.specs.ReplyLists.{outcome, outcomes, pairs_after_command, pairs_after_all}
use Rattle.bptree_commands.specs.declared.lines.TheConstants.{KEPT}
use Rattle.bptree_commands.specs.Clipped.{clipped_after, clipped_rest}
use Rattle.bptree_commands.specs.Sent.{Sent, Sends, CutsOff, Breaks, SendStopsAt}
use Rattle.bptree_commands.specs.declared.error.ServeError.{ServeError}
use Rattle.bptree_commands.specs.declared.error.ServeError.TheVariants.{Io, OutOfMemory}

-- None of the bytes is a line feed.
abbrev pub NoFeed : List ℕ → Type 0
NoFeed bytes = (k : ℕ) → k < length bytes → get_or bytes k 0 ≡ 10 → ⊥

pub take_take_append : (n : ℕ) (xs ys : List ℕ) → take n (take n xs ++ ys) ≡ take n (xs ++ ys)
take_take_append n xs ys = elim (cases_lt (length xs) n) [
  | inl few ↦ ap (λ t. take n (t ++ ys)) (take_all n xs (omega arith))
  | inr many ↦
      let short = length-take n xs in
      take-append-le n (take n xs) ys (omega arith) ∙ take_all n (take n xs) (omega arith) ∙ sym (take-append-le n xs ys many)
]

pub clipped_rest-piece : (kept piece : List ℕ) → length kept ≤ KEPT → NoFeed piece → clipped_rest kept piece ≡ take KEPT (kept ++ piece)
clipped_rest-piece kept [] few none = sym (ap (take KEPT) (append-nil kept) ∙ take_all KEPT kept few)
clipped_rest-piece kept (b ∷ bs) few none =
    let other : b ≡ 10 → ⊥ = none 0 (omega arith) in
    let e : (b == 10) ≡ false = grind (arith, nat_tests) in
    rw e (clipped_rest-piece (take KEPT (kept ++ b ∷ [])) bs (omega (arith, length-take KEPT (kept ++ b ∷ []))) (λ k below is. none (suc k) (omega arith) is)
    ∙ take_take_append KEPT (kept ++ b ∷ []) bs ∙ ap (take KEPT) (append_assoc kept (b ∷ []) bs))

pub clipped_after-piece : (kept piece : List ℕ) → NoFeed piece → clipped_after kept piece ≡ []
clipped_after-piece kept [] none = refl
clipped_after-piece kept (b ∷ bs) none =
    let other : b ≡ 10 → ⊥ = none 0 (omega arith) in
    let e : (b == 10) ≡ false = grind (arith, nat_tests) in
    rw e (clipped_after-piece (take KEPT (kept ++ b ∷ [])) bs (λ k below is. none (suc k) (omega arith) is))

-- A line feed ends a line.
pub line_ends : (kept done piece : List ℕ) → length (clipped_rest kept done) ≤ KEPT → NoFeed piece
    → clipped_after kept (done ++ (piece ++ 10 ∷ [])) ≡ clipped_after kept done ++ take KEPT (clipped_rest kept done ++ piece) ∷ []
line_ends kept done piece few none =
    let k = clipped_rest kept done in
    clipped_after-append kept done (piece ++ 10 ∷ [])
    ∙ ap (λ ls. clipped_after kept done ++ ls) (clipped_after-append k piece (10 ∷ [])
    ∙ ap (λ ls. ls ++ clipped_rest k piece ∷ []) (clipped_after-piece k piece none)
    ∙ ap (λ l. l ∷ []) (clipped_rest-piece k piece few none))

pub rest_ends : (kept done piece : List ℕ) → clipped_rest kept (done ++ (piece ++ 10 ∷ [])) ≡ []
rest_ends kept done piece = clipped_rest-append kept done (piece ++ 10 ∷ []) ∙ clipped_rest-append (clipped_rest kept done) piece (10 ∷ [])

-- Bytes with a line feed are the bytes before it, the line feed, and the bytes after it.
pub cut_at_feed : (rest : List ℕ) (at : ℕ) → at < length rest → get_or rest at 0 ≡ 10 → rest ≡ (take at rest ++ 10 ∷ []) ++ take (length rest - (at + 1)) (drop (at + 1) rest)
cut_at_feed rest at below is =
    sym (take-append-drop (at + 1) rest)
    ∙ ap (λ t. t ++ drop (at + 1) rest) (take_more rest at 0 below ∙ ap (λ b. take at rest ++ b ∷ []) is)
    ∙ ap (λ t. (take at rest ++ 10 ∷ []) ++ t) (sym (take_all (length rest - (at + 1)) (drop (at + 1) rest) (omega (arith, length-drop (at + 1) rest))))

pub no_feed_before : (rest : List ℕ) (at : ℕ) → ((k : ℕ) → k < at → get_or rest k 0 ≡ 10 → ⊥) → NoFeed (take at rest)
no_feed_before rest at none = λ k below is.
    let few = length-take at rest in
    none k (omega arith) (sym (get_or-take at rest k 0 (omega arith)) ∙ is)

results_end : (pairs : List (ℕ × ℕ)) (kept done piece : List ℕ) → length (clipped_rest kept done) ≤ KEPT → NoFeed piece
    → outcomes pairs (clipped_after kept (done ++ (piece ++ 10 ∷ []))) ≡ outcomes pairs (clipped_after kept done) ++ outcome (pairs_after_all pairs (clipped_after kept done)) (take KEPT (clipped_rest kept done ++ piece))
results_end pairs kept done piece few none =
    ap (outcomes pairs) (line_ends kept done piece few none)
    ∙ outcomes-append pairs (clipped_after kept done) (take KEPT (clipped_rest kept done ++ piece) ∷ [])
    ∙ ap (λ t. outcomes pairs (clipped_after kept done) ++ t) (append-nil _)

pub pairs_end : (pairs : List (ℕ × ℕ)) (kept done piece : List ℕ) → length (clipped_rest kept done) ≤ KEPT → NoFeed piece
    → pairs_after_all pairs (clipped_after kept (done ++ (piece ++ 10 ∷ []))) ≡ pairs_after_command (pairs_after_all pairs (clipped_after kept done)) (take KEPT (clipped_rest kept done ++ piece))
pairs_end pairs kept done piece few none =
    ap (pairs_after_all pairs) (line_ends kept done piece few none)
    ∙ pairs_after_all-append pairs (clipped_after kept done) (take KEPT (clipped_rest kept done ++ piece) ∷ [])

pub sent_end : (a b c : Sent) (pairs : List (ℕ × ℕ)) (kept done piece : List ℕ) → length (clipped_rest kept done) ≤ KEPT → NoFeed piece
    → Sends a b (outcomes pairs (clipped_after kept done)) → Sends b c (outcome (pairs_after_all pairs (clipped_after kept done)) (take KEPT (clipped_rest kept done ++ piece)))
    → Sends a c (outcomes pairs (clipped_after kept (done ++ (piece ++ 10 ∷ []))))
sent_end a b c pairs kept done piece few none first second =
    let P : List ℕ → Type 0 = λ t. Sends a c t in
    subst P (sym (results_end pairs kept done piece few none)) (Sends-then a b c _ _ first second)

first_of : (xs ys bytes : List ℕ) → bytes ≡ xs ++ ys → take (length xs) bytes ≡ xs
first_of xs ys bytes e = ap (take (length xs)) e ∙ take-append_seam xs ys

pub stops_in_line : (e : ServeError) (a b c : Sent) (pairs : List (ℕ × ℕ)) (kept bytes done piece after : List ℕ)
    → bytes ≡ done ++ ((piece ++ 10 ∷ []) ++ after) → length (clipped_rest kept done) ≤ KEPT → NoFeed piece
    → Sends a b (outcomes pairs (clipped_after kept done))
    → Breaks e b c (outcome (pairs_after_all pairs (clipped_after kept done)) (take KEPT (clipped_rest kept done ++ piece)))
    → (m : ℕ) × SendStopsAt e a c (outcomes pairs (clipped_after kept (take m bytes)))
stops_in_line Io a b c pairs kept bytes done piece after whole few none sent broke =
    let front = done ++ (piece ++ 10 ∷ []) in
    let P : List ℕ → Type 0 = λ t. CutsOff a c t in (
      length front,
      subst P (sym (ap (λ t. outcomes pairs (clipped_after kept t)) (first_of front after bytes (whole ∙ sym (append_assoc done (piece ++ 10 ∷ []) after))) ∙ results_end pairs kept done piece few none))
          (Sends-cut a b c _ _ sent broke),
    )
stops_in_line OutOfMemory a b c pairs kept bytes done piece after whole few none sent broke =
    let P : List ℕ → Type 0 = λ t. Sends a c t in (
      length done,
      subst P (append-nil _ ∙ sym (ap (λ t. outcomes pairs (clipped_after kept t)) (first_of done ((piece ++ 10 ∷ []) ++ after) bytes whole)))
          (Sends-then a b c (outcomes pairs (clipped_after kept done)) [] sent broke),
    )

-- Bytes without a line feed end no line.
pub after_last : (kept bytes done rest : List ℕ) → bytes ≡ done ++ rest → NoFeed rest → clipped_after kept bytes ≡ clipped_after kept done
after_last kept bytes done rest whole none =
    ap (clipped_after kept) whole ∙ clipped_after-append kept done rest ∙ ap (λ ls. clipped_after kept done ++ ls) (clipped_after-piece (clipped_rest kept done) rest none) ∙ append-nil _

pub rest_last : (kept bytes done rest : List ℕ) → bytes ≡ done ++ rest → length (clipped_rest kept done) ≤ KEPT → NoFeed rest → clipped_rest kept bytes ≡ take KEPT (clipped_rest kept done ++ rest)
rest_last kept bytes done rest whole few none =
    ap (clipped_rest kept) whole ∙ clipped_rest-append kept done rest ∙ clipped_rest-piece (clipped_rest kept done) rest few none

-- Appending as many bytes as there is room for gives the first n bytes of the line.
pub kept_bytes : (n room : ℕ) (line bytes : List ℕ) → room + length line ≡ n → line ++ take (min room (length bytes)) bytes ≡ take n (line ++ bytes)
kept_bytes n room line bytes whole =
    let e : length line + room ≡ n = omega arith in
    ap (λ t. line ++ t) (take_min room bytes) ∙ sym (take-append-add line bytes room) ∙ ap (λ m. take m (line ++ bytes)) e

-- What holds of a call that succeeds.
pub fact_at_ok : {T E : Type 0} → (r : Result T E) (P : Type 0) → IsOk r → OnOk r P → P
fact_at_ok (Ok x) P ok fact = fact
fact_at_ok (Err e) P ok fact = absurd (cc ok)

-- At most `KEPT` bytes are kept of a line.
pub length-clipped_rest : (kept bs : List ℕ) → length kept ≤ KEPT → length (clipped_rest kept bs) ≤ KEPT
length-clipped_rest kept [] few = few
length-clipped_rest kept (b ∷ bs) few = elim (cases_Bool (b == 10)) [
  | inl e ↦ rw e (length-clipped_rest [] bs (omega arith))
  | inr e ↦ rw e (length-clipped_rest (take KEPT (kept ++ b ∷ [])) bs (omega (arith, length-take KEPT (kept ++ b ∷ []))))
]

is_feed : (x : ℕ) → (x == 10) ≡ true → x ≡ 10
is_feed x h = grind (arith, nat_tests)

tests_feed : (x : ℕ) → x ≡ 10 → (x == 10) ≡ true
tests_feed x h = grind (arith, nat_tests)

pub found_feed : (rest : List ℕ) (at : ℕ) → position (λ b. b == 10) rest ≡ Some at
    → (at < length rest) × (get_or rest at 0 ≡ 10) × ((k : ℕ) → k < at → get_or rest k 0 ≡ 10 → ⊥)
found_feed rest at h =
    let first = position-Some (λ b. b == 10) rest at 0 h in
    (first.0, is_feed _ first.1, λ k below is. let before = first.2 k below in let here = tests_feed _ is in cc (before, here))

-- If a search finds no index, the index is past the end.
no_position : (n m : ℕ) → cond (nat_lt n m) (Some n) None ≡ None → m ≤ n
no_position n m h = grind (arith, nat_tests)

pub no_feed_at_all : (rest : List ℕ) → position (λ b. b == 10) rest ≡ None → NoFeed rest
no_feed_at_all rest h = λ k below is.
    let many = no_position (position_or_len (λ b. b == 10) rest) (length rest) h in
    let other = prefix_len_passes (λ x. not (x == 10)) rest k 0 (omega arith) in
    let here = tests_feed _ is in
    absurd (cc (rw here at other))
