-- Lemmas about the replies to pieces of an input.
use Rattle.std.proofs.Common.{◌≡◌, ◌≤◌, ◌-◌, ◌^◌, ℕ, List, [], ◌∷◌, ◌++◌, length, take, drop, refl, sym, ap, ◌∙◌, append_assoc, append-nil, arith, subst, inl, inr, Option, take-append-drop}
use Rattle.std.specs.Prelude.{Result, Ok, Err}
use Rattle.std.proofs.lemmas.List.{take_all}
use Rattle.std.proofs.Math.Seq.{take-append_seam}
use Rattle.std.specs.Io.KnownBytes.{Appends, Consumes, IsAtEnd, Keeps}
use Rattle.std.proofs.KnownBytes.{Appends-nil, Appends-trans, Appends-kept, Consumes-nil, Consumes-trans, Consumes-kept}
use Rattle.bptree_commands.proofs.SentLemmas.{AppendsBeginning-longer}
use Rattle.bptree_commands.proofs.LineLemmas.{outcomes-append, clipped_after-append, clipped_rest-append, pairs_after_all-append, ended_after-append, outcomes-clipped, pairs_after_all-clipped, clipped_rest-is, outcome-take}
use Rattle.bptree_commands.specs.ReplyLists.{outcome, outcomes, pairs_after_all, text}
use Rattle.bptree_commands.specs.declared.lines.TheConstants.{KEPT}
use Rattle.bptree_commands.specs.Clipped.{clipped_after, clipped_rest}
use Rattle.bptree_commands.specs.Lines.{ended_after, rest_after, ended_lines, last_line, lines_of}
use Rattle.bptree_commands.specs.Sent.{Sent, Sends, CutsOff, Breaks, Drains, Flushes, AppendsBeginning}
use Rattle.bptree_commands.specs.Served.{Returned, StoppedBy, stop_of, EndsServing, ReturnsPiece, BreaksLast, ReturnsLast}
use Rattle.bptree_commands.specs.declared.error.ServeError.{ServeError}
use Rattle.bptree_commands.specs.declared.error.ServeError.TheVariants.{Io, OutOfMemory}
use Rattle.bptree_commands.specs.declared.session.Stop.TheVariants as stop

-- If nothing was held, the text is what was written followed by what is held now.
all_sent : (a b : Sent) (t front : List ℕ) → a.held ≡ [] → a.held ++ t ≡ front ++ b.held → t ≡ front ++ b.held
all_sent a b t front empty e = sym (ap (λ h. h ++ t) empty) ∙ e

-- After the held bytes are written, the whole text is written.
drained : (a b c : Sent) (t : List ℕ) → a.held ≡ [] → Sends a b t → Appends b.written c.written b.held → Appends a.written c.written t
drained a b c t empty sent rest = rw (all_sent a b t sent.1 empty sent.2) (Appends-trans a.written b.written c.written sent.1 b.held sent.3 rest)

-- After a beginning of the held bytes is written, a beginning of the text is written.
drained_cut : (a b c : Sent) (t : List ℕ) → a.held ≡ [] → Sends a b t → AppendsBeginning b.written c.written b.held → AppendsBeginning a.written c.written t
drained_cut a b c t empty sent rest =
    (sent.1 ++ rest.0, rest.1, all_sent a b t sent.1 empty sent.2 ∙ ap (λ l. sent.1 ++ l) rest.2 ∙ sym (append_assoc sent.1 rest.0 rest.1), Appends-trans a.written b.written c.written sent.1 rest.0 sent.3 rest.3)

-- The replies to a piece were sent, and writing what is held succeeds or fails.
pub piece_done : {T : Type 0} → (a b c : Sent) (pairs : List (ℕ × ℕ)) (kept bytes : List ℕ) (r : Result T ServeError)
    → a.held ≡ [] → Sends a b (outcomes pairs (clipped_after kept bytes)) → Drains b c r → ReturnsPiece a c pairs kept bytes r
piece_done a b c pairs kept bytes (Ok x) empty sent drains = (drains.0 ∙ sent.0, drained a b c _ empty sent drains.1.1)
piece_done a b c pairs kept bytes (Err e) empty sent drains =
    (drains.0 ∙ sent.0, (length bytes, rw (drains.1.0, take_all (length bytes) bytes (omega arith)) (drained_cut a b c _ empty sent drains.1.1)))

-- Replying to a piece failed because an allocation failed, and what is held was written.
pub piece_errs : (a b c : Sent) (pairs : List (ℕ × ℕ)) (kept bytes : List ℕ) (n : ℕ) → a.held ≡ [] → Sends a b (outcomes pairs (clipped_after kept (take n bytes))) → c.writer ≡ b.writer → Appends b.written c.written b.held
    → (c.writer ≡ a.writer) × ((m : ℕ) × EndsServing OutOfMemory a.written c.written (outcomes pairs (clipped_after kept (take m bytes))))
piece_errs a b c pairs kept bytes n empty sent same rest = (same ∙ sent.0, (n, drained a b c _ empty sent rest))

-- Replying to a piece failed, and writing what is held failed too.
pub piece_cut : {T : Type 0} → (a b c : Sent) (pairs : List (ℕ × ℕ)) (kept bytes : List ℕ) (n : ℕ) (e f : ServeError) (r : Result T ServeError)
    → r ≡ Err f → f ≡ e → a.held ≡ [] → Sends a b (outcomes pairs (clipped_after kept (take n bytes))) → (c.writer ≡ b.writer) × ((e ≡ Io) × AppendsBeginning b.written c.written b.held × (c.held ≡ b.held))
    → ReturnsPiece a c pairs kept bytes r
piece_cut a b c pairs kept bytes n e f r is same empty sent cut = rw (is, same, cut.1.0) (cut.0 ∙ sent.0, (n, drained_cut a b c _ empty sent cut.1.1))

pub piece_failed : (a b : Sent) (pairs : List (ℕ × ℕ)) (kept bytes : List ℕ) (n : ℕ) → a.held ≡ [] → CutsOff a b (outcomes pairs (clipped_after kept (take n bytes)))
    → (b.writer ≡ a.writer) × ((m : ℕ) × EndsServing Io a.written b.written (outcomes pairs (clipped_after kept (take m bytes))))
piece_failed a b pairs kept bytes n empty cut = (cut.0, (n, rw empty at cut.1))

last_line-some : (line : List ℕ) → (length line ≡ 0 → ⊥) → last_line line ≡ line ∷ []
last_line-some [] some = absurd (some refl)
last_line-some (b ∷ bs) some = refl

last_result : (pairs : List (ℕ × ℕ)) (line : List ℕ) → (length line ≡ 0 → ⊥) → outcomes pairs (last_line line) ≡ outcome pairs line
last_result pairs line some = ap (outcomes pairs) (last_line-some line some) ∙ append-nil (outcome pairs line)

nothing_left : (front held : List ℕ) → [] ≡ front ++ held → front ≡ []
nothing_left [] held e = refl
nothing_left (b ∷ front) held e = cc e

-- The reply to the last line broke off.
last_broken_by : (e : ServeError) (a b : Sent) (t : List ℕ) → a.held ≡ [] → Breaks e a b t → (b.writer ≡ a.writer) × BreaksLast e a.written b.written t
last_broken_by Io a b t empty broke = (broke.0, rw empty at broke.1)
last_broken_by OutOfMemory a b t empty broke =
    let P : List ℕ → Type 0 = λ l. Appends a.written b.written l in (broke.0, subst P (nothing_left broke.1 b.held (all_sent a b [] broke.1 empty broke.2)) broke.3)

pub last_broken : {T : Type 0} → (a b : Sent) (pairs : List (ℕ × ℕ)) (line : List ℕ) (e f : ServeError) (r : Result T ServeError)
    → (length line ≡ 0 → ⊥) → r ≡ Err f → f ≡ e → a.held ≡ [] → Breaks e a b (outcome pairs line) → ReturnsLast a b pairs line r
last_broken a b pairs line e f r some is same empty broke = rw (is, same, last_result pairs line some) (last_broken_by e a b _ empty broke)

-- The reply to the last line was sent, but what is held could not be written.
pub last_cut : {T : Type 0} → (a b c : Sent) (pairs : List (ℕ × ℕ)) (line : List ℕ) (e f : ServeError) (r : Result T ServeError)
    → (length line ≡ 0 → ⊥) → r ≡ Err f → f ≡ e → a.held ≡ [] → Sends a b (outcome pairs line) → (c.writer ≡ b.writer) × ((e ≡ Io) × AppendsBeginning b.written c.written b.held × (c.held ≡ b.held)) → ReturnsLast a c pairs line r
last_cut a b c pairs line e f r some is same empty sent cut = rw (is, same, cut.1.0, last_result pairs line some) (cut.0 ∙ sent.0, drained_cut a b c _ empty sent cut.1.1)

-- The reply to the last line was written, and the flush succeeds or fails.
pub last_done : {T : Type 0} → (a b c d : Sent) (pairs : List (ℕ × ℕ)) (line : List ℕ) (r : Result T ServeError)
    → (length line ≡ 0 → ⊥) → a.held ≡ [] → Sends a b (outcome pairs line) → c.writer ≡ b.writer → Appends b.written c.written b.held → Flushes c d r → ReturnsLast a d pairs line r
last_done a b c d pairs line (Ok x) some empty sent same wrote flushed =
    rw (last_result pairs line some) (flushed.0 ∙ (same ∙ sent.0), Appends-kept a.written c.written d.written _ (drained a b c _ empty sent wrote) flushed.1)
last_done a b c d pairs line (Err e) some empty sent same wrote flushed =
    rw (flushed.1.0, last_result pairs line some)
    (flushed.0 ∙ (same ∙ sent.0), (outcome pairs line, [], sym (append-nil (outcome pairs line)), Appends-kept a.written c.written d.written _ (drained a b c _ empty sent wrote) flushed.1.1))

-- There was no last line, and the flush succeeds or fails.
pub last_none : {T : Type 0} → (a b : Sent) (pairs : List (ℕ × ℕ)) (line : List ℕ) (r : Result T ServeError) → line ≡ [] → Flushes a b r → ReturnsLast a b pairs line r
last_none a b pairs line (Ok x) none flushed = rw none (flushed.0, Appends-kept a.written a.written b.written [] (Appends-nil a.written) flushed.1)
last_none a b pairs line (Err e) none flushed = rw (flushed.1.0, none) (flushed.0, ([], [], refl, Appends-kept a.written a.written b.written [] (Appends-nil a.written) flushed.1.1))

-- ---- the whole input

-- The replies to all bytes are the replies to a part, followed by the replies to the rest.
ended_results : (xs ys : List ℕ) → outcomes [] (ended_lines (xs ++ ys)) ≡ outcomes [] (ended_lines xs) ++ outcomes (pairs_after_all [] (ended_lines xs)) (ended_after (rest_after [] xs) ys)
ended_results xs ys = ap (outcomes []) (ended_after-append [] xs ys) ∙ outcomes-append [] (ended_lines xs) (ended_after (rest_after [] xs) ys)

first_lines : (xs ys : List ℕ) → take (length (ended_lines xs)) (ended_lines (xs ++ ys)) ≡ ended_lines xs
first_lines xs ys = ap (take (length (ended_lines xs))) (ended_after-append [] xs ys) ∙ take-append_seam (ended_lines xs) (ended_after (rest_after [] xs) ys)

-- The replies to the bytes read, followed by the replies to more bytes, are the replies to both.
joined : (read more : List ℕ) → outcomes [] (clipped_after [] read) ++ outcomes (pairs_after_all [] (clipped_after [] read)) (clipped_after (clipped_rest [] read) more)
    ≡ outcomes [] (ended_lines (read ++ more))
joined read more =
    sym (ap (outcomes []) (clipped_after-append [] read more) ∙ outcomes-append [] (clipped_after [] read) (clipped_after (clipped_rest [] read) more))
    ∙ outcomes-clipped [] [] (read ++ more)

pieces : (read chunk : List ℕ) (k : ℕ) → read ++ chunk ≡ (read ++ take k chunk) ++ drop k chunk
pieces read chunk k = ap (λ t. read ++ t) (sym (take-append-drop k chunk)) ∙ sym (append_assoc read (take k chunk) (drop k chunk))

-- An allocation failed before anything was read.
pub stopped_at_start : (a o : Option (List ℕ)) → StoppedBy stop.OutOfMemory a a o o
stopped_at_start a o = ([], [], Consumes-nil a, inl refl, 0, Appends-nil o)

-- The replies to clipped lines are the replies to the lines themselves.
returned_ended : (o n : Option (List ℕ)) (read : List ℕ) → Appends o n (outcomes [] (clipped_after [] read)) → Appends o n (outcomes [] (ended_lines read))
returned_ended o n read wrote = let P : List ℕ → Type 0 = λ t. Appends o n t in subst P (outcomes-clipped [] [] read) wrote

-- The reader failed.
pub stopped_by_reader : (a b c o n : Option (List ℕ)) (read : List ℕ) → Consumes a b read → Keeps b c → Appends o n (outcomes [] (clipped_after [] read)) → StoppedBy stop.Reader a c o n
stopped_by_reader a b c o n read consumed keeps wrote = (read, Consumes-kept a b c read consumed keeps, returned_ended o n read wrote)

-- The input has no end after `u64::MAX` reads.
pub stopped_with_no_end : (a b o n : Option (List ℕ)) (read : List ℕ) → Consumes a b read → 2 ^ 64 - 1 ≤ length read → Appends o n (outcomes [] (clipped_after [] read)) → StoppedBy stop.NoEnd a b o n
stopped_with_no_end a b o n read consumed many wrote = (read, consumed, many, returned_ended o n read wrote)

-- A text followed by a beginning of another text is a beginning of both.
begun : (o m n : Option (List ℕ)) (t u : List ℕ) → Appends o m t → AppendsBeginning m n u → AppendsBeginning o n (t ++ u)
begun o m n t u wrote cut = (t ++ cut.0, cut.1, ap (λ l. t ++ l) cut.2 ∙ sym (append_assoc t cut.0 cut.1), Appends-trans o m n t cut.0 wrote cut.3)

-- Replying to a piece of the input failed.
pub stopped_by_piece : (e : ServeError) (a b c o m n : Option (List ℕ)) (read chunk : List ℕ) → Consumes a b read → Consumes b c chunk → Appends o m (outcomes [] (clipped_after [] read))
    → ((k : ℕ) × EndsServing e m n (outcomes (pairs_after_all [] (clipped_after [] read)) (clipped_after (clipped_rest [] read) (take k chunk)))) → StoppedBy (stop_of e) a c o n
stopped_by_piece Io a b c o m n read chunk first second wrote cut =
    let front = read ++ take cut.0 chunk in
    let more = outcomes (pairs_after_all [] (ended_lines front)) (ended_after (rest_after [] front) (drop cut.0 chunk)) in
    let whole : outcomes [] (ended_lines (read ++ chunk)) ≡ outcomes [] (ended_lines front) ++ more = ap (λ t. outcomes [] (ended_lines t)) (pieces read chunk cut.0) ∙ ended_results front (drop cut.0 chunk) in
    let P : List ℕ → Type 0 = λ t. AppendsBeginning o n t in (
      read ++ chunk,
      ended_lines (read ++ chunk),
      Consumes-trans a b c read chunk first second,
      inl refl,
      subst P (sym whole) (AppendsBeginning-longer o n (outcomes [] (ended_lines front)) more (subst P (joined read (take cut.0 chunk)) (begun o m n _ _ wrote cut.1))),
    )
stopped_by_piece OutOfMemory a b c o m n read chunk first second wrote cut =
    let front = read ++ take cut.0 chunk in
    let same : take (length (ended_lines front)) (ended_lines (read ++ chunk)) ≡ ended_lines front =
    ap (λ t. take (length (ended_lines front)) (ended_lines t)) (pieces read chunk cut.0) ∙ first_lines front (drop cut.0 chunk) in
    let P : List ℕ → Type 0 = λ t. Appends o n t in (
      read ++ chunk,
      ended_lines (read ++ chunk),
      Consumes-trans a b c read chunk first second,
      inl refl,
      length (ended_lines front),
      subst P (joined read (take cut.0 chunk) ∙ sym (ap (outcomes []) same)) (Appends-trans o m n _ _ wrote cut.1),
    )

-- The reply to the kept bytes of the last line is the reply to the last line.
last_clipped : (pairs : List (ℕ × ℕ)) (rest : List ℕ) → outcomes pairs (last_line (take KEPT rest)) ≡ outcomes pairs (last_line rest)
last_clipped pairs [] = refl
last_clipped pairs (b ∷ bs) = ap (λ t. t ++ []) (outcome-take pairs (b ∷ bs))

whole_text : (read : List ℕ) → outcomes [] (clipped_after [] read) ++ outcomes (pairs_after_all [] (clipped_after [] read)) (last_line (clipped_rest [] read)) ≡ text read
whole_text read =
    ap (λ t. t ++ outcomes (pairs_after_all [] (clipped_after [] read)) (last_line (clipped_rest [] read))) (outcomes-clipped [] [] read)
    ∙ ap (λ ps. outcomes [] (ended_lines read) ++ outcomes ps (last_line (clipped_rest [] read))) (pairs_after_all-clipped [] [] read)
    ∙ ap (λ l. outcomes [] (ended_lines read) ++ outcomes (pairs_after_all [] (ended_lines read)) (last_line l)) (clipped_rest-is [] read)
    ∙ ap (λ t. outcomes [] (ended_lines read) ++ t) (last_clipped (pairs_after_all [] (ended_lines read)) (rest_after [] read))
    ∙ sym (outcomes-append [] (ended_lines read) (last_line (rest_after [] read)))

-- The input ended, and the reply to its last line was written.
pub returned_last : (a b c o m n : Option (List ℕ)) (read : List ℕ) → Consumes a b read → Consumes b c [] → IsAtEnd c
    → Appends o m (outcomes [] (clipped_after [] read)) → Appends m n (outcomes (pairs_after_all [] (clipped_after [] read)) (last_line (clipped_rest [] read))) → Returned a c o n
returned_last a b c o m n read first second end wrote last =
    let P : List ℕ → Type 0 = λ t. Appends o n t in
    let Q : List ℕ → Type 0 = λ t. Consumes a c t in
    (read, subst Q (append-nil read) (Consumes-trans a b c read [] first second), end, subst P (whole_text read) (Appends-trans o m n _ _ wrote last))

-- The input ended, and replying to its last line failed.
pub stopped_by_last : (e : ServeError) (a b c o m n : Option (List ℕ)) (read : List ℕ) → Consumes a b read → Consumes b c [] → IsAtEnd c
    → Appends o m (outcomes [] (clipped_after [] read)) → BreaksLast e m n (outcomes (pairs_after_all [] (clipped_after [] read)) (last_line (clipped_rest [] read))) → StoppedBy (stop_of e) a c o n
stopped_by_last Io a b c o m n read first second end wrote last =
    let P : List ℕ → Type 0 = λ t. AppendsBeginning o n t in
    let Q : List ℕ → Type 0 = λ t. Consumes a c t in
    (read, lines_of read, subst Q (append-nil read) (Consumes-trans a b c read [] first second), inr (refl, end), subst P (whole_text read) (begun o m n _ _ wrote last))
stopped_by_last OutOfMemory a b c o m n read first second end wrote last =
    let P : List ℕ → Type 0 = λ t. Appends o n t in
    let Q : List ℕ → Type 0 = λ t. Consumes a c t in (
      read,
      ended_lines read,
      subst Q (append-nil read) (Consumes-trans a b c read [] first second),
      inl refl,
      length (ended_lines read),
      subst P (append-nil _ ∙ outcomes-clipped [] [] read ∙ sym (ap (outcomes []) (take_all (length (ended_lines read)) (ended_lines read) (omega arith)))) (Appends-trans o m n _ _ wrote last),
    )

-- The replies to one more piece were written.
pub returned_more : (o m n : Option (List ℕ)) (read chunk : List ℕ) → Appends o m (outcomes [] (clipped_after [] read))
    → Appends m n (outcomes (pairs_after_all [] (clipped_after [] read)) (clipped_after (clipped_rest [] read) chunk)) → Appends o n (outcomes [] (clipped_after [] (read ++ chunk)))
returned_more o m n read chunk first second =
    let P : List ℕ → Type 0 = λ t. Appends o n t in
    subst P (sym (ap (outcomes []) (clipped_after-append [] read chunk) ∙ outcomes-append [] (clipped_after [] read) (clipped_after (clipped_rest [] read) chunk))) (Appends-trans o m n _ _ first second)

pub pairs_then : (pairs : List (ℕ × ℕ)) (read chunk kept : List ℕ) → kept ≡ clipped_rest [] read
    → pairs ≡ pairs_after_all (pairs_after_all [] (clipped_after [] read)) (clipped_after kept chunk) → pairs ≡ pairs_after_all [] (clipped_after [] (read ++ chunk))
pairs_then pairs read chunk kept same h =
    h ∙ ap (λ l. pairs_after_all (pairs_after_all [] (clipped_after [] read)) (clipped_after l chunk)) same
    ∙ sym (ap (pairs_after_all []) (clipped_after-append [] read chunk) ∙ pairs_after_all-append [] (clipped_after [] read) (clipped_after (clipped_rest [] read) chunk))

pub rest_then : (line kept read chunk : List ℕ) → kept ≡ clipped_rest [] read → line ≡ clipped_rest kept chunk → line ≡ clipped_rest [] (read ++ chunk)
rest_then line kept read chunk same h = h ∙ ap (λ l. clipped_rest l chunk) same ∙ sym (clipped_rest-append [] read chunk)
