-- The bytes that were written if serving ended early, compared with the text of the whole input.
use Rattle.std.proofs.Common.{◌≡◌, ℕ, ◌-◌, ◌^◌, ◌<◌, ◌⊎◌, inl, inr, List, [], ◌++◌, length, take, drop, Option, None, Some, Result, Ok, Err, refl, sym, ap, ◌∙◌, append_assoc, append-nil, subst, arith, length-append, take-append-drop}
use Rattle.std.specs.Prelude.{IfSome, OnOk, OnErr, IsErrOf, IsSome}
use Rattle.std.specs.Io.KnownBytes.{Appends}
use Rattle.bptree_commands.proofs.LineLemmas.{outcomes-append, ended_after-append}
use Rattle.bptree_commands.specs.ReplyLists.{outcomes, pairs_after_all, text}
use Rattle.bptree_commands.specs.Lines.{ended_after, rest_after, ended_lines, last_line}
use Rattle.bptree_commands.specs.Sent.{AppendsBeginning}
use Rattle.bptree_commands.specs.Served.{StoppedBy, EndedBy, AreLinesRead, error_of}
use Rattle.bptree_commands.specs.declared.error.ServeError.{ServeError}
use Rattle.bptree_commands.specs.declared.error.ServeError.TheVariants as error
use Rattle.bptree_commands.specs.declared.session.Stop.{Stop}
use Rattle.bptree_commands.specs.declared.session.Stop.TheVariants.{Reader, Writer, NoEnd, OutOfMemory}

-- The replies to the lines that end in a front of the input are a beginning of the text of the
-- input.
text_begins : (read more : List ℕ) → (rest : List ℕ) × (text (read ++ more) ≡ outcomes [] (ended_lines read) ++ rest)
text_begins read more =
    let after = ended_after (rest_after [] read) more ++ last_line (rest_after [] (read ++ more)) in (
      outcomes (pairs_after_all [] (ended_lines read)) after,
      ap (λ ls. outcomes [] (ls ++ last_line (rest_after [] (read ++ more)))) (ended_after-append [] read more)
          ∙ ap (outcomes []) (append_assoc (ended_lines read) (ended_after (rest_after [] read) more) (last_line (rest_after [] (read ++ more))))
          ∙ outcomes-append [] (ended_lines read) after,
    )

longer : (o n : Option (List ℕ)) (t u whole : List ℕ) → whole ≡ t ++ u → AppendsBeginning o n t → AppendsBeginning o n whole
longer o n t u whole is cut = (cut.0, cut.1 ++ u, is ∙ ap (λ s. s ++ u) cut.2 ∙ append_assoc cut.0 cut.1 u, cut.3)

whole_beginning : (o n : Option (List ℕ)) (t : List ℕ) → Appends o n t → AppendsBeginning o n t
whole_beginning o n t wrote = (t, [], sym (append-nil t), wrote)

-- The replies to the lines that were read are a beginning of the text of the input.
read_begins : (lines : List (List ℕ)) (read ys input : List ℕ) → input ≡ read ++ ys → AreLinesRead lines read (Some ys) → (rest : List ℕ) × (text input ≡ outcomes [] lines ++ rest)
read_begins lines read ys input is (inl ended) = let begun = text_begins read ys in (begun.0, ap text is ∙ begun.1 ∙ ap (λ ls. outcomes [] ls ++ begun.0) (sym ended))
read_begins lines read ys input is (inr last) = ([], ap text (is ∙ ap (λ t. read ++ t) last.1 ∙ append-nil read) ∙ ap (outcomes []) (sym last.0) ∙ sym (append-nil _))

first_begins : (lines : List (List ℕ)) (n : ℕ) → outcomes [] lines ≡ outcomes [] (take n lines) ++ outcomes (pairs_after_all [] (take n lines)) (drop n lines)
first_begins lines n = ap (outcomes []) (sym (take-append-drop n lines)) ∙ outcomes-append [] (take n lines) (drop n lines)

stopped_in : (stop : Stop) (input ys : List ℕ) (o n : Option (List ℕ)) → StoppedBy stop (Some input) (Some ys) o n → AppendsBeginning o n (text input)
stopped_in Reader input ys o n h =
    let begun = read_begins (ended_lines h.0) h.0 ys input h.1 (inl refl) in longer o n _ begun.0 _ begun.1 (whole_beginning o n _ h.2)
stopped_in Writer input ys o n h = let begun = read_begins h.1 h.0 ys input h.2 h.3 in longer o n _ begun.0 _ begun.1 h.4
stopped_in NoEnd input ys o n h =
    let begun = read_begins (ended_lines h.0) h.0 ys input h.1 (inl refl) in longer o n _ begun.0 _ begun.1 (whole_beginning o n _ h.3)
stopped_in OutOfMemory input ys o n h =
    let begun = read_begins h.1 h.0 ys input h.2 h.3 in
    longer o n _ begun.0 _ begun.1 (longer o n _ _ _ (first_begins h.1 h.4) (whole_beginning o n _ h.5))

-- If the input is known, what is left of it is known too.
none_left : (stop : Stop) (input : List ℕ) (o n : Option (List ℕ)) → StoppedBy stop (Some input) None o n → ⊥
none_left Reader input o n h = h.1
none_left Writer input o n h = h.2
none_left NoEnd input o n h = h.1
none_left OutOfMemory input o n h = h.2

begun_by : (e : ServeError) (known left o n : Option (List ℕ)) → EndedBy e known left o n → IfSome known (λ input. AppendsBeginning o n (text input))
begun_by e None left o n h = tt
begun_by e (Some input) None o n h = absurd (none_left h.0 input o n h.2)
begun_by e (Some input) (Some ys) o n h = stopped_in h.0 input ys o n h.2

pub begun : {T : Type 0} (r : Result T ServeError) (known left o n : Option (List ℕ)) → (IsErrOf r error.Io → EndedBy error.Io known left o n)
    → (IsErrOf r error.OutOfMemory → EndedBy error.OutOfMemory known left o n) → OnErr r (IfSome known (λ input. AppendsBeginning o n (text input)))
begun (Ok x) known left o n io unchanged = tt
begun (Err error.Io) known left o n io unchanged = begun_by error.Io known left o n (io refl)
begun (Err error.OutOfMemory) known left o n io unchanged = begun_by error.OutOfMemory known left o n (unchanged refl)

-- A known input that is short has an end.
fault_of : (stop : Stop) (input : List ℕ) (left o n : Option (List ℕ)) → length input < 2 ^ 64 - 1 → error.Io ≡ error_of stop → StoppedBy stop (Some input) left o n
    → StoppedBy Reader (Some input) left o n ⊎ StoppedBy Writer (Some input) left o n
fault_of Reader input left o n short is h = inl h
fault_of Writer input left o n short is h = inr h
fault_of NoEnd input None o n short is h = absurd h.1
fault_of NoEnd input (Some ys) o n short is h = absurd (omega (arith, ap length h.1, length-append h.0 ys))
fault_of OutOfMemory input left o n short is h = cc is

pub fault : (known left o n : Option (List ℕ)) → IfSome known (λ input. length input < 2 ^ 64 - 1) → IsSome known → EndedBy error.Io known left o n
    → StoppedBy Reader known left o n ⊎ StoppedBy Writer known left o n
fault None left o n short some h = cc some
fault (Some input) left o n short some h = fault_of h.0 input left o n short h.1 h.2

-- The replies to a known input were written.
pub returned : {T : Type 0} (r : Result T ServeError) (known o n : Option (List ℕ)) (input wanted : List ℕ) → known ≡ Some input → text input ≡ wanted
    → OnOk r (IfSome known (λ it. Appends o n (text it))) → OnOk r (Appends o n wanted)
returned (Ok x) known o n input wanted is text_is h = let P : Option (List ℕ) → Type 0 = λ k. IfSome k (λ it. Appends o n (text it)) in let Q : List ℕ → Type 0 = λ t. Appends o n t in subst Q text_is (subst P is h)
returned (Err e) known o n input wanted is text_is h = tt

-- The replies to two equal inputs are equal.
pub alike : {T : Type 0} (r : Result T ServeError) (known other o n p q : Option (List ℕ)) → IsSome known → other ≡ known → IfSome known (λ it. Appends o n (text it))
    → OnOk r (IfSome other (λ it. Appends p q (text it))) → OnOk r ((written : List ℕ) × Appends o n written × Appends p q written)
alike (Ok x) None other o n p q some same first second = cc some
alike (Ok x) (Some input) other o n p q some same first second = let P : Option (List ℕ) → Type 0 = λ k. IfSome k (λ it. Appends p q (text it)) in (text input, first, subst P same second)
alike (Err e) known other o n p q some same first second = tt
