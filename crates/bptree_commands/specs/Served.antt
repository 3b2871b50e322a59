-- Definitions of serving an input.
use Rattle.std.specs.Prelude.{◌≡◌, ◌≤◌, ◌-◌, ◌^◌, ◌⊎◌, ℕ, List, [], length, take, Option, Result, MatchResult, OnOk, IfSome, IsErrOf}
use Rattle.std.specs.Io.KnownBytes.{Appends, Consumes, IsAtEnd}
use Rattle.bptree_commands.specs.declared.error.ServeError.{ServeError}
use Rattle.bptree_commands.specs.declared.error.ServeError.TheVariants as error
use Rattle.bptree_commands.specs.declared.session.Stop.{Stop}
use Rattle.bptree_commands.specs.declared.session.Stop.TheVariants.{Reader, Writer, NoEnd, OutOfMemory}
use Rattle.bptree_commands.specs.ReplyLists.{outcomes, text}
use Rattle.bptree_commands.specs.Clipped.{clipped_after}
use Rattle.bptree_commands.specs.Lines.{ended_lines, last_line, lines_of}
use Rattle.bptree_commands.specs.Sent.{AppendsBeginning, Sent}

-- The lines that were read are those that a line feed ended. Only if no input is left may they
-- include the last bytes without a line feed.
abbrev pub AreLinesRead : List (List ℕ) → List ℕ → Option (List ℕ) → Type 0
AreLinesRead lines read left = (lines ≡ ended_lines read) ⊎ ((lines ≡ lines_of read) × IsAtEnd left)

-- The input was read to its end, and its text was written.
abbrev pub Returned : Option (List ℕ) → Option (List ℕ) → Option (List ℕ) → Option (List ℕ) → Type 0
Returned input left old new = (read : List ℕ) × Consumes input left read × IsAtEnd left × Appends old new (text read)

-- What was read and written if serving ended early. If the reader failed, the replies to the lines
-- read were written. If the writer failed, a beginning of the replies was written. If no end came,
-- each of `u64::MAX` reads returned at least a byte, and the replies to the lines were written. If
-- an allocation failed, the replies to the first n of the lines were written in full.
abbrev pub StoppedBy : Stop → Option (List ℕ) → Option (List ℕ) → Option (List ℕ) → Option (List ℕ) → Type 0
StoppedBy Reader input left old new =
    (read : List ℕ) × Consumes input left read × Appends old new (outcomes [] (ended_lines read))
StoppedBy Writer input left old new =
    (read : List ℕ) × (lines : List (List ℕ)) × Consumes input left read × AreLinesRead lines read left
    × AppendsBeginning old new (outcomes [] lines)
StoppedBy NoEnd input left old new =
    (read : List ℕ) × Consumes input left read × (2 ^ 64 - 1 ≤ length read) × Appends old new (outcomes [] (ended_lines read))
StoppedBy OutOfMemory input left old new =
    (read : List ℕ) × (lines : List (List ℕ)) × Consumes input left read × AreLinesRead lines read left
    × (n : ℕ) × Appends old new (outcomes [] (take n lines))

-- The error that reports a stop, and the stop of an error in a reply.
abbrev pub error_of : Stop → ServeError
error_of Reader = error.Io
error_of Writer = error.Io
error_of NoEnd = error.Io
error_of OutOfMemory = error.OutOfMemory

abbrev pub stop_of : ServeError → Stop
stop_of error.Io = Writer
stop_of error.OutOfMemory = OutOfMemory

-- Serving ended with the error, for one of the reasons that the error reports.
abbrev pub EndedBy : ServeError → Option (List ℕ) → Option (List ℕ) → Option (List ℕ) → Option (List ℕ) → Type 0
EndedBy e input left old new = (stop : Stop) × (e ≡ error_of stop) × StoppedBy stop input left old new

-- The replies to the whole input were written, or serving ended early. This is stated by the known
-- bytes of a reader before and after.
abbrev pub Serves : {X T : Type 0} → (X → Option (List ℕ)) → X → X → Sent → Sent → Result T Stop → Type 0
Serves remaining reader rest old new r =
    MatchResult r (λ _. Returned (remaining reader) (remaining rest) old.written new.written)
    (λ stop. StoppedBy stop (remaining reader) (remaining rest) old.written new.written)

-- Statements by the known bytes of a reader and of a writer, before and after.
module _ {X Y T : Type 0} (remaining : X → Option (List ℕ)) where
  module _ (reader rest : X) (contents : Y → Option (List ℕ)) (old new : Y) where
    -- If serving did not end early, the replies to the whole input were written.
    abbrev pub RepliesToAll : Result T ServeError → Type 0
    RepliesToAll r = OnOk r (Returned (remaining reader) (remaining rest) (contents old) (contents new))

    -- If serving ended with this error, it did so for one of the reasons that the error reports.
    abbrev pub EndsBy : ServeError → Result T ServeError → Type 0
    EndsBy e r = IsErrOf r e → EndedBy e (remaining reader) (remaining rest) (contents old) (contents new)

  -- If serving did not end early and the whole input is known, its text was written.
  abbrev pub ReturnsKnown : X → (Y → Option (List ℕ)) → Y → Y → Result T ServeError → Type 0
  ReturnsKnown reader contents old new r = OnOk r (IfSome (remaining reader) (λ input. Appends (contents old) (contents new) (text input)))

-- The text was written, or after `Io` a beginning of it.
abbrev pub EndsServing : ServeError → Option (List ℕ) → Option (List ℕ) → List ℕ → Type 0
EndsServing error.Io old new bytes = AppendsBeginning old new bytes
EndsServing error.OutOfMemory old new bytes = Appends old new bytes

-- The replies to a piece of the input were written. On an error, the replies to a beginning of the
-- piece were written, or after `Io` a beginning of these.
abbrev pub ReturnsPiece : {T : Type 0} → Sent → Sent → List (ℕ × ℕ) → List ℕ → List ℕ → Result T ServeError → Type 0
ReturnsPiece old new pairs kept bytes r =
    (new.writer ≡ old.writer)
    × MatchResult r (λ _. Appends old.written new.written (outcomes pairs (clipped_after kept bytes)))
    (λ e. (n : ℕ) × EndsServing e old.written new.written (outcomes pairs (clipped_after kept (take n bytes))))

-- The reply to what was kept of a last line was written. On `Io` a beginning of it was written, and
-- on `OutOfMemory` nothing.
abbrev pub BreaksLast : ServeError → Option (List ℕ) → Option (List ℕ) → List ℕ → Type 0
BreaksLast error.Io old new bytes = AppendsBeginning old new bytes
BreaksLast error.OutOfMemory old new bytes = Appends old new []

abbrev pub ReturnsLast : {T : Type 0} → Sent → Sent → List (ℕ × ℕ) → List ℕ → Result T ServeError → Type 0
ReturnsLast old new pairs kept r =
    let last = outcomes pairs (last_line kept) in
    (new.writer ≡ old.writer) × MatchResult r (λ _. Appends old.written new.written last) (λ e. BreaksLast e old.written new.written last)
