-- The bytes that were sent to a writer.
use Rattle.std.specs.Prelude.{◌≡◌, ℕ, List, [], ◌++◌, take, Option, Result, MatchResult}
use Rattle.std.specs.Borrow.{GName}
use Rattle.std.specs.Io.KnownBytes.{Appends, Keeps}
use Rattle.bptree_commands.specs.ReplyLists.{outcomes}
use Rattle.bptree_commands.specs.Clipped.{clipped_after}
use Rattle.bptree_commands.specs.declared.error.ServeError.{ServeError}
use Rattle.bptree_commands.specs.declared.error.ServeError.TheVariants.{Io, OutOfMemory}

-- The identity of a writer, the bytes known to be written to it, and the bytes held for it.
pub record Sent : Type 0 where
  pub writer : GName
  pub written : Option (List ℕ)
  pub held : List ℕ

-- A beginning of the text was written.
abbrev pub AppendsBeginning : Option (List ℕ) → Option (List ℕ) → List ℕ → Type 0
AppendsBeginning old new text = (front : List ℕ) × (rest : List ℕ) × (text ≡ front ++ rest) × Appends old new front

-- The error is `Io`, and a beginning of the text was written. This is stated by the known contents
-- of the writer before and after.
abbrev pub BreaksOff : {W : Type 0} → (W → Option (List ℕ)) → W → W → List ℕ → ServeError → Type 0
BreaksOff contents old new text e = (e ≡ Io) × AppendsBeginning (contents old) (contents new) text

-- The held bytes and then the text were written, except for the bytes that are held now.
abbrev pub Sends : Sent → Sent → List ℕ → Type 0
Sends old new text = (new.writer ≡ old.writer) × (front : List ℕ) × (old.held ++ text ≡ front ++ new.held) × Appends old.written new.written front

-- Only a beginning of the held bytes and the text was written.
abbrev pub CutsOff : Sent → Sent → List ℕ → Type 0
CutsOff old new text = (new.writer ≡ old.writer) × AppendsBeginning old.written new.written (old.held ++ text)

-- The text was sent, or the writer failed on the way.
abbrev pub SendsOrFails : {T : Type 0} → Sent → Sent → List ℕ → Result T ServeError → Type 0
SendsOrFails old new text r = MatchResult r (λ _. Sends old new text) (λ e. (e ≡ Io) × CutsOff old new text)

-- All held bytes were written. If the writer failed on the way, they are still held.
abbrev pub Drains : {T : Type 0} → Sent → Sent → Result T ServeError → Type 0
Drains old new r =
    (new.writer ≡ old.writer)
    × MatchResult r (λ _. (new.held ≡ []) × Appends old.written new.written old.held)
    (λ e. (e ≡ Io) × AppendsBeginning old.written new.written old.held × (new.held ≡ old.held))

-- Nothing more was written, and the flush succeeded or failed.
abbrev pub Flushes : {T : Type 0} → Sent → Sent → Result T ServeError → Type 0
Flushes old new r = (new.writer ≡ old.writer) × MatchResult r (λ _. Keeps old.written new.written) (λ e. (e ≡ Io) × Keeps old.written new.written)

-- The state after an error. After `Io` a beginning of the text was written. After `OutOfMemory`
-- nothing of the text was sent.
abbrev pub Breaks : ServeError → Sent → Sent → List ℕ → Type 0
Breaks Io old new text = CutsOff old new text
Breaks OutOfMemory old new text = Sends old new []

-- The text was sent, or the reply failed.
abbrev pub Replies : {T : Type 0} → Sent → Sent → List ℕ → Result T ServeError → Type 0
Replies old new text r = MatchResult r (λ _. Sends old new text) (λ e. Breaks e old new text)

-- The text was sent, or after `Io` a beginning of it was written.
abbrev pub SendStopsAt : ServeError → Sent → Sent → List ℕ → Type 0
SendStopsAt Io old new text = CutsOff old new text
SendStopsAt OutOfMemory old new text = Sends old new text

-- The replies to the lines that end in the bytes were sent. The pairs are those before, and the
-- first line begins with the kept bytes. On an error, the replies to a beginning of the bytes were
-- sent or broke off.
abbrev pub RepliesTo : {T : Type 0} → Sent → Sent → List (ℕ × ℕ) → List ℕ → List ℕ → Result T ServeError → Type 0
RepliesTo old new pairs kept bytes r =
    MatchResult r (λ _. Sends old new (outcomes pairs (clipped_after kept bytes)))
    (λ e. (n : ℕ) × SendStopsAt e old new (outcomes pairs (clipped_after kept (take n bytes))))
