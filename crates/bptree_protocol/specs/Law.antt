-- The laws of which lines are requests.
use Rattle.std.specs.Prelude.{◌≡◌, ◌↔◌, ℕ, ◌<◌, List, length, Some, None}
use Rattle.bptree_protocol.specs.Request.{line_of, FitsRequest, request_of}
use Rattle.bptree_protocol.specs.declared.Request.{Request}
use Rattle.bptree_protocol.specs.declared.TheConstants.{LONGEST_LINE}

-- A line is read as a request if and only if it is the line that writes the request and the
-- request's numbers fit 64 bits.
abbrev pub OneWriting : Type 0
OneWriting = (line : List ℕ) (r : Request) → (request_of line ≡ Some r) ↔ ((line ≡ line_of r) × FitsRequest r)

-- A line of more than `LONGEST_LINE` bytes is no request.
abbrev pub LongLinesAreNone : Type 0
LongLinesAreNone = (line : List ℕ) → LONGEST_LINE < length line → request_of line ≡ None
