-- The requests that lines write.
use Rattle.std.specs.Prelude.{ℕ, ◌<◌, ◌^◌, List, [], ◌∷◌, ◌++◌, ◌==◌, if◌then◌else◌, Option, Some, None, option_map, option_and_then, bytes_eq, codes, decimal}
use Rattle.std.specs.List.{slice_split}
use Rattle.bptree_protocol.specs.Number.{number_of}
use Rattle.bptree_protocol.specs.declared.Request.{Request}
use Rattle.bptree_protocol.specs.declared.Request.TheVariants.{Put, Del, Get, Len, All, First, Last, At, Rank, Next, Prev, Back, Clear, Range, Page}

-- The line that writes a request.
abbrev pub line_of : Request → List ℕ
line_of (Put k v) = codes "put " ++ decimal k ++ codes " " ++ decimal v
line_of (Del k) = codes "del " ++ decimal k
line_of (Get k) = codes "get " ++ decimal k
line_of Len = codes "len"
line_of All = codes "all"
line_of First = codes "first"
line_of Last = codes "last"
line_of (At i) = codes "at " ++ decimal i
line_of (Rank k) = codes "rank " ++ decimal k
line_of (Next k) = codes "next " ++ decimal k
line_of (Prev k) = codes "prev " ++ decimal k
line_of Back = codes "back"
line_of Clear = codes "clear"
line_of (Range lo hi) = codes "range " ++ decimal lo ++ codes " " ++ decimal hi
line_of (Page p s) = codes "page " ++ decimal p ++ codes " " ++ decimal s

-- The numbers of a request fit 64 bits.
abbrev pub FitsRequest : Request → Type 0
FitsRequest (Put k v) = (k < 2 ^ 64) × (v < 2 ^ 64)
FitsRequest (Del k) = k < 2 ^ 64
FitsRequest (Get k) = k < 2 ^ 64
FitsRequest Len = Unit {0}
FitsRequest All = Unit {0}
FitsRequest First = Unit {0}
FitsRequest Last = Unit {0}
FitsRequest (At i) = i < 2 ^ 64
FitsRequest (Rank k) = k < 2 ^ 64
FitsRequest (Next k) = k < 2 ^ 64
FitsRequest (Prev k) = k < 2 ^ 64
FitsRequest Back = Unit {0}
FitsRequest Clear = Unit {0}
FitsRequest (Range lo hi) = (lo < 2 ^ 64) × (hi < 2 ^ 64)
FitsRequest (Page p s) = (p < 2 ^ 64) × (s < 2 ^ 64)

-- The words of a line, with one space between two words.
unfoldable pub words : List ℕ → List (List ℕ)
words line = slice_split (λ b. b == 32) line

-- The request that a command's name alone makes.
abbrev pub bare_request_from : List ℕ → Option Request
bare_request_from name =
    if bytes_eq name (codes "len") then Some Len else (if bytes_eq name (codes "all") then Some All else (if bytes_eq name (codes "first") then Some First else (if bytes_eq name (codes "last") then Some Last else (if bytes_eq name (codes "clear") then Some Clear else (if bytes_eq name (codes "back") then Some Back else None)))))

-- The request that a command's name and one number make.
abbrev pub key_request_from : List ℕ → Option ℕ → Option Request
key_request_from name key =
    if bytes_eq name (codes "get") then option_map (λ k. Get k) key else (if bytes_eq name (codes "at") then option_map (λ i. At i) key else (if bytes_eq name (codes "rank") then option_map (λ k. Rank k) key else (if bytes_eq name (codes "del") then option_map (λ k. Del k) key else (if bytes_eq name (codes "next") then option_map (λ k. Next k) key else (if bytes_eq name (codes "prev") then option_map (λ k. Prev k) key else None)))))

-- The request that a command's name and two numbers make.
abbrev pub pair_request_from : List ℕ → Option ℕ → Option ℕ → Option Request
pair_request_from name first second =
    if bytes_eq name (codes "put") then option_and_then (λ k. option_map (λ v. Put k v) second) first else (if bytes_eq name (codes "range") then option_and_then (λ lo. option_map (λ hi. Range lo hi) second) first else (if bytes_eq name (codes "page") then option_and_then (λ p. option_map (λ s. Page p s) second) first else None))

-- The request that a command's name and its arguments make.
abbrev pub request_from : List (List ℕ) → Option Request
request_from [] = None
request_from (name ∷ []) = bare_request_from name
request_from (name ∷ k ∷ []) = key_request_from name (number_of k)
request_from (name ∷ k ∷ v ∷ []) = pair_request_from name (number_of k) (number_of v)
request_from (name ∷ k ∷ v ∷ more ∷ rest) = None

-- The request that a line writes. `None` if it writes no request.
unfoldable pub request_of : List ℕ → Option Request
request_of line = request_from (words line)

-- The words of what follows a space. The list is empty if there is no space.
abbrev pub words_after : Option (List ℕ) → List (List ℕ)
words_after None = []
words_after (Some rest) = words rest
