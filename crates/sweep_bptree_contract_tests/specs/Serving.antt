-- The lines that callers of the line server read, and the replies that it writes.
use Rattle.std.specs.Prelude.{◌⊎◌, ℕ, List, Option, codes}
use Rattle.bptree_commands.specs.Served.{StoppedBy}
use Rattle.bptree_commands.specs.declared.session.Stop.TheVariants.{Reader, Writer}

-- The reader or the writer failed.
abbrev pub StoppedByStream : Option (List ℕ) → Option (List ℕ) → Option (List ℕ) → Option (List ℕ) → Type 0
StoppedByStream input left old new = StoppedBy Reader input left old new ⊎ StoppedBy Writer input left old new

-- Lines on the pairs beside a key, all pairs from the last one, those between two keys, and pages.
abbrev pub beside_lines : List ℕ
beside_lines = codes "back\nnext 0\nput 7 70\nput 9 90\nnext 7\nnext 8\nnext 9\nprev 9\nprev 8\nprev 7\nback\nrange 7 9\nrange 8 18446744073709551615\nrange 9 9\nrange 7\npage 0 1\npage 1 1\npage 9223372036854775808 2\npage 0 0\n"

abbrev pub beside_results : List ℕ
beside_results = codes "empty\nnone\nnew\nnew\n9 90\n9 90\nnone\n7 70\n7 70\nnone\n9 90,7 70\n7 70\n9 90\nempty\nbad\n7 70\n9 90\nempty\nbad\n"

-- Lines that put pairs and look keys up. The last line has no line feed.
abbrev pub put_lines : List ℕ
put_lines = codes "put 2 20\nput 1 10\nput 2 21\nget 2\nget 3\nlen\nall\nget 01\n\nlen"

abbrev pub put_results : List ℕ
put_results = codes "new\nnew\nold 20\n21\nnone\n2\n1 10,2 21\nbad\nbad\n2\n"

-- Lines on ends, indices and ranks, in a tree without pairs and in a tree with two.
abbrev pub rank_lines : List ℕ
rank_lines = codes "first\nlast\nat 0\nrank 7\nall\nput 7 70\nput 9 90\nfirst\nlast\nat 0\nat 1\nat 2\nrank 7\nrank 8\nrank 9\n"

abbrev pub rank_results : List ℕ
rank_results = codes "none\nnone\nnone\nout 0\nempty\nnew\nnew\n7 70\n9 90\n7 70\n9 90\nnone\nin 0\nout 1\nin 1\n"
