-- The replies to some inputs.
use Rattle.std.proofs.Common.{◌≡◌, refl}
use Rattle.std.specs.Prelude.{codes}
use Rattle.std.specs.Fmt.{digits}
use Rattle.bptree_commands.specs.ReplyLists.{text, outcome, pairs_after_command}
use Rattle.sweep_bptree.specs.Number.{number_of}
use Rattle.sweep_bptree.specs.Request.{request_of, words}

pub puts_and_gets_text : text (codes "put 2 20\nput 1 10\nput 2 21\nget 2\nget 3\nlen\nall\nget 01\n\nlen") ≡ codes "new\nnew\nold 20\n21\nnone\n2\n1 10,2 21\nbad\nbad\n2\n"
unfolding outcome pairs_after_command request_of words number_of digits
puts_and_gets_text = refl

pub indexes_and_ranks_text : text (codes "first\nlast\nat 0\nrank 7\nall\nput 7 70\nput 9 90\nfirst\nlast\nat 0\nat 1\nat 2\nrank 7\nrank 8\nrank 9\n")
    ≡ codes "none\nnone\nnone\nout 0\nempty\nnew\nnew\n7 70\n9 90\n7 70\n9 90\nnone\nin 0\nout 1\nin 1\n"
unfolding outcome pairs_after_command request_of words number_of digits
indexes_and_ranks_text = refl

pub neighbours_and_back_text : text (codes "back\nnext 0\nput 7 70\nput 9 90\nnext 7\nnext 8\nnext 9\nprev 9\nprev 8\nprev 7\nback\nrange 7 9\nrange 8 18446744073709551615\nrange 9 9\nrange 7\npage 0 1\npage 1 1\npage 9223372036854775808 2\npage 0 0\n") ≡ codes "empty\nnone\nnew\nnew\n9 90\n9 90\nnone\n7 70\n7 70\nnone\n9 90,7 70\n7 70\n9 90\nempty\nbad\n7 70\n9 90\nempty\nbad\n"
unfolding outcome pairs_after_command request_of words number_of digits
neighbours_and_back_text = refl
