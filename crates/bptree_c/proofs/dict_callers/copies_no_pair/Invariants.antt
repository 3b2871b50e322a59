use Rattle.std.proofs.Common.{[]}
use Rattle.bptree_c.proofs.dict_callers.copies_no_pair.Given as goal

-- the map has no pairs
abbrev pub ghost-bptree_dict_page : goal.ghost-bptree_dict_page
ghost-bptree_dict_page l = []
