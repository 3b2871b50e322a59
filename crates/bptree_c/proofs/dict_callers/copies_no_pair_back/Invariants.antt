use Rattle.std.proofs.Common.{[]}
use Rattle.bptree_c.proofs.dict_callers.copies_no_pair_back.Given as goal

-- the map has no pairs
abbrev pub ghost-bptree_dict_page_back : goal.ghost-bptree_dict_page_back
ghost-bptree_dict_page_back l = []
