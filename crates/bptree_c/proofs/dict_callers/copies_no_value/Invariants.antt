use Rattle.std.proofs.Common.{[]}
use Rattle.bptree_c.proofs.dict_callers.copies_no_value.Given as goal

-- the map has no pairs
abbrev pub ghost-bptree_dict_values : goal.ghost-bptree_dict_values
ghost-bptree_dict_values l = []
