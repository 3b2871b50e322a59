-- The types of a map, of a set, and of the trees inside them, as clauses on borrows name them.
use Rattle.std.specs.Prelude.{◌≡◌, ⊤}
use Rattle.std.specs.Borrow.{RattleType, unit}
use Rattle.std.specs.contracts.prelude.UnitClone.TheImpl as unit_clone
use Rattle.std.specs.contracts.prelude.UnitDefault.TheImpl as unit_default
use Rattle.bptree_arguments.specs.contracts.argument.UnitArgument.TheImpl as unit_argument
use Rattle.bptree_arguments.specs.contracts.count.Count.{the_row as count_row}
use Rattle.bptree_arguments.specs.contracts.count.CountArgument.TheImpl as argument_of_counts
use Rattle.bptree_arguments.specs.contracts.count.CountDefault.TheImpl as default_of_counts
use Rattle.bptree_map.specs.contracts.map.BPlusTreeMap.{the_row}
use Rattle.bptree_stores.specs.contracts.node_store_vec.NodeStoreVec.{the_row as store_row}
use Rattle.bptree_stores.specs.contracts.node_store_vec.NodeStoreVecNodeStore.TheImpl.{ghosts, no_dict}
use Rattle.bptree_tree.specs.Rows.{KeyMembers, ArgumentMembers, clone_of, ord_of, partial_eq_of, partial_ord_of, argument_of, argument_clone_of, default_of, tree_row}

-- the type of a map of these keys, values and summaries
abbrev pub map_row : (K V A : RattleType) → KeyMembers K.Denot → ArgumentMembers A.Denot K.Denot → RattleType
map_row K V A key argument =
    the_row K V A (record {}) (clone_of key) (ord_of key) (record {}) (partial_eq_of key) (partial_ord_of key)
    (argument_of argument) (argument_clone_of argument) (default_of argument)

-- the type of the tree inside such a map
abbrev pub inner_row : (K V A : RattleType) → KeyMembers K.Denot → ArgumentMembers A.Denot K.Denot → RattleType
inner_row K V A key argument =
    tree_row (store_row K V A) K V A
    (ghosts K V A (record {}) no_dict (clone_of key) no_dict (ord_of key) no_dict (record {}) no_dict (partial_eq_of key) no_dict (partial_ord_of key) no_dict (argument_of argument) no_dict (argument_clone_of argument) no_dict (default_of argument) no_dict no_dict no_dict no_dict)
    key argument

-- the members of A.Argument that a clause names, if there are no summaries
abbrev pub unit_members : (K : RattleType) → KeyMembers K.Denot → ArgumentMembers unit.Denot K.Denot
unit_members K key =
    let argument = unit_argument.ghosts K (record {}) no_dict (clone_of key) no_dict (ord_of key) no_dict (record {}) no_dict (partial_eq_of key) no_dict (partial_ord_of key) no_dict no_dict in
    record { is_clone = unit_clone.ghosts.is_clone; is_infallible = unit_clone.ghosts.is_infallible; is_default = unit_default.ghosts.is_default; is_summary = argument.is_summary; needs_no_memory = argument.needs_no_memory }

-- the type of the tree inside a set of these keys
abbrev pub inner_row_of_set : (K : RattleType) → KeyMembers K.Denot → RattleType
inner_row_of_set K key = inner_row K unit unit key (unit_members K key)

-- the members of A.Argument that a clause names, if the summaries are counts
abbrev pub count_members : (K : RattleType) → KeyMembers K.Denot → ArgumentMembers count_row.Denot K.Denot
count_members K key =
    let argument = argument_of_counts.ghosts K (record {}) no_dict (clone_of key) no_dict (ord_of key) no_dict (record {}) no_dict (partial_eq_of key) no_dict (partial_ord_of key) no_dict no_dict in
    record { is_clone = λ x y. y ≡ x; is_infallible = λ _. ⊤; is_default = default_of_counts.ghosts.is_default; is_summary = argument.is_summary; needs_no_memory = argument.needs_no_memory }

-- the type of a map of these keys and values, with counts
abbrev pub count_map_row : (K V : RattleType) → KeyMembers K.Denot → RattleType
count_map_row K V key = map_row K V count_row key (count_members K key)
