-- The value of a handle after a change of the map that is borrowed from it.
use Rattle.std.specs.Prelude.{ℕ, List, Some}
use Rattle.std.specs.Borrow.{Lends, MutBor, Fml}
use Rattle.bptree_c_maps.specs.declared.handle.Handle.{Handle}
use Rattle.bptree_c_maps.specs.declared.dict_handle.DictHandle.{DictHandle}
use Rattle.bptree_c_maps.specs.contracts.handle.Handle as handle
use Rattle.bptree_c_maps.specs.contracts.handle.Map as map
use Rattle.bptree_c_maps.specs.contracts.dict_handle.DictHandle as dict_handle
use Rattle.bptree_c_maps.specs.contracts.dict_handle.Dict as dict
use Rattle.bptree_c_maps.specs.Dict.{Pairs}

-- the handle s ends with the pairs that are left behind the borrow r
abbrev pub BorrowsMap : MutBor Handle → MutBor (List (ℕ × ℕ)) → Fml
BorrowsMap s r = Lends handle.the_row map.the_row s r (λ w. record s.now { held = Some w })

abbrev pub BorrowsDict : MutBor DictHandle → MutBor Pairs → Fml
BorrowsDict s r = Lends dict_handle.the_row dict.the_row s r (λ w. record s.now { held = Some w })
