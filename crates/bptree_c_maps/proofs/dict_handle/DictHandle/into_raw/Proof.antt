-- `into_raw` gives the pointer its type again.
use Rattle.std.proofs.Common.{refl}
use Rattle.bptree_c_maps.specs.contracts.dict_handle.DictHandle.{the_type, the_row}
use Rattle.bptree_c_maps.specs.contracts.dict_handle.DictHandle.into_raw.Key.{name as #self}
use Rattle.bptree_c_maps.specs.contracts.dict_handle.Dict.{the_row as Tree}
use Rattle.bptree_c_maps.proofs.Handles.{into_raw_met}
use Rattle.bptree_c_maps.proofs.dict_handle.DictHandle.into_raw.Statement.{statement}
use Rattle.bptree_c_maps.proofs.dict_handle.DictHandle.into_raw.Code as code

pub into_raw_spec : {M : Type 1} → statement M
into_raw_spec 𝓤 𝓛 𝓜 𝓡 wired =
    into_raw_met 𝓛 𝓜 𝓡 the_type.name Tree the_row (λ d. d.at) (λ d. d.held) (λ d vs. refl) (λ d. tt) (λ κs x f. refl) #self (code.unfolded 𝓤 𝓛.H 𝓜 𝓡 wired)
