-- `empty` owns nothing.
use Rattle.std.proofs.Common.{refl}
use Rattle.bptree_c_maps.specs.contracts.handle.Handle.{the_type, the_row}
use Rattle.bptree_c_maps.specs.contracts.handle.Handle.empty.Key.{name as #self}
use Rattle.bptree_c_maps.specs.contracts.handle.Map.{the_row as Tree}
use Rattle.bptree_c_maps.proofs.Handles.{empty_met}
use Rattle.bptree_c_maps.proofs.handle.Handle.empty.Statement.{statement}
use Rattle.bptree_c_maps.proofs.handle.Handle.empty.Code as code

pub empty_spec : {M : Type 1} → statement M
empty_spec 𝓤 𝓛 𝓜 𝓡 wired =
    empty_met 𝓛 𝓜 𝓡 the_type.name Tree the_row (λ p o. record { at = p; held = o }) (λ d. d.held) (λ p o vs. refl) (λ p o. refl) #self (code.unfolded 𝓤 𝓛.H 𝓜 𝓡 wired)
