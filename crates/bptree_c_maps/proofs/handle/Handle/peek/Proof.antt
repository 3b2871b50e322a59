-- `peek` borrows the value, and the handle ends with what the borrow leaves.
use Rattle.std.proofs.Common.{refl}
use Rattle.bptree_c_maps.specs.contracts.handle.Handle.{the_type, the_row}
use Rattle.bptree_c_maps.specs.contracts.handle.Handle.peek.Key.{name as #self}
use Rattle.bptree_c_maps.specs.contracts.handle.Map.{the_row as Tree}
use Rattle.bptree_c_maps.proofs.Handles.{peek_met}
use Rattle.bptree_c_maps.proofs.handle.Handle.peek.Statement.{statement}
use Rattle.bptree_c_maps.proofs.handle.Handle.peek.Code as code

pub peek_spec : {M : Type 1} → statement M
peek_spec 𝓤 𝓛 𝓜 𝓡 wired =
    peek_met 𝓛 𝓜 𝓡 the_type.name Tree the_row (λ p o. record { at = p; held = o }) (λ d. d.at) (λ d. d.held) (λ p o vs. refl) (λ d. refl) refl #self (code.unfolded 𝓤 𝓛.H 𝓜 𝓡 wired)
