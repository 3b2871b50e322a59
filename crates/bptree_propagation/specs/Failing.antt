-- The results of a call that can fail, and when it never fails.
use Rattle.std.specs.Prelude.{◌≡◌, Result, IfOk, IsOk}
use Rattle.bptree_keys.specs.Keys.{AllInfallible}

-- the call succeeds if summaries need no memory and no clone of a key fails
abbrev pub NeverFails : {K T E : Type 0} → Type 0 → (K → Type 0) → Result T E → Type 0
NeverFails needs_no_memory is_infallible result = needs_no_memory → AllInfallible is_infallible → IsOk result

-- if the call succeeded, it returned this value
abbrev pub OkIs : {T E : Type 0} → Result T E → T → Type 0
OkIs result x = IfOk result (λ it. it ≡ x)
