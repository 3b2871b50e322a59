-- The leaves that pairs move to are empty before they are needed.
use Rattle.std.proofs.Common.{◌≡◌, ◌*◌, ◌+◌, ◌-◌, ◌<◌, ◌≤◌, ℕ, arith}
use Rattle.bptree_bulk.specs.Filling.{IsSize}
use Rattle.bptree_bulk.proofs.Tails.{by_size}

-- So many pairs moved to so many leaves, and others are left. Each leaf but the last ones is full.
pub record IsFull (left done leaves : ℕ) : Type 0 where
  pub most : done ≤ 64 * leaves
  pub many : 96 < left → done ≡ 64 * leaves
  pub few : 64 < left → 64 * leaves ≤ done + 32
  pub last : 0 < left → 64 * leaves ≤ done + 64

pub full_on : (left done leaves size : ℕ) → IsFull left done leaves → IsSize left size → IsFull (left - size) (done + size) (leaves + 1)
full_on left done leaves size full is = by_size left 64
    (λ short. let all = is.all short in record { most = omega (arith, full.most, all, short); many = λ more. absurd (omega (arith, all, more)); few = λ more. absurd (omega (arith, all, more)); last = λ more. absurd (omega (arith, all, more)) })
    (λ long. by_size left 128
    (λ short. let half = is.half long short in by_size left 96
    (λ less. record { most = omega (arith, full.most, half); many = λ more. absurd (omega (arith, half, less, more)); few = λ more. absurd (omega (arith, half, less, more)); last = λ more. omega (arith, half, full.few long) })
    (λ over. record { most = omega (arith, full.most, half); many = λ more. absurd (omega (arith, half, short, more)); few = λ more. omega (arith, half, full.many over); last = λ more. omega (arith, half, full.few long) }))
    (λ over. let whole = is.full over in let all = full.many (omega (arith, over)) in record { most = omega (arith, full.most, whole); many = λ more. omega (arith, whole, all); few = λ more. omega (arith, whole, all); last = λ more. omega (arith, whole, all) }))
