-- What every sheet keeps of its rules.
use Rattle.std.proofs.Common.{[], arith}
use Rattle.ctl.specs.Lines.{Distinct, Ordered}

-- no lines
pub none-ordered : ∥ Ordered [] ∥₁
none-ordered = ∣ (λ i h. absurd (omega arith)) ∣₁

pub none_apart : ∥ Distinct [] ∥₁
none_apart = ∣ (λ i j h k. absurd (omega arith)) ∣₁
