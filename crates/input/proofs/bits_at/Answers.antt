-- `input::bits_at` meets its contract.
use mathlib.Core.Path.{sym, ◌∙◌}
use native.Mathlib.Omega.{arith}
use Rattle.input.proofs.Fields.{row-width, width_by, bits_by, bits_8, bits_16, bits_32, bits_64}
use Rattle.input.proofs.bits_at.Goals as goal

pub u64_at-requires : goal.u64_at-requires
u64_at-requires c =
    let p = c.requires.0 in
    omega (arith, row-width p.0 _ p.1, width_by p.0 3 (bits_64 p.0 _ p.1 (λ e. absurd (omega arith)) (λ e. absurd (omega arith)) (λ e. absurd (omega arith))))

pub returns-in-8 : goal.returns-in-8
returns-in-8 c = λ ty row. sym (bits_by ty 0 _ _ (bits_8 ty _ row c.in-8.is))

pub returns-in-16 : goal.returns-in-16
returns-in-16 c = λ ty row. c.u16_at.ensures.0 ∙ sym (bits_by ty 1 _ _ (bits_16 ty _ row c.in-16.is))

pub returns-in-32 : goal.returns-in-32
returns-in-32 c = λ ty row. c.u32_at.ensures.0 ∙ sym (bits_by ty 2 _ _ (bits_32 ty _ row c.in-32.is))

pub returns-in_default : goal.returns-in_default
returns-in_default c = λ ty row.
    c.u64_at.ensures ∙ sym (bits_by ty 3 _ _ (bits_64 ty _ row (λ e. absurd (omega arith)) (λ e. absurd (omega arith)) (λ e. absurd (omega arith))))
