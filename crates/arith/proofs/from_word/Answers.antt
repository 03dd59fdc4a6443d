-- `arith::from_word` meets its contract.
use Rattle.std.proofs.Common.{◌≡◌, ◌-◌, arith, rules, le-leb}
use borrow.Author.Tests.{lt-leb}
use Rattle.arith.specs.Types.{signed}
use Rattle.arith.specs.Words.{wide_of, value_at}
use Rattle.arith.proofs.WordLaws.{unsigned_word, positive-word, negative_word}
use Rattle.arith.proofs.from_word.Goals as goal

pub returns-then-ty-lt4 : goal.returns-then-ty-lt4
unfolding value_at wide_of signed
returns-then-ty-lt4 c = rw (lt-leb 4 c.args.ty c.if-ty-lt4.true) (unsigned_word c.args.w (search rules))

pub returns-then-w-lt9223372036854775808 : goal.returns-then-w-lt9223372036854775808
unfolding value_at wide_of signed
returns-then-w-lt9223372036854775808 c =
    rw (le-leb 4 c.args.ty c.if-ty-lt4.false) (positive-word c.args.w c.if-w-lt9223372036854775808.true)

pub returns : goal.returns
unfolding value_at wide_of signed
returns c =
    let w = c.args.w in
    let e : c.wrapping_neg.result ≡ 18446744073709551616 - w = omega arith in
    rw (le-leb 4 c.args.ty c.if-ty-lt4.false, e) (negative_word w c.if-w-lt9223372036854775808.false (search rules))
