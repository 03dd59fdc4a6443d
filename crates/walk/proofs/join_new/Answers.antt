-- `walk::join_new` meets its contract.
use mathlib.Core.Logic.{inl}
use Prim.Native.Nat.{◌+◌, ◌*◌, ◌<◌}
use native.Mathlib.Omega.{arith}
use lib.ListN.{length}
use borrow.Author.Rules.{rules}
use Rattle.sets.specs.Region.{region_words, set_of}
use Rattle.walk.proofs.Closings.{nothing-new, new-tidy, all-tidy, new-refused, new-again}
use Rattle.std.proofs.lemmas.Result.{err_from_is_err_and}
use Rattle.walk.proofs.join_new.Goals as goal
use Rattle.walk.proofs.join_new.Goals.{Else-size-eq0}

-- something is new
some : (c : Else-size-eq0) → 0 < length (set_of c.subtract.new.s (c.args.b + 3 * region_words))
some c = omega (arith, c.size.ensures.0, c.if-size-eq0.false)

pub returns-then-size-eq0 : goal.returns-then-size-eq0
returns-then-size-eq0 c =
    nothing-new c.args.s.now c.subtract.new.s c.args.b c.requires.room c.subtract.auto.s c.subtract.ensures.0 c.subtract.ensures.1
    (omega (arith, c.size.ensures.0, c.if-size-eq0.true))

pub unite-requires : goal.unite-requires
unite-requires c =
    let new = new-tidy c.args.s.now c.subtract.new.s c.args.b c.requires.room c.subtract.auto.s c.subtract.ensures.0 c.subtract.ensures.1 c.requires.tidy-other in
    let all = all-tidy c.args.s.now c.subtract.new.s c.args.b c.requires.room c.subtract.auto.s c.subtract.ensures.0 c.subtract.ensures.1 c.requires.tidy_one in
    record { apart = record { first = search rules; second = search rules; apart = inl (omega arith) }; added = new; own = all }

pub returns-in_err-unite : goal.returns-in_err-unite
returns-in_err-unite c =
    let gone = err_from_is_err_and c.from_residual.result c.from_residual.ensures.1 in
    rw (gone.1, gone.2)
    (new-refused c.args.s.now c.subtract.new.s c.args.b c.requires.room c.subtract.auto.s c.subtract.ensures.0 c.subtract.ensures.1
    (some (goal.at.returns-in_err-unite c).Else-size-eq0) c.unite.new.s c.unite.auto.s c.unite.ensures.1 c.in_err-unite.field-0.0 c.in_err-unite.ensures.0)

pub returns : goal.returns
returns c =
    new-again c.args.s.now c.subtract.new.s c.args.b c.requires.room c.subtract.auto.s c.subtract.ensures.0 c.subtract.ensures.1
    (some (goal.at.returns c).Else-size-eq0) c.unite.new.s c.unite.auto.s c.unite.ensures.1 c.in_ok-unite.ensures.0
    c.copy.new.s c.copy.auto.s c.copy.ensures.0 c.copy.ensures.1
