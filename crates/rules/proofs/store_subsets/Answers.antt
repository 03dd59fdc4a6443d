-- `rules::store_subsets` meets its contract: seven loads or more have over 64 subsets, fewer are added by `add_subsets`.
use mathlib.Core.Path.{◌≡◌, refl}
use native.Mathlib.Omega.{arith}
use lib.ListN.{length}
use Rattle.model.specs.Conjunct.{atoms}
use Rattle.model.specs.Walk.{loads}
use Rattle.conjunct.specs.Value.{conj_of}
use Rattle.rules.proofs.Additions.{chosen-many}
use Rattle.rules.proofs.Choices.{atoms-count}
use Rattle.rules.proofs.store_subsets.Goals as goal

pub returns-then-k-ge7 : goal.returns-then-k-ge7
returns-then-k-ge7 c =
    let a = c.args in
    let e = conj_of a.e.now a.n in
    let onto = loads a.t.array a.t.len (atoms e) in
    let m : length onto ≡ c.loads-k.result =
    atoms-count c.loads-k.new.out c.loads-k.result onto (omega (arith, c.loads-k.auto.out)) c.loads-k.ensures.1 in
    (λ x ty q. chosen-many a.t.array a.t.len x ty e (omega arith) a.room a.s.now a.s.now, λ i h. refl)
