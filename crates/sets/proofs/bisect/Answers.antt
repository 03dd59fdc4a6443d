-- `sets::bisect` meets its contract: the place lies between lo and hi (`Places.Between`), and one comparison more halves what is left.
use mathlib.Core.List.{[]}
use mathlib.Core.Path.{◌≡◌, sym, ap, subst, ◌∙◌}
use Prim.Native.Nat.{ℕ, ◌+◌, ◌/◌, ◌<◌}
use native.Mathlib.Omega.{arith}
use lib.ListN.{length, take, get_or}
use Rattle.model.specs.Conjunct.{Conj, Conjuncts, order}
use Rattle.conjunct.specs.Word.{nodes_of_lem}
use Rattle.conjunct.specs.Value.{ordering_of}
use Rattle.std.specs.declared.cmp.Ordering.{Ordering}
use Rattle.std.specs.declared.cmp.Ordering.TheVariants.{Less, Equal, Greater}
use Rattle.sets.proofs.Places.{Between, between-all, between_none, found_here, before_here, behind-here}
use Rattle.sets.proofs.Rows.{rowset_length, rowset_at}
use Rattle.sets.specs.Region.{first_of}
use Rattle.sets.proofs.bisect.Goals as goal
use Rattle.sets.proofs.bisect.Goals.{After-compare_slot}

-- ---- a comparison

abbrev Compared : Type 0
Compared = After-compare_slot

-- the conjunct that is looked for, those among which it is, and the place that is asked
abbrev wanted : Compared → Conj
wanted c = nodes_of_lem (take c.args.m c.args.w.now)

abbrev among : Compared → Conjuncts
among c = first_of c.args.s.now c.args.base c.args.n

abbrev middle : Compared → ℕ
middle c = (c.loop-lo.lo + c.loop-lo.hi) / 2

inside : (c : Compared) → middle c < length (among c)
inside c = omega (arith, rowset_length c.args.n c.args.s.now (c.args.base + 1))

-- the answer is the order of the two conjuncts
compared : (c : Compared) (o : Ordering) → c.compare_slot.result ≡ o
    → order (wanted c) (get_or (among c) (middle c) []) ≡ ordering_of o
compared c o told =
    let a = c.args in
    ap (order (wanted c)) (rowset_at a.n a.s.now (a.base + 1) (middle c) (omega arith))
    ∙ sym c.compare_slot.ensures ∙ ap ordering_of told

pub loop-lo-init : goal.loop-lo-init
loop-lo-init c =
    let a = c.args in
    let S = first_of a.s.now a.base a.n in
    (omega arith, omega arith, between-all (nodes_of_lem (take a.m a.w.now)) S a.n (sym (rowset_length a.n a.s.now (a.base + 1))))

pub loop-lo-preserved-in-Less : goal.loop-lo-preserved-in-Less
loop-lo-preserved-in-Less c =
    let t = (goal.at.loop-lo-preserved-in-Less c).After-compare_slot in
    let lp = c.loop-lo in
    let less = compared t Less c.in-Less.is in
    (omega arith, omega arith, before_here (wanted t) (among t) (middle t) c.requires.canon (inside t) lp.lo lp.hi lp.invariant.2 less)

pub returns-in-Equal : goal.returns-in-Equal
returns-in-Equal c =
    let t = (goal.at.returns-in-Equal c).After-compare_slot in
    found_here (wanted t) (among t) (middle t) c.requires.canon (inside t) (compared t Equal c.in-Equal.is)

pub loop-lo-preserved : goal.loop-lo-preserved
loop-lo-preserved c =
    let t = (goal.at.loop-lo-preserved c).After-compare_slot in
    let lp = c.loop-lo in
    let more = compared t Greater c.in-Greater.is in
    (omega arith, omega arith, behind-here (wanted t) (among t) (middle t) c.requires.canon (inside t) lp.lo lp.hi lp.invariant.2 more)

pub returns : goal.returns
returns c =
    let a = c.args in
    let e = nodes_of_lem (take a.m a.w.now) in
    let S = first_of a.s.now a.base a.n in
    let lp = c.loop-lo in
    let met : lp.hi ≡ lp.lo = omega arith in
    (omega (arith, rowset_length a.n a.s.now (a.base + 1)), between_none e S lp.lo (subst (Between e S lp.lo) met lp.invariant.2))
