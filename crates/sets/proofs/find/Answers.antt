-- `sets::find` meets its contract: what is more than the last conjunct goes behind it, and what is less is looked for by bisection.
use mathlib.Core.List.{[]}
use mathlib.Core.Path.{◌≡◌, sym, ap, subst, ◌∙◌}
use Prim.Native.Nat.{◌+◌, ◌-◌, ◌<◌}
use native.Mathlib.Omega.{arith}
use lib.ListN.{length, take, get_or}
use Rattle.model.specs.Conjunct.{Conj, Conjuncts, order}
use Rattle.conjunct.specs.Word.{nodes_of_lem}
use Rattle.conjunct.specs.Value.{ordering_of}
use Rattle.std.specs.declared.cmp.Ordering.{Ordering}
use Rattle.std.specs.declared.cmp.Ordering.TheVariants.{Equal, Greater}
use Rattle.sets.proofs.Places.{Between, between-all, between_none, found_here, behind-here}
use Rattle.sets.proofs.Rows.{rowset_length, rowset_at}
use Rattle.sets.specs.Region.{first_of}
use Rattle.sets.proofs.find.Goals as goal
use Rattle.sets.proofs.find.Goals.{After-compare_slot}

-- ---- the comparison with the last one

-- the conjunct that is looked for, and those among which it is
abbrev wanted : After-compare_slot → Conj
wanted c = nodes_of_lem (take c.args.m c.args.w.now)

abbrev among : After-compare_slot → Conjuncts
among c = first_of c.args.s.now c.args.base c.args.n

among_length : (c : After-compare_slot) → length (among c) ≡ c.args.n
among_length c = rowset_length c.args.n c.args.s.now (c.args.base + 1)

inside : (c : After-compare_slot) → c.args.n - 1 < length (among c)
inside c = omega (arith, among_length c)

compared : (c : After-compare_slot) (o : Ordering) → c.compare_slot.result ≡ o
    → order (wanted c) (get_or (among c) (c.args.n - 1) []) ≡ ordering_of o
compared c o told =
    let a = c.args in
    ap (order (wanted c)) (rowset_at a.n a.s.now (a.base + 1) (a.n - 1) (omega arith))
    ∙ sym c.compare_slot.ensures ∙ ap ordering_of told

pub returns-then-n-eq0 : goal.returns-then-n-eq0
returns-then-n-eq0 c =
    let a = c.args in
    let e = nodes_of_lem (take a.m a.w.now) in
    let S = first_of a.s.now a.base a.n in
    let none : a.n ≡ 0 = omega arith in
    (omega arith, between_none e S 0 (subst (Between e S 0) none (between-all e S a.n (sym (rowset_length a.n a.s.now (a.base + 1))))))

pub returns-in-Equal : goal.returns-in-Equal
returns-in-Equal c =
    let t = (goal.at.returns-in-Equal c).After-compare_slot in
    found_here (wanted t) (among t) (c.args.n - 1) c.requires.canon (inside t) (compared t Equal c.in-Equal.is)

pub returns-in-Greater : goal.returns-in-Greater
returns-in-Greater c =
    let t = (goal.at.returns-in-Greater c).After-compare_slot in
    let n = c.args.n in
    let all : n - 1 + 1 ≡ n = omega (arith, inside t) in
    let anywhere = between-all (wanted t) (among t) n (sym (among_length t)) in
    let behind = behind-here (wanted t) (among t) (n - 1) c.requires.canon (inside t) 0 n anywhere (compared t Greater c.in-Greater.is) in
    (omega (arith, among_length t), between_none (wanted t) (among t) n (subst (λ i. Between (wanted t) (among t) i n) all behind))
