-- `rules::add_subsets` meets its contract: each turn adds the conjunct of one subset, from the last to the first.
use mathlib.Core.List.{List, [], ◌++◌, map}
use mathlib.Core.Path.{◌≡◌, refl, sym, ap, ◌∙◌}
use Prim.Native.Nat.{ℕ, ◌+◌, ◌-◌, ◌^◌, ◌≤◌}
use native.Mathlib.Omega.{arith}
use lib.ListN.{length, get_or, take, drop}
use lib.Seq.{length-take-le}
use Rattle.std.proofs.lemmas.List.{take_at}
use Rattle.model.specs.Conjunct.{Atom, atom, var, Conj, renumber}
use Rattle.model.specs.Walk.{subsets}
use Rattle.conjunct.specs.Word.{node_of, nodes_of_lem}
use Rattle.conjunct.specs.Value.{conj_of}
use Rattle.sets.proofs.Rows.{within_trans}
use Rattle.sets.specs.Region.{set_of}
use Rattle.rules.proofs.Additions.{Chosen, chosen-length, chosen_at, union_none, still_canon, turn_in, turn_out}
use Rattle.rules.proofs.Choices.{atoms-length}
use Rattle.std.proofs.lemmas.Result.{err_from_is_err_and}
use Rattle.rules.proofs.add_subsets.Goals as goal
use Rattle.rules.proofs.add_subsets.Goals.{After-add}

-- xs are the first n words of e, and are put before what other words have from n on
module _ (xs e out : List ℕ) (n : ℕ) (there : n ≤ length e) (same : xs ≡ take n e) where
  copied_count : length xs ≡ n
  copied_count = ap length same ∙ length-take-le n e there

  copied-start : take n (xs ++ drop n out) ≡ take n e
  copied-start = take_at xs (drop n out) n copied_count ∙ same

pub loop-j-init : goal.loop-j-init
loop-j-init c =
    let a = c.args in
    let e = conj_of a.e.now a.n in (
      λ i h. refl,
      λ ks x ty p q. union_none (Chosen ks x ty e) (set_of a.s.now a.room) c.power-j.result
          (c.power-j.ensures ∙ ap (2 ^◌) (sym (atoms-length a.atoms.now ks p)) ∙ sym (chosen-length ks x ty e)),
      c.requires.0.room.canon,
    )

-- the conjunct, and what is chosen of it in this turn
abbrev whole : After-add → Conj
whole c = conj_of c.args.e.now c.args.n

abbrev new : After-add → Conj
new c = renumber (conj_of c.choose.new.w c.args.n)

next : (c : After-add) → c.loop-j.j - 1 + 1 ≡ c.loop-j.j
next c = omega (arith, c.loop-j-test.true)

few : (c : After-add) (ks : List Atom) (x ty : ℕ) (p : nodes_of_lem c.args.atoms.now ≡ map atom ks)
    → c.loop-j.j ≤ length (Chosen ks x ty (whole c))
few c ks x ty p =
    omega (arith, chosen-length ks x ty (whole c), ap (2 ^◌) (atoms-length c.args.atoms.now ks p), c.power-j.ensures, c.loop-j.auto.j)

this : (c : After-add) (ks : List Atom) (x ty : ℕ) (p : nodes_of_lem c.args.atoms.now ≡ map atom ks)
    → node_of c.args.v ≡ var x ty → new c ≡ get_or (Chosen ks x ty (whole c)) (c.loop-j.j - 1) []
this c ks x ty p q =
    let j = c.loop-j.j - 1 in
    chosen_at ks x ty (whole c) (conj_of c.choose.new.w c.args.n) j
    (c.choose.ensures ks x ty p q
    ∙ ap (λ w. get_or (subsets ks x ty (nodes_of_lem w)) j [])
    (copied-start c.copy_from_slice.new.self c.args.e.now c.loop-j.out c.args.n c.requires.0.there c.copy_from_slice.ensures.after))

pub returns-in_err-add : goal.returns-in_err-add
returns-in_err-add c =
    let a = c.args in let gone = err_from_is_err_and c.from_residual.result c.from_residual.ensures.1 in rw (gone.1, gone.2) (
      λ ks x ty p q.
          turn_out (Chosen ks x ty (whole (goal.at.returns-in_err-add c).After-add)) a.room a.s.now c.loop-j.s c.add.new.s c.loop-j.j (c.loop-j.j - 1) (new (goal.at.returns-in_err-add c).After-add) (next (goal.at.returns-in_err-add c).After-add) (few (goal.at.returns-in_err-add c).After-add ks x ty p)
          (this (goal.at.returns-in_err-add c).After-add ks x ty p q) (c.loop-j.invariant.1 ks x ty p q) c.in_err-add.field-0.0 c.in_err-add.ensures.0,
      within_trans a.room a.s.now c.loop-j.s c.add.new.s c.loop-j.invariant.0 c.add.ensures.1,
    )

pub loop-j-preserved : goal.loop-j-preserved
loop-j-preserved c =
    let a = c.args in (
      within_trans a.room a.s.now c.loop-j.s c.add.new.s c.loop-j.invariant.0 c.add.ensures.1,
      λ ks x ty p q.
          turn_in (Chosen ks x ty (whole (goal.at.loop-j-preserved c).After-add)) a.room a.s.now c.loop-j.s c.add.new.s c.loop-j.j (c.loop-j.j - 1) (new (goal.at.loop-j-preserved c).After-add) (next (goal.at.loop-j-preserved c).After-add) (few (goal.at.loop-j-preserved c).After-add ks x ty p)
          (this (goal.at.loop-j-preserved c).After-add ks x ty p q) (c.loop-j.invariant.1 ks x ty p q) c.in_ok-add.ensures.0,
      still_canon (new (goal.at.loop-j-preserved c).After-add) a.room c.loop-j.s c.add.new.s c.loop-j.invariant.2 c.in_ok-add.ensures.0,
    )
