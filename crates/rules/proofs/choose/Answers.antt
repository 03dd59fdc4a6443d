-- `rules::choose` meets its contract.
use mathlib.Core.List.{List, map}
use mathlib.Core.Path.{◌≡◌, sym, ap, ◌∙◌}
use Prim.Native.Nat.{◌+◌, ◌-◌, ◌/◌, ◌^◌, ◌<◌}
use native.Mathlib.Omega.{arith}
use lib.ListN.{length, get_or}
use Rattle.model.specs.Conjunct.{Atom, atom}
use Rattle.conjunct.specs.Word.{node_of, nodes_of_lem}
use Rattle.conjunct.specs.Value.{conj_of}
use Rattle.rules.proofs.Choices.{no_atom_lem, atoms-length, word-atom, twice_half, half_power, atom-left, atom_replaced, all-chosen}
use Rattle.rules.proofs.choose.Goals as goal
use Rattle.rules.proofs.choose.Goals.{then-rest-half, else-rest-half}

pub loop-atom-preserved : goal.loop-atom-preserved
loop-atom-preserved c =
    let a = c.args in
    let n = length a.atoms.now in
    let i = c.loop-atom.atom-index in
    let small : i < n = omega arith in
    let half : c.loop-atom.half / 2 ≡ 2 ^ (n - (i + 1)) = ap (◌/ 2) c.loop-atom.invariant.0 ∙ half_power n i small in
    let twice = twice_half n i small in
    let len : (ks : List Atom) → nodes_of_lem a.atoms.now ≡ map atom ks → length ks ≡ n = atoms-length a.atoms.now in (
      half,
      elim c.if-rest-half.branch [
        | then-rest-half w ↦ omega (arith, c.loop-atom.invariant.0, c.loop-atom.invariant.1)
        | else-rest-half w ↦ omega (arith, c.loop-atom.invariant.0, c.loop-atom.invariant.1)
      ],
      λ ks x ty p q. elim c.if-rest-half.branch [
        | then-rest-half w ↦
            let b : node_of (get_or a.atoms.now i 0) ≡ atom (get_or ks i no_atom_lem) = word-atom a.atoms.now ks i p (omega (arith, len ks p)) in
            rw (w.w-is, w.rest-is)
            (atom_replaced ks x ty (conj_of a.w.now a.n) n a.j i (conj_of c.loop-atom.w a.n) c.loop-atom.rest (c.loop-atom.half / 2)
            (len ks p) small half (c.loop-atom.invariant.2 ks x ty p q) w.if-rest-half.true (conj_of w.replace_one.new.w a.n)
            (w.replace_one.ensures (get_or ks i no_atom_lem) x ty b q))
        | else-rest-half w ↦
            rw (w.w-is, w.rest-is)
            (atom-left ks x ty (conj_of a.w.now a.n) n a.j i (conj_of c.loop-atom.w a.n) c.loop-atom.rest (c.loop-atom.half / 2)
            (len ks p) small half (c.loop-atom.invariant.2 ks x ty p q) w.if-rest-half.false)
      ],
    )

pub returns : goal.returns
returns c =
    let a = c.args in
    let n = length a.atoms.now in
    let i = c.loop-atom.atom-index in
    let e : i ≡ n = omega arith in
    let z : n - i ≡ 0 = omega arith in
    let one : c.loop-atom.half ≡ 1 = c.loop-atom.invariant.0 ∙ ap (2 ^◌) z in
    λ ks x ty p q.
    all-chosen ks x ty (conj_of a.w.now a.n) a.j i (conj_of c.loop-atom.w a.n) c.loop-atom.rest (atoms-length a.atoms.now ks p ∙ sym e) (omega arith)
    (c.loop-atom.invariant.2 ks x ty p q)
