-- `enclosing::leave_block` meets its contract.
use mathlib.Core.List.{List}
use mathlib.Core.Path.{◌≡◌, sym, subst, ◌∙◌}
use Prim.Native.Nat.{ℕ, ◌+◌, ◌≤◌, ◌<◌}
use native.Mathlib.Omega.{arith}
use Rattle.model.specs.Code.{Code}
use Rattle.model.specs.Walk.{walk}
use Rattle.rules.specs.Answers.{Answer, answered}
use Rattle.model.specs.Sizes.{most_nested, most_rows}
use Rattle.code_table.specs.Table.{table_of, row_in, mates}
use Rattle.sets.specs.Region.{set_of}
use Rattle.walk.specs.Piece.{Lies, Piece, Ready}
use Rattle.walk.proofs.Regions.{knows_less}
use Rattle.enclosing.specs.Enclosing.{walk_both_lem}
use Rattle.enclosing.proofs.Leaving.{PieceIn, label-below, while-known, leaves_while, yes_known, leaves_yes, no_known, leaves_no}
use Rattle.enclosing.proofs.Walked.{walked_tidy}
use Rattle.enclosing.proofs.leave_block.Goals as goal
use Rattle.enclosing.proofs.leave_block.Goals.{After-mate-other, Start}

-- the label is one of the program's
below : (g : Start) → (g.args.i < g.requires.statements) × (g.requires.statements ≤ most_rows)
below g = label-below (table_of 0 g.args.s.now) g.requires.statements g.args.i g.requires.enclosed

as_piece : (s : List ℕ) (p q : ℕ) → PieceIn (table_of 0 s) p q → Piece s most_nested p q
as_piece s p q h = record { code = h.code; lies = h.lies; nested = h.nested }

-- the words are ready for the walk of a piece up to the label
ready : (g : Start) → Ready most_nested 2 g.args.s.now most_nested g.args.b g.args.i
ready g =
    let w = g.requires.words in
    record {
      knows = knows_less g.args.i g.requires.statements g.args.s.now (omega (arith, (below g).0)) g.requires.enclosed.known;
      shallow = omega arith;
      behind = w.behind;
      room = omega (arith, w.room);
      tidy = w.tidy;
    }

-- the block begins with a while, or with none
a-while : (c : After-mate-other) → c.kind_at-kind.result ≡ 14 → let k = table_of 0 c.args.s.now in
    (mates c.args.s.now c.args.r < c.requires.statements) × PieceIn k (c.args.r + 1) c.args.i × PieceIn k c.args.r (mates c.args.s.now c.args.r + 1)
a-while c e =
    while-known (table_of 0 c.args.s.now) c.requires.statements c.args.i c.args.r c.requires.innermost (sym c.kind_at-kind.ensures ∙ e) c.requires.enclosed

no_loop : (c : After-mate-other) → (c.kind_at-kind.result ≡ 14 → ⊥) → (row_in (table_of 0 c.args.s.now) c.args.r).kind ≡ 14 → ⊥
no_loop c f e = f (c.kind_at-kind.ensures ∙ e)

first-known : (c : After-mate-other) → (c.kind_at-kind.result ≡ 14 → ⊥) → c.args.i < mates c.args.s.now c.args.r → PieceIn (table_of 0 c.args.s.now) (c.args.r + 1) c.args.i
first-known c f l =
    yes_known (table_of 0 c.args.s.now) c.requires.statements c.args.i c.args.r c.requires.innermost (no_loop c f) l c.requires.enclosed

other-known : (c : After-mate-other) → (c.kind_at-kind.result ≡ 14 → ⊥) → mates c.args.s.now c.args.r ≤ c.args.i → PieceIn (table_of 0 c.args.s.now) (mates c.args.s.now c.args.r + 1) c.args.i
other-known c f l =
    no_known (table_of 0 c.args.s.now) c.requires.statements c.args.i c.args.r c.requires.innermost (no_loop c f) l c.requires.enclosed

-- what the walks give, with the matching label as x
abbrev Both : Start → ℕ → Answer → List ℕ → Type 0
Both g x a t =
    (c d : Code) → Lies g.args.s.now c (g.args.r + 1) g.args.i → Lies g.args.s.now d g.args.r (x + 1)
    → walk_both_lem c d (set_of g.args.s.now g.args.b) ≡ answered a (set_of t g.args.b)

abbrev WalksFrom : Start → ℕ → Answer → List ℕ → Type 0
WalksFrom g x a t =
    (c : Code) → Lies g.args.s.now c (x + 1) g.args.i → walk c (set_of g.args.s.now g.args.b) ≡ answered a (set_of t g.args.b)

pub kind_at-kind-requires : goal.kind_at-kind-requires
kind_at-kind-requires c =
    let l = below (goal.at.kind_at-kind-requires c).Start in
    (omega (arith, c.requires.words.behind, c.requires.words.room), omega (arith, l.0, l.1, c.requires.innermost.0))

pub overflow_add-other : goal.overflow_add-other
overflow_add-other c =
    omega (arith, c.mate-other.ensures, (a-while (goal.at.overflow_add-other c).After-mate-other c.if-kind-eq14.true).0, (below (goal.at.overflow_add-other c).Start).1)

pub walk_both-requires : goal.walk_both-requires
walk_both-requires c =
    let known = c.requires.enclosed.known in
    let w = a-while (goal.at.walk_both-requires c).After-mate-other c.if-kind-eq14.true in
    let l = below (goal.at.walk_both-requires c).Start in
    record {
      words = c.requires.words;
      first-known = knows_less c.args.i c.requires.statements c.args.s.now (omega (arith, l.0)) known;
      second-known = knows_less (c.mate-other.result + 1) c.requires.statements c.args.s.now (omega (arith, c.mate-other.ensures, w.0)) known;
      first = as_piece c.args.s.now (c.args.r + 1) c.args.i w.1;
      second = subst (λ x. Piece c.args.s.now most_nested c.args.r (x + 1)) (sym c.mate-other.ensures)
          (as_piece c.args.s.now c.args.r (mates c.args.s.now c.args.r + 1) w.2);
    }

pub returns-then-kind-eq14 : goal.returns-then-kind-eq14
returns-then-kind-eq14 c =
    let k = table_of 0 c.args.s.now in
    let does = subst (λ x. Both (goal.at.returns-then-kind-eq14 c).Start x c.walk_both.result c.walk_both.new.s) c.mate-other.ensures c.walk_both.ensures.does in
    record {
      does = λ n.
          leaves_while k n c.args.i c.args.r c.requires.innermost (sym c.kind_at-kind.ensures ∙ c.if-kind-eq14.true)
          (set_of c.args.s.now c.args.b) (set_of c.walk_both.new.s c.args.b) c.walk_both.result does;
      tidy = c.walk_both.ensures.tidy;
      below = c.walk_both.ensures.below;
    }

pub walk-requires : goal.walk-requires
walk-requires c =
    (ready (goal.at.walk-requires c).Start, as_piece c.args.s.now (c.args.r + 1) c.args.i (first-known (goal.at.walk-requires c).After-mate-other c.if-kind-eq14.false (subst (c.args.i <◌) c.mate-other.ensures c.if-i-other.true)))

pub returns-then-i-other : goal.returns-then-i-other
returns-then-i-other c =
    let k = table_of 0 c.args.s.now in
    let S = set_of c.args.s.now c.args.b in
    let T = set_of c.walk.new.s c.args.b in
    let less = subst (c.args.i <◌) c.mate-other.ensures c.if-i-other.true in
    let piece = first-known (goal.at.returns-then-i-other c).After-mate-other c.if-kind-eq14.false less in
    record {
      does = λ n. leaves_yes k n c.args.i c.args.r c.requires.innermost (no_loop (goal.at.returns-then-i-other c).After-mate-other c.if-kind-eq14.false) less S T c.walk.result c.walk.ensures.0;
      tidy = walked_tidy piece.code S T c.walk.result (c.walk.ensures.0 piece.code piece.lies) c.requires.words.tidy;
      below = c.walk.ensures.1;
    }

pub overflow_add-other-2 : goal.overflow_add-other-2
overflow_add-other-2 c = let l = below (goal.at.overflow_add-other-2 c).Start in omega (arith, c.if-i-other.false, l.0, l.1)

pub walk-requires-2 : goal.walk-requires-2
walk-requires-2 c =
    let more = subst (◌≤ c.args.i) c.mate-other.ensures c.if-i-other.false in (
      ready (goal.at.walk-requires-2 c).Start,
      subst (λ x. Piece c.args.s.now most_nested (x + 1) c.args.i) (sym c.mate-other.ensures)
          (as_piece c.args.s.now (mates c.args.s.now c.args.r + 1) c.args.i (other-known (goal.at.walk-requires-2 c).After-mate-other c.if-kind-eq14.false more)),
    )

pub returns : goal.returns
returns c =
    let k = table_of 0 c.args.s.now in
    let S = set_of c.args.s.now c.args.b in
    let T = set_of c.walk-2.new.s c.args.b in
    let more = subst (◌≤ c.args.i) c.mate-other.ensures c.if-i-other.false in
    let piece = other-known (goal.at.returns c).After-mate-other c.if-kind-eq14.false more in
    let walks = subst (λ x. WalksFrom (goal.at.returns c).Start x c.walk-2.result c.walk-2.new.s) c.mate-other.ensures c.walk-2.ensures.0 in
    record {
      does = λ n. leaves_no k n c.args.i c.args.r c.requires.innermost (no_loop (goal.at.returns c).After-mate-other c.if-kind-eq14.false) more S T c.walk-2.result walks;
      tidy = walked_tidy piece.code S T c.walk-2.result (walks piece.code piece.lies) c.requires.words.tidy;
      below = c.walk-2.ensures.1;
    }
