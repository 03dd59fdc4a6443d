-- `enclosing::walk_both` meets its contract.
use mathlib.Core.Path.{◌≡◌}
use native.Mathlib.Omega.{arith}
use Rattle.model.specs.Code.{Code}
use Rattle.model.specs.Walk.{walk}
use Rattle.rules.specs.Answers.{answered}
use Rattle.walk.specs.Piece.{Lies}
use Rattle.model.specs.TidySets.{Tidy}
use Rattle.code_table.specs.Table.{table_of}
use Rattle.std.specs.Prelude.{Ok}
use Rattle.sets.specs.Region.{set_of}
use Rattle.walk.proofs.Regions.{below_trans, below-table, lies_on, piece_on, knows_on}
use Rattle.enclosing.proofs.Walked.{walked_tidy, both_walked}
use Rattle.enclosing.proofs.walk_both.Goals as goal
use Rattle.enclosing.proofs.walk_both.Goals.{After-walk}

-- the table is as it was behind the first walk
first-table : (c : After-walk) → table_of 0 c.walk.new.s ≡ table_of 0 c.args.s.now
first-table c =
    below-table c.args.b c.args.s.now c.walk.new.s c.requires.words.behind (omega (arith, c.requires.words.room)) c.walk.auto.s c.walk.ensures.1

-- and the set is tidy
first-tidy : (c : After-walk) → c.walk.result ≡ Ok tt → Tidy (set_of c.walk.new.s c.args.b)
first-tidy c e =
    let piece = c.requires.first in
    walked_tidy piece.code (set_of c.args.s.now c.args.b) (set_of c.walk.new.s c.args.b) c.walk.result
    (c.walk.ensures.0 piece.code piece.lies) c.requires.words.tidy e

pub walk-requires-2 : goal.walk-requires-2
walk-requires-2 c =
    let t = first-table (goal.at.walk-requires-2 c).After-walk in (
      record {
        knows = knows_on c.args.s.now c.walk.new.s t c.args.q c.requires.second-known;
        shallow = omega arith;
        behind = c.requires.words.behind;
        room = omega (arith, c.requires.words.room, c.walk.auto.s);
        tidy = first-tidy (goal.at.walk-requires-2 c).After-walk c.in_ok-walk.was;
      },
      piece_on c.args.s.now c.walk.new.s t 4 c.args.r c.args.q c.requires.second,
    )

pub returns : goal.returns
returns c =
    let s₁ = c.walk.new.s in
    let s₂ = c.walk-2.new.s in
    let S = set_of c.args.s.now c.args.b in
    let second : (y : Code) → Lies c.args.s.now y c.args.r c.args.q
    → walk y (set_of s₁ c.args.b) ≡ answered c.walk-2.result (set_of s₂ c.args.b) =
    λ y k. c.walk-2.ensures.0 y (lies_on c.args.s.now s₁ (first-table (goal.at.returns c).After-walk) y c.args.r c.args.q k) in
    record {
      does = λ x y h k. both_walked x S (set_of s₁ c.args.b) c.walk.result (c.walk.ensures.0 x h) y (set_of s₂ c.args.b) c.walk-2.result c.in_ok-walk.was (second y k);
      tidy =
          walked_tidy c.requires.second.code (set_of s₁ c.args.b) (set_of s₂ c.args.b) c.walk-2.result (second c.requires.second.code c.requires.second.lies)
          (first-tidy (goal.at.returns c).After-walk c.in_ok-walk.was);
      below = below_trans c.args.b c.args.s.now s₁ s₂ c.walk.ensures.1 c.walk-2.ensures.1;
    }
