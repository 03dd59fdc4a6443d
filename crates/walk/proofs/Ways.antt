-- The two ways of a walk, by the definition and light: the laws that they have in common.
use mathlib.Core.Bool.{Bool, true, false, ◌||◌, cond}
use mathlib.Core.Path.{◌≡◌, refl, sym, ap, ◌∙◌}
use Prim.Native.Nat.{ℕ, zero, suc}
use Rattle.model.specs.Code.{Instr, Code, done, step, branch, loop}
use Rattle.model.specs.Conjunct.{Conjuncts, union_of, same, limits}
use Rattle.model.specs.Refusals.{Out, ok, refused, ◌>>=◌}
use Rattle.model.specs.Run.{append}
use Rattle.model.specs.Sizes.{most_rounds}
use Rattle.model.specs.TidySets.{Tidy}
use Rattle.model.specs.Touch.{some, writes, touches}
use Rattle.model.specs.Walk.{back, joined, rounds, walk}
use Rattle.model.proofs.Conjuncts.Canonical.{union_idem}
use Rattle.model.proofs.Conjuncts.Limits.{fine-limits}
use Rattle.model.proofs.Basics.Results.{bind_self, bind_assoc}
use Rattle.model.proofs.Walks.Skip.{walk_skip}
use Rattle.model.proofs.Basics.Tests.{case, or_left, or_right}
use Rattle.model.proofs.Walks.Walks.{walk-append, back-piece, joined-piece, rounds-piece}
use Rattle.sets.specs.Minus.{minus}
use Rattle.sets.proofs.Differing.{minus_self}
use Rattle.walk.specs.Light.{Next, settled, again, by_new_lem, onward, rounds_by_lem, lightly, walk_by, loop_by}

-- ---- the rounds of the definition

pub rounds_by : (body : Conjuncts → Out Conjuncts) (n : ℕ) (D S : Conjuncts) → rounds n body D S ≡ rounds_by_lem false n body D S S
unfolding rounds rounds_by_lem
rounds_by body zero D S = refl
rounds_by body (suc n) D S = λ i. body S >>= λ B. one (λ U. rounds_by body n D U) (limits (union_of D B)) i
  where
    one : ((U : Conjuncts) → rounds n body D U ≡ rounds_by_lem false n body D U U) → (o : Out Conjuncts)
        → (o >>= λ U. elim (same S U) [ true ↦ ok U | false ↦ rounds n body D U ])
        ≡ ((o >>= λ U. ok (cond (same S U) (settled U) (again U U))) >>= onward (rounds_by_lem false n body D))
    one ih (ok U) =
        case (same S U) (λ z. ◌≡◌ {A = Out Conjuncts} (elim z [ true ↦ ok U | false ↦ rounds n body D U ]) (onward (rounds_by_lem false n body D) (cond z (settled U) (again U U))))
        (λ p. refl) (λ p. ih U)
    one ih (refused k) = refl

-- ---- pieces

pub by_done : (light : Bool) (S : Conjuncts) → walk_by light done S ≡ ok S
unfolding lightly walk
by_done true S = refl
by_done false S = refl

pub by_step : (light : Bool) (l : ℕ) (i : Instr) (S : Conjuncts) → walk_by light (step l i done) S ≡ back l i S
unfolding lightly
by_step true l i S = refl
by_step false l i S = back-piece l i S

pub by_branch : (light : Bool) (l v : ℕ) (y n : Code) (S : Conjuncts) → walk_by light (branch l v y n done) S ≡ joined (walk_by light y) (walk_by light n) S
unfolding lightly
by_branch true l v y n S = refl
by_branch false l v y n S = joined-piece l v y n S

pub by_loop : (light : Bool) (l v : ℕ) (body : Code) (S : Conjuncts) → walk_by light (loop l v body done) S ≡ loop_by light body S
unfolding lightly
by_loop true l v body S = refl
by_loop false l v body S = rounds-piece l v body S ∙ rounds_by (walk body) most_rounds S S

-- one piece before another
lightly-append : (c d : Code) (C : Conjuncts) → lightly (append c d) C ≡ (lightly d C >>= lightly c)
unfolding lightly
lightly-append done d C = sym (bind_self (lightly d C))
lightly-append (step l i rest) d C = ap (◌>>= back l i) (lightly-append rest d C) ∙ bind_assoc (lightly d C) (lightly rest) (back l i)
lightly-append (branch l v y n rest) d C =
    ap (◌>>= joined (lightly y) (lightly n)) (lightly-append rest d C) ∙ bind_assoc (lightly d C) (lightly rest) (joined (lightly y) (lightly n))
lightly-append (loop l v body rest) d C =
    let around : Conjuncts → Out Conjuncts = λ D. rounds_by_lem true most_rounds (lightly body) D D D in
    ap (◌>>= around) (lightly-append rest d C) ∙ bind_assoc (lightly d C) (lightly rest) around

pub by_append : (light : Bool) (c d : Code) (S : Conjuncts) → walk_by light (append c d) S ≡ (walk_by light d S >>= walk_by light c)
by_append true c d S = lightly-append c d S
by_append false c d S = walk-append c d S

-- ---- what a piece does not touch

back_skip : (l : ℕ) (i : Instr) (S : Conjuncts) → some (writes i) S ≡ false → Tidy S → back l i S ≡ ok S
unfolding touches
back_skip l i S w t = sym (back-piece l i S) ∙ walk_skip (step l i done) S (rw w) t

lightly_skip : (c : Code) (S : Conjuncts) → touches c S ≡ false → Tidy S → lightly c S ≡ ok S
unfolding touches lightly rounds_by_lem
lightly_skip done S w t = refl
lightly_skip (step l i rest) S w t =
    ap (◌>>= back l i) (lightly_skip rest S (or_right (some (writes i) S) (touches rest S) w) t)
    ∙ back_skip l i S (or_left (some (writes i) S) (touches rest S) w) t
lightly_skip (branch l v y n rest) S w t =
    let w' = or_right (touches y S) (touches n S || touches rest S) w in
    ap (◌>>= joined (lightly y) (lightly n)) (lightly_skip rest S (or_right (touches n S) (touches rest S) w') t)
    ∙ ap (◌>>= λ A. lightly n S >>= λ B. limits (union_of A B)) (lightly_skip y S (or_left (touches y S) (touches n S || touches rest S) w) t)
    ∙ ap (◌>>= λ B. limits (union_of S B)) (lightly_skip n S (or_left (touches n S) (touches rest S) w') t)
    ∙ ap limits (union_idem S t.canon) ∙ fine-limits S t.fine
lightly_skip (loop l v body rest) S w t =
    let next : Next → Out Conjuncts = onward (rounds_by_lem true 15 (lightly body) S) in
    ap (◌>>= λ D. rounds_by_lem true most_rounds (lightly body) D D D) (lightly_skip rest S (or_right (touches body S) (touches rest S) w) t)
    ∙ ap (◌>>= λ B. by_new_lem S (minus B S) >>= next) (lightly_skip body S (or_left (touches body S) (touches rest S) w) t)
    ∙ ap (λ N. by_new_lem S N >>= next) (minus_self S)

pub by_skip : (light : Bool) (c : Code) (S : Conjuncts) → touches c S ≡ false → Tidy S → walk_by light c S ≡ ok S
by_skip true c S w t = lightly_skip c S w t
by_skip false c S w t = walk_skip c S w t
