-- What holds of every run by its steps: it ends with a number from 0 to 4, its lines have room in the log, and where it ends for want of
-- choices or of room there were fewer of them than steps in its limit. Each goes from the rest of a run to one step more, by one law.
use mathlib.Core.Path.{◌≡◌, subst}
use mathlib.Core.Bool.{cond}
use mathlib.Core.List.{List, [], ◌∷◌}
use Prim.Native.Nat.{ℕ, zero, suc, ◌/◌, ◌≤◌, ◌<◌}
use native.Mathlib.Omega.{arith}
use lib.IntN.{ℤ}
use lib.ListN.{length}
use Rattle.model.specs.Refusals.{ok}
use Rattle.model.specs.Sizes.{record_size}
use Rattle.model.specs.Code.{number, copy, calc, change, read, load, Instr, assign, store, site, Code, done, step, branch, loop}
use Rattle.model.specs.Input.{Input}
use Rattle.model.specs.Run.{State, zeros, taking_choice, exec, append, Line, logged, permit, room_left, taken, choices_used_up, log_full}
use Rattle.model.specs.Run.{Ended, ended, stepped, after, spent, Origins, label_of, due, settled, turn, execute, choices_of, Ran, ran_of, origins_of, run}
use Rattle.model.proofs.Runs.Records.{run_runs}

-- ---- from the rest of a run to one step more

-- of the steps and the room that are left, the choices that are left, and the end: it holds of every end, and goes on over every step
pub record StepByStep (Q : (n room : ℕ) → List ℕ → Ended → Type 0) : Type 0 where
  pub spent-up : (room : ℕ) (ch : List ℕ) (c : Code) → Q 0 room ch (ended (spent c))
  pub finished : (n room : ℕ) (ch : List ℕ) → Q (suc n) room ch (ended 0)
  pub blank : (n room : ℕ) (ch : List ℕ) → Q (suc n) room ch (ended 2)
  pub used_up : (n room : ℕ) → Q (suc n) room [] (ended choices_used_up)
  pub full : (n : ℕ) (ch : List ℕ) → Q (suc n) 0 ch (ended log_full)
  pub on : (n room : ℕ) (ch : List ℕ) (E : Ended) → Q n room ch E → Q (suc n) room ch (stepped [] E)
  pub chosen : (n room c : ℕ) (ch : List ℕ) (E : Ended) → Q n room ch E → Q (suc n) room (c ∷ ch) (stepped [] E)
  pub put : (n room : ℕ) (ch : List ℕ) (l : Line) (E : Ended) → Q n room ch E → Q (suc n) (suc room) ch (stepped (l ∷ []) E)

module _ (Q : (n room : ℕ) → List ℕ → Ended → Type 0) (by : StepByStep Q) (I : Input) (o : Origins) where
  choosing : (n room : ℕ) (rs : List ℤ) (σ : State) (a : ℕ) (ch : List ℕ) (f : State → List ℕ → Ended)
      → ((σ' : State) (ch' : List ℕ) → Q n room ch' (f σ' ch')) → Q (suc n) room ch (after (taking_choice rs σ a ch) (λ σ' ch'. stepped [] (f σ' ch')))
  choosing n room [] σ a ch f h = by.blank n room ch
  choosing n room (r ∷ rs) σ a [] f h = by.used_up n room
  choosing n room (r ∷ rs) σ a (c ∷ ch) f h = by.chosen n room c ch (f _ ch) (h _ ch)

  -- one statement
  plainly : (n l room : ℕ) (σ : State) (i : Instr) (ch : List ℕ) (f : State → List ℕ → Ended)
      → ((σ' : State) (ch' : List ℕ) → Q n (room_left room i) ch' (f σ' ch'))
      → Q (suc n) room ch (after (permit room i (exec I σ i ch)) (λ σ' ch'. stepped (logged l i σ) (f σ' ch')))
  unfolding exec logged
  plainly n l room σ (assign a ty (number x)) ch f h = by.on n room ch (f _ ch) (h _ ch)
  plainly n l room σ (assign a ty (copy b)) ch f h = by.on n room ch (f _ ch) (h _ ch)
  plainly n l room σ (assign a ty (calc x b c)) ch f h = by.on n room ch (f _ ch) (h _ ch)
  plainly n l room σ (assign a ty (change b u)) ch f h = by.on n room ch (f _ ch) (h _ ch)
  plainly n l room σ (assign a ty (read x)) ch f h = choosing n room (I x) σ a ch f h
  plainly n l room σ (assign a ty (load r k x)) ch f h = by.on n room ch (f _ ch) (h _ ch)
  plainly n l room σ (store r k x y ty) ch f h = by.on n room ch (f _ ch) (h _ ch)
  plainly n l zero σ (site a ty) ch f h = by.full n ch
  plainly n l (suc room) σ (site a ty) ch f h = by.put n room ch (record { label = l; type = ty; value = σ.vars a }) (f σ ch) (h σ ch)

  turned : (n room : ℕ) (σ : State) (c : Code) (ch : List ℕ) (next : ℕ → State → Code → List ℕ → Ended)
      → ((r : ℕ) (σ : State) (c : Code) (ch : List ℕ) → Q n r ch (next r σ c ch)) → Q (suc n) room ch (turn I o room σ c ch next)
  turned n room σ done ch next h = by.finished n room ch
  turned n room σ (step l i rest) ch next h =
      plainly n (label_of (o l)) room σ i ch (λ σ' ch'. next (room_left room i) σ' rest ch') (λ σ' ch'. h (room_left room i) σ' rest ch')
  turned n room σ (branch l v y m rest) ch next h =
      let c = cond (taken σ v) (append y rest) (append m rest) in
      by.on n room ch (next room σ c ch) (h room σ c ch)
  turned n room σ (loop l v body rest) ch next h =
      let c = cond (taken σ v) (append body (loop l v body rest)) rest in
      by.on n room ch (next room σ c ch) (h room σ c ch)

  pub of_execution : (n room : ℕ) (σ : State) (c : Code) (ch : List ℕ) → Q n room ch (execute I o n room σ c ch)
  unfolding execute
  of_execution zero room σ c ch = by.spent-up room ch (due o c)
  of_execution (suc n) room σ c ch = turned n room (settled o σ c) (due o c) ch (λ r σ' c' ch'. execute I o n r σ' c' ch') (of_execution n)

-- the same of a run: with its limit, the room of its log and its choices
pub of_run : (Q : (n room : ℕ) → List ℕ → Ended → Type 0) → StepByStep Q → (program input : List ℕ) (limit : ℕ) (choices log : List ℕ) (R : Ran)
    → run program input limit choices log ≡ ok R
    → (E : Ended) × (ran_of E log ≡ R) × Q limit (length log / record_size) (choices_of choices) E
of_run Q by program input limit choices log R e =
    let r = run_runs program input limit choices log R e in
    let room = length log / record_size in
    let E = execute r.I (origins_of r.P) limit room zeros r.P.code (choices_of choices) in
    (E, r.gives, of_execution Q by r.I (origins_of r.P) limit room zeros r.P.code (choices_of choices))

-- ---- the number of the end

spent-low : (c : Code) → spent c ≤ 4
spent-low done = omega arith
spent-low (step l i rest) = omega arith
spent-low (branch l v y n rest) = omega arith
spent-low (loop l v body rest) = omega arith

low : StepByStep (λ n room ch E. E.cause ≤ 4)
low = record {
  spent-up = λ room ch c. spent-low c;
  finished = λ n room ch. omega arith;
  blank = λ n room ch. omega arith;
  used_up = λ n room. omega arith;
  full = λ n ch. omega arith;
  on = λ n room ch E h. h;
  chosen = λ n room c ch E h. h;
  put = λ n room ch l E h. h;
}

pub run_ends : (program input : List ℕ) (limit : ℕ) (choices log : List ℕ) (R : Ran) → run program input limit choices log ≡ ok R → R.end ≤ 4
unfolding ran_of
run_ends program input limit choices log R e =
    let k = of_run _ low program input limit choices log R e in
    subst (λ (Q : Ran). Q.end ≤ 4) k.1 k.2

-- ---- the lines

fitting : StepByStep (λ n room ch E. length E.log ≤ room)
fitting = record {
  spent-up = λ room ch c. omega arith;
  finished = λ n room ch. omega arith;
  blank = λ n room ch. omega arith;
  used_up = λ n room. omega arith;
  full = λ n ch. omega arith;
  on = λ n room ch E h. h;
  chosen = λ n room c ch E h. h;
  put = λ n room ch l E h. omega (arith, h);
}

pub lines_fit : (I : Input) (o : Origins) (n room : ℕ) (σ : State) (c : Code) (ch : List ℕ) → length (execute I o n room σ c ch).log ≤ room
lines_fit = of_execution _ fitting
