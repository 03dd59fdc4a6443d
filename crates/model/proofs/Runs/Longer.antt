-- A run with more choices behind its own and in a longer log: step for step it is the same, unless it ended for want of one of the two;
-- and it has what it wants where there is a choice, or room for a record, for each step of its limit.
use mathlib.Core.Path.{◌≡◌, refl, sym, ap, subst, ◌∙◌}
use mathlib.Core.Bool.{cond}
use mathlib.Core.List.{List, [], ◌∷◌, ◌++◌, flat_map, append_assoc, append-nil}
use Prim.Native.Nat.{ℕ, zero, suc, ◌+◌, ◌*◌, ◌/◌, ◌%◌, ◌≤◌, ◌<◌}
use native.Mathlib.Omega.{arith}
use lib.Dec.{eqb}
use lib.IntN.{ℤ}
use lib.ListN.{length, drop, length-append}
use lib.Seq.{drop-append-le}
use Rattle.model.specs.Refusals.{Out, ok, refused, ◌>>=◌, mapped}
use Rattle.model.specs.Sizes.{record_size, choice_size}
use Rattle.model.specs.Code.{number, copy, calc, change, read, load, Instr, assign, store, site, Code, done, step, branch, loop}
use Rattle.model.specs.Program.{Program, read_program}
use Rattle.model.specs.Input.{Input, read_input}
use Rattle.model.specs.Condition.{analysis}
use Rattle.model.specs.Filter.{pass_number, filter_input}
use Rattle.model.specs.Run.{choices_used_up, log_full, State, zeros, taking_choice, exec, append, Line, logged, permit, room_left, taken}
use Rattle.model.specs.Run.{Ended, stepped, after, spent, Origins, label_of, due, settled, turn, execute}
use Rattle.model.specs.Run.{record_bytes, written, choices_of, Ran, ran_of, origins_of, run}
use Rattle.model.specs.Guarded.{Guarded, held, passed, admitted, guarded}
use Rattle.model.specs.Demands.{in_longer, guarded_in, NoFurther, LongerRuns}
use Rattle.model.proofs.Basics.Results.{bind_mapped}
use Rattle.model.proofs.Basics.Tests.{case}
use Rattle.model.proofs.Runs.Ends.{StepByStep, of_run, lines_fit}

-- ---- step for step

module _ (I : Input) (o : Origins) (more : List ℕ) where
  -- where a run ended for want of choices or of room, there is no more of it
  abbrev NoMore : (room room' : ℕ) → Ended → Type 0
  NoMore room room' E = (E.cause ≡ choices_used_up → more ≡ []) × (E.cause ≡ log_full → room' ≡ room)

  read-longer : (room room' : ℕ) (rs : List ℤ) (σ : State) (a : ℕ) (ch : List ℕ) (f g : State → List ℕ → Ended)
      → ((σ' : State) (ch' : List ℕ) → NoMore room room' (f σ' ch') → g σ' (ch' ++ more) ≡ f σ' ch')
      → NoMore room room' (after (taking_choice rs σ a ch) (λ σ' ch'. stepped [] (f σ' ch')))
      → after (taking_choice rs σ a (ch ++ more)) (λ σ' ch'. stepped [] (g σ' ch')) ≡ after (taking_choice rs σ a ch) (λ σ' ch'. stepped [] (f σ' ch'))
  read-longer room room' [] σ a ch f g h k = refl
  read-longer room room' (r ∷ rs) σ a [] f g h k = ap (λ m. after (taking_choice (r ∷ rs) σ a m) (λ σ' ch'. stepped [] (g σ' ch'))) (k.0 refl)
  read-longer room room' (r ∷ rs) σ a (c ∷ ch) f g h k = ap (stepped []) (h _ ch k)

  statement-longer : (l room room' : ℕ) (σ : State) (i : Instr) (ch : List ℕ) (f g : State → List ℕ → Ended) → room ≤ room'
      → ((σ' : State) (ch' : List ℕ) → NoMore (room_left room i) (room_left room' i) (f σ' ch') → g σ' (ch' ++ more) ≡ f σ' ch')
      → NoMore room room' (after (permit room i (exec I σ i ch)) (λ σ' ch'. stepped (logged l i σ) (f σ' ch')))
      → after (permit room' i (exec I σ i (ch ++ more))) (λ σ' ch'. stepped (logged l i σ) (g σ' ch'))
      ≡ after (permit room i (exec I σ i ch)) (λ σ' ch'. stepped (logged l i σ) (f σ' ch'))
  unfolding exec logged
  statement-longer l room room' σ (assign a ty (number x)) ch f g le h k = ap (stepped []) (h _ ch k)
  statement-longer l room room' σ (assign a ty (copy b)) ch f g le h k = ap (stepped []) (h _ ch k)
  statement-longer l room room' σ (assign a ty (calc x b c)) ch f g le h k = ap (stepped []) (h _ ch k)
  statement-longer l room room' σ (assign a ty (change b u)) ch f g le h k = ap (stepped []) (h _ ch k)
  statement-longer l room room' σ (assign a ty (read x)) ch f g le h k = read-longer room room' (I x) σ a ch f g h k
  statement-longer l room room' σ (assign a ty (load r j x)) ch f g le h k = ap (stepped []) (h _ ch k)
  statement-longer l room room' σ (store r j x y ty) ch f g le h k = ap (stepped []) (h _ ch k)
  statement-longer l zero room' σ (site a ty) ch f g le h k =
      let line : Line = record { label = l; type = ty; value = σ.vars a } in
      ap (λ r. after (permit r (site a ty) (exec I σ (site a ty) (ch ++ more))) (λ σ' ch'. stepped (line ∷ []) (g σ' ch'))) (k.1 refl)
  statement-longer l (suc room) zero σ (site a ty) ch f g le h k = absurd (omega (arith, le))
  statement-longer l (suc room) (suc room') σ (site a ty) ch f g le h k =
      let line : Line = record { label = l; type = ty; value = σ.vars a } in
      ap (stepped (line ∷ [])) (h σ ch (k.0, λ e. omega (arith, k.1 e)))

  room-longer : (room room' : ℕ) (i : Instr) → room ≤ room' → room_left room i ≤ room_left room' i
  room-longer room room' (assign a ty r) h = h
  room-longer room room' (store r k i x ty) h = h
  room-longer zero room' (site a ty) h = omega arith
  room-longer (suc room) zero (site a ty) h = absurd (omega (arith, h))
  room-longer (suc room) (suc room') (site a ty) h = omega (arith, h)

  -- the rest of a run is the same
  abbrev SameRest : (ℕ → State → Code → List ℕ → Ended) → Type 0
  SameRest next =
      (room room' : ℕ) (σ : State) (c : Code) (ch : List ℕ) → room ≤ room' → NoMore room room' (next room σ c ch)
      → next room' σ c (ch ++ more) ≡ next room σ c ch

  turn-longer : (next : ℕ → State → Code → List ℕ → Ended) → SameRest next → SameRest (λ room σ c ch. turn I o room σ c ch next)
  turn-longer next same room room' σ done ch le k = refl
  turn-longer next same room room' σ (step l i rest) ch le k =
      statement-longer (label_of (o l)) room room' σ i ch (λ σ' ch'. next (room_left room i) σ' rest ch') (λ σ' ch'. next (room_left room' i) σ' rest ch') le
      (λ σ' ch' q. same (room_left room i) (room_left room' i) σ' rest ch' (room-longer room room' i le) q) k
  turn-longer next same room room' σ (branch l v y m rest) ch le k =
      ap (stepped []) (same room room' σ (cond (taken σ v) (append y rest) (append m rest)) ch le k)
  turn-longer next same room room' σ (loop l v body rest) ch le k =
      ap (stepped []) (same room room' σ (cond (taken σ v) (append body (loop l v body rest)) rest) ch le k)

  execute-longer : (n : ℕ) → SameRest (execute I o n)
  unfolding execute
  execute-longer zero room room' σ c ch le k = refl
  execute-longer (suc n) room room' σ c ch le k =
      turn-longer (λ r σ' c' ch'. execute I o n r σ' c' ch') (execute-longer n) room room' (settled o σ c) (due o c) ch le k

-- ---- byte strings

choices-append : (s t : List ℕ) → length s % choice_size ≡ 0 → choices_of (s ++ t) ≡ choices_of s ++ choices_of t
choices-append [] t h = refl
choices-append (a ∷ []) t h = absurd (omega (arith, h))
choices-append (a ∷ b ∷ s) t h = ap (λ cs. (a + 256 * b) ∷ cs) (choices-append s t (omega (arith, h)))

written-longer : (ls : List Line) (log rest : List ℕ) → record_size * length ls ≤ length log → written ls (log ++ rest) ≡ written ls log ++ rest
unfolding written
written-longer ls log rest h =
    ap (λ r. flat_map record_bytes ls ++ r) (drop-append-le (record_size * length ls) log rest h)
    ∙ sym (append_assoc (flat_map record_bytes ls) (drop (record_size * length ls) log) rest)

ran-longer : (E : Ended) (log rest : List ℕ) → length E.log ≤ length log / record_size → ran_of E (log ++ rest) ≡ in_longer rest (ran_of E log)
unfolding ran_of
ran-longer E log rest h =
    let w = written-longer E.log log rest (omega (arith, h)) in
    λ i. record { end = E.cause; steps = E.steps; records = length E.log; log = w i }

module _ (I : Input) (P : Program) (limit : ℕ) (choices more log rest : List ℕ) (whole : length choices % choice_size ≡ 0) where
  abbrev executed : List ℕ → ℕ → Ended
  executed ch room = execute I (origins_of P) limit room zeros P.code ch

  abbrev room : ℕ
  room = length log / record_size

  abbrev longer : ℕ
  longer = length (log ++ rest) / record_size

  -- the room of a log to which nothing is added
  same-room : rest ≡ [] → longer ≡ room
  same-room e = ap (λ r. length (log ++ r) / record_size) e ∙ ap (λ l. length l / record_size) (append-nil log)

  executed_longer : NoFurther more rest (ran_of (executed (choices_of choices) room) log)
      → ran_of (executed (choices_of (choices ++ more)) longer) (log ++ rest) ≡ in_longer rest (ran_of (executed (choices_of choices) room) log)
  unfolding ran_of
  executed_longer k =
      let E = executed (choices_of choices) room in
      let no_more : NoMore I (origins_of P) (choices_of more) room longer E = (k.choices, λ e. same-room (k.room e)) in
      let le : room ≤ longer = omega (arith, length-append log rest) in
      ap (λ ch. ran_of (executed ch longer) (log ++ rest)) (choices-append choices more whole)
      ∙ ap (λ F. ran_of F (log ++ rest)) (execute-longer I (origins_of P) (choices_of more) limit room longer zeros P.code (choices_of choices) le no_more)
      ∙ ran-longer E log rest (lines_fit I (origins_of P) limit room zeros P.code (choices_of choices))

module _ (program input : List ℕ) (limit : ℕ) (choices more log rest : List ℕ) (whole : length choices % choice_size ≡ 0) where
  -- what a run of a program on an input gives, once both are read
  abbrev ran_on : Program → Input → (cs l : List ℕ) → Ran
  ran_on P I cs l = ran_of (execute I (origins_of P) limit (length l / record_size) zeros P.code (choices_of cs)) l

  run-longer : ((R : Ran) → run program input limit choices log ≡ ok R → NoFurther more rest R)
      → run program input limit (choices ++ more) (log ++ rest) ≡ mapped (in_longer rest) (run program input limit choices log)
  unfolding run
  run-longer sure =
      let short : Program → Input → Out Ran = λ P I. ok (ran_on P I choices log) in
      let long : Program → Input → Out Ran = λ P I. ok (ran_on P I (choices ++ more) (log ++ rest)) in
      let on : (Program → Input → Out Ran) → Program → Out Ran = λ f P. read_input P.tables.fields input >>= f P in
      bind_mapped (in_longer rest) (read_program program) (on short) (on long)
      (
      λ P p.
      bind_mapped (in_longer rest) (read_input P.tables.fields input) (short P) (long P)
      (λ I q. ap ok (executed_longer I P limit choices more log rest whole (sure (ran_on P I choices log) (rw (p, q)))))
      )

  -- what passed is run, and what is held is held
  passed-longer : (C : List ℕ) (o : Out Ran)
      → (mapped (in_longer rest) o >>= λ R. ok (passed C R)) ≡ mapped (guarded_in (in_longer rest)) (o >>= λ R. ok (passed C R))
  passed-longer C (ok R) = refl
  passed-longer C (refused n) = refl

  guarded-longer : ((C : List ℕ) (R : Ran) → guarded program input limit choices log ≡ ok (passed C R) → NoFurther more rest R)
      → guarded program input limit (choices ++ more) (log ++ rest) ≡ mapped (guarded_in (in_longer rest)) (guarded program input limit choices log)
  unfolding guarded
  guarded-longer sure =
      let short = run program input limit choices log in
      let long = run program input limit (choices ++ more) (log ++ rest) in
      let h = guarded_in (in_longer rest) in
      bind_mapped h (analysis program) (λ C. filter_input C input >>= admitted C short) (λ C. filter_input C input >>= admitted C long)
      (
      λ C p.
      bind_mapped h (filter_input C input) (admitted C short) (admitted C long)
      (
      λ v q.
      case (eqb v pass_number) (λ b. cond b (long >>= λ R. ok (passed C R)) (ok held) ≡ mapped h (cond b (short >>= λ R. ok (passed C R)) (ok held)))
      (λ t. ap (λ r. r >>= λ R. ok (passed C R)) (run-longer (λ R e. sure C R (rw (p, q, t, e)))) ∙ passed-longer C short)
      (λ t. refl)
      )
      )

-- ---- more choices, in the same log

mapped-same : {A : Type 0} (h : A → A) → ((a : A) → h a ≡ a) → (o : Out A) → mapped h o ≡ o
mapped-same h k (ok a) = ap ok (k a)
mapped-same h k (refused n) = refl

nothing-behind : (R : Ran) → in_longer [] R ≡ R
nothing-behind R = let l = append-nil R.log in λ i. record { end = R.end; steps = R.steps; records = R.records; log = l i }

guarded-nothing-behind : (G : Guarded) → guarded_in (in_longer []) G ≡ G
guarded-nothing-behind held = refl
guarded-nothing-behind (passed C R) = ap (passed C) (nothing-behind R)

-- a run that ended so goes no further: it did not use up its choices, or there are no more
no_further : (more : List ℕ) (R : Ran) → (R.end ≡ choices_used_up → choices_of more ≡ []) → NoFurther more [] R
no_further more R k = record { choices = k; room = λ e. refl }

module _ (program input : List ℕ) (limit : ℕ) (choices more log : List ℕ) (whole : length choices % choice_size ≡ 0) where
  pub run_more : ((R : Ran) → run program input limit choices log ≡ ok R → R.end ≡ choices_used_up → choices_of more ≡ [])
      → run program input limit (choices ++ more) log ≡ run program input limit choices log
  run_more sure =
      ap (run program input limit (choices ++ more)) (sym (append-nil log))
      ∙ run-longer program input limit choices more log [] whole (λ R e. no_further more R (sure R e))
      ∙ mapped-same (in_longer []) nothing-behind (run program input limit choices log)

  pub guarded_more : ((C : List ℕ) (R : Ran) → guarded program input limit choices log ≡ ok (passed C R) → R.end ≡ choices_used_up → choices_of more ≡ [])
      → guarded program input limit (choices ++ more) log ≡ guarded program input limit choices log
  guarded_more sure =
      ap (guarded program input limit (choices ++ more)) (sym (append-nil log))
      ∙ guarded-longer program input limit choices more log [] whole (λ C R e. no_further more R (sure C R e))
      ∙ mapped-same (guarded_in (in_longer [])) guarded-nothing-behind (guarded program input limit choices log)

-- fewer bytes than a choice has are none
pub choices-few : (s : List ℕ) → length s < choice_size → choices_of s ≡ []
choices-few [] h = refl
choices-few (a ∷ []) h = refl
choices-few (a ∷ b ∷ s) h = absurd (omega (arith, h))

-- ---- what a run wants

spent-one : (c : Code) → spent c ≤ 1
spent-one done = omega arith
spent-one (step l i rest) = omega arith
spent-one (branch l v y n rest) = omega arith
spent-one (loop l v body rest) = omega arith

-- a run that ends for want of choices, or of room, had fewer than steps
abbrev Wants : (n room : ℕ) → List ℕ → Ended → Type 0
Wants n room ch E = (E.cause ≡ choices_used_up → length ch < n) × (E.cause ≡ log_full → room < n)

wanting : StepByStep Wants
wanting = record {
  spent-up = λ room ch c. (λ e. absurd (omega (arith, e, spent-one c)), λ e. absurd (omega (arith, e, spent-one c)));
  finished = λ n room ch. (λ e. absurd (omega (arith, e)), λ e. absurd (omega (arith, e)));
  blank = λ n room ch. (λ e. absurd (omega (arith, e)), λ e. absurd (omega (arith, e)));
  used_up = λ n room. (λ e. omega arith, λ e. absurd (omega (arith, e)));
  full = λ n ch. (λ e. absurd (omega (arith, e)), λ e. omega arith);
  on = λ n room ch E h. (λ e. omega (arith, h.0 e), λ e. omega (arith, h.1 e));
  chosen = λ n room c ch E h. (λ e. omega (arith, h.0 e), λ e. omega (arith, h.1 e));
  put = λ n room ch l E h. (λ e. omega (arith, h.0 e), λ e. omega (arith, h.1 e));
}

run_wants : (program input : List ℕ) (limit : ℕ) (choices log : List ℕ) (R : Ran) → run program input limit choices log ≡ ok R
    → (R.end ≡ choices_used_up → length (choices_of choices) < limit) × (R.end ≡ log_full → length log / record_size < limit)
unfolding ran_of
run_wants program input limit choices log R e =
    let k = of_run Wants wanting program input limit choices log R e in
    subst (λ (Q : Ran). (Q.end ≡ choices_used_up → length (choices_of choices) < limit) × (Q.end ≡ log_full → length log / record_size < limit)) k.1 k.2

-- ---- the theorem

pub longer_runs : LongerRuns
longer_runs = record {
  ran = run-longer;
  behind = guarded-longer;
  used_up = λ program input limit choices log R e. (run_wants program input limit choices log R e).0;
  full = λ program input limit choices log R e. (run_wants program input limit choices log R e).1;
}
