-- The exact run follows the run: a value is marked exactly where a step of its making overflowed, and unmarked it is its whole number.
use mathlib.Core.Path.{◌≡◌, refl, sym, ◌∙◌, ap, ap₂}
use mathlib.Core.Bool.{Bool, true, false, ◌&&◌, ◌||◌, cond, true≢false, false≢true, or_assoc, or_comm, or_self_left}
use mathlib.Core.List.{List, [], ◌∷◌, ◌++◌, Forall₂}
use Prim.Native.Nat.{ℕ, zero, suc, ◌+◌, ◌%◌, ◌<◌}
use native.Mathlib.Omega.{arith as linear}
use lib.Dec.{eqb}
use lib.IntN.{ℤ, pos}
use lib.ListN.{length, get_or}
use borrow.Author.Tests.{eqb-true}
use Rattle.arith.specs.declared.Op.TheVariants.{Convert}
use Rattle.arith.specs.Step.{overflows, exact_of_lem}
use Rattle.arith.specs.Words.{immediate}
use Rattle.arith.proofs.StepLaws.{step_wraps}
use Rattle.model.specs.Code.{number, copy, calc, change, read, load, Instr, assign, store, site, Code, done, step, branch, loop}
use Rattle.model.specs.Exact.{Made, given, Store, nothing, make_var, make_cell, member, put, both, first, make, over, flag, overflow_count, Note, noted, following}
use Rattle.model.specs.Exact.{moved_store, settled_store, noting, notes}
use Rattle.model.specs.Input.{Input}
use Rattle.model.specs.Lists.{All}
use Rattle.model.specs.Run.{State, zeros, set_var, set_cell, reading, Next, go, halt, taking_choice, index, exec, append, Line, logged, permit, room_left, taken, Ended, stepped, after}
use Rattle.model.specs.Run.{Origins, label_of, quiet, moved, due, settled, turn, execute}
use Rattle.model.specs.Inlined.{Origin, counted, silent}
use Rattle.model.specs.Values.{Val, plain, Operation, step_op, operated, converted}
use Rattle.model.proofs.Basics.Lists.{all_imp}
use Rattle.model.proofs.Runs.Runs.{Leads, permit_leads}
use Rattle.model.proofs.Basics.Tests.{case, or_left, or_right, true→T, eqb_self}

-- ---- sets of places

-- one of the places overflowed
pub hot : List Bool → List ℕ → Bool
hot H [] = false
hot H (p ∷ ps) = flag H p || hot H ps

-- the places are in the list of steps
pub Placed : List Bool → List ℕ → Type 0
Placed H ps = All (λ p. p < length H) ps

or_swap : (a b c : Bool) → (a || (b || c)) ≡ (b || (a || c))
or_swap true true c = refl
or_swap true false c = refl
or_swap false b c = refl

flag_older : (b : Bool) (H : List Bool) (p : ℕ) → p < length H → flag (b ∷ H) p ≡ flag H p
flag_older b H p h =
    case (eqb p (length H)) (λ z. cond z b (flag H p) ≡ flag H p) (λ r. let e : p ≡ length H = eqb-true p (length H) r in absurd (omega linear)) (λ r. refl)

hot_older : (b : Bool) (H : List Bool) (ps : List ℕ) → Placed H ps → hot (b ∷ H) ps ≡ hot H ps
unfolding hot Placed
hot_older b H [] h = refl
hot_older b H (p ∷ ps) h = ap₂ ◌||◌ (flag_older b H p h.0) (hot_older b H ps h.1)

placed_older : (b : Bool) (H : List Bool) (ps : List ℕ) → Placed H ps → Placed (b ∷ H) ps
unfolding Placed
placed_older b H ps h = all_imp (λ p k. omega linear) ps h

hot_member : (H : List Bool) (p : ℕ) (qs : List ℕ) → member p qs ≡ true → (flag H p || hot H qs) ≡ hot H qs
unfolding hot
hot_member H p [] e = absurd (true→T e)
hot_member H p (q ∷ qs) e =
    case (eqb p q) (λ z. (z || member p qs) ≡ true → (flag H p || (flag H q || hot H qs)) ≡ (flag H q || hot H qs))
    (λ r k. ap (λ x. x || (flag H q || hot H qs)) (ap (flag H) (eqb-true p q r)) ∙ or_self_left (flag H q) (hot H qs))
    (λ r k. or_swap (flag H p) (flag H q) (hot H qs) ∙ ap (flag H q ||◌) (hot_member H p qs k)) e

hot_put : (H : List Bool) (p : ℕ) (qs : List ℕ) → hot H (put p qs) ≡ (flag H p || hot H qs)
unfolding hot
hot_put H p qs = case (member p qs) (λ z. hot H (cond z qs (p ∷ qs)) ≡ (flag H p || hot H qs)) (λ e. sym (hot_member H p qs e)) (λ e. refl)

hot_both : (H : List Bool) (ps qs : List ℕ) → hot H (both ps qs) ≡ (hot H ps || hot H qs)
unfolding hot
hot_both H [] qs = refl
hot_both H (p ∷ ps) qs = hot_put H p (both ps qs) ∙ ap (flag H p ||◌) (hot_both H ps qs) ∙ sym (or_assoc (flag H p) (hot H ps) (hot H qs))

put_all : (P : ℕ → Type 0) (p : ℕ) (qs : List ℕ) → P p → All P qs → All P (put p qs)
put_all P p qs h k = case (member p qs) (λ z. All P (cond z qs (p ∷ qs))) (λ q. k) (λ q. (h, k))

both-all : (P : ℕ → Type 0) (ps qs : List ℕ) → All P ps → All P qs → All P (both ps qs)
both-all P [] qs h k = k
both-all P (p ∷ ps) qs h k = put_all P p (both ps qs) h.0 (both-all P ps qs h.1 k)

-- the count is 0 exactly where none of the places overflowed
cold_count : (H : List Bool) (ps : List ℕ) → hot H ps ≡ false → overflow_count H ps ≡ 0
unfolding hot
cold_count H [] e = refl
cold_count H (p ∷ ps) e =
    case (flag H p) (λ z. (z || hot H ps) ≡ false → cond z 1 0 + overflow_count H ps ≡ 0) (λ r k. absurd (true≢false k))
    (λ r k. let q : overflow_count H ps ≡ 0 = cold_count H ps k in omega linear) e

count_cold : (H : List Bool) (ps : List ℕ) → overflow_count H ps ≡ 0 → hot H ps ≡ false
unfolding hot
count_cold H [] e = refl
count_cold H (p ∷ ps) e =
    case (flag H p) (λ z. cond z 1 0 + overflow_count H ps ≡ 0 → (z || hot H ps) ≡ false) (λ r k. absurd (omega linear))
    (λ r k. count_cold H ps (omega linear)) e

-- ---- values

-- a value is marked exactly where a step of its making overflowed, and unmarked it is its whole number
pub record Beside (H : List Bool) (v : Val) (m : Made) : Type 0 where
  pub placed : Placed H m.places
  pub mark : v.mark ≡ hot H m.places
  pub number : v.mark ≡ false → m.total ≡ v.num

beside_older : (b : Bool) (H : List Bool) (v : Val) (m : Made) → Beside H v m → Beside (b ∷ H) v m
beside_older b H v m h =
    record { placed = placed_older b H m.places h.placed; mark = h.mark ∙ sym (hot_older b H m.places h.placed); number = h.number }

beside_given : (H : List Bool) (z : ℤ) → Beside H (plain z) (given z)
unfolding hot Placed
beside_given H z = record { placed = tt; mark = refl; number = λ e. refl }

-- this step's place, in the list with this step
placed-new : (f : Bool) (H : List Bool) (ps : List ℕ) → Placed H ps → Placed (f ∷ H) (put (length H) ps)
unfolding Placed
placed-new f H ps h = put_all (λ p. p < length (f ∷ H)) (length H) ps (omega linear) (all_imp (λ p k. omega linear) ps h)

hot_new : (f : Bool) (H : List Bool) (ps : List ℕ) → Placed H ps → hot (f ∷ H) (put (length H) ps) ≡ (f || hot H ps)
hot_new f H ps h = hot_put (f ∷ H) (length H) ps ∙ ap₂ ◌||◌ (ap (λ z. cond z f (flag H (length H))) (eqb_self (length H))) (hot_older f H ps h)

beside_calc : (H : List Bool) (o : Operation) (ty : ℕ) (a b : Val) (m n : Made) → Beside H a m → Beside H b n
    → Beside (overflows (step_op o) ty a.num b.num ∷ H) (operated o ty a b)
    (record { total = exact_of_lem (step_op o) m.total n.total; places = put (length H) (both m.places n.places) })
unfolding operated Placed
beside_calc H o ty a b m n p q =
    let f = overflows (step_op o) ty a.num b.num in
    let ps = both m.places n.places in
    let in_both = both-all (λ p. p < length H) m.places n.places p.placed q.placed in
    record {
      placed = placed-new f H ps in_both;
      mark = ap₂ (λ x y. x || y || f) p.mark q.mark ∙ ap (◌|| f) (sym (hot_both H m.places n.places)) ∙ or_comm (hot H ps) f ∙ sym (hot_new f H ps in_both);
      number = λ e.
          let clean = or_left (a.mark || b.mark) f e in
          ap₂ (exact_of_lem (step_op o)) (p.number (or_left a.mark b.mark clean)) (q.number (or_right a.mark b.mark clean))
          ∙ sym (step_wraps (step_op o) ty a.num b.num (or_right (a.mark || b.mark) f e));
    }

beside_change : (H : List Bool) (ty : ℕ) (a : Val) (m : Made) → Beside H a m
    → Beside (overflows Convert ty a.num (pos 0) ∷ H) (converted ty a) (record { total = m.total; places = put (length H) m.places })
unfolding converted
beside_change H ty a m p =
    let f = overflows Convert ty a.num (pos 0) in
    record {
      placed = placed-new f H m.places p.placed;
      mark = ap (◌|| f) p.mark ∙ or_comm (hot H m.places) f ∙ sym (hot_new f H m.places p.placed);
      number = λ e. p.number (or_left a.mark f e) ∙ sym (step_wraps Convert ty a.num (pos 0) (or_right a.mark f e));
    }

-- ---- states

pub record Alongside (H : List Bool) (σ : State) (τ : Store) : Type 0 where
  pub in_vars : (x : ℕ) → Beside H (σ.vars x) (τ.vars x)
  pub in_cells : (t k i : ℕ) → Beside H (σ.cells t k i) (τ.cells t k i)

beside_cond : (H : List Bool) (v w : Val) (m n : Made) → Beside H v m → Beside H w n → (b : Bool) → Beside H (cond b v w) (cond b m n)
beside_cond H v w m n p q true = p
beside_cond H v w m n p q false = q

-- a variable changed, with no step
along_var : (H : List Bool) (σ : State) (τ : Store) → Alongside H σ τ → (a : ℕ) (w : Val) (m : Made) → Beside H w m → Alongside H (set_var σ a w) (make_var τ a m)
along_var H σ τ h a w m p = record { in_vars = λ x. beside_cond H w (σ.vars x) m (τ.vars x) p (h.in_vars x) (eqb x a); in_cells = h.in_cells }

module _ (H : List Bool) (σ : State) (τ : Store) (h : Alongside H σ τ) (b : Bool) where
  alongside_older : Alongside (b ∷ H) σ τ
  alongside_older = record {
    in_vars = λ x. beside_older b H (σ.vars x) (τ.vars x) (h.in_vars x);
    in_cells = λ t k i. beside_older b H (σ.cells t k i) (τ.cells t k i) (h.in_cells t k i);
  }

  alongside_var : (a : ℕ) (w : Val) (m : Made) → Beside (b ∷ H) w m → Alongside (b ∷ H) (set_var σ a w) (make_var τ a m)
  alongside_var a w m p = record {
    in_vars = λ x. beside_cond (b ∷ H) w (σ.vars x) m (τ.vars x) p (alongside_older.in_vars x) (eqb x a);
    in_cells = alongside_older.in_cells;
  }

  alongside_cell : (t k i : ℕ) (w : Val) (m : Made) → Beside (b ∷ H) w m → Alongside (b ∷ H) (set_cell σ t k i w) (make_cell τ t k i m)
  alongside_cell t k i w m p = record {
    in_vars = alongside_older.in_vars;
    in_cells = λ s j n. beside_cond (b ∷ H) w (σ.cells s j n) m (τ.cells s j n) p (alongside_older.in_cells s j n) (eqb s t && eqb j k && eqb n i);
  }

-- ---- lines and notes

-- a line and what is noted beside it
pub record Follows (r : Line) (w : Note) : Type 0 where
  pub label : r.label ≡ w.label
  pub type : r.type ≡ w.type
  pub clean : r.value.mark ≡ false → w.overflowed ≡ 0
  pub marked : w.overflowed ≡ 0 → r.value.mark ≡ false
  pub number : r.value.mark ≡ false → w.total ≡ r.value.num

alike-append : {rs ss : List Line} {ws us : List Note} → Forall₂ Follows rs ws → Forall₂ Follows ss us → Forall₂ Follows (rs ++ ss) (ws ++ us)
alike-append Forall₂.nil k = k
alike-append (Forall₂.cons h t) k = Forall₂.cons h (alike-append t k)

module _ (I : Input) where
  read_alongside : (H : List Bool) (σ : State) (τ : Store) (a : ℕ) (rs : List ℤ) (ch : List ℕ) → Alongside H σ τ
      → Leads (λ σ'. Alongside (false ∷ H) σ' (make_var τ a (given (get_or rs (first ch % length rs) (pos 0))))) (taking_choice rs σ a ch)
  unfolding reading
  read_alongside H σ τ a [] ch h = tt
  read_alongside H σ τ a (r ∷ rs) [] h = tt
  read_alongside H σ τ a (r ∷ rs) (c ∷ ch) h = alongside_var H σ τ h false a (reading (r ∷ rs) c) _ (beside_given (false ∷ H) (get_or (r ∷ rs) (c % length (r ∷ rs)) (pos 0)))

  make_alongside : (H : List Bool) (σ : State) (τ : Store) (i : Instr) (ch : List ℕ) → Alongside H σ τ
      → Leads (λ σ'. Alongside (over σ i ∷ H) σ' (make I σ ch (length H) i τ)) (exec I σ i ch)
  unfolding over make exec
  make_alongside H σ τ (assign a ty (number i)) ch h = alongside_var H σ τ h false a _ _ (beside_given (false ∷ H) (immediate ty i))
  make_alongside H σ τ (assign a ty (copy b)) ch h = alongside_var H σ τ h false a _ _ ((alongside_older H σ τ h false).in_vars b)
  make_alongside H σ τ (assign a ty (calc o b c)) ch h =
      alongside_var H σ τ h (overflows (step_op o) ty (σ.vars b).num (σ.vars c).num) a _ _ (beside_calc H o ty (σ.vars b) (σ.vars c) (τ.vars b) (τ.vars c) (h.in_vars b) (h.in_vars c))
  make_alongside H σ τ (assign a ty (change b u)) ch h =
      alongside_var H σ τ h (overflows Convert ty (σ.vars b).num (pos 0)) a _ _ (beside_change H ty (σ.vars b) (τ.vars b) (h.in_vars b))
  make_alongside H σ τ (assign a ty (read f)) ch h = read_alongside H σ τ a (I f) ch h
  make_alongside H σ τ (assign a ty (load t k i)) ch h = alongside_var H σ τ h false a _ _ ((alongside_older H σ τ h false).in_cells t k (index σ k i))
  make_alongside H σ τ (store t k i x ty) ch h = alongside_cell H σ τ h false t k (index σ k i) _ _ ((alongside_older H σ τ h false).in_vars x)
  make_alongside H σ τ (site a ty) ch h = alongside_older H σ τ h false

  -- ---- runs

  logged-alike : (H : List Bool) (σ : State) (τ : Store) (l : ℕ) (i : Instr) → Alongside H σ τ → Forall₂ Follows (logged l i σ) (noted l i H τ)
  unfolding logged noted
  logged-alike H σ τ l (assign a ty r) h = Forall₂.nil
  logged-alike H σ τ l (store t k i x ty) h = Forall₂.nil
  logged-alike H σ τ l (site a ty) h =
      let p = h.in_vars a in
      let ps = (τ.vars a).places in
      Forall₂.cons (record {
        label = refl;
        type = refl;
        clean = λ e. cold_count H ps (sym p.mark ∙ e);
        marked = λ e. p.mark ∙ count_cold H ps e;
        number = p.number;
      }) Forall₂.nil

  after-alike : (P : State → Type 0) (f : State → List ℕ → Ended) (g : State → List ℕ → List Note)
      → ((σ : State) (ch : List ℕ) → P σ → Forall₂ Follows (f σ ch).log (g σ ch))
      → (nx : Next) → Leads P nx → Forall₂ Follows (after nx f).log (following nx g)
  after-alike P f g k (go σ ch) h = k σ ch h
  after-alike P f g k (halt c) h = Forall₂.nil

  -- ---- past the assignments of calls

  quiet_alongside : (H : List Bool) (σ : State) (τ : Store) (x : Origin) (i : Instr) → quiet x i ≡ true → Alongside H σ τ → Alongside H (moved σ i) (moved_store τ i)
  quiet_alongside H σ τ (counted l) i e h = absurd (false≢true e)
  quiet_alongside H σ τ silent (assign a ty (number n)) e h = along_var H σ τ h a _ _ (beside_given H (immediate ty n))
  quiet_alongside H σ τ silent (assign a ty (copy b)) e h = along_var H σ τ h a _ _ (h.in_vars b)
  quiet_alongside H σ τ silent (assign a ty (calc o b c)) e h = h
  quiet_alongside H σ τ silent (assign a ty (change b u)) e h = h
  quiet_alongside H σ τ silent (assign a ty (read f)) e h = h
  quiet_alongside H σ τ silent (assign a ty (load r k x)) e h = h
  quiet_alongside H σ τ silent (store r k x y ty) e h = h
  quiet_alongside H σ τ silent (site a ty) e h = h

  module _ (o : Origins) where
    settled_alongside : (H : List Bool) (σ : State) (τ : Store) (c : Code) → Alongside H σ τ → Alongside H (settled o σ c) (settled_store o τ c)
    unfolding settled settled_store
    settled_alongside H σ τ done h = h
    settled_alongside H σ τ (step l i rest) h =
        case (quiet (o l) i) (λ z. Alongside H (cond z (settled o (moved σ i) rest) σ) (cond z (settled_store o (moved_store τ i) rest) τ))
        (λ e. settled_alongside H (moved σ i) (moved_store τ i) rest (quiet_alongside H σ τ (o l) i e h)) (λ e. h)
    settled_alongside H σ τ (branch l v y m rest) h = h
    settled_alongside H σ τ (loop l v body rest) h = h

    turn-alike : (room : ℕ) (H : List Bool) (σ : State) (τ : Store) (c : Code) (ch : List ℕ)
        (f : ℕ → State → Code → List ℕ → Ended) (g : ℕ → State → Store → List Bool → Code → List ℕ → List Note)
        → ((r : ℕ) (H : List Bool) (σ : State) (τ : Store) (c : Code) (ch : List ℕ) → Alongside H σ τ → Forall₂ Follows (f r σ c ch).log (g r σ τ H c ch))
        → Alongside H σ τ → Forall₂ Follows (turn I o room σ c ch f).log (noting I o room σ τ H c ch g)
    turn-alike room H σ τ done ch f g ih h = Forall₂.nil
    turn-alike room H σ τ (step l i rest) ch f g ih h =
        let τ' = make I σ ch (length H) i τ in
        let P : State → Type 0 = λ σ'. Alongside (over σ i ∷ H) σ' τ' in
        let k = label_of (o l) in
        after-alike P (λ σ' ch'. stepped (logged k i σ) (f (room_left room i) σ' rest ch'))
        (λ σ' ch'. noted k i H τ ++ g (room_left room i) σ' τ' (over σ i ∷ H) rest ch')
        (λ σ' ch' a. alike-append (logged-alike H σ τ k i h) (ih (room_left room i) (over σ i ∷ H) σ' τ' rest ch' a))
        (permit room i (exec I σ i ch)) (permit_leads P room i (exec I σ i ch) (make_alongside H σ τ i ch h))
    turn-alike room H σ τ (branch l v y m rest) ch f g ih h =
        ih room (false ∷ H) σ τ (cond (taken σ v) (append y rest) (append m rest)) ch (alongside_older H σ τ h false)
    turn-alike room H σ τ (loop l v body rest) ch f g ih h =
        ih room (false ∷ H) σ τ (cond (taken σ v) (append body (loop l v body rest)) rest) ch (alongside_older H σ τ h false)

    pub run-alike : (n room : ℕ) (H : List Bool) (σ : State) (τ : Store) (c : Code) (ch : List ℕ) → Alongside H σ τ
        → Forall₂ Follows (execute I o n room σ c ch).log (notes I o n room σ τ H c ch)
    unfolding execute notes
    run-alike zero room H σ τ c ch h = Forall₂.nil
    run-alike (suc n) room H σ τ c ch h =
        turn-alike room H (settled o σ c) (settled_store o τ c) (due o c) ch (λ r σ' c' ch'. execute I o n r σ' c' ch') (λ r σ' τ' H' c' ch'. notes I o n r σ' τ' H' c' ch')
        (run-alike n) (settled_alongside H σ τ c h)

  pub begin : Alongside [] zeros nothing
  begin = record { in_vars = λ x. beside_given [] (pos 0); in_cells = λ t k i. beside_given [] (pos 0) }
