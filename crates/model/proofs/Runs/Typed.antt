-- In a run of a typed program on a typed input every logged number is inside its type.
use mathlib.Core.Path.{◌≡◌, sym, ◌∙◌, subst}
use mathlib.Core.Bool.{Bool, false, true, ◌&&◌, cond}
use mathlib.Core.List.{List, [], ◌∷◌}
use Prim.Native.Nat.{ℕ, ◌%◌, suc-le-suc, zero-le}
use native.Mathlib.Nat.{mod-lt}
use lib.Dec.{eqb}
use lib.IntN.{ℤ, pos}
use lib.ListN.{length}
use borrow.Author.Tests.{eqb-true}
use Rattle.arith.specs.Step.{fits, exact_of_lem}
use Rattle.arith.proofs.WrapLaws.{wrap-fits, fits-zero}
use Rattle.model.specs.Code.{number, copy, calc, change, read, load, Instr, assign, store, site, Code, loop}
use Rattle.model.specs.Input.{Input}
use Rattle.model.specs.Lists.{All}
use Rattle.model.specs.Program.{Tables, variable_type_lem, field_type_lem, array_of}
use Rattle.model.specs.Run.{State, zeros, set_var, set_cell, reading, taking_choice, index, exec, append, Line, logged, Origins, label_of, execute}
use Rattle.model.specs.Values.{Val, step_op, operated, converted}
use Rattle.model.specs.Typing.{TypedInstr, Typed, TypedInput, InTypes}
use Rattle.model.proofs.Basics.Lists.{all_get_d}
use Rattle.model.proofs.Runs.Runs.{Leads, leads_imp, run-all}
use Rattle.model.proofs.Basics.Tests.{case, and_left}
use Rattle.model.proofs.Walks.Trees.{each_append}

module _ (T : Tables) (I : Input) (typed : TypedInput T I) where
  in_var : (σ : State) → InTypes T σ → (a : ℕ) (w : Val) → fits (variable_type_lem T a) w.num ≡ true → InTypes T (set_var σ a w)
  in_var σ h a w p = record {
    in_vars = λ x. case (eqb x a) (λ z. fits (variable_type_lem T x) (cond z w (σ.vars x)).num ≡ true)
        (λ q. subst (λ y. fits (variable_type_lem T y) w.num ≡ true) (sym (eqb-true x a q)) p) (λ q. h.in_vars x);
    in_cells = h.in_cells;
  }

  in_cell : (σ : State) → InTypes T σ → (t k i : ℕ) (w : Val) → fits (array_of T t).ty w.num ≡ true → InTypes T (set_cell σ t k i w)
  in_cell σ h t k i w p = record {
    in_vars = h.in_vars;
    in_cells = λ s j n. case (eqb s t && eqb j k && eqb n i) (λ z. fits (array_of T s).ty (cond z w (σ.cells s j n)).num ≡ true)
        (λ q. subst (λ y. fits (array_of T y).ty w.num ≡ true) (sym (eqb-true s t (and_left (eqb s t) (eqb j k) (and_left (eqb s t && eqb j k) (eqb n i) q)))) p)
        (λ q. h.in_cells s j n);
  }

  read_in : (σ : State) → InTypes T σ → (a f : ℕ) → variable_type_lem T a ≡ field_type_lem T f → (rs : List ℤ) → All (λ z. fits (field_type_lem T f) z ≡ true) rs → (ch : List ℕ)
      → Leads (InTypes T) (taking_choice rs σ a ch)
  unfolding reading
  read_in σ h a f e [] k ch = tt
  read_in σ h a f e (r ∷ rs) k [] = tt
  read_in σ h a f e (r ∷ rs) k (c ∷ ch) =
      in_var σ h a (reading (r ∷ rs) c)
      (rw e (all_get_d (λ z. fits (field_type_lem T f) z ≡ true) (r ∷ rs) (c % length (r ∷ rs)) (pos 0) k (mod-lt c (suc-le-suc zero-le))))

  pub exec_in : (σ : State) → InTypes T σ → (i : Instr) → TypedInstr T i → (ch : List ℕ) → Leads (InTypes T) (exec I σ i ch)
  unfolding exec operated converted
  exec_in σ h (assign a ty (number i)) t ch = in_var σ h a _ (rw t.0.0 t.1)
  exec_in σ h (assign a ty (copy b)) t ch = in_var σ h a _ (rw (t.0.0 ∙ sym t.1.0) (h.in_vars b))
  exec_in σ h (assign a ty (calc o b c)) t ch = in_var σ h a _ (rw t.0.0 (wrap-fits ty (exact_of_lem (step_op o) (σ.vars b).num (σ.vars c).num)))
  exec_in σ h (assign a ty (change b u)) t ch = in_var σ h a _ (rw t.0.0 (wrap-fits ty (σ.vars b).num))
  exec_in σ h (assign a ty (read f)) t ch = read_in σ h a f (t.0.0 ∙ sym t.1.0) (I f) (typed f) ch
  exec_in σ h (assign a ty (load s k i)) t ch = in_var σ h a _ (rw (t.0.0 ∙ sym t.1.0.0) (h.in_cells s k (index σ k i)))
  exec_in σ h (store s k i x ty) t ch = in_cell σ h s k (index σ k i) _ (rw (t.0.0 ∙ sym t.1.0) (h.in_vars x))
  exec_in σ h (site a ty) t ch = h

  abbrev pub Inside : Line → Type 0
  Inside r = fits r.type r.value.num ≡ true

  logged-inside : (σ : State) → InTypes T σ → (l : ℕ) (i : Instr) → TypedInstr T i → All Inside (logged l i σ)
  unfolding logged
  logged-inside σ h l (assign a ty r) t = tt
  logged-inside σ h l (store s k i x ty) t = tt
  logged-inside σ h l (site a ty) t = (rw (← t.0) (h.in_vars a), tt)

  pub run_inside : (o : Origins) (n room : ℕ) (σ : State) (c : Code) (ch : List ℕ) → InTypes T σ → Typed T c → All Inside (execute I o n room σ c ch).log
  run_inside o n room σ c ch h t =
      let each = each_append (TypedInstr T) in
      run-all I o Inside (λ σ c. InTypes T σ × Typed T c)
      (λ σ l i rest ch h. (logged-inside σ h.0 (label_of (o l)) i h.1.0, leads_imp (λ σ' k. (k, h.1.1)) (exec I σ i ch) (exec_in σ h.0 i h.1.0 ch)))
      (λ σ l v y m rest b h. (h.0, cond-typed b (append y rest) (append m rest) (each y rest h.1.0 h.1.2) (each m rest h.1.1 h.1.2)))
      (λ σ l v body rest b h. (h.0, cond-typed b (append body (loop l v body rest)) rest (each body (loop l v body rest) h.1.0 h.1) h.1.1))
      n room σ c ch (h, t)
    where
      cond-typed : (b : Bool) (c d : Code) → Typed T c → Typed T d → Typed T (cond b c d)
      cond-typed true c d h k = h
      cond-typed false c d h k = k

  pub zeros-inside : InTypes T zeros
  zeros-inside = record { in_vars = λ x. fits-zero (variable_type_lem T x); in_cells = λ t k i. fits-zero (array_of T t).ty }
