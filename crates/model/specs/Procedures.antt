-- The statements of a program's list with procedures and calls, and checks 8 and 16 of them: document 02, card 4.
use Rattle.std.specs.Prelude.{Bool, true, false, ◌&&◌, ◌||◌, not, List, [], ◌∷◌, ◌++◌, ℕ, zero, suc, ◌+◌, leb, ltb}
use Rattle.model.specs.Sizes.{most_nested}
use Rattle.model.specs.Lists.{every}
use Rattle.model.specs.Refusals.{Out, ok, refused, ◌>>=◌, check, wrong_blocks, wrong_procedures}
use Rattle.model.specs.Code.{Right, number, copy, calc, change, read, load, Instr, assign, store, site, Stmt, plain, if, else, end, while}

-- a statement of the program's list: one of kinds 0 to 14; the beginning of a procedure, with the number of its parameters, its
-- first own variable and how many it has; a call, with its target, the procedure's number and the arguments
pub data Item : Type 0 where
  own : Stmt → Item
  procedure : (params first count : ℕ) → Item
  call : (target p : ℕ) → List ℕ → Item

-- ---- check 8: blocks

-- what is open: an if, an if whose else has been met, a while, a procedure
pub data Block : Type 0 where
  if_block : Block
  else_block : Block
  while_block : Block
  procedure_block : Block

-- how many blocks are open; a procedure does not count
abbrev pub nesting : List Block → ℕ
nesting [] = 0
nesting (if_block ∷ bs) = suc (nesting bs)
nesting (else_block ∷ bs) = suc (nesting bs)
nesting (while_block ∷ bs) = suc (nesting bs)
nesting (procedure_block ∷ bs) = nesting bs

-- an if or a while, at most 4 deep
abbrev pub opening : Block → List Block → Out (List Block)
opening b bs = check (ltb (nesting bs) most_nested) wrong_blocks (ok (b ∷ bs))

-- an else turns an if
abbrev pub turning : List Block → Out (List Block)
turning [] = refused wrong_blocks
turning (if_block ∷ bs) = ok (else_block ∷ bs)
turning (else_block ∷ bs) = refused wrong_blocks
turning (while_block ∷ bs) = refused wrong_blocks
turning (procedure_block ∷ bs) = refused wrong_blocks

-- an end closes anything but an if without its else
abbrev pub closing : List Block → Out (List Block)
closing [] = refused wrong_blocks
closing (if_block ∷ bs) = refused wrong_blocks
closing (else_block ∷ bs) = ok bs
closing (while_block ∷ bs) = ok bs
closing (procedure_block ∷ bs) = ok bs

-- one statement; what is open is given from the innermost
unfoldable pub passing : Item → List Block → Out (List Block)
passing (own (plain i)) bs = ok bs
passing (own (if v)) bs = opening if_block bs
passing (own else) bs = turning bs
passing (own end) bs = closing bs
passing (own (while v)) bs = opening while_block bs
passing (procedure n x k) bs = ok (procedure_block ∷ bs)
passing (call t p as') bs = ok bs

-- what is open after the statements, from what is open before them
unfoldable pub open_after : List Block → List Item → Out (List Block)
open_after bs [] = ok bs
open_after bs (i ∷ is) = passing i bs >>= λ cs. open_after cs is

-- nothing is left open
abbrev pub all_closed : List Block → Out (List Block)
all_closed [] = ok []
all_closed (b ∷ bs) = refused wrong_blocks

-- ---- check 16: the procedures, and the statements after them

-- a procedure: the number of its parameters, its first own variable and how many it has; the label of its first statement, and its
-- statements
pub record Procedure : Type 0 where
  pub params : ℕ
  pub first : ℕ
  pub count : ℕ
  pub label : ℕ
  pub body : List Item

-- the procedures by number; the label of the first statement after them, and these statements
pub record Parts : Type 0 where
  pub procedures : List Procedure
  pub label : ℕ
  pub main : List Item

-- where the reading of the list stands: between procedures, or in one, so many blocks deep
pub data Stage : Type 0 where
  between : Stage
  inside : Procedure → (depth : ℕ) → Stage

-- one statement more
abbrev pub longer : Procedure → Item → Procedure
longer q i = record { params = q.params; first = q.first; count = q.count; label = q.label; body = q.body ++ (i ∷ []) }

-- is it no beginning of a procedure?
abbrev pub begins_none : Item → Bool
begins_none (own s) = true
begins_none (procedure n x k) = false
begins_none (call t p as') = true

-- the statements after the procedures, from the label l on: no procedure stands late
abbrev pub main_from : ℕ → List Procedure → List Item → Out Parts
main_from l ps is = check (every begins_none is) wrong_procedures (ok (record { procedures = ps; label = l; main = is }))

-- the statements from the label l on, with the procedures before them: no procedure stands inside another
unfoldable pub parts_from : ℕ → List Procedure → Stage → List Item → Out Parts
parts_from l ps between [] = main_from l ps []
parts_from l ps (inside q d) [] = refused wrong_procedures
parts_from l ps between (own s ∷ is) = main_from l ps (own s ∷ is)
parts_from l ps between (call t p as' ∷ is) = main_from l ps (call t p as' ∷ is)
parts_from l ps between (procedure n x k ∷ is) =
    parts_from (suc l) ps (inside (record { params = n; first = x; count = k; label = suc l; body = [] }) 0) is
parts_from l ps (inside q d) (procedure n x k ∷ is) = refused wrong_procedures
parts_from l ps (inside q d) (call t p as' ∷ is) = parts_from (suc l) ps (inside (longer q (call t p as')) d) is
parts_from l ps (inside q d) (own (plain i) ∷ is) = parts_from (suc l) ps (inside (longer q (own (plain i))) d) is
parts_from l ps (inside q d) (own (if v) ∷ is) = parts_from (suc l) ps (inside (longer q (own (if v))) (suc d)) is
parts_from l ps (inside q d) (own else ∷ is) = parts_from (suc l) ps (inside (longer q (own else)) d) is
parts_from l ps (inside q zero) (own end ∷ is) = parts_from (suc l) (ps ++ (q ∷ [])) between is
parts_from l ps (inside q (suc d)) (own end ∷ is) = parts_from (suc l) ps (inside (longer q (own end)) d) is
parts_from l ps (inside q d) (own (while v) ∷ is) = parts_from (suc l) ps (inside (longer q (own (while v))) (suc d)) is

-- ---- check 16: variables and calls

-- the variables of a right side
abbrev pub operands : Right → List ℕ
operands (number i) = []
operands (copy b) = b ∷ []
operands (calc o b c) = b ∷ c ∷ []
operands (change b u) = b ∷ []
operands (read f) = []
operands (load r k i) = i ∷ []

-- the variables that a statement of kinds 0 to 10 names
abbrev pub named_by : Instr → List ℕ
named_by (assign a ty r) = a ∷ operands r
named_by (store r k i x ty) = i ∷ x ∷ []
named_by (site a ty) = a ∷ []

-- the variables that a statement names
abbrev pub named : Item → List ℕ
named (own (plain i)) = named_by i
named (own (if v)) = v ∷ []
named (own else) = []
named (own end) = []
named (own (while v)) = v ∷ []
named (procedure n x k) = []
named (call t p as') = t ∷ as'

-- is the variable one of the procedure's own?
abbrev pub owns : Procedure → ℕ → Bool
owns q x = leb q.first x && ltb x (q.first + q.count)

-- a call, if it is one, is of a procedure before number n
abbrev pub calls_before_lem : ℕ → Item → Bool
calls_before_lem n (own s) = true
calls_before_lem n (procedure m x k) = true
calls_before_lem n (call t p as') = ltb p n

-- procedure number n: it has an own variable and as many as its parameters, uses these only and calls earlier ones only
unfoldable pub procedure_right_lem : ℕ → Procedure → Bool
procedure_right_lem n q =
    leb 1 q.count && leb q.params q.count
    && every (λ i. every (owns q) (named i)) q.body && every (calls_before_lem n) q.body

-- the procedures from number n on
unfoldable pub procedures_right_lem : ℕ → List Procedure → Bool
procedures_right_lem n [] = true
procedures_right_lem n (q ∷ qs) = procedure_right_lem n q && procedures_right_lem (suc n) qs

-- they share no variable
abbrev pub apart : Procedure → Procedure → Bool
apart q r = leb (q.first + q.count) r.first || leb (r.first + r.count) q.first

-- no two of them do
unfoldable pub all_apart_lem : List Procedure → Bool
all_apart_lem [] = true
all_apart_lem (q ∷ qs) = every (apart q) qs && all_apart_lem qs

-- none of them owns a variable that the statement names
abbrev pub spares : List Procedure → Item → Bool
spares qs i = every (λ x. every (λ q. not (owns q x)) qs) (named i)

-- all this of the parts of a program
unfoldable pub parts_right_lem : Parts → Bool
parts_right_lem P = procedures_right_lem 0 P.procedures && all_apart_lem P.procedures && every (spares P.procedures) P.main
