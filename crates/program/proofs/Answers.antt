-- The reader's answer as a chain of checks, 2 to 8 and 16; and what the answer to the middle ones says where they pass and where one refuses.
use mathlib.Core.Path.{◌≡◌, refl, sym, ap, ◌∙◌}
use mathlib.Core.Bool.{Bool, true, false}
use mathlib.Core.List.{List, []}
use Prim.Native.Nat.{ℕ}
use Rattle.model.specs.Lists.{every}
use Rattle.model.specs.Procedures.{open_after, all_closed, Parts, between, parts_from, parts_right_lem}
use Rattle.model.specs.Program.{Outline, layout_of, items_of, read_outline}
use Rattle.model.specs.Program.{sections_right, counts_right_lem, types_right_lem, form_right_lem, types_agree_lem, immediate_right_lem}
use Rattle.model.specs.Refusals.{Out, ok, refused, ◌>>=◌, mapped, check}
use Rattle.model.specs.Refusals.{wrong_sections, too_many_entries, wrong_types, wrong_statement, types_disagree, wrong_immediate, wrong_procedures}
use Rattle.model.proofs.Basics.Results.{check-mapped, mapped-check, mapped-ok, mapped-refused, refused-ok}
use Rattle.std.specs.Prelude.{Option, Some, None, Result, Ok, Err}
use Rattle.std.specs.Option.{ok_or}
use Rattle.refusals.specs.Answers.{number_of}
use Rattle.refusals.specs.declared.Refusal.{Refusal}
use Rattle.program.specs.Reading.{program_answer, bytes_answer, tables_of, procedure_checks, table_checks}

-- ---- a test, and the result that goes with it

pub check-ok : {A : Type 0} (b : Bool) (n : ℕ) (x y : A) → ok x ≡ check b n (ok y) → (b ≡ true) × (x ≡ y)
check-ok true n x y e = (refl, cc)
check-ok false n x y e = absurd (refused-ok n x (sym e))

pub check-refused : {A : Type 0} (b : Bool) (n m : ℕ) (y : A) → refused m ≡ check b n (ok y) → b ≡ false
check-refused true n m y e = cc
check-refused false n m y e = refl

-- a refusal that a test gave has the test's number
pub check-number : {A : Type 0} (b : Bool) (n m : ℕ) (y : A) → refused m ≡ check b n (ok y) → m ≡ n
check-number true n m y e = cc
check-number false n m y e = cc

-- what an option was, by the result that a refusal in place of None makes of it
pub taken_of : {A : Type 0} (o : Option A) (f : Refusal) (a : A) → Ok a ≡ ok_or o f → o ≡ Some a
taken_of None f a h = cc
taken_of (Some b) f a h = cc

-- where a test has refused, it refuses whatever follows it
pub handed_on : {A B : Type 0} (b : Bool) (n m : ℕ) (y : A) (o : Out B) → refused m ≡ check b n (ok y) → refused m ≡ check b n o
handed_on true n m y o h = absurd (refused-ok m y h)
handed_on false n m y o h = ap refused (check-number false n m y h)

-- ---- the whole

-- what follows a result, mapped
mapped_bind : {A B C : Type 0} (g : B → C) (o : Out A) (f : A → Out B) → mapped g (o >>= f) ≡ (o >>= λ a. mapped g (f a))
mapped_bind g (ok a) f = refl
mapped_bind g (refused n) f = refl

bind_same : {A B : Type 0} (o : Out A) (f g : A → Out B) → ((a : A) → f a ≡ g a) → (o >>= f) ≡ (o >>= g)
bind_same (ok a) f g h = h a
bind_same (refused n) f g h = refl

pub by_checks : (s : List ℕ) → mapped (λ O. s) (read_outline s) ≡ check (sections_right s) wrong_sections (table_checks s)
unfolding read_outline
by_checks s =
    let T = tables_of s in
    let g : Outline → List ℕ = λ O. s in
    let form = every (form_right_lem T) T.statements in
    let agree = every (types_agree_lem T) T.statements in
    let inside = every (immediate_right_lem T) T.statements in
    let right : Parts → Out Outline = λ P. check (parts_right_lem P) wrong_procedures (ok (record { tables = T; parts = P })) in
    let parts : Out Outline = parts_from 0 [] between (items_of T) >>= right in
    let blocks : Out Outline = open_after [] (items_of T) >>= all_closed >>= λ none. parts in
    let in₇ = check inside wrong_immediate blocks in
    let in₆ = check agree types_disagree in₇ in
    let in₅ = check form wrong_statement in₆ in
    let in₄ = check (types_right_lem T) wrong_types in₅ in
    let in₁₆ = mapped_bind g (parts_from 0 [] between (items_of T)) right
    ∙ bind_same (parts_from 0 [] between (items_of T)) (λ P. mapped g (right P)) (λ P. check (parts_right_lem P) wrong_procedures (ok s))
    (λ P. mapped-check g (parts_right_lem P) wrong_procedures (record { tables = T; parts = P })) in
    let in₈ = mapped_bind g (open_after [] (items_of T) >>= all_closed) (λ none. parts)
    ∙ bind_same (open_after [] (items_of T) >>= all_closed) (λ none. mapped g parts) (λ none. procedure_checks s) (λ none. in₁₆) in
    check-mapped g (sections_right s) wrong_sections (check (counts_right_lem T) too_many_entries in₄)
    ∙ ap (check (sections_right s) wrong_sections) (check-mapped g (counts_right_lem T) too_many_entries in₄
    ∙ ap (check (counts_right_lem T) too_many_entries) (check-mapped g (types_right_lem T) wrong_types in₅
    ∙ ap (check (types_right_lem T) wrong_types) (check-mapped g form wrong_statement in₆
    ∙ ap (check form wrong_statement) (check-mapped g agree types_disagree in₇
    ∙ ap (check agree types_disagree) (check-mapped g inside wrong_immediate blocks
    ∙ ap (check inside wrong_immediate) in₈)))))

-- where the sections are follows from the bytes
pub layout_by_bytes : (s : List ℕ) (r : Result (List ℕ) Refusal) → bytes_answer r ≡ mapped (λ O. s) (read_outline s)
    → program_answer r ≡ mapped (λ O. layout_of s) (read_outline s)
layout_by_bytes s (Ok t) h = let k = mapped-ok (λ O. s) (read_outline s) t (sym h) in rw k.1 (ap (λ u. ok (layout_of u)) (sym k.2))
layout_by_bytes s (Err n) h = sym (ap (mapped (λ O. layout_of s)) (mapped-refused (λ O. s) (read_outline s) (number_of n) h))
