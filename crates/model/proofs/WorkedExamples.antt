-- Document 01's worked examples (its soundings), by computation from byte strings: A to L as one theorem over one table, of the
-- definitions that the public operations equal; the examples without a letter, and those of document 02.
use mathlib.Core.Path.{◌≡◌, refl}
use mathlib.Core.List.{List, [], ◌∷◌, ◌++◌, map, flat_map}
use Prim.Native.Nat.{ℕ, zero, suc, ◌+◌, ◌*◌}
use lib.IntN.{ℤ, pos, negsuc}
use lib.ListN.{length}
use Rattle.arith.specs.declared.Cause.{Cause}
use Rattle.arith.specs.declared.Cause.TheVariants.{Above, Below, NoDivisor}
use Rattle.arith.specs.Step.{Outcome, value, overflow}
use Rattle.arith.specs.Types
use Rattle.arith.specs.Words
use Rattle.model.specs.Refusals.{Out, ok, refused, ◌>>=◌, mapped, wrong_blocks, too_many_conjuncts, never_settles, too_many_combinations, blank_field, wrong_procedures}
use Rattle.model.specs.Bytes.{bytes4}
use Rattle.model.specs.Fields.{Field, field_bytes, whole_field}
use Rattle.model.specs.Values.{Operation, add, sub, mul, div}
use Rattle.model.specs.Code.{plain, site, assign, copy, Code, done, step, branch, loop, if, else, end, while, tree_of}
use Rattle.model.specs.Conjunct.{field, Node, const, atom, var, op, conv, Conjuncts, atoms}
use Rattle.model.specs.Condition.{Condition, encode, read_condition, analysis}
use Rattle.model.specs.Input.{read_input}
use Rattle.model.specs.Sizes.{most_rounds}
use Rattle.model.specs.Walk.{rounds, walk}
use Rattle.model.specs.Filter.{evaluate, combinations_of, value_in}
use Rattle.model.specs.Failure.{Found, nothing, found, verdict}
use Rattle.model.specs.Bytes
use Rattle.model.specs.Code
use Rattle.model.specs.Condition
use Rattle.model.specs.Conjunct
use Rattle.model.specs.Decimal
use Rattle.model.specs.Failure
use Rattle.model.specs.Fields
use Rattle.model.specs.Filter
use Rattle.model.specs.Inlined
use Rattle.model.specs.Input
use Rattle.model.specs.Kinds
use Rattle.model.specs.Listing
use Rattle.model.specs.Lists
use Rattle.model.specs.OldForm
use Rattle.model.specs.Procedures
use Rattle.model.specs.Program
use Rattle.model.specs.Run
use Rattle.model.specs.Values
use Rattle.model.specs.Walk

-- ---- the definitions, with all that they are made of open

-- to unfold this is to unfold all that they are made of
definitions : Type 0
unfolding Bytes.bytes2 Bytes.bytes4 Bytes.bytes8 Bytes.entries Bytes.chained Code.taking Code.opened Code.tree_of Condition.conjunct_bytes
    Condition.pair_bytes Condition.encode Condition.analysis Condition.node_at Condition.node_right_lem Condition.type_node Condition.type_nodes
    Condition.whole Condition.numbered Condition.rising Condition.read_condition Conjunct.source_bytes Conjunct.bytes Conjunct.order_numbers
    Conjunct.order_nodes Conjunct.order Conjunct.with_conjunct Conjunct.union_of Conjunct.same Conjunct.long Conjunct.limits Conjunct.same_source_lem
    Conjunct.same_atom Conjunct.without Conjunct.atoms Conjunct.rank Conjunct.renamed Conjunct.renumber Decimal.digits Decimal.places
    Decimal.decimal Decimal.number Filter.evaluate Filter.combinations Filter.value_in Filter.combinations_of Filter.holds Filter.product_of
    Filter.few_combinations Filter.has_readings Failure.first Failure.failure_in Failure.verdict Input.width Input.bits_at Input.reading_at_lem
    Input.readings_of Input.lengths_right Input.in_bits_lem Input.bits_right_lem Input.read_input Listing.type_text_lem Listing.operation_text Listing.atom_text Listing.node_name
    Listing.node_type Listing.node_text_lem Listing.line_text Listing.lines_from Listing.listing_text Listing.refusal_text Listing.listing Kinds.kind_of
    Lists.every Fields.field_right Program.layout_of Program.tables_with Program.tables_at Program.sections_in Program.counts_right_lem Program.types_right_lem Program.form_right_lem
    OldForm.old_tables OldForm.read_old OldForm.new_table OldForm.new_form OldForm.convert
    Program.procedure_form_lem Program.call_form_lem Program.all_alike Program.call_alike Program.types_agree_lem Program.immediate_right_lem Program.stmt_of
    Program.item_of Program.program_of Program.read_outline Program.read_program Procedures.passing Procedures.open_after Procedures.parts_from
    Procedures.procedure_right_lem Procedures.procedures_right_lem Procedures.all_apart_lem Procedures.parts_right_lem Inlined.inlined Inlined.entering
    Inlined.expansion Inlined.expansions Inlined.rows_of Run.reading Run.exec Run.logged Run.due Run.settled Run.execute Run.record_bytes
    Run.written Run.ran_of Run.run Values.operated Values.converted Walk.nodes Walk.replace
    Walk.on_array Walk.loads Walk.swap Walk.swap_all Walk.subsets Walk.before Walk.gather Walk.back Walk.rounds Walk.walk Walk.here Walk.sites
    Walk.zeroed Walk.start Walk.join Walk.derived Types.bits Types.signed Types.depth Types.height Words.wide_of Words.word_of Words.value_at
    Words.immediate mathlib.Core.List.flat_map
definitions = Unit {0}

-- the analysis
derive : List ℕ → Out (List ℕ)
unfolding definitions
derive program = analysis program

-- the condition file of a set, with fields of these types that have all their bits
file : List ℕ → Conjuncts → List ℕ
unfolding definitions
file types S = encode (map whole_field types) S

-- the listing of a condition file
text : List ℕ → List ℕ
unfolding definitions
text condition = Listing.listing condition

-- the filter
check : List ℕ → List ℕ → Out (Found Cause)
unfolding definitions
check condition input = verdict condition input

-- the run
ran : List ℕ → List ℕ → ℕ → List ℕ → List ℕ → Out Run.Ran
unfolding definitions
ran program input limit choices log = Run.run program input limit choices log

-- the evaluation of each conjunct at each combination
values : List ℕ → List ℕ → Out (List (List Outcome))
unfolding definitions
values condition input =
    read_condition condition >>= λ C. read_input C.fields input >>= λ I.
    ok (map (λ e. map (λ zs. evaluate (value_in (atoms e) zs) e []) (combinations_of I e)) C.conjuncts)

-- ---- files

-- the first reading of a field
abbrev reading : ℕ → ℕ → Node
reading f ty = atom (record { src = field f ty; n = 1 })

-- an input of two fields of 4 bytes with one reading each
two : ℕ → ℕ → List ℕ
unfolding Bytes.bytes4
two a b = bytes4 16 ++ bytes4 4 ++ bytes4 20 ++ bytes4 4 ++ bytes4 a ++ bytes4 b

-- of one such field
one : ℕ → List ℕ
unfolding Bytes.bytes4
one a = bytes4 8 ++ bytes4 4 ++ bytes4 a

-- a statement: kind, a, b, c and an immediate below 256
abbrev statement : ℕ → ℕ → ℕ → ℕ → ℕ → List ℕ
statement k a b c i = k ∷ a ∷ b ∷ c ∷ i ∷ 0 ∷ 0 ∷ 0 ∷ []

-- a program file: fields and types of variables, 4 bytes for each array, statements
program_of : List Field → List ℕ → List ℕ → List (List ℕ) → List ℕ
unfolding Bytes.bytes4 mathlib.Core.List.flat_map
program_of fields variables arrays statements =
    let a = 32 + 2 * length fields in
    let b = a + length variables in
    let c = b + length arrays in
    bytes4 32 ++ bytes4 (2 * length fields) ++ bytes4 a ++ bytes4 (length variables) ++ bytes4 b ++ bytes4 (length arrays)
    ++ bytes4 c ++ bytes4 (8 * length statements) ++ flat_map field_bytes fields ++ variables ++ arrays ++ flat_map (λ s. s) statements

-- with fields of these types that have all their bits
program : List ℕ → List ℕ → List ℕ → List (List ℕ) → List ℕ
unfolding program_of
program types variables arrays statements = program_of (map whole_field types) variables arrays statements

-- ---- A to L

-- the values and the filter's answer, or the condition file
data Answer : Type 0 where
  filtered : Out (List (List Outcome)) → Out (Found Cause) → Answer
  derives : Out (List ℕ) → Answer

record Example : Type 0 where
  answer : Answer
  expected : Answer

-- two readings and an operation of a type of 4 bytes
operation : Operation → ℕ → ℕ → ℕ → Answer
operation o ty a b =
    let condition = file (ty ∷ ty ∷ []) ((reading 0 ty ∷ reading 1 ty ∷ op o ty ∷ []) ∷ []) in
    filtered (values condition (two a b)) (check condition (two a b))

-- a reading of a type of 4 bytes and its conversion
conversion : ℕ → ℕ → ℕ → Answer
conversion from ty a =
    let condition = file (from ∷ []) ((reading 0 from ∷ conv ty ∷ []) ∷ []) in
    filtered (values condition (one a)) (check condition (one a))

-- v0 = 5; array 0 at v1 = v0; v2 = array 0 at v1; site v2
stored : ℕ → Answer
stored len =
    derives (derive (program [] (0 ∷ 0 ∷ 0 ∷ []) (0 ∷ 0 ∷ len ∷ 0 ∷ [])
    (statement 0 0 0 0 5 ∷ statement 9 0 1 0 0 ∷ statement 8 2 0 1 0 ∷ statement 10 2 0 0 0 ∷ [])))

-- passes with this value
abbrev pass : ℤ → Answer
pass z = filtered (ok ((value z ∷ []) ∷ [])) (ok nothing)

-- is held
abbrev held : Cause → Answer
held c = filtered (ok ((overflow c ∷ []) ∷ [])) (ok (found c))

abbrev example : Answer → Answer → Example
example f e = record { answer = f; expected = e }

-- type codes: u16 is 1, u32 is 2, i32 is 6; readings as the 4 bytes of an input
examples : List Example
unfolding operation conversion stored
examples =
    example (operation mul 6 46340 46340) (pass (pos 2147395600))  -- A
    ∷ example (operation mul 6 46341 46341) (held Above)  -- B
    ∷ example (operation mul 2 65535 65535) (pass (pos 4294836225))  -- C
    ∷ example (operation sub 6 2147483648 0) (pass (negsuc 2147483647))  -- D
    ∷ example (operation sub 6 2147483648 1) (held Below)  -- E
    ∷ example (operation div 6 2147483648 4294967295) (held Above)  -- F
    ∷ example (operation div 6 4294967289 2) (pass (negsuc 2))  -- G
    ∷ example (conversion 2 1 65535) (pass (pos 65535))  -- H
    ∷ example (conversion 2 1 65536) (held Above)  -- I
    ∷ example (conversion 6 2 4294967295) (held Below)  -- J
    ∷ example (stored 1) (derives (ok (file [] ((const 0 5 ∷ []) ∷ []))))  -- K
    ∷ example (stored 2) (derives (ok (file [] ((const 0 0 ∷ []) ∷ (const 0 5 ∷ []) ∷ []))))  -- L
    ∷ []

worked_examples : map (λ x. x.answer) examples ≡ map (λ x. x.expected) examples
unfolding examples operation conversion stored derive file check values program two one
worked_examples = refl

-- ---- examples without a letter

-- read v0 f0; v2 = v0 to u32; read v1 f0; v3 = v1 to u32; v4 = v2 × v3; site v4
listing : derive (program (1 ∷ []) (1 ∷ 1 ∷ 2 ∷ 2 ∷ 2 ∷ []) []
    (statement 7 0 0 0 0 ∷ statement 6 2 0 0 0 ∷ statement 7 1 0 0 0 ∷ statement 6 3 1 0 0 ∷ statement 4 4 2 3 0 ∷ statement 10 4 0 0 0 ∷ []))
    ≡ ok (file (1 ∷ []) ((reading 0 1 ∷ conv 2 ∷ atom (record { src = field 0 1; n = 2 }) ∷ conv 2 ∷ op mul 2 ∷ []) ∷ []))
unfolding derive program file
listing = refl

-- what is printed of it: "conjuncts 1" and "0: f0<1>:u16 to:u32 f0<2>:u16 to:u32 mul:u32"
printed : text (file (1 ∷ []) ((reading 0 1 ∷ conv 2 ∷ atom (record { src = field 0 1; n = 2 }) ∷ conv 2 ∷ op mul 2 ∷ []) ∷ [])) ≡
    99 ∷ 111 ∷ 110 ∷ 106 ∷ 117 ∷ 110 ∷ 99 ∷ 116 ∷ 115 ∷ 32 ∷ 49 ∷ 10 ∷ 48 ∷ 58 ∷ 32 ∷ 102 ∷ 48 ∷ 60 ∷ 49 ∷ 62 ∷ 58 ∷ 117 ∷ 49 ∷ 54 ∷ 32 ∷ 116 ∷
    111 ∷ 58 ∷ 117 ∷ 51 ∷ 50 ∷ 32 ∷ 102 ∷ 48 ∷ 60 ∷ 50 ∷ 62 ∷ 58 ∷ 117 ∷ 49 ∷ 54 ∷ 32 ∷ 116 ∷ 111 ∷ 58 ∷ 117 ∷ 51 ∷ 50 ∷ 32 ∷ 109 ∷ 117 ∷ 108 ∷
    58 ∷ 117 ∷ 51 ∷ 50 ∷ 10 ∷ []
unfolding text file
printed = refl

-- constants and another operation: "conjuncts 1" and "0: -5:i8 12:i8 sub:i8"
constants_printed : text (file [] ((const 4 4294967291 ∷ const 4 12 ∷ op sub 4 ∷ []) ∷ [])) ≡
    99 ∷ 111 ∷ 110 ∷ 106 ∷ 117 ∷ 110 ∷ 99 ∷ 116 ∷ 115 ∷ 32 ∷ 49 ∷ 10 ∷ 48 ∷ 58 ∷ 32 ∷ 45 ∷ 53 ∷ 58 ∷ 105 ∷ 56 ∷ 32 ∷ 49 ∷ 50 ∷ 58 ∷ 105 ∷ 56 ∷
    32 ∷ 115 ∷ 117 ∷ 98 ∷ 58 ∷ 105 ∷ 56 ∷ 10 ∷ []
unfolding text file
constants_printed = refl

-- of a file that is no condition: "refused 12"
refusal_printed : text [] ≡ 114 ∷ 101 ∷ 102 ∷ 117 ∷ 115 ∷ 101 ∷ 100 ∷ 32 ∷ 49 ∷ 50 ∷ 10 ∷ []
unfolding text
refusal_printed = refl

-- v1 = 1; while v2: v0 = v0 + v1; end; site v0
counting : derive (program [] (0 ∷ 0 ∷ 0 ∷ []) []
    (statement 0 1 0 0 1 ∷ statement 14 2 0 0 0 ∷ statement 2 0 0 1 0 ∷ statement 13 0 0 0 0 ∷ statement 10 0 0 0 0 ∷ [])) ≡ refused never_settles
unfolding derive program
counting = refl

-- while v0: v0 = v1; v1 = v2; … ; end; site v0: each round takes one link more
links : ℕ → ℕ → List (List ℕ)
links v zero = statement 13 0 0 0 0 ∷ statement 10 0 0 0 0 ∷ []
links v (suc n) = statement 1 v (suc v) 0 0 ∷ links (suc v) n

zeros : ℕ → List ℕ
zeros zero = []
zeros (suc n) = 0 ∷ zeros n

-- S(16) equal to S(15) is accepted
settles : derive (program [] (zeros 16) [] (statement 14 0 0 0 0 ∷ links 0 15)) ≡ ok (file [] ((const 0 0 ∷ []) ∷ []))
unfolding derive program file links zeros
settles = refl

-- one link more is not
one_more : derive (program [] (zeros 17) [] (statement 14 0 0 0 0 ∷ links 0 16)) ≡ refused never_settles
unfolding derive program links zeros
one_more = refl

-- v0 = v1; v1 = v2; … ; v16 = v17 as the body of a while
chain : ℕ → ℕ → Code
chain v zero = done
chain v (suc n) = step v (assign v 0 (copy (suc v))) (chain (suc v) n)

-- how many conjuncts the while comes to, from these variables
closed : List ℕ → Out ℕ
unfolding definitions
closed vs = mapped length (rounds most_rounds (walk (chain 0 17)) (map (λ v. var v 0 ∷ []) vs) (map (λ v. var v 0 ∷ []) vs))

-- v0 alone does not settle in 16 rounds, v0 and v9 together do: of two sites each is walked by itself
part_alone : closed (0 ∷ []) ≡ refused never_settles
unfolding closed chain
part_alone = refl

both_together : closed (0 ∷ 9 ∷ []) ≡ ok 18
unfolding closed chain
both_together = refl

-- array 0 at v0 = v0; v1 to v7 = array 0 at v0; v1 = v1 + v2; … ; site v1: seven loads of a long array in one conjunct
seven_loads : derive (program [] (zeros 8) (0 ∷ 0 ∷ 2 ∷ 0 ∷ [])
    (statement 9 0 0 0 0
    ∷ statement 8 1 0 0 0 ∷ statement 8 2 0 0 0 ∷ statement 8 3 0 0 0 ∷ statement 8 4 0 0 0 ∷ statement 8 5 0 0 0 ∷ statement 8 6 0 0 0 ∷ statement 8 7 0 0 0
    ∷ statement 2 1 1 2 0 ∷ statement 2 1 1 3 0 ∷ statement 2 1 1 4 0 ∷ statement 2 1 1 5 0 ∷ statement 2 1 1 6 0 ∷ statement 2 1 1 7 0
    ∷ statement 10 1 0 0 0 ∷ [])) ≡ refused too_many_conjuncts
unfolding derive program zeros
seven_loads = refl

-- 46,341 × 46,341 / 46,341 is held: every step is tested, and not only the last
each_step : check (file (6 ∷ 6 ∷ []) ((reading 0 6 ∷ reading 1 6 ∷ op mul 6 ∷ reading 0 6 ∷ op div 6 ∷ []) ∷ [])) (two 46341 46341) ≡ ok (found Above)
unfolding check file two
each_step = refl

-- no fields, no statements: the empty condition, and the empty input passes
no_fields : derive (program [] [] [] []) ≡ ok (file [] [])
unfolding derive program file
no_fields = refl

no_fields_pass : check (file [] []) [] ≡ ok nothing
unfolding check file
no_fields_pass = refl

-- ---- a field left blank

-- an input of two u8 fields with these readings
fields : List ℕ → List ℕ → List ℕ
unfolding Bytes.bytes4
fields zs ws = bytes4 16 ++ bytes4 (length zs) ++ bytes4 (16 + length zs) ++ bytes4 (length ws) ++ zs ++ ws

-- so many zeros, and these readings
zeros_and : ℕ → List ℕ → List ℕ
zeros_and n rest = fields (zeros n) rest

-- f0<k>, a u8
abbrev again : ℕ → Node
again k = atom (record { src = field 0 0; n = k })

-- f0<1> + f0<2> + f0<3>, of which 128 readings have 2,097,152 combinations; and f1<1> + 0 + 0, which stands behind it
three_atoms : List ℕ
three_atoms =
    file (0 ∷ 0 ∷ []) (
    (again 1 ∷ again 2 ∷ op add 0 ∷ again 3 ∷ op add 0 ∷ []) ∷ (reading 1 0 ∷ const 0 0 ∷ op add 0 ∷ const 0 0 ∷ op add 0 ∷ []) ∷ []
    )

-- 255 + 1, which overflows; and f0<1> + 0, which stands behind it
overflowing : List ℕ
overflowing = file (0 ∷ 0 ∷ []) ((const 0 255 ∷ const 0 1 ∷ op add 0 ∷ []) ∷ (again 1 ∷ const 0 0 ∷ op add 0 ∷ []) ∷ [])

-- 15 for a blank field that is read, and not for one that is not; in whatever conjunct, it comes before 14 and before a hold
blank_examples :
    check (file (0 ∷ 0 ∷ []) ((again 1 ∷ reading 1 0 ∷ op mul 0 ∷ []) ∷ [])) (zeros_and 1 [])
    ∷ check (file (0 ∷ 0 ∷ []) ((again 1 ∷ again 2 ∷ op mul 0 ∷ []) ∷ [])) (zeros_and 1 [])
    ∷ check three_atoms (zeros_and 128 [])
    ∷ check three_atoms (zeros_and 128 (7 ∷ []))
    ∷ check overflowing (zeros_and 0 [])
    ∷ check overflowing (zeros_and 1 [])
    ∷ []
    ≡ refused blank_field ∷ ok nothing ∷ refused blank_field ∷ refused too_many_combinations ∷ refused blank_field ∷ ok (found Above) ∷ []
unfolding check file zeros_and fields zeros three_atoms overflowing
blank_examples = refl

-- ---- the cause of the first failure

-- one conjunct over two u8 fields
abbrev conjunct : List Node → List ℕ
conjunct e = file (0 ∷ 0 ∷ []) (e ∷ [])

-- f0 - f1 with f0 1 and 0, f1 0, 1 and 2, fails first with 1 - 2, the last atom's reading changing fastest; f0 × f0 fails before 0 - f0
-- behind it; 16 × 16 behind 20 - 16 comes before 20 - 30; and 1 - f0 of the first conjunct before f0 + f0 of the next
first_failures :
    check (conjunct (again 1 ∷ reading 1 0 ∷ op sub 0 ∷ [])) (fields (1 ∷ 0 ∷ []) (0 ∷ 1 ∷ 2 ∷ []))
    ∷ check (conjunct (again 1 ∷ again 1 ∷ op mul 0 ∷ const 0 0 ∷ again 1 ∷ op sub 0 ∷ op add 0 ∷ [])) (fields (16 ∷ []) [])
    ∷ check (conjunct (again 1 ∷ reading 1 0 ∷ op sub 0 ∷ reading 1 0 ∷ reading 1 0 ∷ op mul 0 ∷ op add 0 ∷ [])) (fields (20 ∷ []) (16 ∷ 30 ∷ []))
    ∷ check (file (0 ∷ 0 ∷ []) ((const 0 1 ∷ again 1 ∷ op sub 0 ∷ []) ∷ (again 1 ∷ again 2 ∷ op add 0 ∷ []) ∷ [])) (fields (3 ∷ 200 ∷ []) [])
    ∷ []
    ≡ ok (found Below) ∷ ok (found Above) ∷ ok (found Above) ∷ ok (found Below) ∷ []
unfolding check file fields
first_failures = refl

-- -2,147,483,648 / -1 is above, and / 0 has no divisor, like 0 / 0; 4,294,967,295 to i8 is above, -1 to u32 below
causes_of : List Example
unfolding operation conversion
causes_of =
    example (operation div 6 2147483648 4294967295) (held Above)
    ∷ example (operation div 6 2147483648 0) (held NoDivisor)
    ∷ example (operation div 6 0 0) (held NoDivisor)
    ∷ example (conversion 2 4 4294967295) (held Above)
    ∷ example (conversion 6 2 4294967295) (held Below)
    ∷ []

causes : map (λ x. x.answer) causes_of ≡ map (λ x. x.expected) causes_of
unfolding causes_of operation conversion check values file two one
causes = refl

-- ---- block trees

-- if v0: site v1; else: while v2: site v3; end; end; site v4
nested : tree_of (if 0 ∷ plain (site 1 0) ∷ else ∷ while 2 ∷ plain (site 3 0) ∷ end ∷ end ∷ plain (site 4 0) ∷ [])
    ≡ ok (branch 0 0 (step 1 (site 1 0) done) (loop 3 2 (step 4 (site 3 0) done) done) (step 7 (site 4 0) done))
unfolding definitions
nested = refl

five_deep : tree_of (while 0 ∷ while 0 ∷ while 0 ∷ while 0 ∷ while 0 ∷ end ∷ end ∷ end ∷ end ∷ end ∷ []) ≡ refused wrong_blocks
unfolding definitions
five_deep = refl

no_else : tree_of (if 0 ∷ end ∷ []) ≡ refused wrong_blocks
unfolding definitions
no_else = refl

-- ---- procedures

-- the end of a procedure, or of a block
ending : List ℕ
ending = statement 13 0 0 0 0

-- procedure 0 of v1, v2 with one parameter: v2 = v1 + v1; v3 = 5; v0 = call 0 of v3; site v0
called-once : derive (program [] (zeros 4) []
    (statement 15 1 1 2 0 ∷ statement 2 2 1 1 0 ∷ ending ∷ statement 0 3 0 0 5 ∷ statement 16 0 0 0 3 ∷ statement 10 0 0 0 0 ∷ []))
    ≡ ok (file [] ((const 0 5 ∷ const 0 5 ∷ op add 0 ∷ []) ∷ []))
unfolding derive program file zeros ending
called-once = refl

-- procedure 0 of v1, v2: v2 = v2 + v1; v3 = 5; v0 = call 0 of v3; v0 = call 0 of v0; site v0. At each call v2 is 0 again
called_twice : derive (program [] (zeros 4) [] (
    statement 15 1 1 2 0 ∷ statement 2 2 2 1 0 ∷ ending
    ∷ statement 0 3 0 0 5 ∷ statement 16 0 0 0 3 ∷ statement 16 0 0 0 0 ∷ statement 10 0 0 0 0 ∷ []
    ))
    ≡ ok (file [] ((const 0 0 ∷ const 0 0 ∷ const 0 5 ∷ op add 0 ∷ op add 0 ∷ []) ∷ []))
unfolding derive program file zeros ending
called_twice = refl

-- a procedure that calls itself, and one that stands late
calls_itself : derive (program [] (zeros 2) [] (statement 15 0 0 1 0 ∷ statement 16 0 0 0 0 ∷ ending ∷ [])) ≡ refused wrong_procedures
unfolding derive program zeros ending
calls_itself = refl

stands_late : derive (program [] (zeros 2) [] (statement 10 1 0 0 0 ∷ statement 15 0 0 1 0 ∷ ending ∷ [])) ≡ refused wrong_procedures
unfolding derive program zeros ending
stands_late = refl

-- procedure 0 of v0: four whiles, each in the one before it
four_whiles : List (List ℕ)
four_whiles =
    statement 15 0 0 1 0 ∷ statement 14 0 0 0 0 ∷ statement 14 0 0 0 0 ∷ statement 14 0 0 0 0 ∷ statement 14 0 0 0 0
    ∷ ending ∷ ending ∷ ending ∷ ending ∷ ending ∷ []

-- called inside a while they are five deep; not called they are in order
too_deep : derive (program [] (zeros 2) [] (four_whiles ++ (statement 14 1 0 0 0 ∷ statement 16 1 0 0 0 ∷ ending ∷ []))) ≡ refused wrong_procedures
unfolding derive program zeros four_whiles ending
too_deep = refl

not-called : derive (program [] (zeros 2) [] four_whiles) ≡ ok (file [] [])
unfolding derive program file zeros four_whiles ending
not-called = refl

-- procedure 0 of v1, v2: site v1; v2 = v1 + v1; v3 = 5; v0 = call 0 of v3; v0 = call 0 of v0; site v0
two_calls : List ℕ
two_calls =
    program [] (zeros 4) [] (
    statement 15 1 1 2 0 ∷ statement 10 1 0 0 0 ∷ statement 2 2 1 1 0 ∷ ending
    ∷ statement 0 3 0 0 5 ∷ statement 16 0 0 0 3 ∷ statement 16 0 0 0 0 ∷ statement 10 0 0 0 0 ∷ []
    )

-- its log: the site in the procedure under its own label at each call
two_calls-log : List ℕ
two_calls-log =
    (1 ∷ 0 ∷ 0 ∷ 0 ∷ 5 ∷ zeros 7) ++ (1 ∷ 0 ∷ 0 ∷ 0 ∷ 10 ∷ zeros 7) ++ (7 ∷ 0 ∷ 0 ∷ 0 ∷ 20 ∷ zeros 7)

-- each call is a step, and none of its assignments is
run_two_calls : ran two_calls [] 100 [] (zeros 36) ≡ ok (record { end = 0; steps = 8; records = 3; log = two_calls-log })
unfolding ran two_calls two_calls-log zeros program ending
run_two_calls = refl

-- so a limit of these steps is enough
run_to_the_end : ran two_calls [] 8 [] (zeros 36) ≡ ok (record { end = 0; steps = 8; records = 3; log = two_calls-log })
unfolding ran two_calls two_calls-log zeros program ending
run_to_the_end = refl

-- ---- fields narrower than their type (document 02, card 5)

-- a field of a type with so many bits
abbrev narrow : ℕ → ℕ → Field
narrow ty n = record { ty = ty; size = 128 + n }

-- a condition that says nothing of one field
nothing_of : Field → List ℕ
unfolding definitions
nothing_of F = encode (F ∷ []) []

-- a sheet of one field with one reading of one byte, and of two
byte_sheet : ℕ → List ℕ
unfolding Bytes.bytes4
byte_sheet b = bytes4 8 ++ bytes4 1 ++ (b ∷ [])

pair_sheet : ℕ → ℕ → List ℕ
unfolding Bytes.bytes4
pair_sheet b c = bytes4 8 ++ bytes4 2 ++ (b ∷ c ∷ [])

-- 15 and 16 in u8 of 4 bits; -1, 0 and 1 in i8 of 1 bit; 7, 8, -8 and -9 in i16 of 4 bits
narrow-readings :
    check (nothing_of (narrow 0 4)) (byte_sheet 15) ∷ check (nothing_of (narrow 0 4)) (byte_sheet 16)
    ∷ check (nothing_of (narrow 4 1)) (byte_sheet 255) ∷ check (nothing_of (narrow 4 1)) (byte_sheet 0) ∷ check (nothing_of (narrow 4 1)) (byte_sheet 1)
    ∷ check (nothing_of (narrow 5 4)) (pair_sheet 7 0) ∷ check (nothing_of (narrow 5 4)) (pair_sheet 8 0)
    ∷ check (nothing_of (narrow 5 4)) (pair_sheet 248 255) ∷ check (nothing_of (narrow 5 4)) (pair_sheet 247 255) ∷ []
    ≡ ok nothing ∷ refused 13 ∷ ok nothing ∷ ok nothing ∷ refused 13 ∷ ok nothing ∷ refused 13 ∷ ok nothing ∷ refused 13 ∷ []
unfolding check nothing_of byte_sheet pair_sheet
narrow-readings = refl

-- no bits, a bit too many, and a second byte of the old form: 4 in a program, 12 in a condition
wrong_bits :
    map (λ F. derive (program_of (F ∷ []) [] [] [])) (narrow 0 0 ∷ narrow 0 9 ∷ record { ty = 0; size = 127 } ∷ record { ty = 0; size = 0 } ∷ [])
    ++ map (λ F. mapped (λ v. []) (check (nothing_of F) (byte_sheet 0))) (narrow 0 0 ∷ narrow 0 9 ∷ record { ty = 0; size = 127 } ∷ [])
    ≡ refused 4 ∷ refused 4 ∷ refused 4 ∷ refused 4 ∷ refused 12 ∷ refused 12 ∷ refused 12 ∷ []
unfolding derive program_of check nothing_of byte_sheet
wrong_bits = refl

-- ---- the converter

-- the new file of an old one
renew : List ℕ → Out (List ℕ)
unfolding definitions
renew old = OldForm.convert old

-- a file of the old form: types of fields and variables, statements
old_program : List ℕ → List ℕ → List (List ℕ) → List ℕ
unfolding Bytes.bytes4 mathlib.Core.List.flat_map
old_program fields variables statements =
    let a = 32 + length fields in
    let b = a + length variables in
    bytes4 32 ++ bytes4 (length fields) ++ bytes4 a ++ bytes4 (length variables) ++ bytes4 b ++ bytes4 0
    ++ bytes4 b ++ bytes4 (8 * length statements) ++ fields ++ variables ++ flat_map (λ s. s) statements

-- the program of the listing's example: its field gets all its bits, and what stands behind it comes a byte later
example_converted :
    renew (old_program (1 ∷ []) (1 ∷ 1 ∷ 2 ∷ 2 ∷ 2 ∷ []) (statement 7 0 0 0 0 ∷ []))
    ≡ ok (program (1 ∷ []) (1 ∷ 1 ∷ 2 ∷ 2 ∷ 2 ∷ []) [] (statement 7 0 0 0 0 ∷ []))
unfolding renew old_program program program_of
example_converted = refl

-- without fields nothing changes; 33 fields are too many, and 8 is no type
others-converted :
    renew (old_program [] (0 ∷ []) []) ∷ renew (old_program (zeros 33) [] []) ∷ renew (old_program (8 ∷ []) [] []) ∷ []
    ≡ ok (old_program [] (0 ∷ []) []) ∷ refused 3 ∷ refused 4 ∷ []
unfolding renew old_program zeros
others-converted = refl
