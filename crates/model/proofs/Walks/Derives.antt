-- Every conjunct on the walk is one whole expression in which types agree, and names only what the program's tables have;
-- so every conjunct that the analysis derives may stand in a condition file.
use mathlib.Core.Path.{◌≡◌, refl, sym, ◌∙◌, ap, subst, fun_ext}
use mathlib.Core.Bool.{Bool, true, false, cond}
use mathlib.Core.List.{List, [], ◌∷◌, ◌++◌, map, flat_map}
use Prim.Native.Nat.{ℕ, ◌<◌}
use lib.Dec.{eqb}
use lib.ListN.{length-map}
use borrow.Author.Tests.{eqb-true}
use Rattle.arith.specs.Step.{fits}
use Rattle.arith.specs.Words.{immediate}
use Rattle.arith.proofs.WrapLaws.{fits-zero, immediate-zero}
use Rattle.model.specs.Lists.{All}
use Rattle.model.specs.Refusals.{ok, ◌>>=◌}
use Rattle.model.specs.Code.{Right, number, copy, calc, change, read, load, Instr, assign, store, site}
use Rattle.model.specs.Fields.{types_in}
use Rattle.model.specs.Program.{Program, Tables, variable_type_lem, array_of, read_program}
use Rattle.model.specs.Conjunct.{Source, field, cell, Atom, Node, const, atom, var, op, conv, Conj, Conjuncts, same_atom, atoms, renamed, on_atom_lem, renumber}
use Rattle.model.specs.Walk.{nodes, replace, on_array, loads, swap, swap_all, subsets, before, zeroed, derived}
use Rattle.model.specs.Condition.{source_type, type_node, type_nodes, single, whole}
use Rattle.model.specs.Formed.{FileNode, Whole, Formed}
use Rattle.model.specs.Typing.{TypedVar, TypedArray, TypedField, TypedRight, TypedInstr}
use Rattle.model.proofs.Conjuncts.Atoms.{atom_eq}
use Rattle.model.proofs.Files.Checked.{program_checked}
use Rattle.model.proofs.Procedures.Programs.{wide, program-typed}
use Rattle.model.proofs.Walks.Invariant.{derived-every}
use Rattle.model.proofs.Basics.Lists.{all_append}
use Rattle.model.proofs.Basics.Results.{bind_assoc, bind_self}
use Rattle.model.proofs.Basics.Tests.{case, true→T, and_left, eqb_self}

-- ---- whole expressions

-- nodes with the property N that may stand for a node: they leave the same types
record Stand (N : Node → Type 0) (v : Node) (d : List Node) : Type 0 where
  nodes : All N d
  types : (st : List ℕ) → type_nodes d st ≡ type_node v st

types-append : (d e : Conj) (st : List ℕ) → type_nodes (d ++ e) st ≡ (type_nodes d st >>= type_nodes e)
unfolding type_nodes
types-append [] e st = refl
types-append (v ∷ d) e st = ap (type_node v st >>=◌) (fun_ext (types-append d e)) ∙ sym (bind_assoc (type_node v st) (type_nodes d) (type_nodes e))

-- a node stands for itself
itself : (N : Node → Type 0) (v : Node) → N v → Stand N v (v ∷ [])
unfolding type_nodes
itself N v h = record { nodes = (h, tt); types = λ st. bind_self (type_node v st) }

-- where nodes with N stand for each node with M
module _ (M N : Node → Type 0) (g : Node → List Node) (stand : (v : Node) → M v → Stand N v (g v)) where
  nodes_flat : (e : Conj) → All M e → All N (flat_map g e)
  unfolding flat_map
  nodes_flat [] h = tt
  nodes_flat (v ∷ e) h = all_append N (g v) (flat_map g e) (stand v h.0).nodes (nodes_flat e h.1)

  types_flat : (e : Conj) → All M e → (st : List ℕ) → type_nodes (flat_map g e) st ≡ type_nodes e st
  unfolding flat_map type_nodes
  types_flat [] h st = refl
  types_flat (v ∷ e) h st =
      types-append (g v) (flat_map g e) st
      ∙ ap (◌>>= type_nodes (flat_map g e)) ((stand v h.0).types st) ∙ ap (type_node v st >>=◌) (fun_ext (types_flat e h.1))

  whole_flat : (e : Conj) → Whole M e → Whole N (flat_map g e)
  unfolding whole
  whole_flat e h = record { nodes = nodes_flat e h.nodes; one = ap single (types_flat e h.nodes []) ∙ h.one }

flat_map_lem : (g : Node → Node) (e : Conj) → flat_map (λ v. g v ∷ []) e ≡ map g e
unfolding flat_map
flat_map_lem g [] = refl
flat_map_lem g (v ∷ e) = ap (g v ∷◌) (flat_map_lem g e)

whole-map : (M N : Node → Type 0) (g : Node → Node) → ((v : Node) → M v → Stand N v (g v ∷ [])) → (e : Conj) → Whole M e → Whole N (map g e)
whole-map M N g stand e h = subst (Whole N) (flat_map_lem g e) (whole_flat M N (λ v. g v ∷ []) stand e h)

module _ (N : Node → Type 0) where
  whole-atoms : (g : Atom → Node) → ((a : Atom) → N (atom a) → Stand N (atom a) (g a ∷ [])) → (e : Conj) → Whole N e → Whole N (map (on_atom_lem g) e)
  whole-atoms g stand = whole-map N N (on_atom_lem g) at
    where
      at : (v : Node) → N v → Stand N v (on_atom_lem g v ∷ [])
      at (const ty i) h = itself N (const ty i) h
      at (atom a) h = stand a h
      at (var x ty) h = itself N (var x ty) h
      at (op o ty) h = itself N (op o ty) h
      at (conv ty) h = itself N (conv ty) h

  -- where N says nothing of the numbers of atoms
  whole-renumber : ((a : Atom) (n : ℕ) → N (atom a) → N (atom (record { src = a.src; n = n }))) → (e : Conj) → Whole N e → Whole N (renumber e)
  unfolding renumber renamed type_nodes type_node
  whole-renumber free e = whole-atoms (λ a. atom (renamed (atoms e) a)) (λ a h. record { nodes = (free a _ h, tt); types = λ st. refl }) e

-- ---- on the walk

module _ (T : Tables) where
  -- a field or an array of the type
  abbrev WalkSource : Source → Type 0
  WalkSource (field f ty) = TypedField T f ty
  WalkSource (cell l r k ty) = TypedArray T r ty

  -- a constant inside its type, such a source, a variable of the type, or an operation of a type
  abbrev WalkNode : Node → Type 0
  WalkNode (const ty i) = (ty < 8) × (fits ty (immediate ty i) ≡ true)
  WalkNode (atom a) = WalkSource a.src
  WalkNode (var x ty) = TypedVar T x ty
  WalkNode (op o ty) = ty < 8
  WalkNode (conv ty) = ty < 8

  site-whole : (a ty : ℕ) → TypedVar T a ty → Whole WalkNode (var a ty ∷ [])
  unfolding whole type_nodes type_node
  site-whole a ty h = record { nodes = (h, tt); one = refl }

  -- ---- assignments

  right-stands : (l a ty : ℕ) (r : Right) → ty < 8 → TypedRight T ty r → Stand WalkNode (var a ty) (nodes l ty r)
  unfolding nodes type_nodes type_node
  right-stands l a ty (number i) s h = record { nodes = ((s, h), tt); types = λ st. refl }
  right-stands l a ty (copy b) s h = record { nodes = (h, tt); types = λ st. refl }
  right-stands l a ty (calc o b c) s h = record { nodes = (h.0, (h.1, (s, tt))); types = λ st. rw (eqb_self ty) }
  right-stands l a ty (change b u) s h = record { nodes = (h, (s, tt)); types = λ st. refl }
  right-stands l a ty (read f) s h = record { nodes = (h, tt); types = λ st. refl }
  right-stands l a ty (load r k i) s h = record { nodes = (h.0, tt); types = λ st. refl }

  -- what stands for the variable in its type stands for it in each node
  replace-stands : (a ty : ℕ) (r : List Node) → variable_type_lem T a ≡ ty → Stand WalkNode (var a ty) r → (v : Node) → WalkNode v → Stand WalkNode v (replace a r v)
  unfolding replace type_nodes type_node
  replace-stands a ty r t s (const u i) h = itself WalkNode (const u i) h
  replace-stands a ty r t s (atom b) h = record { nodes = (h, tt); types = λ st. refl }
  replace-stands a ty r t s (var x u) h =
      case (eqb x a) (λ z. Stand WalkNode (var x u) (cond z r (var x u ∷ [])))
      (λ p. record { nodes = s.nodes; types = λ st. s.types st ∙ ap (λ w. ok (w ∷ st)) (sym t ∙ ap (variable_type_lem T) (sym (eqb-true x a p)) ∙ h.0) })
      (λ p. itself WalkNode (var x u) h)
  replace-stands a ty r t s (op o u) h = itself WalkNode (op o u) h
  replace-stands a ty r t s (conv u) h = itself WalkNode (conv u) h

  -- ---- stores

  module _ (t k x ty : ℕ) (array : TypedArray T t ty) (variable : TypedVar T x ty) where
    abbrev Load : Atom → Type 0
    Load a = on_array t k a.src ≡ true

    load-type : (s : Source) → on_array t k s ≡ true → WalkSource s → ty ≡ source_type s
    unfolding on_array
    load-type (field f u) p h = absurd (true→T p)
    load-type (cell l r j u) p h = sym array.0 ∙ ap (λ z. (array_of T z).ty) (sym (eqb-true r t (and_left (eqb r t) (eqb j k) p))) ∙ h.0

    -- the variable stands for a load, and so for each atom where only loads pass the test
    put-stands : (b : Bool) (a : Atom) → (b ≡ true → Load a) → WalkNode (atom a) → Stand WalkNode (atom a) (cond b (var x ty) (atom a) ∷ [])
    unfolding type_nodes type_node
    put-stands true a p h = record { nodes = (variable, tt); types = λ st. ap (λ w. ok (w ∷ st)) (load-type a.src (p refl) h) }
    put-stands false a p h = itself WalkNode (atom a) h

    put_whole : (test : Atom → Bool) → ((a : Atom) → test a ≡ true → Load a) → (e : Conj) → Whole WalkNode e → Whole WalkNode (map (on_atom_lem (λ a. cond (test a) (var x ty) (atom a))) e)
    put_whole test f = whole-atoms WalkNode (λ a. cond (test a) (var x ty) (atom a)) (λ a. put-stands (test a) a (f a))

    subsets-whole : (ks : List Atom) → All Load ks → (e : Conj) → Whole WalkNode e → All (Whole WalkNode) (subsets ks x ty e)
    unfolding subsets swap
    subsets-whole [] q e h = (h, tt)
    subsets-whole (a ∷ ks) q e h =
        let swapped = put_whole (λ b. same_atom b a) (λ b p. ap (λ c. on_array t k c.src) (atom_eq b a p) ∙ q.0) e h in
        all_append (Whole WalkNode) (subsets ks x ty e) (subsets ks x ty (swap a x ty e)) (subsets-whole ks q.1 e h) (subsets-whole ks q.1 (swap a x ty e) swapped)

    loads_on : (ks : List Atom) → All Load (loads t k ks)
    unfolding loads
    loads_on [] = tt
    loads_on (a ∷ ks) =
        let ih = loads_on ks in
        case (on_array t k a.src) (λ z. All Load (cond z (a ∷ loads t k ks) (loads t k ks))) (λ p. (p, ih)) (λ p. ih)

    store-whole : (e : Conj) → Whole WalkNode e → All (Whole WalkNode) (cond (eqb k 1) (swap_all t k x ty e ∷ []) (subsets (loads t k (atoms e)) x ty e))
    unfolding swap_all
    store-whole e h =
        case (eqb k 1) (λ z. All (Whole WalkNode) (cond z (swap_all t k x ty e ∷ []) (subsets (loads t k (atoms e)) x ty e)))
        (λ p. (put_whole (λ a. on_array t k a.src) (λ a q. q) e h, tt)) (λ p. subsets-whole (loads t k (atoms e)) (loads_on (atoms e)) e h)

  before-whole : (l : ℕ) (i : Instr) → TypedInstr T i → (e : Conj) → Whole WalkNode e → All (Whole WalkNode) (before l i e)
  unfolding before
  before-whole l (assign a ty r) t e h =
      (whole_flat WalkNode WalkNode (replace a (nodes l ty r)) (replace-stands a ty (nodes l ty r) t.0.0 (right-stands l a ty r t.0.1 t.1)) e h, tt)
  before-whole l (store r k i x ty) t e h = store-whole r k x ty t.0 t.1 e h
  before-whole l (site a ty) t e h = (h, tt)

  -- ---- the program's start

  abbrev InFile : Node → Type 0
  InFile = FileNode (types_in T.fields)

  zero-stands : (v : Node) (ty : ℕ) → ty < 8 → ((st : List ℕ) → type_node v st ≡ ok (ty ∷ st)) → Stand InFile v (const ty 0 ∷ [])
  unfolding type_nodes type_node
  zero-stands v ty s h = record { nodes = ((s, rw (immediate-zero ty) (fits-zero ty)), tt); types = λ st. sym (h st) }

  zeroed-source : (s : Source) (n : ℕ) → WalkSource s → Stand InFile (atom (record { src = s; n = n })) (zeroed (atom (record { src = s; n = n })) ∷ [])
  unfolding zeroed type_node
  zeroed-source (field f ty) n h = itself InFile (atom (record { src = field f ty; n = n })) (rw (length-map T.fields (λ F. F.ty)) h.1, sym h.0)
  zeroed-source (cell l r k ty) n h = zero-stands (atom (record { src = cell l r k ty; n = n })) ty h.1 (λ st. refl)

  zeroed-stands : (v : Node) → WalkNode v → Stand InFile v (zeroed v ∷ [])
  unfolding zeroed type_node
  zeroed-stands (const ty i) h = itself InFile (const ty i) h
  zeroed-stands (atom a) h = zeroed-source a.src a.n h
  zeroed-stands (var x ty) h = zero-stands (var x ty) ty h.1 (λ st. refl)
  zeroed-stands (op o ty) h = itself InFile (op o ty) h
  zeroed-stands (conv ty) h = itself InFile (conv ty) h

-- every conjunct that the analysis derives from a program that is read may stand in a condition file
pub derived-formed : (s : List ℕ) (P : Program) (S : Conjuncts) → read_program s ≡ ok P → derived P.code ≡ ok S → All (Formed (types_in P.tables.fields)) S
derived-formed s P S p d =
    let c = program_checked s P p in
    let T = wide s P c in
    derived-every (Whole (InFile T)) (Whole (WalkNode T)) (TypedInstr T) (whole-renumber (InFile T) (λ a n h. h)) (whole-renumber (WalkNode T) (λ a n h. h))
    (site-whole T) (before-whole T) (whole-map (WalkNode T) (InFile T) zeroed (zeroed-stands T)) P.code (program-typed s P c) S d
