-- `program::own_variables::names_of` meets its contract.
use Rattle.std.proofs.Common.{◌≡◌, ◌⊎◌, inl, inr, arith, ◌∙◌, ap, sym}
use Rattle.model.specs.Kinds.{kind_of}
use Rattle.model.specs.Procedures.{named}
use Rattle.model.specs.Program.{item_of, stmt_of}
use Rattle.program.specs.Numbers.{number_kind, read_kind, site_kind, if_kind, while_kind}
use Rattle.program.specs.Reading.{entry_of}
use Rattle.program.proofs.Items.{item_call, is_operation}
use Rattle.program.proofs.own_variables.Naming.{names-none}
use Rattle.program.proofs.own_variables.names_of.Goals as goal

pub returns-in-0 : goal.returns-in-0
unfolding item_of stmt_of kind_of
returns-in-0 c =
    let k = c.args.q.kind in
    let same = c.few-in-0.ensures.same in
    let kind : (k ≡ number_kind) ⊎ ((k ≡ read_kind) ⊎ ((k ≡ site_kind) ⊎ ((k ≡ if_kind) ⊎ (k ≡ while_kind)))) = grind arith in
    record {
      same = elim kind [ inl e ↦ rw e same | inr l ↦ elim l [ inl e ↦ rw e same | inr m ↦ elim m [ inl e ↦ rw e same | inr n ↦ elim n [ inl e ↦ rw e same | inr e ↦ rw e same ] ] ] ];
      few = c.few-in-0.ensures.few;
    }

pub returns-in-1 : goal.returns-in-1
unfolding item_of stmt_of kind_of
returns-in-1 c =
    let same = c.few.ensures.same in
    record { same = elim c.in-1.is [ inl e ↦ rw e same | inr e ↦ rw e same ]; few = c.few.ensures.few }

pub returns-in-2 : goal.returns-in-2
unfolding item_of stmt_of
returns-in-2 c =
    let o = is_operation c.args.q.kind (grind arith) (grind arith) in
    record { same = rw (o.1, o.1) c.few-in-2.ensures.same; few = c.few-in-2.ensures.few }

pub returns-in-8 : goal.returns-in-8
unfolding item_of stmt_of kind_of
returns-in-8 c = record { same = rw c.in-8.is c.few-in-8.ensures.same; few = c.few-in-8.ensures.few }

pub returns-in-9 : goal.returns-in-9
unfolding item_of stmt_of kind_of
returns-in-9 c = record { same = rw c.in-9.is c.few-in-9.ensures.same; few = c.few-in-9.ensures.few }

pub returns-in-16 : goal.returns-in-16
returns-in-16 c =
    let q = entry_of c.args.q in
    record { same = c.call_names.ensures.same ∙ ap named (sym (item_call _ q c.in-16.is)); few = c.call_names.ensures.few }

pub returns-in_default : goal.returns-in_default
returns-in_default c =
    let q = entry_of c.args.q in
    record { same = c.few-in_default.ensures.same ∙ sym (names-none _ q (grind arith) (grind arith) (grind arith)); few = c.few-in_default.ensures.few }
