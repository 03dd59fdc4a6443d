-- `writer::write` meets its contract: the five parts of the file are stored one behind the other (`Written.file_stored`).
use mathlib.Core.Path.{◌≡◌, sym, ap, ◌∙◌}
use mathlib.Core.List.{flat_map}
use Prim.Native.Nat.{◌+◌, ◌*◌, ◌≤◌}
use native.Mathlib.Omega.{arith}
use lib.ListN.{length}
use lib.Seq.{take_all}
use Rattle.model.specs.Fields.{field_bytes, types_in}
use Rattle.model.specs.Formed.{size}
use Rattle.model.specs.Sizes.{field_size, most_fields}
use Rattle.model.proofs.Files.FieldTables.{table-bytes}
use Rattle.bytes_le.specs.Overlay.{overlay}
use Rattle.program.specs.Reading.{tables_of}
use Rattle.sets.specs.Region.{set_of}
use Rattle.writer.proofs.Written.{fields-few, nodes_of_file, file-length, file_stored}
use Rattle.writer.proofs.write.Goals as goal
use Rattle.writer.proofs.write.Goals.{After-fields-table}

-- the program has at most 32 fields
few-fields : (c : After-fields-table) → length c.fields-table.result.now ≤ field_size * most_fields
few-fields c =
    omega (arith, c.fields-table.ensures.1, fields-few c.args.program.now c.requires.read)

pub put_u32-requires-2 : goal.put_u32-requires-2
put_u32-requires-2 c =
    let few = few-fields (goal.at.put_u32-requires-2 c).After-fields-table in
    omega arith

pub put_bytes-requires : goal.put_bytes-requires
put_bytes-requires c =
    let few = few-fields (goal.at.put_bytes-requires c).After-fields-table in
    (omega arith, omega arith)

pub put_pairs-requires : goal.put_pairs-requires
put_pairs-requires c =
    let few = few-fields (goal.at.put_pairs-requires c).After-fields-table in
    (record { region = omega (arith, few); room = omega (arith, few) }, omega (arith, few))

pub put_conjuncts-requires : goal.put_conjuncts-requires
put_conjuncts-requires c =
    let few = few-fields (goal.at.put_conjuncts-requires c).After-fields-table in
    (record { region = omega (arith, few); room = omega (arith, few) }, omega (arith, few))

pub returns : goal.returns
returns c =
    let a = c.args in
    let fields = (tables_of a.program.now).fields in
    let S = set_of a.s.now a.b in
    let formed = c.requires.formed in
    let few = few-fields (goal.at.returns c).After-fields-table in
    let listed : c.field_count-fields.result ≡ length fields = c.field_count-fields.ensures in
    let same : c.fields-table.result.now ≡ flat_map field_bytes fields =
    sym (table-bytes (length fields) c.fields-table.result.now c.fields-table.ensures.1) ∙ ap (flat_map field_bytes) c.fields-table.ensures.0 in
    let last : c.put_conjuncts.result ≡ 8 + 2 * length fields + 8 * length S + 8 * size S =
    omega (arith, c.put_conjuncts.ensures.end, c.size-count.ensures.0, c.fields-table.ensures.1, listed) in
    let whole = take_all (length c.fields-table.result.now) c.fields-table.result.now (omega arith) in
    record {
      end = file-length fields S formed c.put_conjuncts.result last;
      most = omega (arith, c.put_conjuncts.ensures.most, c.size-count.ensures.1);
      bytes = file_stored fields S c.fields-table.result.now c.field_count-fields.result c.size-count.result same listed c.size-count.ensures.0 a.out.now _ _ _ _ c.put_conjuncts.new.out
          c.put_u32.ensures c.put_u32-2.ensures (c.put_bytes.ensures ∙ ap (overlay _ 8) whole)
          c.put_pairs.ensures (c.put_conjuncts.ensures.bytes (types_in fields) (nodes_of_file fields S formed));
    }
