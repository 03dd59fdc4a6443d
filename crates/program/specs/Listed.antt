-- The parts of a program as the code holds them together: the tables and the procedures that they stand for.
use Rattle.std.specs.Prelude.{List}
use Rattle.model.specs.Procedures.{Procedure}
use Rattle.model.specs.Program.{Tables}
use Rattle.program.specs.Parts.{procedures_in}
use Rattle.program.specs.Reading.{tables_of}
use Rattle.program.specs.declared.own_variables.Parts.{Parts}

-- the tables of the program
abbrev pub parts_tables : Parts → Tables
parts_tables P = tables_of P.program.now

-- the procedures of the table
abbrev pub parts_procedures : Parts → List Procedure
parts_procedures P = procedures_in (parts_tables P) P.table.now P.main.procedures
