-- `analysis::derive_rows` meets its contract.
use mathlib.Core.Path.{◌≡◌, ap, ◌∙◌}
use native.Mathlib.Omega.{arith}
use Rattle.model.specs.Program.{Program}
use Rattle.model.specs.Walk.{derived}
use Rattle.model.proofs.Walks.Depth.{program-nested}
use Rattle.rules.specs.Answers.{answered}
use Rattle.sets.specs.Region.{set_of}
use Rattle.analysis.specs.Deriving.{union_at}
use Rattle.analysis.proofs.Files.{derives_refusal, set-formed, derives_file}
use Rattle.std.proofs.lemmas.Result.{err_from_is_err_and}
use Rattle.analysis.proofs.derive_rows.Goals as goal
use Rattle.analysis.proofs.derive_rows.Goals.{After-sites, Start}

-- the program whose rows stand in the table
abbrev program : Start → Program
program c = c.requires.1.program

-- the sites come to what is derived from it
derives : (c : After-sites) → derived (program (goal.at.After-sites c).Start).code ≡ answered c.sites.result (set_of c.sites.new.s union_at)
derives c =
    let r = c.requires.1 in
    c.sites.ensures r.program.code r.coded.laid (program-nested c.args.program.now r.program r.read)

pub sites-requires : goal.sites-requires
sites-requires c =
    let r = c.requires.1 in
    record {
      room = omega (arith, c.requires.0.words);
      known = r.coded.below;
      piece = record { code = r.program.code; lies = r.coded.laid; nested = program-nested c.args.program.now r.program r.read };
    }

pub write-requires : goal.write-requires
write-requires c =
    let r = c.requires.1 in
    let S = set_of c.sites.new.s union_at in
    record {
      read = c.requires.0.read;
      region = omega (arith, c.requires.0.words, c.sites.auto.s);
      room = c.requires.0.room;
      formed = set-formed c.args.program.now r.program r.read S (derives (goal.at.write-requires c).After-sites ∙ ap (λ x. answered x S) c.in_ok-sites.was);
    }

pub returns-in_err-sites : goal.returns-in_err-sites
returns-in_err-sites c =
    let r = c.requires.1 in
    let gone = err_from_is_err_and c.from_residual.result c.from_residual.ensures.1 in
    rw (gone.1, gone.2)
    (derives_refusal c.args.program.now r.program r.read _ c.args.condition.now
    (derives (goal.at.returns-in_err-sites c).After-sites ∙ ap (λ x. answered x (set_of c.sites.new.s union_at)) c.in_err-sites.was))

pub returns : goal.returns
returns c =
    let r = c.requires.1 in
    let S = set_of c.sites.new.s union_at in
    derives_file c.args.program.now r.program r.read S (derives (goal.at.returns c).After-sites ∙ ap (λ x. answered x S) c.in_ok-sites.was) c.write.result
    c.args.condition.now c.write.new.out c.requires.0.room c.write.ensures
