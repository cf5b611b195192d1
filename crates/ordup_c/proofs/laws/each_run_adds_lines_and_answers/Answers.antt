use Rattle.std.proofs.Common.{true}
use Rattle.ordup_answers.specs.Scripts.{lines_of}
use Rattle.ordup_c.proofs.Sessions.{runs_then}
use Rattle.ordup_c.proofs.laws.each_run_adds_lines_and_answers.Goals as goal

pub returns : goal.returns
returns c v w lines given text gave before runs = runs_then v w lines (lines_of true text) given gave before runs
