-- A started world promises what a run does over no events. After it only the list of answers can be refused memory.
use Rattle.std.proofs.Common.{rules}
use Rattle.std.proofs.lemmas.Result.{err_from_is_err_and}
use Rattle.ordup_world.proofs.runs.start.Goals as goal

pub returns-in_err-world : goal.returns-in_err-world
returns-in_err-world g c =
    let failed = err_from_is_err_and c.from_residual.result c.from_residual.ensures.1 in
    rw (failed.1, failed.2) (record {
      answers = tt;
      spare = tt;
      state = tt;
      setup = tt;
      sound = tt;
      limits = tt;
      allowed = tt;
      refused = c.in_err-world.ensures.refused;
    })

pub returns-clause-refused : goal.returns-clause-refused
returns-clause-refused g c = rw c.in_ok-world.ensures.allowed (search rules)

pub returns-2 : goal.returns-2
returns-2 g c = record {
  answers = search rules;
  spare = search rules;
  state = c.in_ok-world.ensures.state;
  setup = c.in_ok-world.ensures.setup;
  sound = c.in_ok-world.ensures.sound;
  limits = c.in_ok-world.ensures.limits;
  allowed = c.in_ok-world.ensures.allowed;
  refused = tt;
}
