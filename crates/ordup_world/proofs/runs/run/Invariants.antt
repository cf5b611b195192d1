use Rattle.std.proofs.Common.{◌≡◌, ◌+◌, ◌≤◌, ◌++◌, [], vec_len, vec_capacity}
use Rattle.std.specs.Vec.Iter.{into_iter_items, into_iter_len}
use Rattle.ordup_world.specs.Events.{AreAnswers, past_after}
use Rattle.ordup_world.specs.Worlds.{StandsFor, IsSound, KeepsLimits}
use Rattle.ordup_world.specs.Along.{Along, KeepSites, HaveFewest}
use Rattle.ordup_world.proofs.runs.run.Given as goal

-- the answers so far are those to the events so far
abbrev pub invariant-loop-event : goal.invariant-loop-event
invariant-loop-event g l = record {
  left : l.yielded ++ into_iter_items l.event-iterator ≡ l.fn.events.items;
  spare : into_iter_len l.event-iterator + vec_len l.answers ≤ vec_capacity l.answers;
  setup : l.world.primary.setup ≡ l.fn.setup;
  sound : IsSound l.world;
  limits : KeepsLimits l.world;
  answers : AreAnswers l.fn.setup [] l.yielded l.answers.items;
  along : Along (KeepSites l.fn.setup) [] l.yielded l.answers.items;
  fewest : Along (HaveFewest l.fn.setup) [] l.yielded l.answers.items;
  state : StandsFor l.fn.setup l.world (past_after [] l.yielded l.answers.items);
}
