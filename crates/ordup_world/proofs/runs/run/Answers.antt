-- Each promise is true at the start, and one event more keeps it:
-- the step keeps the world sound, and its answer is the reply over the events accepted before it.
use Rattle.std.proofs.Common.{arith, ◌≡◌, ◌++◌, ◌∷◌, [], ◌∙◌, sym, ap, append_assoc, length}
use Rattle.std.specs.Vec.Iter.{into_iter_items}
use Rattle.ordup_world.specs.Events.{past_after, later}
use Rattle.ordup_world.proofs.RunLemmas.{all_yielded, push}
use Rattle.ordup_primary.proofs.PrimaryLemmas.{HasFewestRounds-sound}
use Rattle.ordup_world.proofs.AlongLemmas.{KeepSites-stands, HaveFewest-stands}
use Rattle.ordup_world.specs.Along.{KeepSites, HaveFewest}
use Rattle.ordup_world.proofs.ImportLemmas.{KeepImports-along}
use Rattle.ordup_world.proofs.runs.run.Goals as goal

pub loop-event-preserved : goal.loop-event-preserved
loop-event-preserved g c =
    let before = c.loop-event.invariant in
    let mid = past_after {A = g.row.A.Denot} [] c.loop-event.yielded c.loop-event.answers.items in
    let more = push c.args.setup [] c.loop-event.yielded c.loop-event.answers.items c.in-Some.event c.step.result before.answers
    (c.step.ensures.answer c.args.setup mid before.state) in
    let after = c.step.ensures.state c.args.setup mid before.state in
    let now = later mid c.in-Some.event c.step.result in
    record {
      left =
          append_assoc c.loop-event.yielded (c.in-Some.event ∷ []) (into_iter_items c.next.new.self)
          ∙ ap (λ xs. c.loop-event.yielded ++ xs) (sym c.in-Some.ensures.steps.0)
          ∙ before.left;
      spare = omega (arith, before.spare, c.in-Some.ensures.steps.1, c.push_reserved.ensures.len, c.push_reserved.ensures.capacity);
      setup = c.step.ensures.setup ∙ before.setup;
      sound = c.step.ensures.sound;
      limits = c.step.ensures.limits;
      answers = rw c.push_reserved.ensures.items more.1;
      along =
          rw c.push_reserved.ensures.items (more.2 (KeepSites c.args.setup) before.along
          (KeepSites-stands c.args.setup c.step.new.self now c.step.ensures.sound c.step.ensures.limits after));
      fewest =
          rw c.push_reserved.ensures.items (more.2 (HaveFewest c.args.setup) before.fewest
          (HaveFewest-stands c.args.setup c.step.new.self now c.step.ensures.sound after));
      state = rw (c.push_reserved.ensures.items, more.0) after;
    }

pub returns : goal.returns
returns g c =
    let before = c.loop-event.invariant in
    let all : c.loop-event.yielded ≡ c.args.events.items =
    all_yielded c.loop-event.yielded (into_iter_items c.loop-event.event-iterator) c.args.events.items
    (omega (arith, c.in-None.ensures.steps.0, c.loop-event.event-iterator.rest.ok)) before.left in
    record {
      answers = rw all at before.answers;
      state = rw all at before.state;
      setup = before.setup;
      sound = before.sound;
      limits = before.limits;
      rounds = HasFewestRounds-sound c.loop-event.world.primary before.sound.store.primary;
      imports = KeepImports-along c.args.setup c.args.events.items c.loop-event.answers.items (rw all at before.answers);
      along = rw all at before.along;
      fewest = rw all at before.fewest;
      allowed = c.in_ok-world.ensures.allowed;
      refused = tt;
    }

pub loop-event-init : goal.loop-event-init
loop-event-init g c =
    let gives = c.into_iter-event-iterator.ensures.into_iter_gives in
    let started = c.in_ok-world.ensures in
    record {
      left = gives.0;
      spare = omega (arith, gives.1, c.len.ensures, ap length started.answers, started.spare);
      setup = started.setup;
      sound = started.sound;
      limits = started.limits;
      answers = rw started.answers tt;
      along = KeepSites-stands c.args.setup c.in_ok-world.world [] started.sound started.limits started.state;
      fewest = HaveFewest-stands c.args.setup c.in_ok-world.world [] started.sound started.state;
      state = started.state;
    }
