-- A started store without open queries is a sound world, and each sound world keeps its limits and has the fewest rounds.
use Rattle.std.proofs.Common.{[], rules}
use Rattle.std.proofs.lemmas.Result.{err_from_is_err_and}
use Rattle.ordup_primary.proofs.PrimaryLemmas.{HasFewestRounds-sound}
use Rattle.ordup_world.specs.Worlds.{with_queries}
use Rattle.ordup_world.specs.StoreInside.{state_of}
use Rattle.ordup_world.proofs.StoreLemmas.{KeepsLimits-sound}
use Rattle.ordup_world.proofs.WorldLemmas.{IsSound-start, StandsFor-start}
use Rattle.ordup_world.proofs.world.World.start.Goals as goal

pub returns-in_err-store : goal.returns-in_err-store
returns-in_err-store g c =
    let failed = err_from_is_err_and c.from_residual.result c.from_residual.ensures.1 in
    rw (failed.1, failed.2, c.in_err-store.ensures.refused) (record {
      setup = tt;
      state = tt;
      sound = tt;
      limits = tt;
      fewest = tt;
      allowed = tt;
      refused = search rules;
    })

pub invariant_of-result : goal.invariant_of-result
invariant_of-result g c = rw c.new.ensures (IsSound-start (state_of c.in_ok-store.store) c.in_ok-store.ensures.sound)

pub returns : goal.returns
returns g c =
    let store = state_of c.in_ok-store.store in
    let made = c.in_ok-store.ensures in
    rw c.new.ensures (record {
      setup = made.state.declared;
      state = StandsFor-start c.args.setup store made.state;
      sound = IsSound-start store made.sound;
      limits = KeepsLimits-sound (with_queries store []) made.sound;
      fewest = HasFewestRounds-sound c.in_ok-store.store.primary made.sound.primary;
      allowed = search rules;
      refused = tt;
    })
