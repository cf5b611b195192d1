-- What is kept after each event of a list, one event more at the end.
use Rattle.std.proofs.Common.{◌<◌, [], length, arith}
use Rattle.ordup_rounds.specs.Fewest.{AreFewest}
use Rattle.ordup_primary.specs.Declarations.{Declared}
use Rattle.ordup_primary.specs.Settling.{report_at}
use Rattle.ordup_primary.specs.Primaries.{progress_at, is_within}
use Rattle.ordup_primary.proofs.PrimaryLemmas.{HasFewestRounds-sound}
use Rattle.ordup_site.specs.Sites.{SiteState}
use Rattle.ordup_world.specs.Events.{Past}
use Rattle.ordup_world.specs.Along.{KeepSites, HaveFewest}
use Rattle.ordup_world.specs.Worlds.{WorldState, store_of, IsSound, KeepsLimits, StandsFor}
use Rattle.ordup_world.specs.Steps.{StepsWorld, TakesEvent}
use Rattle.ordup_world.specs.declared.event.Event.{Event}
use Rattle.ordup_world.specs.declared.event.Answer.{Answer}
use Rattle.ordup_world.proofs.AfterLemmas.{updates-are}
use Rattle.ordup_world.proofs.ImportLemmas.{KeepImports-later}
use Rattle.ordup_world.proofs.StoreLemmas.{KeepsLimits-sound}

module _ {A : Type 0} where
  KeepSites-own : (w : WorldState) (past : Past A) → IsSound w → KeepsLimits w → StandsFor w.primary.setup w past
      → KeepSites w.primary.setup past
  KeepSites-own w past sound limits stands s below =
      let d : SiteState = record { applied = 0; values = []; travelled = [] } in
      let lt : s < length w.sites = omega (arith, below, sound.store.count, sound.store.primary.count) in
      let here = stands.store.sites s d lt in
      let holds = sound.store.sites s d lt in
      record {
        reported = omega (arith, here.reported, here.applied, holds.holds.reported);
        applied = omega (arith, here.applied, here.sent, holds.holds.applied);
        sent = omega (arith, here.sent, holds.holds.sent, updates-are (store_of w) past sound.store stands.store);
        feed = omega (arith, here.sent, here.applied, holds.feed);
        limits = rw (stands.store.log, stands.store.limits, here.applied, stands.store.acked) at (limits s d lt);
      }

  -- a sound world that keeps its limits: so do the accepted events that it stands for
  pub KeepSites-stands : (setup : Declared) (w : WorldState) (past : Past A) → IsSound w → KeepsLimits w → StandsFor setup w past
      → KeepSites setup past
  KeepSites-stands setup w past sound limits stands =
      rw (← stands.store.declared) (KeepSites-own w past sound limits (rw (← stands.store.declared) at stands))

  HaveFewest-own : (w : WorldState) (past : Past A) → IsSound w → StandsFor w.primary.setup w past → HaveFewest w.primary.setup past
  HaveFewest-own w past sound stands s below =
      let lt : s < length w.sites = omega (arith, below, sound.store.count, sound.store.primary.count) in
      let here = stands.store.sites s (record { applied = 0; values = []; travelled = [] }) lt in
      let known = progress_at w.primary s in
      let fewest : AreFewest (is_within w.primary s) (report_at known.reports) w.primary.decided known.rounds known.windows =
      HasFewestRounds-sound w.primary sound.store.primary s (omega (arith, lt, sound.store.count)) in
      rw (stands.store.rounds s lt, stands.store.windows s lt, here.reports, stands.store.decided, stands.store.log, stands.store.limits)
      at fewest

  -- the rounds of a sound world are the fewest: so are those after the accepted events that it stands for
  pub HaveFewest-stands : (setup : Declared) (w : WorldState) (past : Past A) → IsSound w → StandsFor setup w past
      → HaveFewest setup past
  HaveFewest-stands setup w past sound stands =
      rw (← stands.store.declared) (HaveFewest-own w past sound (rw (← stands.store.declared) at stands))

  -- a world that took an event and answered it keeps all that it promises of one
  pub TakesEvent-steps : (old : WorldState) (e : Event A) (a : Answer A) (new : WorldState) → StepsWorld old e a new
      → TakesEvent old e a new
  TakesEvent-steps old e a new is = record {
    answer = is.answer;
    state = is.state;
    setup = is.setup;
    refused = is.refused;
    sound = is.sound;
    limits = KeepsLimits-sound new is.sound.store;
    fewest = HasFewestRounds-sound new.primary is.sound.store.primary;
    imports = λ setup past stands are. KeepImports-later setup past e a are (is.answer setup past stands);
  }
