-- The events that a world stands for, one more.
use Rattle.std.proofs.Common.{◌≡◌, ℕ, ◌+◌, ◌<◌, ◌≤◌, ◌==◌, true, false, List, [], ◌∷◌, length, get_or, arith, refl, sym, ap, ◌∙◌, inl, inr}
use Rattle.std.specs.Prelude.{Bool, replicate}
use Rattle.std.proofs.Math.ListN.{set, length-set}
use Rattle.std.proofs.lemmas.Bool.{cases_eq, ne_eqb, eq-eqb}
use Rattle.std.proofs.lemmas.List.{get_or-set_other, get_or-replicate, length-replicate}
use Rattle.std.proofs.lemmas.Grind.{get_or-set_at}
use Rattle.ordup_objects.specs.declared.change.Change.{Change}
use Rattle.ordup_objects.specs.Tables.{initial_state}
use Rattle.ordup_objects.specs.Serial.{History, serial, with_update}
use Rattle.ordup_objects.proofs.SerialLemmas.{serial-longer}
use Rattle.ordup_log.specs.declared.scope.Scope.{Scope}
use Rattle.ordup_rounds.specs.Rounds.{rounds_upto, windows_upto}
use Rattle.ordup_primary.specs.Declarations.{Declared}
use Rattle.ordup_primary.specs.Settling.{report_at}
use Rattle.ordup_primary.specs.Primaries.{PrimaryState, SiteProgress, Decides, first_progress, progress_at, is_within, forced_now}
use Rattle.ordup_primary.specs.Primaries.{waiting_now, acked_after, settled_as}
use Rattle.ordup_primary.proofs.SettlingLemmas.{where_below-same}
use Rattle.ordup_world.specs.Events.{Past, sets_of, sent, applied, reported, log_of, forced_after, waiting_after, decisions, settlement_of}
use Rattle.ordup_world.specs.Events.{later, is_refused}
use Rattle.ordup_site.specs.Sites.{SiteState, HasApplied}
use Rattle.ordup_world.specs.Worlds.{StoreState, first_site, IsStore, IsSiteAfter, IsStoreAfter}
use Rattle.ordup_world.specs.declared.event.Event.{Event}
use Rattle.ordup_world.specs.declared.event.Event.TheVariants.{Propose, Send, Apply, Report, Settle, Relimit}
use Rattle.ordup_world.specs.declared.event.Answer.{Answer}
use Rattle.ordup_world.specs.declared.event.Answer.TheVariants.{Refused}
use Rattle.ordup_world.proofs.StoreLemmas.{no_site, with_proposed, with_acked, with_relimited, with_progress, one_sent, now_reported}

module _ {A : Type 0} where
  -- the past after an event that is not refused
  pub later-fine : (past : Past A) (e : Event A) (a : Answer A) → is_refused a ≡ false → later past e a ≡ e ∷ past
  later-fine past e (Refused r) fine = absurd (cc)
  later-fine past e _ fine = refl

  -- a site by its values and numbers
  site-is : {setup : Declared} {past : Past A} {s : ℕ} {k : SiteProgress} {x : SiteState}
      → x.values ≡ serial (log_of setup past) (applied s past) → k.sent ≡ sent s past → x.applied ≡ applied s past
      → k.reported ≡ reported s past → k.reports ≡ (decisions setup past).reports s
      → IsSiteAfter setup past s k x
  site-is a b c d e = record { values = a; sent = b; applied = c; reported = d; reports = e }

  -- the rounds and the windows follow from the rest
  IsStoreAfter-made : {setup : Declared} {w : StoreState} {past : Past A} → w.primary.setup ≡ setup → IsStore w
      → w.primary.log ≡ log_of setup past → w.primary.acked ≡ (decisions setup past).acked
      → w.primary.decided ≡ (decisions setup past).decided → w.primary.limits ≡ (decisions setup past).limits
      → ((s : ℕ) (d : SiteState) → s < length w.sites → IsSiteAfter setup past s (progress_at w.primary s) (get_or w.sites s d))
      → IsStoreAfter setup w past
  IsStoreAfter-made {w} declared is log acked decided limits sites = record {
    declared = declared;
    log = log;
    acked = acked;
    decided = decided;
    limits = limits;
    sites = sites;
    rounds = λ s lt.
        let known : (progress_at w.primary s).rounds
        ≡ rounds_upto (is_within w.primary s) (report_at (progress_at w.primary s).reports) w.primary.decided =
        (is.primary.sites s first_progress (omega (arith, is.count))).rounds in
        rw (declared, log, limits, (sites s no_site lt).reports, decided) at known;
    windows = λ s lt.
        let known : (progress_at w.primary s).windows
        ≡ windows_upto (is_within w.primary s) (report_at (progress_at w.primary s).reports) w.primary.decided =
        (is.primary.sites s first_progress (omega (arith, is.count))).windows in
        rw (declared, log, limits, (sites s no_site lt).reports, decided) at known;
  }

  -- at the start
  pub IsStoreAfter-start : (w : StoreState) → IsStore w
      → w.primary.log ≡ record { start = initial_state w.primary.setup.objects; sets = [] } → w.primary.acked ≡ 0
      → w.primary.decided ≡ 0 → w.primary.sites ≡ replicate (length w.primary.setup.sites) first_progress
      → w.primary.limits ≡ w.primary.setup.limits → w.sites ≡ replicate (length w.primary.setup.sites) (first_site w.primary.setup)
      → IsStoreAfter {A = A} w.primary.setup w []
  IsStoreAfter-start w is log acked decided known limits sites =
      let n = length w.primary.setup.sites in
      let count : length w.sites ≡ n = ap length sites ∙ length-replicate n (first_site w.primary.setup) in
      IsStoreAfter-made refl is log acked decided limits (λ s d lt.
      rw (
        known,
        sites,
        get_or-replicate n s first_progress first_progress (omega (arith, count)),
        get_or-replicate n s (first_site w.primary.setup) d (omega (arith, count)),
      ) (site-is refl refl refl refl refl))

  -- an event of queries and a show leave the primary and the sites as they were
  abbrev pub stays_aside : Event A → Bool
  stays_aside (Propose m) = false
  stays_aside (Send s) = false
  stays_aside (Apply s) = false
  stays_aside (Report s) = false
  stays_aside Settle = false
  stays_aside (Relimit s scope amount) = false
  stays_aside _ = true

  pub IsStoreAfter-aside : (setup : Declared) (w : StoreState) (past : Past A) (e : Event A) → stays_aside e ≡ true
      → IsStoreAfter setup w past
      → IsStoreAfter setup w (e ∷ past)
  IsStoreAfter-aside setup w past (Propose m) aside is = absurd (cc)
  IsStoreAfter-aside setup w past (Send s) aside is = absurd (cc)
  IsStoreAfter-aside setup w past (Apply s) aside is = absurd (cc)
  IsStoreAfter-aside setup w past (Report s) aside is = absurd (cc)
  IsStoreAfter-aside setup w past Settle aside is = absurd (cc)
  IsStoreAfter-aside setup w past (Relimit s scope amount) aside is = absurd (cc)
  IsStoreAfter-aside setup w past e aside is = record {
    declared = is.declared;
    log = is.log;
    acked = is.acked;
    decided = is.decided;
    limits = is.limits;
    sites = λ s d lt. let b = is.sites s d lt in site-is b.values b.sent b.applied b.reported b.reports;
    rounds = is.rounds;
    windows = is.windows;
  }

  module _ (w : StoreState) (past : Past A) (sound : IsStore w) (is : IsStoreAfter w.primary.setup w past) where
    -- how many updates there are
    pub updates-are : length w.primary.log.sets ≡ length (sets_of past)
    updates-are = ap (λ (log : History). length log.sets) is.log

    -- one update more was proposed
    pub IsStoreAfter-proposed : (m : List Change) → IsStore (with_proposed w m)
        → IsStoreAfter w.primary.setup (with_proposed w m) (Propose m ∷ past)
    IsStoreAfter-proposed m new =
        IsStoreAfter-made refl new (ap (λ (l : History). let longer : History = with_update l m in longer) is.log) is.acked is.decided is.limits
        (λ s d lt. let b = is.sites s d lt in
        let holds = sound.sites s d lt in
        let few : applied s past ≤ length (sets_of past) =
        omega (arith, b.applied, holds.holds.applied, holds.holds.sent, updates-are) in
        site-is (b.values ∙ sym (serial-longer (log_of w.primary.setup past) (m ∷ []) (applied s past) few)) b.sent b.applied b.reported
        b.reports)

    module _ (s : ℕ) (site : SiteState) (lt : s < length w.sites) (at : site ≡ get_or w.sites s site) where
      -- a site where it was read is that after the accepted events
      pub after-at : IsSiteAfter w.primary.setup past s (progress_at w.primary s) site
      after-at = rw (← at) at (is.sites s site lt)

      -- one update more was sent to it
      pub IsStoreAfter-sent : IsStore (with_progress w s (one_sent w s))
          → IsStoreAfter w.primary.setup (with_progress w s (one_sent w s)) (Send s ∷ past)
      IsStoreAfter-sent new = IsStoreAfter-made refl new is.log is.acked is.decided is.limits (λ t d below. elim (cases_eq t s) [
        | inl same ↦ (let b = is.sites s d lt in
            rw (get_or-set_at w.primary.sites s t (one_sent w s) first_progress same (omega (arith, sound.count)), same)
            (site-is b.values (rw (eq-eqb s s refl) (ap (λ n. n + 1) b.sent)) b.applied b.reported b.reports))
        | inr other ↦ (let b = is.sites t d below in
            rw (get_or-set_other w.primary.sites s t (one_sent w s) first_progress other)
            (site-is b.values (rw (ne_eqb s t (λ same. other (sym same))) b.sent) b.applied b.reported b.reports))
      ])

      -- it reported what it applied
      pub IsStoreAfter-reported : IsStore (with_progress w s (now_reported w s site.applied))
          → IsStoreAfter w.primary.setup (with_progress w s (now_reported w s site.applied)) (Report s ∷ past)
      IsStoreAfter-reported new = IsStoreAfter-made refl new is.log is.acked is.decided is.limits (λ t d below. elim (cases_eq t s) [
        | inl same ↦ (let b = is.sites s d lt in
            rw (get_or-set_at w.primary.sites s t (now_reported w s site.applied) first_progress same (omega (arith, sound.count)), same)
            (site-is b.values b.sent b.applied (rw (eq-eqb s s refl) after-at.applied) b.reports))
        | inr other ↦ (let b = is.sites t d below in
            rw (get_or-set_other w.primary.sites s t (now_reported w s site.applied) first_progress other)
            (site-is b.values b.sent b.applied (rw (ne_eqb s t (λ same. other (sym same))) b.reported) b.reports))
      ])

      -- it applied one update more
      pub IsStoreAfter-applied : (new : SiteState) → IsStore (record w { sites = set w.sites s new })
          → HasApplied new w.primary.log (site.applied + 1)
          → IsStoreAfter w.primary.setup (record w { sites = set w.sites s new }) (Apply s ∷ past)
      IsStoreAfter-applied x new next = IsStoreAfter-made refl new is.log is.acked is.decided is.limits (λ t d below. elim (cases_eq t s) [
        | inl same ↦ (let b = after-at in
            rw (get_or-set_at w.sites s t x d same lt, same)
            (site-is (rw (eq-eqb s s refl) (rw (is.log, b.applied) at next.values)) b.sent
            (rw (eq-eqb s s refl) (next.applied ∙ ap (λ n. n + 1) b.applied)) b.reported b.reports))
        | inr other ↦ (let b = is.sites t d (rw (length-set w.sites s x) at below) in
            let test : (s == t) ≡ false = ne_eqb s t (λ same. other (sym same)) in
            rw (get_or-set_other w.sites s t x d other) (site-is (rw test b.values) b.sent (rw test b.applied) b.reported b.reports))
      ])

    -- ---- settlements

    -- the sites that hold the head up are those after the accepted events
    forced-same : forced_now w.primary ≡ forced_after w.primary.setup past (decisions w.primary.setup past)
    forced-same = rw (← sound.primary.count) (where_below-same _ _ (length w.primary.sites) (λ s lt.
        let b = is.sites s no_site (omega (arith, sound.count)) in rw (is.log, is.limits, b.reported, is.acked) refl))

    waiting-same : waiting_now w.primary ≡ waiting_after w.primary.setup past (decisions w.primary.setup past)
    waiting-same = rw (← sound.primary.count) (where_below-same _ _ (length w.primary.sites) (λ s lt.
        let b = is.sites s no_site (omega (arith, sound.count)) in rw (is.log, is.limits, b.reported, b.reports, is.acked) refl))

    -- what a settlement answers is what it would answer after the accepted events
    pub settled-same : settled_as w.primary ≡ settlement_of w.primary.setup past (decisions w.primary.setup past)
    settled-same = rw (forced-same, waiting-same, is.acked, is.decided) refl

    -- the head was settled for the first time
    pub IsStoreAfter-decided : (p : PrimaryState) → IsStore (record w { primary = p }) → w.primary.acked ≡ w.primary.decided
        → Decides w.primary p
        → IsStoreAfter w.primary.setup (record w { primary = p }) (Settle ∷ past)
    IsStoreAfter-decided p new first decides =
        let ds = decisions w.primary.setup past in
        let test : (ds.acked == ds.decided) ≡ true = eq-eqb ds.acked ds.decided (sym is.acked ∙ first ∙ is.decided) in
        IsStoreAfter-made decides.setup new (decides.log ∙ is.log) (rw (test, decides.acked, forced-same, is.acked) refl)
        (rw test (decides.decided ∙ ap (λ a. a + 1) is.acked)) (rw test (decides.limits ∙ is.limits)) (λ s d lt.
        let b = is.sites s d lt in
        rw (decides.sites s first_progress (omega (arith, sound.count)))
        (site-is b.values b.sent b.applied b.reported (rw (test, b.reports, b.reported) refl)))

    -- the head was settled later
    pub IsStoreAfter-waited : IsStore (with_acked w (acked_after w.primary.acked (waiting_now w.primary)))
        → w.primary.acked < w.primary.decided
        → IsStoreAfter w.primary.setup (with_acked w (acked_after w.primary.acked (waiting_now w.primary))) (Settle ∷ past)
    IsStoreAfter-waited new later =
        let ds = decisions w.primary.setup past in
        let test : (ds.acked == ds.decided) ≡ false = ne_eqb ds.acked ds.decided (λ same. omega (arith, is.acked, is.decided, same)) in
        IsStoreAfter-made refl new is.log (rw (test, waiting-same, is.acked) refl) (rw test is.decided) (rw test is.limits) (λ s d lt.
        let b = is.sites s d lt in
        site-is b.values b.sent b.applied b.reported (rw test b.reports))

    -- ---- limits

    -- a limit of a site was changed
    pub IsStoreAfter-relimited : (s : ℕ) (scope : Scope) (amount : ℕ) → IsStore (with_relimited w s scope amount)
        → IsStoreAfter w.primary.setup (with_relimited w s scope amount) (Relimit s scope amount ∷ past)
    IsStoreAfter-relimited s scope amount new =
        IsStoreAfter-made refl new is.log is.acked is.decided (rw (is.limits, is.acked) refl) (λ t d lt.
        let b = is.sites t d lt in
        site-is b.values b.sent b.applied b.reported b.reports)
