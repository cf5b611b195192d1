-- Each list of holds is a run.
use Rattle.std.proofs.Common.{◌≡◌, ◌≢◌, ℕ, ◌+◌, ◌<◌, ◌≤◌, true, false, List, [], ◌∷◌, length, map, get_or}
use Rattle.std.proofs.Common.{refl, sym, ap, ◌∙◌, subst, arith, inl, inr, ⊎_elim, All, Global}
use Rattle.std.specs.Prelude.{Option, Some, None, IfSome, slice_get, nat_lt, ◌&&◌}
use Rattle.std.proofs.lemmas.Bool.{cases_lt, lt-ltb}
use Rattle.std.proofs.lemmas.List.Sums.{list_all-from_AllPass}
use Rattle.std.proofs.lemmas.Option.{slice_get_within, get_or_from_slice_get}
use Rattle.std.proofs.lemmas.List.{get_or-map, get_or-replicate, length-map, length-replicate}
use Rattle.std.proofs.lemmas.List.Elements.{All-nil}
use Rattle.ordup_objects.specs.declared.change.Change.{Change}
use Rattle.ordup_objects.specs.Ops.{source_of, is_none_or}
use Rattle.ordup_objects.specs.Sets.{AreKnown, are_known, is_known}
use Rattle.ordup_objects.specs.Serial.{History, serial, with_more, with_update}
use Rattle.ordup_limits.specs.Entries.{AreEntries}
use Rattle.ordup_log.specs.declared.scope.Scope.{Scope}
use Rattle.ordup_primary.specs.Declarations.{Declared, AreCapacities}
use Rattle.ordup_primary.specs.LimitChanges.{limit_change_refusal, site_change_refusal}
use Rattle.ordup_primary.specs.Primaries.{PrimaryState, SiteProgress, IsPrimary, first_progress, progress_at, relimit_refusal, relimited, site_view}
use Rattle.ordup_primary.proofs.PrimaryLemmas.{IsPrimary-proposed}
use Rattle.ordup_primary.proofs.RelimitLemmas.{IsPrimary-relimited}
use Rattle.ordup_site.specs.Sites.{SiteState, HasApplied}
use Rattle.ordup_site.proofs.SiteLemmas.{HasApplied-longer}
use Rattle.ordup_world.specs.Events.{is_refused}
use Rattle.ordup_world.specs.Worlds.{IsStore, IsStoreAfter, with_queries}
use Rattle.ordup_world.specs.declared.event.Event.TheVariants as event
use Rattle.ordup_world.specs.declared.event.Answer.TheVariants as answer
use Rattle.ordup_world.proofs.StepLemmas.{proposed, relimited_now}
use Rattle.ordup_world.proofs.StoreLemmas.{no_site}
use Rattle.ordup_feed.specs.Ends.{Sending}
use Rattle.ordup_holds.specs.Books.{BookState, KeepsBook}
use Rattle.ordup_holds.specs.Cells.{CellState}
use Rattle.ordup_holds.specs.Numbering.{with_numbered}
use Rattle.ordup_holds.proofs.BookLemmas.{keeps-numbered, at-set}
use Rattle.ordup_interleavings.specs.Moments.{Moment}
use Rattle.ordup_interleavings.specs.Holds.{Hold, Number, NumberAndTurn, Turn, Hear, Relimit, Begin, Take, View, Read, MayNumber, Makes, Steps}
use Rattle.ordup_interleavings.specs.Promises.{IsStart, IsSameSite, IsRun, HoldsAreRuns}
use Rattle.ordup_interleavings.proofs.TurnLemmas.{there, look-at, Parts, parts}
use Rattle.ordup_interleavings.proofs.SoundLemmas.{IsSound, Grew, no-more, took, took-one, may-relimit, along}
use Rattle.ordup_interleavings.proofs.SiteLemmas.{prefix-at}
use Rattle.ordup_interleavings.proofs.RunLemmas.{run-step, store_of, Lands}
use Rattle.ordup_interleavings.proofs.RefinementLemmas.{told_of, Landed, mixed, mixed-below, all-reach, lands-turned}

-- each site of a moment has passed each number of updates up to what it applied
abbrev pub HavePassed : Moment → Type 0
HavePassed m =
    (s : ℕ) (c : CellState) → slice_get m.cells s ≡ Some c → (j : ℕ) → j ≤ length c.end.taken
    → (x : SiteState) × HasApplied x m.book.primary.log j

pub record Simulated (d : Declared) (m : Moment) : Type 0 where
  pub capacities : AreCapacities d.sites
  pub landed : Landed d m.book.primary
  pub passed : HavePassed m

-- ---- one update more, and another limit

one-known : (n x : ℕ) (o : Option ℕ) → x < n → IfSome o (λ y. y < n) → (nat_lt x n && is_none_or o (λ y. nat_lt y n)) ≡ true
one-known n x None lt is = rw (lt-ltb x n lt) refl
one-known n x (Some y) lt is = rw (lt-ltb x n lt, lt-ltb y n is) refl

are-known : (n : ℕ) (set : List Change) → AreKnown n set → are_known n set ≡ true
are-known n set known = list_all-from_AllPass (is_known n) set (λ k d lt.
    let is = known k d lt in one-known n (get_or set k d).object (source_of (get_or set k d).op) is.0 is.1)

lands-numbered : (d : Declared) (p : PrimaryState) (set : List Change) → MayNumber p set → Landed d p
    → Landed d (record p { log = with_update p.log set })
lands-numbered d p set may l =
    let w = store_of p l.known l.sites in
    let new : PrimaryState = record p { log = with_update p.log set } in
    let alike = l.alike in
    let sound = l.run.sound in
    let objects : length p.log.start ≡ length p.setup.objects = ap length sound.primary.start ∙ length-map p.setup.objects _ in
    let over : are_known (length p.setup.objects) set ≡ true = are-known (length p.setup.objects) set (rw objects at may.known) in
    let primary = IsPrimary-proposed w.primary set sound.primary may.is may.known may.allowed in
    record {
      known = l.known;
      sites = l.sites;
      run = run-step d w (store_of new l.known l.sites) (event.Propose set) (answer.Proposed (length p.log.sets + 1)) l.run
          (proposed sound over may.allowed refl primary refl) refl refl;
      alike = record { count = alike.count; sites = alike.sites; known = alike.known; applied = alike.applied };
    }

lands-relimited : (d : Declared) (p : PrimaryState) (s : ℕ) (scope : Scope) (amount : ℕ) → IsPrimary p → All AreEntries p.limits
    → limit_change_refusal (site_view p s) scope amount ≡ None → Landed d p → Landed d (relimited p s scope amount)
lands-relimited d p s scope amount is limits e l =
    let w = store_of p l.known l.sites in
    let may = may-relimit p s scope amount e in
    let alike = l.alike in
    let sound = l.run.sound in
    let lt : s < length p.sites = omega (arith, may.site, is.count) in
    let there : s < length l.known = omega (arith, lt, alike.count) in
    let told : (progress_at w.primary s).reported ≡ told_of p s = ap (λ (x : SiteProgress). x.reported) (alike.known s lt) in
    let allowed : relimit_refusal w.primary s scope amount ≡ None =
    ap (λ n. site_change_refusal (record (site_view p s) { reported = n }) scope amount) told ∙ may.allowed in
    let primary = IsPrimary-relimited w.primary s scope amount sound.primary there (limits s [] (omega (arith, lt, is.tables))) may.known allowed in
    record {
      known = l.known;
      sites = l.sites;
      run = run-step d w (store_of (relimited p s scope amount) l.known l.sites) (event.Relimit s scope amount)
          (answer.Relimited s (p.acked + 1)) l.run
          (relimited_now sound may.unrefused (omega (arith, lt, alike.sites)) allowed refl primary refl) refl refl;
      alike = record { count = alike.count; sites = alike.sites; known = alike.known; applied = alike.applied };
    }

-- ---- from hold to hold

-- what was passed of a log was passed of each longer one; and what a site applies now it passes
passed-next : (d : Declared) (old : Moment) (h : Hold) (new : Moment) → IsSound d new → Grew old.book new.book → Makes old h new
    → HavePassed old → HavePassed new
passed-next d old h new after grew makes passed s c at j le =
    let longer : (x : SiteState) × HasApplied x old.book.primary.log j → (x : SiteState) × HasApplied x new.book.primary.log j =
    λ x. (x.0, rw grew.log (HasApplied-longer x.0 old.book.primary.log j grew.more x.1)) in
    elim (cases_lt j (length c.end.taken)) [
      | inr all ↦
          (let kept = after.kept in
          let e = there new.book.ends s (omega (arith, kept.count, slice_get_within new.cells s c at)) in
          let here = prefix-at d new after s e.0 c e.1 at in
          let held = kept.cells s c at in
          let same : c.site.applied ≡ j = omega (arith, held.applied, le, all) in
          (c.site, subst (HasApplied c.site new.book.primary.log) same here.prefix))
      | inl less ↦ elim (took old h new makes) [
        | inl same ↦ longer (passed s c (rw same at at) j le)
        | inr one ↦
            ⊎_elim
            (λ (here : (s ≡ one.site) × (one.after ≡ c)).
            let more = took-one one.before one.after one.number one.takes in
            let count : length c.end.taken ≡ length one.before.end.taken + 1 =
            ap (λ (x : CellState). length x.end.taken) (sym here.1) ∙ more.0 in
            longer (passed one.site one.before one.there j (omega (arith, less, count))))
            (λ (other : (s ≢ one.site) × (slice_get old.cells s ≡ Some c)). longer (passed s c other.1 j le))
            (at-set old.cells one.site s one.after c (rw one.cells at at))
      ]
    ]

-- the looks of a turn find no more than each site has passed
looks-passed : (d : Declared) (old new : Moment) (b : BookState) → IsSound d new → HavePassed old → IsPrimary b.primary
    → KeepsBook b.primary b.ends → length b.ends ≡ length old.cells → old.cells ≡ new.cells
    → (x : (l : List (List Change)) × (b.primary.log ≡ with_more old.book.primary.log l)) → (t : Parts b new.book)
    → (s : ℕ) → s < length b.primary.sites → (j : ℕ) → j ≤ told_of t.heard.primary s → (x : SiteState) × HasApplied x b.primary.log j
looks-passed d old new b after passed is kept count cells log t s lt j le =
    let r = look-at b t.heard is kept t.reported s lt in
    let f = there new.book.ends s (omega (arith, t.sent.ends, t.reported.ends, kept.count, lt)) in
    let same = t.sent.each s r.end f.0 r.there f.1 in
    let known : f.0.known ≡ r.end.known = ap (λ (e : Sending). e.known) same.pushed in
    let c = there old.cells s (omega (arith, count, kept.count, lt)) in
    let at : slice_get new.cells s ≡ Some c.0 = ap (λ l. slice_get l s) (sym cells) ∙ c.1 in
    let fed = after.kept.feeds s f.0 c.0 f.1 at in
    let told = after.told s c.0 at in
    let place : told_of t.heard.primary s ≡ r.place = ap (λ (x : SiteProgress). x.reported) r.is in
    let few : j ≤ length c.0.end.taken = omega (arith, le, place, r.known, known, fed.told.1, told) in
    let x = passed s c.0 c.1 j few in
    (x.0, subst (λ (h : History). HasApplied x.0 h j) (sym log.1) (HasApplied-longer x.0 old.book.primary.log j log.0 x.1))

landed-same : (d : Declared) (old new same : Moment) → same.book ≡ old.book → new ≡ same → Landed d old.book.primary
    → Landed d new.book.primary
landed-same d old new same book is l =
    subst (λ (b : BookState). Landed d b.primary) (sym (ap (λ (m : Moment). m.book) is ∙ book)) l

landed-next : (d : Declared) (old : Moment) (h : Hold) (new : Moment) → IsSound d old → IsSound d new → Makes old h new
    → AreCapacities d.sites → HavePassed old → Landed d old.book.primary → Landed d new.book.primary
landed-next d old (Number a set) new is after makes capacities passed l =
    subst (λ (b : BookState). Landed d b.primary) (sym (ap (λ (m : Moment). m.book) makes.1))
    (lands-numbered d old.book.primary set makes.0 l)
landed-next d old (NumberAndTurn a set) new is after makes capacities passed l =
    let b = with_numbered old.book set in
    let may = makes.0 in
    let kept = is.kept in
    let primary = IsPrimary-proposed old.book.primary set is.primary may.is may.known may.allowed in
    let book = keeps-numbered old.book.primary old.book.ends set is.primary kept.book in
    let t = parts b new.book makes.1 makes.2 in
    let cells : old.cells ≡ new.cells = sym (ap (λ (m : Moment). m.cells) makes.3) in
    lands-turned d b new.book (rw is.setup capacities) primary book t
    (looks-passed d old new b after passed primary book (sym kept.count) cells (set ∷ [], refl) t)
    (lands-numbered d old.book.primary set may l)
landed-next d old Turn new is after makes capacities passed l =
    let kept = is.kept in
    let t = parts old.book new.book makes.0 makes.1 in
    let cells : old.cells ≡ new.cells = sym (ap (λ (m : Moment). m.cells) makes.2) in
    lands-turned d old.book new.book (rw is.setup capacities) is.primary kept.book t
    (looks-passed d old new old.book after passed is.primary kept.book (sym kept.count) cells ([], no-more old.book.primary.log) t) l
landed-next d old (Hear a n) new is after makes capacities passed l = landed-same d old new _ refl makes.1 l
landed-next d old (Relimit s scope amount) new is after makes capacities passed l =
    subst (λ (b : BookState). Landed d b.primary) (sym (ap (λ (m : Moment). m.book) makes.1))
    (lands-relimited d old.book.primary s scope amount is.primary is.limits makes.0 l)
landed-next d old (Begin q s limit) new is after makes capacities passed l = landed-same d old new _ refl makes.2 l
landed-next d old (Take s) new is after makes capacities passed l = landed-same d old new _ refl makes.5 l
landed-next d old (View a s x) new is after makes capacities passed l = landed-same d old new _ refl makes.4 l
landed-next d old (Read q x) new is after makes capacities passed l = landed-same d old new _ refl makes.7 l

simulated-next : (d : Declared) (old : Moment) (h : Hold) (new : Moment) → IsSound d old → IsSound d new → Grew old.book new.book
    → Steps old h new → Simulated d old → Simulated d new
simulated-next d old h new is after grew step now = record {
  capacities = now.capacities;
  landed = landed-next d old h new is after step.makes now.capacities now.passed now.landed;
  passed = passed-next d old h new after grew step.makes now.passed;
}

-- ---- at the start

-- a cell of a store that was just opened took nothing
took-none : (d : Declared) (m : Moment) → IsStart d m → (s : ℕ) (c : CellState) → slice_get m.cells s ≡ Some c
    → length c.end.taken ≡ 0
took-none d m start s c at =
    let kept = start.kept in
    let e = there m.book.ends s (omega (arith, kept.count, slice_get_within m.cells s c at)) in
    let made = start.opened.feeds.each s e.0 e.1 in
    let same : made.0 ≡ c = cc (made.1, at) in
    rw (← same, made.2.taker) refl

-- the replicas of a moment
abbrev replicas_of : Moment → List SiteState
replicas_of m = map (λ (c : CellState). c.site) m.cells

replica-at : (m : Moment) (s : ℕ) (c : CellState) (e : SiteState) → slice_get m.cells s ≡ Some c → get_or (replicas_of m) s e ≡ c.site
replica-at m s c e at =
    get_or-map (λ (c : CellState). c.site) m.cells s c e (slice_get_within m.cells s c at)
    ∙ ap (λ (c : CellState). c.site) (get_or_from_slice_get m.cells s c c at)

module _ (d : Declared) (m : Moment) (start : IsStart d m) (is : IsSound d m) where
  first-at : (s : ℕ) → s < length m.book.primary.sites → progress_at m.book.primary s ≡ first_progress
  first-at s lt =
      let opened = start.opened.primary in
      let n = length d.sites in
      let count : length m.book.primary.sites ≡ n =
      ap (λ (q : PrimaryState). length q.sites) opened ∙ length-replicate n first_progress in
      ap (λ (q : PrimaryState). progress_at q s) opened ∙ get_or-replicate n s first_progress first_progress (omega (arith, lt, count))

  first-count : length (replicas_of m) ≡ length m.book.primary.sites
  first-count = let kept = is.kept in length-map m.cells _ ∙ kept.count ∙ kept.book.count

  first-cell : (s : ℕ) → s < length m.book.primary.sites → (c : CellState) × (slice_get m.cells s ≡ Some c)
  first-cell s lt = let kept = is.kept in there m.cells s (omega (arith, lt, kept.count, kept.book.count))

  -- each replica applied nothing
  first-held : (s : ℕ) (e : SiteState) → s < length m.book.primary.sites → HasApplied (get_or (replicas_of m) s e) m.book.primary.log 0
  first-held s e lt =
      let kept = is.kept in
      let c = first-cell s lt in
      let end = there m.book.ends s (omega (arith, lt, kept.book.count)) in
      let here = prefix-at d m is s end.0 c.0 end.1 c.1 in
      let held = kept.cells s c.0 c.1 in
      let none : c.0.site.applied ≡ 0 = held.applied ∙ took-none d m start s c.0 c.1 in
      subst (λ (x : SiteState). HasApplied x m.book.primary.log 0) (sym (replica-at m s c.0 e c.1))
      (subst (HasApplied c.0.site m.book.primary.log) none here.prefix)

  first-store : IsStore (store_of m.book.primary m.book.primary.sites (replicas_of m))
  first-store = record {
    primary = start.primary;
    count = first-count;
    sites = λ s e lt. (let inside : s < length m.book.primary.sites = omega (arith, lt, first-count) in
        let held = first-held s e inside in
        rw (first-at s inside) (record {
          holds = record {
            reported = omega arith;
            applied = omega (arith, held.applied);
            sent = omega arith;
            prefix = subst (HasApplied (get_or (replicas_of m) s e) m.book.primary.log) (sym held.applied) held;
          };
          feed = omega arith;
        }));
  }

  first-after : IsStoreAfter {A = Global} d (store_of m.book.primary m.book.primary.sites (replicas_of m)) []
  first-after =
      let opened = start.opened.primary in
      record {
        declared = is.setup;
        log = ap (λ (q : PrimaryState). q.log) opened;
        acked = ap (λ (q : PrimaryState). q.acked) opened;
        decided = ap (λ (q : PrimaryState). q.decided) opened;
        limits = ap (λ (q : PrimaryState). q.limits) opened;
        sites = λ s e lt. (let inside : s < length m.book.primary.sites = omega (arith, lt, first-count) in
            let held = first-held s e inside in
            rw (first-at s inside) (record {
              values = held.values ∙ ap (λ (q : PrimaryState). serial q.log 0) opened;
              sent = refl;
              applied = held.applied;
              reported = refl;
              reports = refl;
            }));
        rounds = λ s lt. ap (λ (x : SiteProgress). x.rounds) (first-at s (omega (arith, lt, first-count)));
        windows = λ s lt. ap (λ (x : SiteProgress). x.windows) (first-at s (omega (arith, lt, first-count)));
      }

  simulated-start : Simulated d m
  simulated-start = record {
    capacities = start.capacities;
    landed = record {
      known = m.book.primary.sites;
      sites = replicas_of m;
      run = record {
        events = [];
        answers = [];
        answered = tt;
        accepted = All-nil (λ a. is_refused a ≡ false);
        sound = first-store;
        after = first-after;
        opened = λ q. refl;
        count = refl;
      };
      alike = record {
        count = refl;
        sites = first-count;
        known = λ s lt. (let f = first-at s lt in
            f ∙ (λ i. record (sym f i) { sent = (sym f i).reported; reported = (sym f i).reported }));
        applied = λ s lt. (first-held s no_site lt).applied ∙ sym (ap (λ (x : SiteProgress). x.reported) (first-at s lt));
      };
    };
    passed = λ s c at j le.
        let kept = is.kept in
        let e = there m.book.ends s (omega (arith, kept.count, slice_get_within m.cells s c at)) in
        let here = prefix-at d m is s e.0 c e.1 at in
        let held = kept.cells s c at in
        let same : c.site.applied ≡ j = omega (arith, held.applied, le, took-none d m start s c at) in
        (c.site, subst (HasApplied c.site m.book.primary.log) same here.prefix);
  }

-- ---- at the end of a list of holds

-- how many updates each site applied
abbrev applied_of : Moment → ℕ → ℕ
applied_of m s = (get_or (replicas_of m) s no_site).applied

applied-at : (m : Moment) (s : ℕ) (c : CellState) → slice_get m.cells s ≡ Some c → applied_of m s ≡ c.site.applied
applied-at m s c at = ap (λ (x : SiteState). x.applied) (replica-at m s c no_site at)

-- where each site of the run stands then
abbrev end_of : Moment → ℕ → ℕ
end_of m = mixed (told_of m.book.primary) (applied_of m) (length m.book.primary.sites)

-- each site of the run goes on from what it reported to what it applied
arrive : (d : Declared) (m : Moment) → IsSound d m → Simulated d m → Lands d m.book.primary (end_of m) (told_of m.book.primary)
arrive d m is now =
    let p = m.book.primary in
    let kept = is.kept in
    let cell = λ (s : ℕ) (lt : s < length p.sites). there m.cells s (omega (arith, lt, kept.count, kept.book.count)) in
    let here = λ (s : ℕ) (lt : s < length p.sites).
    let c = cell s lt in
    let e = there m.book.ends s (omega (arith, lt, kept.book.count)) in
    prefix-at d m is s e.0 c.0 e.1 c.1 in
    let risen : (s : ℕ) → s < length p.sites → told_of p s ≤ applied_of m s = λ s lt.
    (let at = here s lt in let c = cell s lt in omega (arith, at.reported, at.known, at.told, applied-at m s c.0 c.1)) in
    let few : (s : ℕ) → s < length p.sites → applied_of m s ≤ length p.log.sets = λ s lt.
    (let at = here s lt in let c = cell s lt in omega (arith, at.applied, at.sent, applied-at m s c.0 c.1)) in
    let passed : (s : ℕ) → s < length p.sites → (j : ℕ) → j ≤ applied_of m s → (x : SiteState) × HasApplied x p.log j =
    λ s lt j le.
    (let c = cell s lt in
    let held = kept.cells s c.0 c.1 in
    now.passed s c.0 c.1 j (omega (arith, le, applied-at m s c.0 c.1, held.applied))) in
    all-reach d p (rw is.setup now.capacities) (told_of p) (applied_of m) risen few passed (length p.sites) (told_of p) (omega arith)
    now.landed

-- and then it is that of the moment
same-site : (d : Declared) (m : Moment) → IsSound d m → (l : Lands d m.book.primary (end_of m) (told_of m.book.primary)) → (s : ℕ)
    → (c : CellState) → slice_get m.cells s ≡ Some c → IsSameSite m (with_queries (store_of m.book.primary l.known l.sites) []) s c
same-site d m is l s c at =
    let p = m.book.primary in
    let kept = is.kept in
    let lt : s < length p.sites = omega (arith, slice_get_within m.cells s c at, kept.count, kept.book.count) in
    let inside : s < length l.sites = omega (arith, lt, l.alike.sites) in
    let e = there m.book.ends s (omega (arith, lt, kept.book.count)) in
    let held = prefix-at d m is s e.0 c e.1 at in
    let end : end_of m s ≡ c.site.applied =
    mixed-below (told_of p) (applied_of m) (length p.sites) s lt ∙ applied-at m s c at in
    let applied : (get_or l.sites s no_site).applied ≡ c.site.applied = l.alike.applied s lt ∙ end in
    let now = (l.run.sound.sites s no_site inside).holds.prefix in
    record {
      known = l.alike.known s lt ∙ (λ i. record (progress_at p s) { sent = end i });
      applied = applied;
      values = now.values ∙ ap (serial p.log) applied ∙ sym held.prefix.values;
    }

run-of : (d : Declared) (m : Moment) → IsSound d m → Lands d m.book.primary (end_of m) (told_of m.book.primary) → IsRun d m
run-of d m is l =
    let run = l.run in
    let kept = is.kept in
    record {
      events = run.events;
      answers = run.answers;
      world = with_queries (store_of m.book.primary l.known l.sites) [];
      answered = run.answered;
      accepted = run.accepted;
      stands = record {
        store = run.after;
        queries = λ q. rw (run.opened q) refl;
        count = sym run.count;
      };
      sound = record { store = run.sound; few = omega arith; queries = λ q o found. absurd cc };
      primary = refl;
      count = l.alike.sites ∙ sym (kept.count ∙ kept.book.count);
      sites = same-site d m is l;
    }

pub holds-are-runs : HoldsAreRuns
holds-are-runs = along Simulated (λ d m. IsRun d m) simulated-next (λ d m is now. run-of d m is (arrive d m is now)) simulated-start
