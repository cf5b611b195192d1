-- The ledger of the store.
use Rattle.std.proofs.Common.{◌≡◌, ℕ, zero, suc, ◌+◌, ◌-◌, ◌<◌, ◌≤◌, Bool, true, false, not, List, [], ◌∷◌, length, get_or}
use Rattle.std.proofs.Common.{arith, refl, sym, ap, ◌∙◌, inl, inr}
use Rattle.std.specs.Prelude.{◌==◌, All}
use Rattle.std.specs.Int.{bit_at}
use Rattle.std.proofs.Math.ListN.{set, length-set}
use Rattle.std.proofs.lemmas.Bool.{cases_eq}
use Rattle.std.proofs.lemmas.List.{get_or-set_other, length-map, get_or-replicate, length-replicate}
use Rattle.std.proofs.lemmas.Grind.{get_or-set_at}
use Rattle.ordup_objects.specs.declared.change.Change.{Change}
use Rattle.ordup_objects.specs.Serial.{History, with_update}
use Rattle.ordup_objects.specs.Sizes.{most_objects}
use Rattle.ordup_objects.specs.Tables.{initial_state}
use Rattle.ordup_limits.specs.Limits.{within, Limits}
use Rattle.ordup_limits.specs.Entries.{latest, AreEntriesKnown}
use Rattle.ordup_limits.specs.StoreLedgers.{HasLimits, IsFirstSite, StoreLedgerState, SiteLedgerState, StoreStandsFor, WeightsAt}
use Rattle.ordup_limits.proofs.OverLemmas.{StoreStandsFor-longer}
use Rattle.ordup_primary.specs.Declarations.{Declared}
use Rattle.ordup_primary.specs.Settling.{where_below}
use Rattle.ordup_primary.specs.Primaries.{SiteProgress, PrimaryState, first_progress, progress_at, limits_at, is_within, Decides}
use Rattle.ordup_primary.specs.Primaries.{IsPrimary}
use Rattle.ordup_primary.specs.PrimaryInside.{HasLedger, first_state}
use Rattle.ordup_primary.proofs.PrimaryLemmas.{is_within-now}

-- ---- lists

-- where no number passes
pub where_below-empty : (test : ℕ → Bool) (n : ℕ) → ((s : ℕ) → test s ≡ false) → [] ≡ where_below test n
where_below-empty test zero none = refl
where_below-empty test (suc n) none = rw (none n) (where_below-empty test n none)

-- ---- at the start

-- a new ledger is that of a primary at its start
pub HasLedger-first : (d : Declared) (l : StoreLedgerState) → length d.limits ≡ length d.sites → length d.objects ≤ most_objects
    → All (AreEntriesKnown (length d.objects) d.groups) d.limits → length l.sites ≡ length d.limits → l.added.place ≡ 0
    → ((h : History) → length h.start ≤ most_objects → StoreStandsFor l h d.groups)
    → ((s : ℕ) (x : SiteLedgerState) → s < length d.limits → IsFirstSite d.groups (get_or d.limits s []) (get_or l.sites s x))
    → HasLedger (first_state d) l
HasLedger-first d l tables few known count place stand first =
    let objects : length (initial_state d.objects) ≡ length d.objects = length-map d.objects _ in
    let sites = length-replicate (length d.sites) first_progress in
    record {
      count = omega (arith, count, tables, sites);
      stand = stand (record { start = initial_state d.objects; sets = [] }) (omega (arith, objects, few));
      decided = omega arith;
      added = omega (arith, place);
      limits = λ s x lt. rw objects ((first s x (omega (arith, lt, tables, sites))).limits (length d.objects) few
          (known s [] (omega (arith, lt, tables, sites))));
      reported = λ s x lt. (first s x (omega (arith, lt, tables, sites))).place
          ∙ sym (ap (λ (site : SiteProgress). site.reported)
          (get_or-replicate (length d.sites) s first_progress first_progress (omega (arith, lt, sites))));
    }

-- ---- what a call leaves to them

-- a state in which the same is declared and reported, with the same log
pub HasLedger-kept : (p q : PrimaryState) (l : StoreLedgerState) → HasLedger p l → q.setup ≡ p.setup → q.log ≡ p.log
    → q.limits ≡ p.limits → p.acked ≤ q.acked → q.decided ≤ l.added.place → length q.sites ≡ length p.sites
    → ((s : ℕ) → s < length p.sites → (progress_at q s).reported ≡ (progress_at p s).reported)
    → HasLedger q l
HasLedger-kept p q l are setup log limits acked decided count reported = record {
  count = are.count ∙ sym count;
  stand = rw (setup, log) are.stand;
  decided = decided;
  added = omega (arith, are.added, acked);
  limits = λ s d lt. rw (setup, log, limits) (are.limits s d (omega (arith, lt, count)));
  reported = λ s d lt. are.reported s d (omega (arith, lt, count)) ∙ sym (reported s (omega (arith, lt, count)));
}

-- a site that changes and has reported what it had
pub HasLedger-with_site : (p : PrimaryState) (l : StoreLedgerState) (s : ℕ) (site : SiteProgress) (sites : List SiteProgress)
    → HasLedger p l → s < length p.sites → site.reported ≡ (progress_at p s).reported → sites ≡ set p.sites s site
    → HasLedger (record p { sites = sites }) l
HasLedger-with_site p l s site sites are lt same e =
    HasLedger-kept p (record p { sites = sites }) l are refl refl refl (omega arith) are.decided
    (ap length e ∙ length-set p.sites s site)
    (λ t below. ap (λ (xs : List SiteProgress). (get_or xs t first_progress).reported) e ∙ elim (cases_eq t s) [
      | inl here ↦
          ap (λ (k : SiteProgress). k.reported) (get_or-set_at p.sites s t site first_progress here lt)
          ∙ same ∙ ap (λ k. (progress_at p k).reported) (sym here)
      | inr other ↦ ap (λ (k : SiteProgress). k.reported) (get_or-set_other p.sites s t site first_progress other)
    ])

-- the head is decided
pub HasLedger-decided : (p q : PrimaryState) (l : StoreLedgerState) → HasLedger p l → l.added.place ≡ p.acked + 1 → p.acked ≤ q.acked
    → Decides p q → HasLedger q l
HasLedger-decided p q l are place acked decides =
    HasLedger-kept p q l are decides.setup decides.log decides.limits acked (omega (arith, decides.decided, place)) decides.count
    (λ s lt. ap (λ (k : SiteProgress). k.reported) (decides.sites s first_progress lt))

-- one update more
pub HasLedger-proposed : (p : PrimaryState) (m : List Change) (l : StoreLedgerState) → HasLedger p l
    → HasLedger (record p { log = with_update p.log m }) l
HasLedger-proposed p m l are = record {
  count = are.count;
  stand = StoreStandsFor-longer l p.log p.setup.groups (m ∷ []) are.stand;
  decided = are.decided;
  added = are.added;
  limits = are.limits;
  reported = are.reported;
}

-- a site that reported
pub HasLedger-reported : (p : PrimaryState) (old new : StoreLedgerState) (s place : ℕ) (site : SiteProgress) (sites : List SiteProgress)
    → sites ≡ set p.sites s site → HasLedger p old → s < length p.sites → StoreStandsFor new p.log p.setup.groups → new.added ≡ old.added
    → length new.sites ≡ length old.sites
    → ((t : ℕ) (d : SiteLedgerState) → (t ≡ s → ⊥) → get_or new.sites t d ≡ get_or old.sites t d)
    → ((d : SiteLedgerState) → (get_or new.sites s d).reported.place ≡ place)
    → ((d : SiteLedgerState) → (get_or new.sites s d).amounts ≡ (get_or old.sites s d).amounts)
    → site.reported ≡ place
    → HasLedger (record p { sites = sites }) new
HasLedger-reported p old new s place site sites e are lt stand added count others reported amounts is = rw e (record {
  count = count ∙ are.count ∙ sym (length-set p.sites s site);
  stand = stand;
  decided = omega (arith, ap (λ (w : WeightsAt). w.place) added, are.decided);
  added = omega (arith, ap (λ (w : WeightsAt). w.place) added, are.added);
  limits = λ t d below. (let before = are.limits t d (omega (arith, below, length-set p.sites s site)) in
      elim (cases_eq t s) [
        | inl same ↦ record {
          known = before.known;
          distinct = before.distinct;
          amounts = rw (same, amounts d) (rw same at before.amounts);
        }
        | inr other ↦ rw (others t d other) before
      ]);
  reported = λ t d below. elim (cases_eq t s) [
    | inl same ↦ rw (same, get_or-set_at p.sites s s site first_progress refl lt) (reported d ∙ sym is)
    | inr other ↦ rw (others t d other, get_or-set_other p.sites s t site first_progress other)
        (are.reported t d (omega (arith, below, length-set p.sites s site)))
  ];
})

-- with the updates up to the head
pub HasLedger-extended : (p : PrimaryState) (old new : StoreLedgerState) (head : ℕ) → HasLedger p old → p.decided ≤ p.acked + 1
    → head ≡ p.acked + 1 → new.added.place ≡ head → new.sites ≡ old.sites → StoreStandsFor new p.log p.setup.groups
    → HasLedger p new
HasLedger-extended p old new head are next here place sites stand = record {
  count = ap length sites ∙ are.count;
  stand = stand;
  decided = omega (arith, next, here, place);
  added = omega (arith, place, here);
  limits = rw sites are.limits;
  reported = rw sites are.reported;
}

-- then the sites that are over a limit are those that the head forces
pub forced-by_ledger : (p : PrimaryState) (l : StoreLedgerState) (head mask : ℕ) → IsPrimary p → HasLedger p l → head ≡ p.acked + 1
    → ((s : ℕ) (d : SiteLedgerState) (limits : Limits) → s < length l.sites
    → HasLimits (length p.log.start) p.setup.groups limits (get_or l.sites s d)
    → within p.log p.setup.groups limits (get_or l.sites s d).reported.place (head - 1) ≡ true
    → (bit_at mask s == 1) ≡ not (within p.log p.setup.groups limits (get_or l.sites s d).reported.place head))
    → (s : ℕ) → s < length p.sites → (bit_at mask s == 1) ≡ not (is_within p s (progress_at p s).reported (p.acked + 1))
forced-by_ledger p l head mask sound are here over s lt =
    (let d : SiteLedgerState = record { reported = record { place = 0; totals = [] }; amounts = [] } in
    let limits = latest (limits_at p s) in
    let acked : head - 1 ≡ p.acked = omega (arith, here) in
    let before : within p.log p.setup.groups limits (get_or l.sites s d).reported.place (head - 1) ≡ true =
    rw (are.reported s d lt, acked) (sound.lags s lt) in
    over s d limits (omega (arith, lt, are.count)) (are.limits s d lt) before
    ∙ ap (λ r. not (within p.log p.setup.groups limits r head)) (are.reported s d lt)
    ∙ ap (λ e. not (within p.log p.setup.groups limits (progress_at p s).reported e)) here
    ∙ ap not (sym (is_within-now p s (progress_at p s).reported sound lt)))
