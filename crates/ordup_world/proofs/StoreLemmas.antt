-- What an accepted event does to the primary and the sites.
use Rattle.std.proofs.Common.{◌≡◌, ℕ, ◌+◌, ◌-◌, ◌<◌, ◌≤◌, List, [], ◌∷◌, length, get_or, arith, refl, sym, ap, ◌∙◌, inl, inr}
use Rattle.std.specs.Prelude.{replicate}
use Rattle.std.proofs.Math.ListN.{set, length-set}
use Rattle.std.proofs.lemmas.Bool.{cases_eq, cases_lt}
use Rattle.std.proofs.lemmas.List.{append-nil, get_or-set_other, get_or_default, get_or_past, length_push, get_or-replicate}
use Rattle.std.proofs.lemmas.List.{length-replicate}
use Rattle.std.proofs.lemmas.Grind.{get_or-set_at}
use Rattle.ordup_objects.specs.declared.change.Change.{Change}
use Rattle.ordup_objects.specs.declared.moved.Moved.{Moved}
use Rattle.ordup_objects.specs.Tables.{initial_state}
use Rattle.ordup_objects.specs.Serial.{History, serial, set_at, with_more, with_update}
use Rattle.ordup_objects.specs.Moves.{moves_of}
use Rattle.ordup_objects.proofs.SerialLemmas.{length-serial}
use Rattle.ordup_log.specs.declared.scope.Scope.{Scope}
use Rattle.ordup_limits.proofs.LimitLemmas.{within-later}
use Rattle.ordup_limits.specs.Entries.{latest}
use Rattle.ordup_primary.specs.Declarations.{capacity_of}
use Rattle.ordup_primary.specs.Primaries.{PrimaryState, SiteProgress, IsPrimary, Decides, first_progress, progress_at, limits_at, acked_after}
use Rattle.ordup_primary.specs.Primaries.{relimited}
use Rattle.ordup_site.specs.Sites.{SiteState, HasApplied, AreMovesOf}
use Rattle.ordup_site.proofs.SiteLemmas.{HasApplied-longer}
use Rattle.ordup_world.specs.Steps.{Grows}
use Rattle.ordup_world.specs.Worlds.{StoreState, WorldState, store_of, first_site, HoldsFeed, IsStore, KeepsLimits}

-- a sound world keeps its limits
pub KeepsLimits-sound : (w : WorldState) → IsStore (store_of w) → KeepsLimits w
KeepsLimits-sound w is s d lt =
    within-later w.primary.log w.primary.setup.groups (latest (limits_at w.primary s)) (progress_at w.primary s).reported
    (get_or w.sites s d).applied w.primary.acked (is.sites s d lt).holds.reported (is.primary.lags s (omega (arith, is.count)))

-- what is read of a site that is not there
abbrev pub no_site : SiteState
no_site = record { applied = 0; values = []; travelled = [] }

-- a store with one update more, or with this many acknowledged
abbrev pub with_proposed : StoreState → List Change → StoreState
with_proposed w m = record w { primary = record w.primary { log = with_update w.primary.log m } }

abbrev pub with_acked : StoreState → ℕ → StoreState
with_acked w acked = record w { primary = record w.primary { acked = acked } }

-- a store where the limit of site s on a scope was changed
abbrev pub with_relimited : StoreState → ℕ → Scope → ℕ → StoreState
with_relimited w s scope amount = record w { primary = relimited w.primary s scope amount }

-- a store whose primary knows something else of a site: one update more was sent to it, or it reported this many
abbrev pub with_progress : StoreState → ℕ → SiteProgress → StoreState
with_progress w s x = record w { primary = record w.primary { sites = set w.primary.sites s x } }

abbrev pub one_sent : StoreState → ℕ → SiteProgress
one_sent w s = record (progress_at w.primary s) { sent = (progress_at w.primary s).sent + 1 }

abbrev pub now_reported : StoreState → ℕ → ℕ → SiteProgress
now_reported w s place = record (progress_at w.primary s) { reported = place }

module _ (w : StoreState) (is : IsStore w) where
  -- ---- a primary that changes

  -- one update more was proposed
  pub IsStore-proposed : (m : List Change) → IsPrimary (with_proposed w m).primary → IsStore (with_proposed w m)
  IsStore-proposed m primary = record {
    primary = primary;
    count = is.count;
    sites = λ s d lt. let h = is.sites s d lt in record {
      holds = record {
        reported = h.holds.reported;
        applied = h.holds.applied;
        sent = omega (arith, h.holds.sent, length_push w.primary.log.sets m);
        prefix = HasApplied-longer (get_or w.sites s d) w.primary.log (get_or w.sites s d).applied (m ∷ []) h.holds.prefix;
      };
      feed = h.feed;
    };
  }

  -- the head was settled for the first time
  pub IsStore-decided : (p : PrimaryState) → IsPrimary p → Decides w.primary p → IsStore (record w { primary = p })
  IsStore-decided p primary decides = record {
    primary = primary;
    count = is.count ∙ sym decides.count;
    sites = λ s d lt.
        rw (decides.setup, decides.log, decides.sites s first_progress (omega (arith, is.count)))
        (record { holds = (is.sites s d lt).holds; feed = (is.sites s d lt).feed });
  }

  -- the head was settled later
  pub IsStore-waited : (acked : ℕ) → IsPrimary (with_acked w acked).primary → IsStore (with_acked w acked)
  IsStore-waited acked primary = record { primary = primary; count = is.count; sites = is.sites }

  -- a limit was changed
  pub IsStore-relimited : (s : ℕ) (scope : Scope) (amount : ℕ) → IsPrimary (relimited w.primary s scope amount)
      → IsStore (with_relimited w s scope amount)
  IsStore-relimited s scope amount primary = record { primary = primary; count = is.count; sites = is.sites }

  -- ---- one site

  module _ (s : ℕ) (site : SiteState) (lt : s < length w.sites) (at : site ≡ get_or w.sites s site) where
    -- what it holds
    pub holds-at : HoldsFeed w.primary.log (capacity_of w.primary.setup s) (progress_at w.primary s) site
    holds-at = rw (← at) at (is.sites s site lt)

    IsStore-known : (x : SiteProgress) → IsPrimary (with_progress w s x).primary
        → HoldsFeed w.primary.log (capacity_of w.primary.setup s) x site
        → IsStore (with_progress w s x)
    IsStore-known x primary holds = record {
      primary = primary;
      count = is.count ∙ sym (length-set w.primary.sites s x);
      sites = λ t d below. elim (cases_eq t s) [
        | inl same ↦
            rw (get_or-set_at w.primary.sites s t x first_progress same (omega (arith, is.count)), same)
            (rw (get_or_default w.sites s d site lt, ← at) holds)
        | inr other ↦ rw (get_or-set_other w.primary.sites s t x first_progress other) (is.sites t d below)
      ];
    }

    -- one update more was sent to it
    pub IsStore-sent : IsPrimary (with_progress w s (one_sent w s)).primary
        → ((progress_at w.primary s).sent ≡ length w.primary.log.sets → ⊥)
        → ((progress_at w.primary s).sent - site.applied ≡ capacity_of w.primary.setup s → ⊥)
        → IsStore (with_progress w s (one_sent w s))
    IsStore-sent primary unsent spare = IsStore-known (one_sent w s) primary (record {
      holds = record {
        reported = holds-at.holds.reported;
        applied = omega (arith, holds-at.holds.applied);
        sent = omega (arith, holds-at.holds.sent, unsent);
        prefix = holds-at.holds.prefix;
      };
      feed = omega (arith, holds-at.feed, holds-at.holds.applied, spare);
    })

    -- it reported what it applied
    pub IsStore-reported : IsPrimary (with_progress w s (now_reported w s site.applied)).primary
        → IsStore (with_progress w s (now_reported w s site.applied))
    IsStore-reported primary = IsStore-known (now_reported w s site.applied) primary (record {
      holds = record { reported = omega arith; applied = holds-at.holds.applied; sent = holds-at.holds.sent; prefix = holds-at.holds.prefix };
      feed = holds-at.feed;
    })

    module _ (less : site.applied < (progress_at w.primary s).sent) where
      -- it applied one update more
      pub IsStore-applied : (new : SiteState) → HasApplied new w.primary.log (site.applied + 1)
          → IsStore (record w { sites = set w.sites s new })
      IsStore-applied new next = record {
        primary = is.primary;
        count = length-set w.sites s new ∙ is.count;
        sites = λ t d below. elim (cases_eq t s) [
          | inl same ↦ rw (get_or-set_at w.sites s t new d same lt, same) (record {
            holds = record {
              reported = omega (arith, holds-at.holds.reported, next.applied);
              applied = omega (arith, next.applied);
              sent = holds-at.holds.sent;
              prefix = rw (← next.applied) at next;
            };
            feed = omega (arith, holds-at.feed, next.applied);
          })
          | inr other ↦ rw (get_or-set_other w.sites s t new d other) (is.sites t d (rw (length-set w.sites s new) at below))
        ];
      }

      -- the moves of its next update are those of a set that is legal on its values
      pub next_moves : (moved : List Moved)
          → moved ≡ moves_of (serial w.primary.log (site.applied + 1 - 1)) (set_at w.primary.log (site.applied + 1))
          → AreMovesOf site.values (set_at w.primary.log (site.applied + 1)) moved
      next_moves moved is_moves =
          let place : site.applied + 1 - 1 ≡ site.applied = omega arith in
          let below : site.applied < length w.primary.log.sets = omega (arith, holds-at.holds.sent) in
          let values : site.values ≡ serial w.primary.log (site.applied + 1 - 1) =
          holds-at.holds.prefix.values ∙ ap (serial w.primary.log) (sym place) in
          record {
            set = rw place (is.primary.legal.sets site.applied [] below);
            known =
                rw (holds-at.holds.prefix.values, place, length-serial w.primary.log site.applied (omega (arith, holds-at.holds.sent)))
                (is.primary.legal.known site.applied [] below);
            legal = rw (holds-at.holds.prefix.values, place) (is.primary.legal.legal site.applied below);
            moves = rw values is_moves;
          }

-- ---- a store at the start

abbrev zeros : ℕ → List ℕ
zeros n = replicate n 0

nothing_travelled : (n x : ℕ) → get_or (zeros n) x 0 ≡ 0
nothing_travelled n x = elim (cases_lt x n) [
  | inl lt ↦ get_or-replicate n x 0 0 lt
  | inr le ↦ get_or_past (replicate n 0) x 0 (omega (arith, length-replicate {A = ℕ} n 0))
]

pub IsStore-start : (w : StoreState) → IsPrimary w.primary
    → w.primary.log ≡ record { start = initial_state w.primary.setup.objects; sets = [] }
    → w.primary.sites ≡ replicate (length w.primary.setup.sites) first_progress
    → w.sites ≡ replicate (length w.primary.setup.sites) (first_site w.primary.setup)
    → IsStore w
IsStore-start w primary log known sites =
    let n = length w.primary.setup.sites in
    let count : length w.sites ≡ n = ap length sites ∙ length-replicate n (first_site w.primary.setup) in
    record {
      primary = primary;
      count = count ∙ sym (length-replicate n first_progress) ∙ sym (ap length known);
      sites = λ s d lt. rw (
        known,
        sites,
        get_or-replicate n s first_progress first_progress (omega (arith, count)),
        get_or-replicate n s (first_site w.primary.setup) d (omega (arith, count)),
      ) (record {
        holds = record {
          reported = omega arith;
          applied = omega arith;
          sent = omega arith;
          prefix =
              rw log (record {
                within = omega arith;
                applied = refl;
                values = refl;
                travelled = nothing_travelled (length w.primary.setup.objects);
              });
        };
        feed = omega arith;
      });
    }

-- ---- what steps leave as it was

nothing_more : (h : History) → h ≡ with_more h []
nothing_more h = sym (ap (λ sets. let longer : History = record { start = h.start; sets = sets } in longer) (append-nil h.sets))

-- the log and the number of sites stay
pub Grows-kept : (w v : StoreState) → v.primary.setup ≡ w.primary.setup → v.primary.log ≡ w.primary.log
    → w.primary.acked ≤ v.primary.acked → length v.sites ≡ length w.sites
    → Grows w v
Grows-kept w v setup log acked sites = record {
  setup = setup;
  more = [];
  log = log ∙ nothing_more w.primary.log;
  acked = acked;
  sites = sites;
}

pub acked_after-more : (acked : ℕ) (sites : List ℕ) → acked ≤ acked_after acked sites
acked_after-more acked [] = omega arith
acked_after-more acked (s ∷ sites) = omega arith
