-- Ends of waiting and sends that the definitions refuse; changes of a limit, worked out by hand.
use Rattle.std.proofs.Common.{◌≡◌, ◌≤◌, [], ◌∷◌, Some, None, pos, refl, arith, inl, inr}
use Rattle.std.specs.Prelude.{codes, false}
use Rattle.ordup_objects.specs.declared.change.Op.TheVariants.{Add}
use Rattle.ordup_objects.specs.declared.refusal.Refusal.TheVariants.{UnknownObject, UnknownGroup, UnknownSite, OutOfRange, LagOver, NotYet}
use Rattle.ordup_log.specs.declared.scope.Scope.TheVariants.{Object, Group, Count}
use Rattle.ordup_limits.specs.Entries.{entry_of}
use Rattle.ordup_primary.specs.LimitChanges.{limit_change_refusal}
use Rattle.ordup_primary.specs.Primaries.{PrimaryState, first_progress, site_view}
use Rattle.ordup_holds.specs.Books.{BookState}
use Rattle.ordup_holds.specs.Relimiting.{with_changed_limit}
use Rattle.ordup_holds.specs.Turning.{KeptSite, SentOut}
use Rattle.ordup_holds.specs.Waiting.{EndsUnmet}

-- update 5 is not acknowledged, but of 3 turns only 2 are made
unmet-early : EndsUnmet 5 3 (record { acked = 0; made = 2; refused = false }) (NotYet 5) → ⊥
unmet-early ends = elim ends [
  | inl growth ↦ absurd (let is = growth.0 in cc)
  | inr left ↦ absurd (let made : 2 ≡ 3 = left.2.1 in omega arith)
]

-- all turns are made, but the update is acknowledged
unmet-met : EndsUnmet 5 3 (record { acked = 5; made = 3; refused = false }) (NotYet 5) → ⊥
unmet-met ends = elim ends [
  | inl growth ↦ absurd (let is = growth.0 in cc)
  | inr left ↦ absurd (let below = left.2.0 in omega arith)
]

-- nothing was sent, though two may be, to a feed that has a capacity of 4
sends-none : (x : KeptSite) → x.progress ≡ first_progress → x.end.feed.capacity ≡ 4 → SentOut (λ s. 2) 0 x x → ⊥
sends-none x first spare is = elim is.out [
  | inl all ↦ absurd (let le : 2 ≤ 0 = rw first at all in omega arith)
  | inr full ↦ absurd (let le : 4 ≤ 0 = rw (spare, first) at full in omega arith)
]

-- A primary of the object x and the sites a and b, whose limits on x are 5. Its one update adds 3 to x; it is acknowledged, and no
-- site has reported it.
abbrev pub lagging : PrimaryState
lagging = record {
  setup = record {
    objects = (codes "x", pos 0) ∷ [];
    groups = [];
    sites = (codes "a", 4) ∷ (codes "b", 4) ∷ [];
    limits = (entry_of (Object 0) 5 1 ∷ []) ∷ (entry_of (Object 0) 5 1 ∷ []) ∷ [];
  };
  log = record { start = pos 0 ∷ []; sets = (record { object = 0; op = Add (pos 3) } ∷ []) ∷ [] };
  acked = 1;
  decided = 1;
  sites = first_progress ∷ first_progress ∷ [];
  limits = (entry_of (Object 0) 5 1 ∷ []) ∷ (entry_of (Object 0) 5 1 ∷ []) ∷ [];
}

-- the order of the refusals of a change: the scope is looked at before the site, and the site before the amount
change_refusals : (limit_change_refusal (site_view lagging 2) (Object 1) 1000000000000000001 ≡ Some UnknownObject)
    × (limit_change_refusal (site_view lagging 2) (Group 0) 1000000000000000001 ≡ Some UnknownGroup)
    × (limit_change_refusal (site_view lagging 2) Count 1000000000000000001 ≡ Some UnknownSite)
    × (limit_change_refusal (site_view lagging 1) Count 1000000000000000001 ≡ Some OutOfRange)
    × (limit_change_refusal (site_view lagging 1) (Object 0) 2 ≡ Some LagOver)
    × (limit_change_refusal (site_view lagging 1) (Object 0) 3 ≡ None)
change_refusals = (refl, refl, refl, refl, refl, refl)

-- b gets the limit from place 2 on, and a has its own as before
changes_b : (b : BookState) → b.primary ≡ lagging → (with_changed_limit b 1 (Object 0) 3).primary.limits
    ≡ (entry_of (Object 0) 5 1 ∷ []) ∷ (entry_of (Object 0) 5 1 ∷ entry_of (Object 0) 3 2 ∷ []) ∷ []
changes_b b is = rw is refl
