-- What changes of limits leave as it was.
use Rattle.std.proofs.Common.{◌≡◌, ℕ, ◌+◌, ◌<◌, ◌≤◌, ◌==◌, false, List, [], ◌∷◌, length, get_or, arith, refl, sym, ap, ◌∙◌, inl, inr}
use Rattle.std.specs.Prelude.{Option, Some, None, nat_lt, not, if◌then◌else◌}
use Rattle.std.specs.Option.{option_or}
use Rattle.std.proofs.Math.ListN.{set}
use Rattle.std.proofs.lemmas.Bool.{cases_Bool, cases_eq, cases_lt, eqb-true}
use Rattle.std.proofs.lemmas.List.{get_or-set_other, set_past}
use Rattle.std.proofs.lemmas.Grind.{get_or-set_at}
use Rattle.ordup_objects.specs.declared.refusal.Refusal.{Refusal}
use Rattle.ordup_objects.specs.declared.refusal.Refusal.TheVariants.{UnknownSite, HeadPending, LagOver}
use Rattle.ordup_log.specs.Spans.{span}
use Rattle.ordup_log.specs.declared.scope.Scope.{Scope}
use Rattle.ordup_rounds.proofs.RoundLemmas.{rounds_upto-same, windows_upto-same}
use Rattle.ordup_limits.specs.Limits.{within, scope_refusal}
use Rattle.ordup_limits.specs.Entries.{Entries, entry_of, in_force, changed, change_refusal}
use Rattle.ordup_limits.proofs.EntryLemmas.{in_force-before}
use Rattle.ordup_primary.specs.Declarations.{Declared}
use Rattle.ordup_primary.specs.LimitChanges.{limit_change_refusal}
use Rattle.ordup_primary.specs.Settling.{report_at}
use Rattle.ordup_world.specs.Events.{Past, log_of, decisions, reported, is_within_after, view_after, reply, is_refused}
use Rattle.ordup_world.specs.LimitChanges.{LimitChangesLeaveDecidedPlaces, LimitChangesLeaveRounds}
use Rattle.ordup_world.specs.declared.event.Event.TheVariants.{Relimit}
use Rattle.ordup_world.specs.declared.event.Answer.TheVariants.{Relimited}
use Rattle.ordup_world.proofs.ImportLemmas.{unrefused}

-- where neither of two refusals applies
neither : (o p : Option Refusal) → option_or o p ≡ None → (o ≡ None) × (p ≡ None)
neither None p e = (refl, e)
neither (Some r) p e = absurd cc

-- a change from a later place on leaves the limits in force at a place
changed-later : (limits : List Entries) (s t k place : ℕ) (scope : Scope) (amount : ℕ) → k < place
    → in_force (get_or (set limits s (changed (get_or limits s []) (entry_of scope amount place))) t []) k ≡ in_force (get_or limits t []) k
changed-later limits s t k place scope amount lt =
    let e = entry_of scope amount place in
    let more = changed (get_or limits s []) e in
    elim (cases_lt s (length limits)) [
      | inr past_all ↦ ap (λ all. in_force (get_or all t []) k) (set_past limits s more past_all)
      | inl there ↦ elim (cases_eq t s) [
        | inl same ↦
            ap (λ entries. in_force entries k) (get_or-set_at limits s t more [] same there)
            ∙ in_force-before (get_or limits s []) e k lt
            ∙ ap (λ i. in_force (get_or limits i []) k) (sym same)
        | inr other ↦ ap (λ entries. in_force entries k) (get_or-set_other limits s t more [] other)
      ]
    ]

module _ {A : Type 0} (setup : Declared) (past : Past A) where
  -- where a change is accepted, all decided updates are acknowledged
  settled-first : (s : ℕ) (scope : Scope) (amount : ℕ) → is_refused (reply setup past (Relimit s scope amount)) ≡ false
      → (decisions setup past).acked ≡ (decisions setup past).decided
  settled-first s scope amount fine =
      let ds = decisions setup past in
      let change = change_refusal (length setup.objects) setup.groups (get_or ds.limits s []) (entry_of scope amount (ds.acked + 1)) in
      let late : Option Refusal =
      if not (ds.acked == ds.decided) then Some HeadPending else
      if nat_lt amount (span (log_of setup past) setup.groups scope (reported s past) ds.acked) then Some LagOver else None in
      let beside : Option Refusal = if not (nat_lt s (length setup.sites)) then Some UnknownSite else option_or change late in
      let none = unrefused (limit_change_refusal (view_after setup past ds s) scope amount) (Relimited s (ds.acked + 1)) fine in
      let rest : beside ≡ None = (neither (scope_refusal (length setup.objects) setup.groups scope) beside none).1 in
      elim (cases_Bool (nat_lt s (length setup.sites))) [
        | inr unknown ↦ absurd (let no : Some UnknownSite ≡ None = rw unknown at rest in cc)
        | inl known ↦ (let last : late ≡ None = (neither change late (rw known at rest)).1 in
            elim (cases_Bool (ds.acked == ds.decided)) [
              | inr pending ↦ absurd (let no : Some HeadPending ≡ None = rw pending at last in cc)
              | inl same ↦ eqb-true ds.acked ds.decided same
            ])
      ]

-- ---- the laws

pub limits-decided : (A : Type 0) → LimitChangesLeaveDecidedPlaces A
limits-decided A setup past s t k scope amount fine le =
    let ds = decisions setup past in
    changed-later ds.limits s t k (ds.acked + 1) scope amount (omega (arith, le, settled-first setup past s scope amount fine))

pub rounds-decided : (A : Type 0) → LimitChangesLeaveRounds A
rounds-decided A setup past s t scope amount fine =
    let ds = decisions setup past in
    let before = is_within_after setup past t in
    let after = is_within_after setup (Relimit s scope amount ∷ past) t in
    let reports = report_at (ds.reports t) in
    let same : (a k : ℕ) → k ≤ ds.decided → after a k ≡ before a k =
    λ a k le. ap (λ limits. within (log_of setup past) setup.groups limits a k) (limits-decided A setup past s t k scope amount fine le) in
    let rounds = rounds_upto-same after before reports reports ds.decided (λ k some few. same (reports k) k few) in
    let windows = windows_upto-same after before reports reports ds.decided (λ k some few. same (reports k) k few) (λ k some few. refl) in
    (rounds, windows)
