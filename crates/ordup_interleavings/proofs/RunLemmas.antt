-- Events that lead a store to what the holds made of it: steps of a run.
use Rattle.std.proofs.Common.{◌≡◌, ◌≢◌, ℕ, zero, suc, ◌+◌, ◌<◌, ◌≤◌, true, false, List, [], ◌∷◌, ◌++◌, length, get_or, All}
use Rattle.std.proofs.Common.{refl, sym, ap, ◌∙◌, arith, inl, inr, Global}
use Rattle.std.specs.Prelude.{None}
use Rattle.std.proofs.Math.ListN.{set, length-set}
use Rattle.std.proofs.lemmas.Bool.{cases_eq, eq-eqb, ne_eqb}
use Rattle.std.proofs.lemmas.List.{get_or-set_other, get_or_default}
use Rattle.std.proofs.lemmas.List.Elements.{All-push}
use Rattle.std.proofs.lemmas.Grind.{get_or-set_at}
use Rattle.ordup_limits.specs.Entries.{latest}
use Rattle.ordup_limits.proofs.LimitLemmas.{within-later}
use Rattle.ordup_primary.specs.Declarations.{Declared, AreCapacities, capacity_of}
use Rattle.ordup_primary.specs.Primaries.{PrimaryState, SiteProgress, IsPrimary, first_progress, progress_at, is_within, is_lag_within, limits_at}
use Rattle.ordup_primary.proofs.PrimaryLemmas.{IsPrimary-with_site, IsSiteSound-sent, IsSiteSound-reported}
use Rattle.ordup_site.specs.Sites.{SiteState, HasApplied}
use Rattle.ordup_world.specs.Events.{Past, past_after, AreAnswers, is_refused, opened, open_count}
use Rattle.ordup_world.specs.Worlds.{StoreState, IsStore, IsStoreAfter}
use Rattle.ordup_world.specs.Steps.{StepsStore}
use Rattle.ordup_world.specs.declared.event.Event.{Event}
use Rattle.ordup_world.specs.declared.event.Event.TheVariants as event
use Rattle.ordup_world.specs.declared.event.Answer.{Answer}
use Rattle.ordup_world.specs.declared.event.Answer.TheVariants as answer
use Rattle.ordup_world.proofs.AfterLemmas.{later-fine, stays_aside}
use Rattle.ordup_world.proofs.RunLemmas.{push}
use Rattle.ordup_world.proofs.StepLemmas.{sent_next, applied_next, reported_now}
use Rattle.ordup_world.proofs.StoreLemmas.{no_site}
use Rattle.ordup_interleavings.specs.Moments.{but_at}

-- a store that events lead to, none of which is refused or speaks of queries
pub record Run (d : Declared) (w : StoreState) : Type 0 where
  pub events : List (Event Global)
  pub answers : List (Answer Global)
  pub answered : AreAnswers d [] events answers
  pub accepted : All (λ a. is_refused a ≡ false) answers
  pub sound : IsStore w
  pub after : IsStoreAfter d w (past_after [] events answers)
  pub opened : (q : List ℕ) → opened d q (past_after [] events answers) ≡ None
  pub count : open_count (past_after [] events answers) ≡ 0

opened-still : (d : Declared) (q : List ℕ) (past : Past Global) (e : Event Global) → stays_aside e ≡ false
    → (opened d q (e ∷ past) ≡ opened d q past) × (open_count (e ∷ past) ≡ open_count past)
opened-still d q past (event.Propose m) update = (refl, refl)
opened-still d q past (event.Send s) update = (refl, refl)
opened-still d q past (event.Apply s) update = (refl, refl)
opened-still d q past (event.Report s) update = (refl, refl)
opened-still d q past event.Settle update = (refl, refl)
opened-still d q past (event.Relimit s scope amount) update = (refl, refl)
opened-still d q past e update = absurd cc

-- one event more
pub run-step : (d : Declared) (w v : StoreState) (e : Event Global) (a : Answer Global) → Run d w → StepsStore w e a v
    → is_refused a ≡ false → stays_aside e ≡ false → Run d v
run-step d w v e a run step fine update =
    let past = past_after [] run.events run.answers in
    let more = push d [] run.events run.answers e a run.answered (step.answer d past run.after) in
    let is : past_after [] (run.events ++ e ∷ []) (run.answers ++ a ∷ []) ≡ e ∷ past = more.0 ∙ later-fine past e a fine in
    record {
      events = run.events ++ e ∷ [];
      answers = run.answers ++ a ∷ [];
      answered = more.1;
      accepted = All-push (λ b. is_refused b ≡ false) run.answers a run.accepted fine;
      sound = step.sound;
      after = rw more.0 (step.state d past run.after);
      opened = λ q. rw is ((opened-still d q past e update).0 ∙ run.opened q);
      count = rw is ((opened-still d [] past e update).1 ∙ run.count);
    }

-- ---- a primary of which the sites are others

-- the store of a primary whose sites are these, with these replicas
abbrev pub store_of : PrimaryState → List SiteProgress → List SiteState → StoreState
store_of p known sites = record { primary = record p { sites = known }; sites = sites }

-- The store is alike the primary: each site applied what was sent to it, `at s` updates, and reported `told s`.
pub record IsAlike (p : PrimaryState) (ks : List SiteProgress) (xs : List SiteState) (at told : ℕ → ℕ) : Type 0 where
  pub count : length ks ≡ length p.sites
  pub sites : length xs ≡ length p.sites
  pub known : (s : ℕ) → s < length p.sites → get_or ks s first_progress ≡ record (progress_at p s) { sent = at s; reported = told s }
  pub applied : (s : ℕ) → s < length p.sites → (get_or xs s no_site).applied ≡ at s

-- a run to such a store
pub record Lands (d : Declared) (p : PrimaryState) (at told : ℕ → ℕ) : Type 0 where
  pub known : List SiteProgress
  pub sites : List SiteState
  pub alike : IsAlike p known sites at told
  pub run : Run d (store_of p known sites)

pub lands-same : (d : Declared) (p : PrimaryState) (at told at' told' : ℕ → ℕ) → ((s : ℕ) → s < length p.sites → at s ≡ at' s)
    → ((s : ℕ) → s < length p.sites → told s ≡ told' s) → Lands d p at told → Lands d p at' told'
lands-same d p at told at' told' same heard l =
    let alike = l.alike in
    record {
      known = l.known;
      sites = l.sites;
      run = l.run;
      alike = record {
        count = alike.count;
        sites = alike.sites;
        known = λ s lt. alike.known s lt ∙ (λ i. record (progress_at p s) { sent = same s lt i; reported = heard s lt i });
        applied = λ s lt. alike.applied s lt ∙ same s lt;
      };
    }

-- ---- functions that are another one at a number

pub but-here : (f : ℕ → ℕ) (s x : ℕ) → but_at f s x s ≡ x
but-here f s x = rw (eq-eqb s s refl) refl

pub but-other : (f : ℕ → ℕ) (s x t : ℕ) → t ≢ s → but_at f s x t ≡ f t
but-other f s x t other = rw (ne_eqb t s other) refl

pub same-but : (f g : ℕ → ℕ) (s : ℕ) → f s ≡ g s → ((t : ℕ) → t ≢ s → f t ≡ g t) → (t : ℕ) → f t ≡ g t
same-but f g s here others t = elim (cases_eq t s) [
  | inl same ↦ rw same here
  | inr other ↦ others t other
]

-- ---- one site goes on

module _ (d : Declared) (p : PrimaryState) (capacities : AreCapacities p.setup.sites) (s : ℕ) (lt : s < length p.sites) where
  -- it is sent the next update, and applies it
  advance : (at told : ℕ → ℕ) → Lands d p at told → (x : SiteState) → HasApplied x p.log (at s + 1) → at s < length p.log.sets
      → Lands d p (but_at at s (at s + 1)) told
  advance at told l x held more =
      let w = store_of p l.known l.sites in
      let alike = l.alike in
      let sound = l.run.sound in
      let site = get_or l.sites s no_site in
      let k = get_or l.known s first_progress in
      let is : k ≡ record (progress_at p s) { sent = at s; reported = told s } = alike.known s lt in
      let sent : k.sent ≡ at s = ap (λ (y : SiteProgress). y.sent) is in
      let applied : site.applied ≡ at s = alike.applied s lt in
      let below : s < length l.sites = omega (arith, lt, alike.sites) in
      let there : s < length l.known = omega (arith, lt, alike.count) in
      let declared : s < length p.setup.sites = omega (arith, there, sound.primary.count) in
      let some : 1 ≤ capacity_of p.setup s = (capacities s ([], 0) declared).0 in
      let one : SiteProgress = record k { sent = k.sent + 1 } in
      let at_site : site ≡ get_or l.sites s site = sym (get_or_default l.sites s site no_site below) in
      let primary : IsPrimary (record w.primary { sites = set l.known s one }) =
      IsPrimary-with_site w.primary s one sound.primary there
      (IsSiteSound-sent (is_within w.primary s) (length p.log.sets) p.acked p.decided k (sound.primary.sites s first_progress there)
      (omega (arith, sent, more))) (sound.primary.lags s there) in
      let first = run-step d w (store_of p (set l.known s one) l.sites) (event.Send s) (answer.Sent s (k.sent + 1)) l.run
      (sent_next sound below at_site (λ all. omega (arith, all, sent, more)) (λ full. omega (arith, full, sent, applied, some)) refl primary
      refl) refl refl in
      let now : get_or (set l.known s one) s first_progress ≡ one = get_or-set_at l.known s s one first_progress refl there in
      let less : site.applied < (get_or (set l.known s one) s first_progress).sent =
      omega (arith, ap (λ (y : SiteProgress). y.sent) now, sent, applied) in
      let next : HasApplied x p.log (site.applied + 1) = rw applied held in
      let second = run-step d (store_of p (set l.known s one) l.sites) (store_of p (set l.known s one) (set l.sites s x)) (event.Apply s)
      (answer.Applied s (site.applied + 1)) first (applied_next first.sound below at_site less refl next) refl refl in
      record {
        known = set l.known s one;
        sites = set l.sites s x;
        run = second;
        alike = record {
          count = length-set l.known s one ∙ alike.count;
          sites = length-set l.sites s x ∙ alike.sites;
          known = λ t inside. elim (cases_eq t s) [
            | inl same ↦
                rw (same, eq-eqb s s refl) (now ∙ (λ i. record (is i) { sent = (is i).sent + 1 }))
            | inr other ↦
                rw (ne_eqb t s other) (get_or-set_other l.known s t one first_progress other ∙ alike.known t inside)
          ];
          applied = λ t inside. elim (cases_eq t s) [
            | inl same ↦
                rw (same, eq-eqb s s refl)
                (ap (λ (y : SiteState). y.applied) (get_or-set_at l.sites s s x no_site refl below) ∙ held.applied)
            | inr other ↦
                rw (ne_eqb t s other)
                (ap (λ (y : SiteState). y.applied) (get_or-set_other l.sites s t x no_site other) ∙ alike.applied t inside)
          ];
        };
      }

  -- it is sent so many updates, and applies them
  pub reach : (n : ℕ) (at told : ℕ → ℕ) → Lands d p at told → at s + n ≤ length p.log.sets
      → ((j : ℕ) → j ≤ at s + n → (x : SiteState) × HasApplied x p.log j) → Lands d p (but_at at s (at s + n)) told
  reach zero at told l few passed =
      lands-same d p at told (but_at at s (at s + 0)) told (λ t inside.
      same-but at (but_at at s (at s + 0)) s (omega (arith, but-here at s (at s + 0))) (λ t other. sym (but-other at s (at s + 0) t other)) t)
      (λ t inside. refl) l
  reach (suc n) at told l few passed =
      let mid = but_at at s (at s + n) in
      let end = but_at at s (at s + suc n) in
      let here : mid s ≡ at s + n = but-here at s (at s + n) in
      let before = reach n at told l (omega (arith, few)) (λ j le. passed j (omega (arith, le))) in
      let x = passed (mid s + 1) (omega (arith, here)) in
      let after = advance mid told before x.0 x.1 (omega (arith, here, few)) in
      lands-same d p (but_at mid s (mid s + 1)) told end told (λ t inside.
      same-but (but_at mid s (mid s + 1)) end s (omega (arith, but-here mid s (mid s + 1), but-here at s (at s + suc n), here)) (λ t other.
      but-other mid s (mid s + 1) t other ∙ but-other at s (at s + n) t other ∙ sym (but-other at s (at s + suc n) t other)) t)
      (λ t inside. refl) after

  -- it reports what it applied
  pub tell : (at told : ℕ → ℕ) → Lands d p at told → told s ≤ at s → Lands d p at (but_at told s (at s))
  tell at told l le =
      let w = store_of p l.known l.sites in
      let alike = l.alike in
      let sound = l.run.sound in
      let site = get_or l.sites s no_site in
      let k = get_or l.known s first_progress in
      let is : k ≡ record (progress_at p s) { sent = at s; reported = told s } = alike.known s lt in
      let sent : k.sent ≡ at s = ap (λ (y : SiteProgress). y.sent) is in
      let reported : k.reported ≡ told s = ap (λ (y : SiteProgress). y.reported) is in
      let applied : site.applied ≡ at s = alike.applied s lt in
      let below : s < length l.sites = omega (arith, lt, alike.sites) in
      let there : s < length l.known = omega (arith, lt, alike.count) in
      let one : SiteProgress = record k { reported = site.applied } in
      let at_site : site ≡ get_or l.sites s site = sym (get_or_default l.sites s site no_site below) in
      let risen : k.reported ≤ site.applied = omega (arith, reported, applied, le) in
      let lag : is_lag_within w.primary s site.applied ≡ true =
      within-later p.log p.setup.groups (latest (limits_at p s)) k.reported site.applied p.acked risen (sound.primary.lags s there) in
      let primary : IsPrimary (record w.primary { sites = set l.known s one }) =
      IsPrimary-with_site w.primary s one sound.primary there
      (IsSiteSound-reported w.primary s site.applied k (sound.primary.sites s first_progress there) risen (omega (arith, sent, applied)))
      lag in
      record {
        known = set l.known s one;
        sites = l.sites;
        run = run-step d w (store_of p (set l.known s one) l.sites) (event.Report s) (answer.Reported s site.applied) l.run
            (reported_now sound below at_site refl primary refl) refl refl;
        alike = record {
          count = length-set l.known s one ∙ alike.count;
          sites = alike.sites;
          known = λ t inside. elim (cases_eq t s) [
            | inl same ↦
                rw (same, eq-eqb s s refl)
                (get_or-set_at l.known s s one first_progress refl there ∙ (λ i. record (is i) { reported = applied i }))
            | inr other ↦
                rw (ne_eqb t s other) (get_or-set_other l.known s t one first_progress other ∙ alike.known t inside)
          ];
          applied = alike.applied;
        };
      }
