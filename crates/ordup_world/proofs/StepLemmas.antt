-- What each event of updates makes of the store, and what it answers.
use Rattle.std.proofs.Common.{◌≡◌, ℕ, ◌+◌, ◌-◌, ◌<◌, ◌≤◌, ◌==◌, true, false}
use Rattle.std.proofs.Common.{List, [], ◌∷◌, length, get_or, arith, refl, sym, ap, ◌∙◌, inl, inr}
use Rattle.std.specs.Prelude.{ℤ, Option, Some, None, nat_lt}
use Rattle.std.proofs.Math.ListN.{set, length-set}
use Rattle.std.proofs.lemmas.Bool.{cases_Bool, cases_eq, le-ltb, lt-ltb, eq-eqb, ne_eqb, false≢true}
use Rattle.ordup_objects.specs.declared.change.Change.{Change}
use Rattle.ordup_objects.specs.declared.refusal.Refusal.{Refusal}
use Rattle.ordup_objects.specs.declared.refusal.Refusal.TheVariants.{UnknownObject, UnknownSite, NothingToSend, FeedFull, NothingToApply}
use Rattle.ordup_objects.specs.Refusals.{IsRefusal}
use Rattle.ordup_objects.specs.Sets.{are_known}
use Rattle.ordup_objects.specs.Serial.{with_update, serial}
use Rattle.ordup_log.specs.Appending.{append_refusal}
use Rattle.ordup_log.specs.declared.scope.Scope.{Scope}
use Rattle.ordup_limits.specs.Limits.{scope_refusal}
use Rattle.ordup_primary.specs.Declarations.{Declared, capacity_of}
use Rattle.ordup_primary.specs.Primaries.{PrimaryState, IsPrimary, Decides, progress_at, forced_now, waiting_now}
use Rattle.ordup_primary.specs.Primaries.{acked_after, settle_refusal, settled_as, relimit_refusal, relimited}
use Rattle.ordup_primary.specs.declared.settled.Settled.{Settled}
use Rattle.ordup_site.specs.Sites.{SiteState, HasApplied}
use Rattle.ordup_world.specs.Events.{Past, sets_of, sent, applied, reported, rounds, decisions, log_of}
use Rattle.ordup_world.specs.Events.{reply, refused_or, is_refused, takes_memory, IsAnswer}
use Rattle.ordup_world.specs.Worlds.{StoreState, IsStore, IsSiteAfter, IsStoreAfter}
use Rattle.ordup_world.specs.Steps.{Grows, StepsStore}
use Rattle.ordup_world.specs.declared.event.Event.{Event}
use Rattle.ordup_world.specs.declared.event.Event.TheVariants.{Propose, Send, Apply, Report, Settle, Relimit, Show}
use Rattle.ordup_world.specs.declared.event.Answer.{Answer}
use Rattle.ordup_world.specs.declared.event.Answer.TheVariants.{Proposed, Sent, Applied, Reported, Settlement, Relimited, Shown, Refused}
use Rattle.ordup_world.proofs.StoreLemmas.{no_site, IsStore-proposed, IsStore-sent, IsStore-applied, IsStore-reported}
use Rattle.ordup_world.proofs.StoreLemmas.{IsStore-decided, IsStore-waited, IsStore-relimited, Grows-kept, acked_after-more}
use Rattle.ordup_world.proofs.AfterLemmas.{later-fine, updates-are, after-at, settled-same, IsStoreAfter-proposed, IsStoreAfter-sent}
use Rattle.ordup_world.proofs.AfterLemmas.{IsStoreAfter-applied, IsStoreAfter-reported, IsStoreAfter-decided, IsStoreAfter-waited}
use Rattle.ordup_world.proofs.AfterLemmas.{IsStoreAfter-aside, IsStoreAfter-relimited}

-- a site that is there was declared
pub there : (w : StoreState) (s : ℕ) → IsStore w → s < length w.sites → nat_lt s (length w.primary.setup.sites) ≡ true
there w s sound lt = lt-ltb s (length w.primary.setup.sites) (omega (arith, lt, sound.count, sound.primary.count))

-- the error of a call is the answer, where the reply is its refusal or else no refusal
refused-answer : {A : Type 0} (setup : Declared) (past : Past A) (e : Event A) (r : Option Refusal) (answer : Answer A) {x : Refusal}
    → reply setup past e ≡ refused_or r answer → takes_memory e ≡ true → is_refused answer ≡ false → IsRefusal r x
    → IsAnswer setup past e (Refused x)
refused-answer setup past e None answer same takes fine h = inr (takes, ap is_refused same ∙ fine, ap Refused h)
refused-answer setup past e (Some y) answer same takes fine h = inl (ap Refused h ∙ sym same)

module _ {A : Type 0} {w : StoreState} (sound : IsStore w) where
  -- a refused event
  stays : {e : Event A} {r : Refusal}
      → ((past : Past A) → IsStoreAfter w.primary.setup w past → IsAnswer w.primary.setup past e (Refused r))
      → StepsStore {A = A} w e (Refused r) w
  stays answers = record {
    answer = λ setup past is. rw (← is.declared) (answers past (rw (← is.declared) at is));
    state = λ setup past is. is;
    refused = λ refused. refl;
    sound = sound;
    grows = Grows-kept w w refl refl (omega arith) refl;
  }

  -- an accepted event: its answer, and what it makes of the store
  accepted : {v : StoreState} {e : Event A} {a : Answer A} → is_refused a ≡ false → IsStore v → Grows w v
      → ((past : Past A) → IsStoreAfter w.primary.setup w past
      → IsAnswer w.primary.setup past e a × IsStoreAfter w.primary.setup v (e ∷ past))
      → StepsStore {A = A} w e a v
  accepted {e = e} {a = a} fine new grows after = record {
    answer = λ setup past is. rw (← is.declared) (after past (rw (← is.declared) at is)).0;
    state = λ setup past is. rw (← is.declared, later-fine past e a fine) (after past (rw (← is.declared) at is)).1;
    refused = λ refused. absurd (false≢true (rw fine at refused));
    sound = new;
    grows = grows;
  }

  -- an event of a site that is not there
  pub unknown-site : {e : Event A} (s : ℕ) → length w.sites ≤ s
      → ((setup : Declared) (past : Past A) → nat_lt s (length setup.sites) ≡ false → reply setup past e ≡ Refused UnknownSite)
      → StepsStore {A = A} w e (Refused UnknownSite) w
  unknown-site s past_all replies =
      let no = le-ltb s (length w.primary.setup.sites) (omega (arith, past_all, sound.count, sound.primary.count)) in
      stays (λ past is. inl (sym (replies w.primary.setup past no)))

  -- ---- Propose

  pub unknown-object : {m : List Change} → are_known (length w.primary.setup.objects) m ≡ false
      → StepsStore {A = A} w (Propose m) (Refused UnknownObject) w
  unknown-object out = stays (λ past is. inl (rw out refl))

  pub proposed : {p : PrimaryState} {m : List Change} {number : ℕ} → are_known (length w.primary.setup.objects) m ≡ true
      → append_refusal w.primary.log m ≡ None → number ≡ length w.primary.log.sets + 1 → IsPrimary p
      → p ≡ record w.primary { log = with_update w.primary.log m }
      → StepsStore {A = A} w (Propose m) (Proposed number) (record w { primary = p })
  proposed {m = m} over allowed e primary added =
      let new = IsStore-proposed w sound m (rw added at primary) in
      rw added (accepted refl new (record { setup = refl; more = m ∷ []; log = refl; acked = omega arith; sites = refl }) (λ past is. (
        inl (rw (e, over, is.log, rw is.log at allowed) refl),
        IsStoreAfter-proposed w past sound is m new,
      )))

  pub propose_refused : {p : PrimaryState} {m : List Change} {r : Refusal} → are_known (length w.primary.setup.objects) m ≡ true
      → IsRefusal (append_refusal w.primary.log m) r → p ≡ w.primary
      → StepsStore {A = A} w (Propose m) (Refused r) (record w { primary = p })
  propose_refused {m = m} over why same =
      rw same (stays (λ past is. refused-answer w.primary.setup past (Propose m) (append_refusal w.primary.log m)
      (Proposed (length w.primary.log.sets + 1))
      (rw (over, is.log) refl) refl refl why))

  -- ---- Settle

  reply-settled : (past : Past A) → IsStoreAfter w.primary.setup w past
      → reply w.primary.setup past Settle ≡ refused_or (settle_refusal w.primary) (Settlement (settled_as w.primary))
  reply-settled past is =
      rw (settled-same w past sound is, is.acked, is.log)
      (elim (cases_Bool ((decisions w.primary.setup past).acked == length (sets_of past))) [
        | inl all ↦ rw all refl
        | inr some ↦ rw some refl
      ])

  pub settled_now : {p : PrimaryState} {settled : Settled} → settle_refusal w.primary ≡ None → settled ≡ settled_as w.primary
      → IsPrimary p → (w.primary.acked ≡ w.primary.decided → Decides w.primary p)
      → (w.primary.acked < w.primary.decided → p ≡ record w.primary { acked = acked_after w.primary.acked (waiting_now w.primary) })
      → StepsStore {A = A} w Settle (Settlement settled) (record w { primary = p })
  settled_now {p = p} allowed e primary first waits =
      let answers = λ (past : Past A) (is : IsStoreAfter w.primary.setup w past).
      ap Settlement e
      ∙ ap (λ r. refused_or r (Settlement (settled_as w.primary))) (sym allowed)
      ∙ sym (reply-settled past is) in
      elim (cases_eq w.primary.acked w.primary.decided) [
        | inl same ↦ (let d = first same in
            let new = IsStore-decided w sound p primary d in
            accepted refl new (Grows-kept w (record w { primary = p }) d.setup d.log
            (rw d.acked (acked_after-more w.primary.acked (forced_now w.primary))) refl)
            (λ past is. (inl (answers past is), IsStoreAfter-decided w past sound is p new same d)))
        | inr other ↦ (let less : w.primary.acked < w.primary.decided = omega (arith, sound.primary.acked, other) in
            let new = IsStore-waited w sound (acked_after w.primary.acked (waiting_now w.primary)) (rw (waits less) at primary) in
            let more = acked_after-more w.primary.acked (waiting_now w.primary) in
            rw (waits less) (accepted refl new (Grows-kept _ _ refl refl more refl)
            (λ past is. (inl (answers past is), IsStoreAfter-waited w past sound is new less))))
      ]

  pub settle_refused : {p : PrimaryState} {r : Refusal} → IsRefusal (settle_refusal w.primary) r → p ≡ w.primary
      → StepsStore {A = A} w Settle (Refused r) (record w { primary = p })
  settle_refused why same =
      rw same (stays (λ past is. refused-answer w.primary.setup past Settle (settle_refusal w.primary) (Settlement (settled_as w.primary))
      (reply-settled past is) refl refl why))

  -- ---- Relimit

  -- where the scope and the site are there, the reply is the primary's refusal, or else the place of the head
  reply-relimited : (past : Past A) (s amount : ℕ) (scope : Scope) → IsStoreAfter w.primary.setup w past
      → scope_refusal (length w.primary.setup.objects) w.primary.setup.groups scope ≡ None → s < length w.sites
      → reply w.primary.setup past (Relimit s scope amount)
      ≡ refused_or (relimit_refusal w.primary s scope amount) (Relimited s (w.primary.acked + 1))
  reply-relimited past s amount scope is known lt =
      rw (known, there w s sound lt, is.acked, is.decided, is.limits, is.log, (is.sites s no_site lt).reported) refl

  pub relimited_now : {p : PrimaryState} {s amount place : ℕ} {scope : Scope}
      → scope_refusal (length w.primary.setup.objects) w.primary.setup.groups scope ≡ None → s < length w.sites
      → relimit_refusal w.primary s scope amount ≡ None → place ≡ w.primary.acked + 1 → IsPrimary p
      → p ≡ relimited w.primary s scope amount
      → StepsStore {A = A} w (Relimit s scope amount) (Relimited s place) (record w { primary = p })
  relimited_now {s = s} {amount = amount} {scope = scope} known lt allowed e primary changed =
      let new = IsStore-relimited w sound s scope amount (rw changed at primary) in
      rw (changed, e) (accepted refl new (Grows-kept _ _ refl refl (omega arith) refl) (λ past is. (
        inl (rw allowed at (sym (reply-relimited past s amount scope is known lt))),
        IsStoreAfter-relimited w past sound is s scope amount new,
      )))

  pub relimit_refused : {p : PrimaryState} {s amount : ℕ} {scope : Scope} {r : Refusal}
      → scope_refusal (length w.primary.setup.objects) w.primary.setup.groups scope ≡ None → s < length w.sites
      → IsRefusal (relimit_refusal w.primary s scope amount) r → p ≡ w.primary
      → StepsStore {A = A} w (Relimit s scope amount) (Refused r) (record w { primary = p })
  relimit_refused {s = s} {amount = amount} {scope = scope} known lt why same =
      rw same (stays (λ past is. refused-answer w.primary.setup past (Relimit s scope amount) (relimit_refusal w.primary s scope amount)
      (Relimited s (w.primary.acked + 1)) (reply-relimited past s amount scope is known lt) refl refl why))

  -- ---- a site that is there

  module _ {s : ℕ} (lt : s < length w.sites) where
    pub nothing_to_send : (progress_at w.primary s).sent ≡ length w.primary.log.sets
        → StepsStore {A = A} w (Send s) (Refused NothingToSend) w
    nothing_to_send all = stays (λ past is. inl (rw (
      there w s sound lt,
      eq-eqb (sent s past) (length (sets_of past)) (sym (is.sites s no_site lt).sent ∙ all ∙ updates-are w past sound is),
    ) refl))

    pub show_refused : {r : Refusal} → IsRefusal None r → StepsStore {A = A} w (Show s) (Refused r) w
    show_refused why =
        stays (λ past is. refused-answer w.primary.setup past (Show s) None
        (Shown (sent s past) (applied s past) (reported s past) (length (rounds w.primary.setup s past))
        (serial (log_of w.primary.setup past) (applied s past))) (rw (there w s sound lt) refl) refl refl why)

    module _ {site : SiteState} (at : site ≡ get_or w.sites s site) where
      here : (past : Past A) → IsStoreAfter w.primary.setup w past → IsSiteAfter w.primary.setup past s (progress_at w.primary s) site
      here past is = after-at w past sound is s site lt at

      module _ (more : (progress_at w.primary s).sent ≡ length w.primary.log.sets → ⊥) where
        unsent : (past : Past A) → IsStoreAfter w.primary.setup w past → (sent s past == length (sets_of past)) ≡ false
        unsent past is = ne_eqb _ _ (λ e. more ((here past is).sent ∙ e ∙ sym (updates-are w past sound is)))

        pub feed_full : (progress_at w.primary s).sent - site.applied ≡ capacity_of w.primary.setup s
            → StepsStore {A = A} w (Send s) (Refused FeedFull) w
        feed_full full = stays (λ past is. let feed : (sent s past - applied s past == capacity_of w.primary.setup s) ≡ true =
            eq-eqb _ _ (omega (arith, (here past is).sent, (here past is).applied, full)) in
            inl (rw (there w s sound lt, unsent past is, feed) refl))

        pub sent_next : {p : PrimaryState} {number : ℕ}
            → ((progress_at w.primary s).sent - site.applied ≡ capacity_of w.primary.setup s → ⊥)
            → number ≡ (progress_at w.primary s).sent + 1 → IsPrimary p
            → p ≡ record w.primary {
              sites = set w.primary.sites s (record (progress_at w.primary s) { sent = (progress_at w.primary s).sent + 1 });
            }
            → StepsStore {A = A} w (Send s) (Sent s number) (record w { primary = p })
        sent_next spare e primary marked =
            let new = IsStore-sent w sound s site lt at (rw marked at primary) more spare in
            rw (marked, e) (accepted refl new (Grows-kept _ _ refl refl (omega arith) refl) (λ past is.
            let feed : (sent s past - applied s past == capacity_of w.primary.setup s) ≡ false =
            ne_eqb _ _ (λ f. spare (omega (arith, (here past is).sent, (here past is).applied, f))) in (
              inl (rw (there w s sound lt, unsent past is, feed, (here past is).sent) refl),
              IsStoreAfter-sent w past sound is s site lt at new,
            )))

      pub nothing_to_apply : site.applied ≡ (progress_at w.primary s).sent
          → StepsStore {A = A} w (Apply s) (Refused NothingToApply) w
      nothing_to_apply all = stays (λ past is. inl (rw (
        there w s sound lt,
        eq-eqb (applied s past) (sent s past) (sym (here past is).applied ∙ all ∙ (here past is).sent),
      ) refl))

      pub applied_next : {new : SiteState} {number : ℕ} → site.applied < (progress_at w.primary s).sent
          → number ≡ site.applied + 1 → HasApplied new w.primary.log (site.applied + 1)
          → StepsStore {A = A} w (Apply s) (Applied s number) (record w { sites = set w.sites s new })
      applied_next {new = new} less e next =
          let after = IsStore-applied w sound s site lt at less new next in
          rw e (accepted refl after (Grows-kept _ _ refl refl (omega arith) (length-set w.sites s new)) (λ past is.
          let some : (applied s past == sent s past) ≡ false =
          ne_eqb _ _ (λ f. omega (arith, less, (here past is).applied, (here past is).sent, f)) in (
            inl (rw (there w s sound lt, some, (here past is).applied) refl),
            IsStoreAfter-applied w past sound is s site lt at new after next,
          )))

      pub reported_now : {p : PrimaryState} {place : ℕ} → place ≡ site.applied → IsPrimary p
          → p ≡ record w.primary { sites = set w.primary.sites s (record (progress_at w.primary s) { reported = place }) }
          → StepsStore {A = A} w (Report s) (Reported s place) (record w { primary = p })
      reported_now applied primary noted =
          let told = rw applied at noted in
          let new = IsStore-reported w sound s site lt at (rw told at primary) in
          rw (told, applied) (accepted refl new (Grows-kept _ _ refl refl (omega arith) refl)
          (λ past is. (inl (rw (there w s sound lt, (here past is).applied) refl), IsStoreAfter-reported w past sound is s site lt at new)))

      pub shown : {a b r n : ℕ} {values : List ℤ} → a ≡ (progress_at w.primary s).sent → b ≡ site.applied
          → r ≡ (progress_at w.primary s).reported → n ≡ length (progress_at w.primary s).rounds → values ≡ site.values
          → StepsStore {A = A} w (Show s) (Shown a b r n values) w
      shown e f h k v =
          rw (e, f, h, k, v) (accepted refl sound (Grows-kept w w refl refl (omega arith) refl) (λ past is.
          let x = here past is in (
            inl (rw (there w s sound lt, x.sent, x.applied, x.reported, is.rounds s lt, x.values) refl),
            IsStoreAfter-aside w.primary.setup w past (Show s) refl is,
          )))
