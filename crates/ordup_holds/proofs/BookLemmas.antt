-- The ends of the feeds stay those of the primary's sites.
use Rattle.std.proofs.Common.{◌≡◌, ◌≢◌, ◌⊎◌, ℕ, zero, suc, ◌+◌, ◌-◌, ◌<◌, ◌≤◌, List, [], ◌∷◌, ◌++◌, length, take, Some, None}
use Rattle.std.proofs.Common.{refl, sym, ap, ◌∙◌, subst, arith, add-one, inl, inr, ⊎_elim}
use Rattle.std.specs.Prelude.{slice_get, slice_set, slice_index_or, if◌then◌else◌, ◌&&◌, not, nat_lt}
use Rattle.std.proofs.Math.Seq.{take-suc}
use Rattle.std.proofs.Math.ListN.{length-set}
use Rattle.std.proofs.lemmas.Bool.{cases_lt, lt-ltb}
use Rattle.std.proofs.lemmas.Option.{slice_get_within}
use Rattle.std.proofs.lemmas.List.{get_or-set_same, set-get_or, get_or-set_other, length-map, length-take-le, map-append, take-append-le}
use Rattle.ordup_objects.specs.declared.change.Change.{Change}
use Rattle.ordup_objects.specs.Serial.{History, set_at, with_update}
use Rattle.ordup_primary.specs.Primaries.{PrimaryState, SiteProgress, IsPrimary, first_progress, progress_at, reported_at, is_within}
use Rattle.ordup_primary.specs.LimitChanges.{limit_change_refusal}
use Rattle.ordup_primary.specs.Primaries.{relimited, relimit_refusal, site_view}
use Rattle.ordup_limits.specs.Limits.{scope_refusal}
use Rattle.ordup_log.specs.declared.scope.Scope.{Scope}
use Rattle.ordup_feed.specs.Parcels.{PlainParcel}
use Rattle.ordup_feed.specs.Ends.{Sending}
use Rattle.ordup_objects.specs.States.{State}
use Rattle.ordup_holds.specs.Books.{BookState, IsTied, KeepsBook, AreSpareValues}
use Rattle.ordup_holds.specs.Turning.{KeptSite, AtEachSite, Reported, Sent, SentOut, SameFeeds, kept_at, with_progress, send_bound}

-- ---- lists in which an element changed

pub at-set : {A : Type 0} → (l : List A) (i j : ℕ) (a b : A) → slice_get (slice_set l i a) j ≡ Some b
    → ((j ≡ i) × (a ≡ b)) ⊎ ((j ≢ i) × (slice_get l j ≡ Some b))
at-set [] i j a b e = absurd cc
at-set (x ∷ xs) zero zero a b e = inl (refl, cc)
at-set (x ∷ xs) zero (suc j) a b e = inr ((λ h. omega arith), e)
at-set (x ∷ xs) (suc i) zero a b e = inr ((λ h. omega arith), e)
at-set (x ∷ xs) (suc i) (suc j) a b e =
    ⊎_elim (λ t. inl (ap suc t.0, t.1)) (λ t. let n = t.0 in inr ((λ h. n (omega arith)), t.1)) (at-set xs i j a b e)

pub slice_get-set_other : {A : Type 0} → (l : List A) (i j : ℕ) (a : A) → j ≢ i → slice_get (slice_set l i a) j ≡ slice_get l j
slice_get-set_other [] i j a other = refl
slice_get-set_other (x ∷ xs) zero zero a other = absurd (other refl)
slice_get-set_other (x ∷ xs) zero (suc j) a other = refl
slice_get-set_other (x ∷ xs) (suc i) zero a other = refl
slice_get-set_other (x ∷ xs) (suc i) (suc j) a other = slice_get-set_other xs i j a (λ e. other (ap suc e))

pub set-twice : {A : Type 0} → (l : List A) (i : ℕ) (a b : A) → slice_set (slice_set l i a) i b ≡ slice_set l i b
set-twice [] i a b = refl
set-twice (x ∷ xs) zero a b = refl
set-twice (x ∷ xs) (suc i) a b = ap (λ l. x ∷ l) (set-twice xs i a b)

-- ---- ends that stay tied

-- the end belongs to a site of which the primary knows the same
pub tied-same : (p q : PrimaryState) (s : ℕ) (e : Sending) → q.setup ≡ p.setup → q.log ≡ p.log
    → (progress_at q s).sent ≡ (progress_at p s).sent → (progress_at q s).reported ≡ (progress_at p s).reported → IsTied p s e
    → IsTied q s e
tied-same p q s e setup log sent reported tied = record {
  capacity = rw setup tied.capacity;
  pushed = rw (log, sent) tied.pushed;
  reported = rw reported tied.reported;
}

-- one update more in the log
pub keeps-numbered : (p : PrimaryState) (ends : List Sending) (m : List Change) → IsPrimary p → KeepsBook p ends
    → KeepsBook (record p { log = with_update p.log m }) ends
keeps-numbered p ends m is kept = record {
  count = kept.count;
  tied = λ s e at.
      let tied = kept.tied s e at in
      let inside : s < length p.sites = let count = kept.count in let there = slice_get_within ends s e at in omega arith in
      record {
        capacity = tied.capacity;
        pushed =
            tied.pushed
            ∙ ap (λ (l : List (List Change)). let h : History = record { start = p.log.start; sets = l } in h)
            (sym (take-append-le (progress_at p s).sent p.log.sets (m ∷ []) ((is.sites s first_progress inside).sent)));
        reported = tied.reported;
      };
}

-- settlements
pub keeps-settled : (p q : PrimaryState) (ends : List Sending) → SameFeeds p q → KeepsBook p ends → KeepsBook q ends
keeps-settled p q ends same kept = record {
  count = kept.count ∙ sym same.count;
  tied = λ s e at.
      let inside : s < length p.sites = let count = kept.count in let there = slice_get_within ends s e at in omega arith in
      tied-same p q s e same.setup same.log (same.sent s inside) (same.reported s inside) (kept.tied s e at);
}

-- a limit of a site
pub keeps-relimited : (p : PrimaryState) (s : ℕ) (scope : Scope) (amount : ℕ) (ends : List Sending) → KeepsBook p ends
    → KeepsBook (relimited p s scope amount) ends
keeps-relimited p s scope amount ends kept = record {
  count = kept.count;
  tied = λ t e at. tied-same p (relimited p s scope amount) t e refl refl refl refl (kept.tied t e at);
}

-- where the scope and the site are there, what the primary refuses is refused
pub primary-refuses : (p : PrimaryState) (s : ℕ) (scope : Scope) (amount : ℕ)
    → scope_refusal (length p.setup.objects) p.setup.groups scope ≡ None → s < length p.setup.sites
    → limit_change_refusal (site_view p s) scope amount ≡ relimit_refusal p s scope amount
primary-refuses p s scope amount known there = rw (known, lt-ltb s (length p.setup.sites) there) refl

pub progress-same : (p q : PrimaryState) (s : ℕ) (x : SiteProgress) → q ≡ with_progress p s x → s < length p.sites
    → progress_at q s ≡ x
progress-same p q s x is inside =
    ap (λ (t : PrimaryState). progress_at t s) is ∙ get_or-set_same p.sites s x first_progress inside

-- what is known of a site, put where it is
pub with-same : (p : PrimaryState) (s : ℕ) → p ≡ with_progress p s (progress_at p s)
with-same p s = λ i. record p { sites = sym (set-get_or p.sites s first_progress) i }

pub sites-count : (p q : PrimaryState) (s : ℕ) (x : SiteProgress) → q ≡ with_progress p s x → length q.sites ≡ length p.sites
sites-count p q s x is = ap (λ (t : PrimaryState). length t.sites) is ∙ length-set p.sites s x

-- one site changes, and its end
pub progress-other : (p q : PrimaryState) (s t : ℕ) (site : SiteProgress) → q ≡ with_progress p s site → t ≢ s
    → progress_at q t ≡ progress_at p t
progress-other p q s t site is other =
    ap (λ (r : PrimaryState). progress_at r t) is ∙ get_or-set_other p.sites s t site first_progress other

pub keeps-at : (p q : PrimaryState) (ends : List Sending) (s : ℕ) (site : SiteProgress) (f : Sending) → KeepsBook p ends
    → q ≡ with_progress p s site → IsTied q s f → KeepsBook q (slice_set ends s f)
keeps-at p q ends s site f kept is tied = record {
  count = length-set ends s f ∙ kept.count ∙ sym (sites-count p q s site is);
  tied = λ t e at. ⊎_elim
      (λ (same : (t ≡ s) × (f ≡ e)). subst (λ (y : ℕ × Sending). IsTied q y.0 y.1) (λ i. (sym same.0 i, same.1 i)) tied)
      (λ (other : (t ≢ s) × (slice_get ends t ≡ Some e)).
      let progress = progress-other p q s t site is other.0 in
      tied-same p q t e (ap (λ (r : PrimaryState). r.setup) is) (ap (λ (r : PrimaryState). r.log) is)
      (ap (λ (x : SiteProgress). x.sent) progress) (ap (λ (x : SiteProgress). x.reported) progress) (kept.tied t e other.1))
      (at-set ends s t f e at);
}

-- ---- a step at each site, one after the other

-- the sites below n made their steps, the others none
pub record Upto (n : ℕ) (Step : ℕ → KeptSite → KeptSite → Type 0) (b c : BookState) : Type 0 where
  pub primary : c.primary ≡ record b.primary { sites = c.primary.sites }
  pub sites : length c.primary.sites ≡ length b.primary.sites
  pub ends : length c.ends ≡ length b.ends
  pub done : (s : ℕ) (e f : Sending) → s < n → slice_get b.ends s ≡ Some e → slice_get c.ends s ≡ Some f
      → Step s (kept_at b.primary s e) (kept_at c.primary s f)
  pub rest : (s : ℕ) → n ≤ s → (slice_get c.ends s ≡ slice_get b.ends s) × (progress_at c.primary s ≡ progress_at b.primary s)

module _ (Step : ℕ → KeptSite → KeptSite → Type 0) where
  pub upto-none : (b : BookState) → Upto 0 Step b b
  upto-none b = record {
    primary = refl;
    sites = refl;
    ends = refl;
    done = λ s e f lt. absurd (omega arith);
    rest = λ s le. (refl, refl);
  }

  pub upto-more : (n : ℕ) (b c : BookState) (q : PrimaryState) (e f : Sending) → Upto n Step b c → n < length c.primary.sites
      → slice_get c.ends n ≡ Some e → q ≡ with_progress c.primary n (progress_at q n)
      → Step n (kept_at c.primary n e) (kept_at q n f)
      → Upto (n + 1) Step b (record { primary = q; ends = slice_set c.ends n f })
  upto-more n b c q e f upto inside at is step = record {
    primary = is ∙ (λ i. record (upto.primary i) { sites = ap (λ (r : PrimaryState). r.sites) (sym is) i });
    sites = sites-count c.primary q n (progress_at q n) is ∙ upto.sites;
    ends = length-set c.ends n f ∙ upto.ends;
    done = λ s d g lt before after. ⊎_elim
        (λ (same : (s ≡ n) × (f ≡ g)).
        let rest = upto.rest n (omega arith) in
        let first : slice_get b.ends n ≡ Some d = subst (λ (k : ℕ). slice_get b.ends k ≡ Some d) same.0 before in
        let old : e ≡ d = cc (at, rest.0, first) in
        rw (same.0, ← same.1, ← old, ← rest.1) step)
        (λ (other : (s ≢ n) × (slice_get c.ends s ≡ Some g)).
        rw (progress-other c.primary q n s (progress_at q n) is other.0)
        (upto.done s d g (let ne = other.0 in omega arith) before other.1))
        (at-set c.ends n s f g after);
    rest = λ s le.
        let other : s ≢ n = λ h. omega arith in
        let rest = upto.rest s (omega arith) in
        (slice_get-set_other c.ends n s f other ∙ rest.0, progress-other c.primary q n s (progress_at q n) is other ∙ rest.1);
  }

  pub upto-all : (n : ℕ) (b c : BookState) → Upto n Step b c → length b.ends ≤ n → AtEachSite Step b c
  upto-all n b c upto all = record {
    primary = upto.primary;
    sites = upto.sites;
    ends = upto.ends;
    each = λ s e f before after.
        let there = slice_get_within b.ends s e before in upto.done s e f (omega arith) before after;
  }

-- ---- what a site may be sent

abbrev bound_by : PrimaryState → ℕ → SiteProgress → ℕ
bound_by p s site =
    if nat_lt p.acked p.decided
    && (not (is_within p s (reported_at site (p.acked + 1)) (p.acked + 1)) && nat_lt site.reported (p.acked + 1)) then p.acked + 1 else
    length p.log.sets

-- it does not change by what is sent to other sites
pub bound-same : (p q : PrimaryState) (s : ℕ) → q ≡ record p { sites = q.sites } → progress_at q s ≡ progress_at p s
    → send_bound q s ≡ send_bound p s
bound-same p q s is same =
    ap (λ (r : PrimaryState). send_bound r s) is ∙ ap (bound_by p s) same

-- one parcel more is pushed for a site
pub tied-sent : (p q : PrimaryState) (s : ℕ) (e : Sending) (x : PlainParcel) → IsTied p s e → s < length p.sites
    → (progress_at p s).sent < length p.log.sets → x.number ≡ (progress_at p s).sent + 1 → x.set ≡ set_at p.log x.number
    → q ≡ with_progress p s (record (progress_at p s) { sent = (progress_at p s).sent + 1 })
    → IsTied q s (record e { pushed = e.pushed ++ x ∷ [] })
tied-sent p q s e x tied inside unsent number set is =
    let k = (progress_at p s).sent in
    let site : SiteProgress = record (progress_at p s) { sent = k + 1 } in
    let at = progress-same p q s site is inside in
    let place : x.number - 1 ≡ k = omega arith in
    let same : x.set ≡ slice_index_or p.log.sets k [] = set ∙ ap (λ i. slice_index_or p.log.sets i []) place in
    let sets = ap (λ (h : History). h.sets) tied.pushed in
    let start = ap (λ (h : History). h.start) tied.pushed in
    record {
      capacity = rw is tied.capacity;
      pushed =
          rw (at, ap (λ (r : PrimaryState). r.log) is)
          (λ i. record {
            start = start i;
            sets =
                (map-append (λ (y : PlainParcel). y.set) e.pushed (x ∷ [])
                ∙ (λ j. sets j ++ same j ∷ [])
                ∙ sym (take-suc p.log.sets k [] unsent)
                ∙ ap (λ n. take n p.log.sets) (sym (add-one k))) i;
          });
      reported = rw at tied.reported;
    }

-- nothing else of an end changed
pub pushed-alone : (e f : Sending) (parcels : List PlainParcel) → f ≡ record e { pushed = parcels } → f ≡ record e { pushed = f.pushed }
pushed-alone e f parcels is =
    let more : f.pushed ≡ parcels = ap (λ (s : Sending). s.pushed) is in is ∙ (λ i. record e { pushed = sym more i })

-- as many parcels were pushed for a site as were sent to it
pub pushed-count : (p : PrimaryState) (s : ℕ) (e : Sending) → IsPrimary p → s < length p.sites → IsTied p s e
    → length e.pushed ≡ (progress_at p s).sent
pushed-count p s e is inside tied =
    sym (length-map e.pushed (λ (x : PlainParcel). x.set)) ∙ ap (λ (h : History). length h.sets) tied.pushed
    ∙ length-take-le (progress_at p s).sent p.log.sets ((is.sites s first_progress inside).sent)

-- what is known of one site changes twice
pub progress-twice : (p q r : PrimaryState) (s : ℕ) (x y : SiteProgress) → q ≡ with_progress p s x → r ≡ with_progress q s y
    → s < length q.sites → r ≡ with_progress p s (progress_at r s)
progress-twice p q r s x y first second inside =
    rw (progress-same q r s y second inside)
    (second ∙ ap (λ (t : PrimaryState). with_progress t s y) first
    ∙ ap (λ (sites : List SiteProgress). let t : PrimaryState = record p { sites = sites } in t) (set-twice p.sites s x y))

-- one push more
pub sent-more : (bound : ℕ → ℕ) (s : ℕ) (x y z : KeptSite) → Sent bound s x y
    → z.progress ≡ record y.progress { sent = y.progress.sent + 1 } → z.end ≡ record y.end { pushed = z.end.pushed }
    → y.progress.sent < bound s → Sent bound s x z
sent-more bound s x y z sent is pushed below =
    let count : z.progress.sent ≡ y.progress.sent + 1 = ap (λ (p : SiteProgress). p.sent) is in
    let risen = sent.risen in
    record {
      pushed = pushed ∙ (λ i. record (sent.pushed i) { pushed = z.end.pushed });
      sent = is ∙ (λ i. record (sent.sent i) { sent = sym count i });
      risen = omega arith;
      bounded = omega arith;
    }

-- the bound of the site may be read from another primary
pub sent-bound : (bound other : ℕ → ℕ) (s : ℕ) (x y : KeptSite) → other s ≡ bound s → Sent bound s x y → Sent other s x y
sent-bound bound other s x y same sent = record {
  pushed = sent.pushed;
  sent = sent.sent;
  risen = sent.risen;
  bounded = rw same sent.bounded;
}

pub sent_out-bound : (bound other : ℕ → ℕ) (s : ℕ) (x y : KeptSite) → other s ≡ bound s → SentOut bound s x y → SentOut other s x y
sent_out-bound bound other s x y same sent = record {
  some = sent-bound bound other s x y same sent.some;
  out = rw same sent.out;
}

-- where all sites were sent what they may be, they were sent some of it
pub upto-some : (bound : ℕ → ℕ) (n : ℕ) (b c : BookState) → Upto n (SentOut bound) b c → Upto n (Sent bound) b c
upto-some bound n b c upto = record {
  primary = upto.primary;
  sites = upto.sites;
  ends = upto.ends;
  done = λ s e f lt before after. (upto.done s e f lt before after).some;
  rest = upto.rest;
}

pub sent-none : (bound : ℕ → ℕ) (s : ℕ) (x : KeptSite) → Sent bound s x x
sent-none bound s x = record { pushed = refl; sent = refl; risen = omega arith; bounded = omega arith }

-- where only the sites below n were sent something, nothing was sent to the others
pub upto-part : (bound : ℕ → ℕ) (n : ℕ) (b c : BookState) → Upto n (Sent bound) b c → AtEachSite (Sent bound) b c
upto-part bound n b c upto = record {
  primary = upto.primary;
  sites = upto.sites;
  ends = upto.ends;
  each = λ s e f before after. elim (cases_lt s n) [
    | inl lt ↦ upto.done s e f lt before after
    | inr past ↦ (let rest = upto.rest s past in
        let same : e ≡ f = cc (before, after, rest.0) in
        rw (rest.1, ← same) (sent-none bound s (kept_at b.primary s e)))
  ];
}

-- the spare values stay those of the primary
pub spare_values-kept : (p q : PrimaryState) (spare_values : List State) → q.log ≡ p.log → length q.sites ≡ length p.sites → AreSpareValues p spare_values
    → AreSpareValues q spare_values
spare_values-kept p q spare_values log count are =
    (are.0 ∙ sym count, λ k d lt. are.1 k d lt ∙ sym (ap (λ (h : History). h.start) log))

-- and so after a turn
pub spare_values-turned : {Step : ℕ → KeptSite → KeptSite → Type 0} {b a c : BookState} {m : PrimaryState}
    (spare_values : List State) → AtEachSite Reported b a → SameFeeds a.primary m → AtEachSite Step (record { primary = m; ends = a.ends }) c
    → AreSpareValues b.primary spare_values → AreSpareValues c.primary spare_values
spare_values-turned {b} {a} {c} {m} spare_values reported feeds sent are =
    let log = λ (p : PrimaryState). p.log in
    spare_values-kept b.primary c.primary spare_values (ap log sent.primary ∙ feeds.log ∙ ap log reported.primary)
    (sent.sites ∙ feeds.count ∙ reported.sites) are
