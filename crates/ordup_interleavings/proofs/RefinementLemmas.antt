-- The holds as events of a run: at each moment there is a run to a store that is alike the book's primary, in which each site applied
-- just what it reported. So a look that finds less than the site told by now is a report too.
use Rattle.std.proofs.Common.{◌≡◌, ◌≢◌, ◌⊎◌, ℕ, zero, suc, ◌+◌, ◌-◌, ◌<◌, ◌≤◌, not, ◌&&◌, List, [], ◌∷◌, length, get_or}
use Rattle.std.proofs.Common.{refl, sym, ap, ◌∙◌, subst, arith, inl, inr}
use Rattle.std.specs.Prelude.{None, nat_lt, if◌then◌else◌}
use Rattle.std.proofs.lemmas.Bool.{cases_eq, cases_lt, lt-ltb, le-ltb}
use Rattle.std.proofs.lemmas.List.{get_or_default}
use Rattle.ordup_primary.specs.Declarations.{Declared, AreCapacities}
use Rattle.ordup_primary.specs.Settling.{where_below}
use Rattle.ordup_primary.specs.Primaries.{PrimaryState, SiteProgress, IsPrimary, Decides, first_progress, progress_at, reported_at, is_within}
use Rattle.ordup_primary.specs.Primaries.{forced_now, waiting_now, acked_after, decided_at, settled_as, settle_refusal}
use Rattle.ordup_primary.proofs.SettlingLemmas.{where_below-same}
use Rattle.ordup_primary.proofs.PrimaryLemmas.{IsPrimary-decided, IsPrimary-waited}
use Rattle.ordup_site.specs.Sites.{SiteState, HasApplied}
use Rattle.ordup_world.specs.declared.event.Event.TheVariants as event
use Rattle.ordup_world.specs.declared.event.Answer.TheVariants as answer
use Rattle.ordup_world.proofs.StepLemmas.{settled_now}
use Rattle.ordup_holds.specs.Books.{BookState, KeepsBook}
use Rattle.ordup_holds.specs.Turning.{AtEachSite, Reported, Sent, Settles, Acknowledges, send_bound}
use Rattle.ordup_interleavings.specs.Moments.{but_at}
use Rattle.ordup_interleavings.proofs.TurnLemmas.{there, some-head, Parts, book_of, look-at, reports, acknowledges, settles-last}
use Rattle.ordup_interleavings.proofs.RunLemmas.{Run, run-step, store_of, Lands, lands-same, but-here, but-other, reach, tell}

-- what a site of a primary has reported
abbrev pub told_of : PrimaryState → ℕ → ℕ
told_of p s = (progress_at p s).reported

-- a run to a store in which each site applied just what it reported
abbrev pub Landed : Declared → PrimaryState → Type 0
Landed d p = Lands d p (told_of p) (told_of p)

-- ---- a primary of which the sites are others, apart from what was sent to them and what they reported

pub relands : (d : Declared) (p q : PrimaryState) (at told : ℕ → ℕ) → q ≡ record p { sites = q.sites }
    → length q.sites ≡ length p.sites
    → ((s : ℕ) → s < length p.sites
    → (let x : SiteProgress = record (progress_at p s) { sent = at s; reported = told s } in x) ≡ record (progress_at q s) { sent = at s; reported = told s })
    → Lands d p at told → Lands d q at told
relands d p q at told is count same l =
    let alike = l.alike in
    record {
      known = l.known;
      sites = l.sites;
      run = subst (λ (r : PrimaryState). Run d (store_of r l.known l.sites)) (sym is) l.run;
      alike = record {
        count = alike.count ∙ sym count;
        sites = alike.sites ∙ sym count;
        known = λ s lt. (let inside : s < length p.sites = omega (arith, lt, count) in alike.known s inside ∙ same s inside);
        applied = λ s lt. alike.applied s (omega (arith, lt, count));
      };
    }

-- ---- from one function to another, number by number

module _ (f g : ℕ → ℕ) where
  -- the second below n, and the first from there on
  abbrev pub mixed : ℕ → ℕ → ℕ
  mixed n t = if nat_lt t n then g t else f t

  pub mixed-below : (n t : ℕ) → t < n → mixed n t ≡ g t
  mixed-below n t lt = rw (lt-ltb t n lt) refl

  pub mixed-from : (n t : ℕ) → n ≤ t → mixed n t ≡ f t
  mixed-from n t le = rw (le-ltb t n le) refl

  mixed-more : (n t : ℕ) → t ≢ n → mixed n t ≡ mixed (suc n) t
  mixed-more n t other = elim (cases_lt t n) [
    | inl lt ↦ mixed-below n t lt ∙ sym (mixed-below (suc n) t (omega (arith, lt)))
    | inr le ↦ mixed-from n t le ∙ sym (mixed-from (suc n) t (omega (arith, le, other)))
  ]

  -- a function that is the second at n too
  pub mixed-but : (n x : ℕ) → x ≡ g n → (t : ℕ) → but_at (mixed n) n x t ≡ mixed (suc n) t
  mixed-but n x is t = elim (cases_eq t n) [
    | inl same ↦
        rw same (but-here (mixed n) n x ∙ is ∙ sym (mixed-below (suc n) n (omega arith)))
    | inr other ↦ but-other (mixed n) n x t other ∙ mixed-more n t other
  ]

-- each of the first n sites applies as many updates as g has; it reports them where it is to
module _ (d : Declared) (p : PrimaryState) (capacities : AreCapacities p.setup.sites) (f g : ℕ → ℕ)
    (risen : (s : ℕ) → s < length p.sites → f s ≤ g s) (few : (s : ℕ) → s < length p.sites → g s ≤ length p.log.sets)
    (passed : (s : ℕ) → s < length p.sites → (j : ℕ) → j ≤ g s → (x : SiteState) × HasApplied x p.log j) where
  one-reach : (n : ℕ) (told : ℕ → ℕ) → n < length p.sites → Lands d p (mixed f g n) told → Lands d p (mixed f g (suc n)) told
  one-reach n told lt l =
      let here = mixed-from f g n n (omega arith) in
      let end : mixed f g n n + (g n - f n) ≡ g n = omega (arith, here, risen n lt) in
      let next = reach d p capacities n lt (g n - f n) (mixed f g n) told l (omega (arith, end, few n lt)) (λ j le.
      passed n lt j (omega (arith, le, end))) in
      lands-same d p (but_at (mixed f g n) n (mixed f g n n + (g n - f n))) told (mixed f g (suc n)) told (λ t inside. mixed-but f g n _ end t)
      (λ t inside. refl) next

  pub all-reach : (n : ℕ) (told : ℕ → ℕ) → n ≤ length p.sites → Lands d p f told → Lands d p (mixed f g n) told
  all-reach zero told le l = lands-same d p f told (mixed f g 0) told (λ s inside. sym (mixed-from f g 0 s (omega arith))) (λ s inside. refl) l
  all-reach (suc n) told le l = one-reach n told (omega (arith, le)) (all-reach n told (omega (arith, le)) l)

  pub all-tell : (n : ℕ) → n ≤ length p.sites → Lands d p f f → Lands d p (mixed f g n) (mixed f g n)
  all-tell zero le l =
      let same : (s : ℕ) → s < length p.sites → f s ≡ mixed f g 0 s = λ s inside. sym (mixed-from f g 0 s (omega arith)) in
      lands-same d p f f (mixed f g 0) (mixed f g 0) same same l
  all-tell (suc n) le l =
      let lt : n < length p.sites = omega (arith, le) in
      let before = one-reach n (mixed f g n) lt (all-tell n (omega (arith, le)) l) in
      let here = mixed-from f g n n (omega arith) in
      let now = mixed-below f g (suc n) n (omega arith) in
      let after = tell d p capacities n lt (mixed f g (suc n)) (mixed f g n) before (omega (arith, here, now, risen n lt)) in
      lands-same d p (mixed f g (suc n)) (but_at (mixed f g n) n (mixed f g (suc n) n)) (mixed f g (suc n)) (mixed f g (suc n)) (λ t inside. refl)
      (λ t inside. mixed-but f g n _ now t) after

-- ---- the reports of a turn

lands-reported : (d : Declared) (b a : BookState) → AreCapacities b.primary.setup.sites → IsPrimary b.primary
    → KeepsBook b.primary b.ends → AtEachSite Reported b a
    → ((s : ℕ) → s < length b.primary.sites → (j : ℕ) → j ≤ told_of a.primary s → (x : SiteState) × HasApplied x b.primary.log j)
    → Landed d b.primary → Landed d a.primary
lands-reported d b a capacities is kept at passed l =
    let p = b.primary in
    let q = a.primary in
    let n = length p.sites in
    let f = told_of p in
    let g = told_of q in
    let told : (s : ℕ) → s < n → (told_of p s ≤ told_of q s) × (told_of q s ≤ length p.log.sets) = λ s lt.
    (let r = look-at b a is kept at s lt in
    let place : told_of q s ≡ r.place = ap (λ (x : SiteProgress). x.reported) r.is in
    (omega (arith, place, r.risen), omega (arith, place, r.sent, (is.sites s first_progress lt).sent))) in
    let all = all-tell d p capacities f g (λ s lt. (told s lt).0) (λ s lt. (told s lt).1) passed n (omega arith) l in
    let same : (s : ℕ) → s < n → mixed f g n s ≡ g s = λ s lt. mixed-below f g n s lt in
    let moved = lands-same d p (mixed f g n) (mixed f g n) g g same same all in
    relands d p q g g at.primary at.sites (λ s lt.
    let r = look-at b a is kept at s lt in λ i. record (sym r.is i) { sent = g s; reported = g s }) moved

-- ---- settlements

-- each site of a list changed, by its number
abbrev mapped : (ℕ → SiteProgress → SiteProgress) → ℕ → List SiteProgress → List SiteProgress
mapped f k [] = []
mapped f k (x ∷ xs) = f k x ∷ mapped f (suc k) xs

length-mapped : (f : ℕ → SiteProgress → SiteProgress) (k : ℕ) (xs : List SiteProgress) → length (mapped f k xs) ≡ length xs
length-mapped f k [] = refl
length-mapped f k (x ∷ xs) = ap suc (length-mapped f (suc k) xs)

at-mapped : (f : ℕ → SiteProgress → SiteProgress) (k : ℕ) (xs : List SiteProgress) (i : ℕ) (d : SiteProgress) → i < length xs
    → get_or (mapped f k xs) i d ≡ f (k + i) (get_or xs i d)
at-mapped f k [] i d lt = absurd (omega arith)
at-mapped f k (x ∷ xs) zero d lt = ap (λ n. f n x) (omega arith)
at-mapped f k (x ∷ xs) (suc i) d lt =
    at-mapped f (suc k) xs i d (omega (arith, lt)) ∙ ap (λ n. f n (get_or xs i d)) (omega arith)

abbrev decided_sites : PrimaryState → List SiteProgress → List SiteProgress
decided_sites p known = mapped (λ s x. decided_at (is_within p s x.reported (p.acked + 1)) (p.acked + 1) x) 0 known

-- the head was settled for the first time
settle-first : (d : Declared) (p q : PrimaryState) → IsPrimary p → settle_refusal p ≡ None → p.acked ≡ p.decided → Decides p q
    → Landed d p → Landed d q
settle-first d p q is allowed first decides l =
    let w = store_of p l.known l.sites in
    let k = p.acked + 1 in
    let alike = l.alike in
    let sound = l.run.sound in
    let sites = decided_sites p l.known in
    let new : PrimaryState = record q { sites = sites } in
    let decide : ℕ → SiteProgress → SiteProgress = λ s x. decided_at (is_within p s x.reported k) k x in
    let forced : forced_now w.primary ≡ forced_now p =
    ap (λ n. where_below (λ s. not (is_within p s (get_or l.known s first_progress).reported k)) n) alike.count
    ∙ where_below-same _ _ (length p.sites) (λ s lt. ap (λ (x : SiteProgress). not (is_within p s x.reported k)) (alike.known s lt)) in
    let each : (s : ℕ) (e : SiteProgress) → s < length l.known
    → get_or sites s e ≡ decide s (get_or l.known s e) = λ s e lt.
    at-mapped decide 0 l.known s e lt ∙ ap (λ n. decide n (get_or l.known s e)) (omega arith) in
    let decided : Decides w.primary new = record {
      setup = decides.setup;
      log = decides.log;
      limits = decides.limits;
      acked = decides.acked ∙ ap (acked_after p.acked) (sym forced);
      decided = decides.decided;
      count = length-mapped decide 0 l.known;
      sites = λ s e lt.
          each s e lt
          ∙ ap (λ (x : SiteProgress). decided_at (is_within p s x.reported k) k (get_or l.known s e))
          (get_or_default l.known s e first_progress lt);
    } in
    let some : p.acked < length p.log.sets = some-head p is allowed in
    let primary : IsPrimary new = IsPrimary-decided w.primary new sound.primary first some decided in
    let now : (s : ℕ) → s < length p.sites → progress_at q s ≡ decide s (progress_at p s) =
    λ s lt. decides.sites s first_progress lt in
    record {
      known = sites;
      sites = l.sites;
      run = run-step d w (store_of q sites l.sites) event.Settle (answer.Settlement (settled_as w.primary)) l.run
          (settled_now sound allowed refl primary (λ e. decided) (λ less. absurd (omega (arith, less, first)))) refl refl;
      alike = record {
        count = length-mapped decide 0 l.known ∙ alike.count ∙ sym decides.count;
        sites = alike.sites ∙ sym decides.count;
        known = λ s lt. (let inside : s < length p.sites = omega (arith, lt, decides.count) in
            each s first_progress (omega (arith, inside, alike.count))
            ∙ ap (decide s) (alike.known s inside)
            ∙ (λ i. record (sym (now s inside) i) {
              sent = (sym (now s inside) i).reported;
              reported = (sym (now s inside) i).reported;
            }));
        applied = λ s lt. (let inside : s < length p.sites = omega (arith, lt, decides.count) in
            alike.applied s inside ∙ sym (ap (λ (x : SiteProgress). x.reported) (now s inside)));
      };
    }

-- and later
settle-later : (d : Declared) (p : PrimaryState) → IsPrimary p → settle_refusal p ≡ None → p.acked < p.decided → Landed d p
    → Landed d (record p { acked = acked_after p.acked (waiting_now p) })
settle-later d p is allowed less l =
    let w = store_of p l.known l.sites in
    let k = p.acked + 1 in
    let alike = l.alike in
    let sound = l.run.sound in
    let waiting : waiting_now w.primary ≡ waiting_now p =
    ap (λ n. where_below (λ s. not (is_within p s (reported_at (get_or l.known s first_progress) k) k)
    && nat_lt (get_or l.known s first_progress).reported k) n) alike.count
    ∙ where_below-same _ _ (length p.sites) (λ s lt.
    ap (λ (x : SiteProgress). not (is_within p s (reported_at x k) k) && nat_lt x.reported k) (alike.known s lt)) in
    let by : List ℕ → PrimaryState = λ sites. record p { acked = acked_after p.acked sites } in
    let primary = IsPrimary-waited w.primary sound.primary less in
    let run = run-step d w (store_of (by (waiting_now w.primary)) l.known l.sites) event.Settle (answer.Settlement (settled_as w.primary))
    l.run (settled_now sound allowed refl primary (λ e. absurd (omega (arith, less, e))) (λ e. refl)) refl refl in
    record {
      known = l.known;
      sites = l.sites;
      run = subst (λ (sites : List ℕ). Run d (store_of (by sites) l.known l.sites)) waiting run;
      alike = record { count = alike.count; sites = alike.sites; known = alike.known; applied = alike.applied };
    }

lands-settled : (d : Declared) (p q : PrimaryState) → IsPrimary p → Settles p q → Landed d p → Landed d q
lands-settled d p q is settles l = elim (cases_eq p.acked p.decided) [
  | inl first ↦ settle-first d p q is settles.allowed first (settles.first first) l
  | inr other ↦ (let less : p.acked < p.decided = omega (arith, is.acked, other) in
      subst (Landed d) (sym (settles.later less)) (settle-later d p is settles.allowed less l))
]

lands-acknowledged : (d : Declared) (n : ℕ) (b : BookState) (q : PrimaryState) → IsPrimary b.primary → Acknowledges n b.primary q
    → Landed d b.primary → Landed d q
lands-acknowledged d zero b q is same l = subst (Landed d) (sym same) l
lands-acknowledged d (suc n) b q is h l =
    let before = acknowledges n b h.0 is h.1 in
    lands-settled d h.0 q before.primary h.2 (lands-acknowledged d n b h.0 is h.1 l)

lands-last : (d : Declared) (p q : PrimaryState) → IsPrimary p → (q ≡ p) ⊎ Settles p q → Landed d p → Landed d q
lands-last d p q is last l = elim last [
  | inl same ↦ subst (Landed d) (sym same) l
  | inr one ↦ lands-settled d p q is one l
]

-- ---- a turn

-- what is sent leaves a run as it is
lands-sent : (d : Declared) (bound : ℕ → ℕ) (b c : BookState) → length b.ends ≡ length b.primary.sites → AtEachSite (Sent bound) b c
    → Landed d b.primary → Landed d c.primary
lands-sent d bound b c count at l =
    let p = b.primary in
    let q = c.primary in
    let sent : (s : ℕ) → s < length p.sites → progress_at q s ≡ record (progress_at p s) { sent = (progress_at q s).sent } = λ s lt.
    (let e = there b.ends s (omega (arith, count, lt)) in
    let f = there c.ends s (omega (arith, count, at.ends, lt)) in
    (at.each s e.0 f.0 e.1 f.1).sent) in
    let told : (s : ℕ) → s < length p.sites → told_of p s ≡ told_of q s =
    λ s lt. sym (ap (λ (x : SiteProgress). x.reported) (sent s lt)) in
    let moved = lands-same d p (told_of p) (told_of p) (told_of q) (told_of q) told told l in
    relands d p q (told_of q) (told_of q) at.primary at.sites (λ s lt.
    λ i. record (sym (sent s lt) i) { sent = told_of q s; reported = told_of q s }) moved

pub lands-turned : (d : Declared) (b c : BookState) → AreCapacities b.primary.setup.sites → IsPrimary b.primary
    → KeepsBook b.primary b.ends → (t : Parts b c)
    → ((s : ℕ) → s < length b.primary.sites → (j : ℕ) → j ≤ told_of t.heard.primary s → (x : SiteState) × HasApplied x b.primary.log j)
    → Landed d b.primary → Landed d c.primary
lands-turned d b c capacities is kept t passed l =
    let a = t.heard in
    let x = reports b a is kept t.reported in
    let y = acknowledges t.count a t.acked x.primary t.first in
    let z = settles-last (book_of a t.acked) t.settled y.primary t.last in
    let count : length a.ends ≡ length t.settled.sites = omega (arith, x.ends, x.sites, y.sites, z.sites, kept.count) in
    lands-sent d (send_bound t.settled) (book_of a t.settled) c count t.sent
    (lands-last d t.acked t.settled y.primary t.last
    (lands-acknowledged d t.count a t.acked x.primary t.first (lands-reported d b a capacities is kept t.reported passed l)))
