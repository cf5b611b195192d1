-- Sites with their reports as changes.
use Rattle.std.proofs.Common.{◌≡◌, ℕ, zero, suc, ◌+◌, ◌<◌, ◌==◌, Bool, true, false, not, List, [], ◌∷◌, length, map, get_or, replicate, arith, refl}
use Rattle.std.proofs.Common.{sym, ap, ◌∙◌, inl, inr, ◌⊎◌}
use Rattle.std.specs.Int.{bit_at}
use Rattle.std.specs.Int.RustNames.{bit_or}
use Rattle.std.proofs.Math.ListN.{set, length-set}
use Rattle.std.proofs.lemmas.Bool.{cases_Bool, cases_eq, eq-eqb, ne_eqb, eqb-true, eqb-false}
use Rattle.std.proofs.lemmas.Grind.{get_or-set_at}
use Rattle.std.proofs.lemmas.List.{get_or-set_other, get_or-map, get_or-replicate, length-map, length-replicate, map-set}
use Rattle.std.proofs.lemmas.Nat.Bits.{bit_at-lt, bit_at-zero, bit_at_or}
use Rattle.ordup_primary.specs.Settling.{where_below}
use Rattle.ordup_primary.specs.Primaries.{PrimaryState, first_progress, progress_at, is_within, forced_now, acked_after, decided_at, Decides}
use Rattle.ordup_primary.specs.Reports.{changes_of, last_report}
use Rattle.ordup_primary.specs.PrimaryInside.{KeptSite, AreKept, first_kept, kept_at, kept_of, progress_upto, reports_upto, state_of}
use Rattle.ordup_primary.specs.declared.primary.Primary.TheInside.{Inside}
use Rattle.ordup_primary.specs.declared.progress.Progress.{Progress}
use Rattle.ordup_primary.proofs.ReportLemmas.{last_report-with, with_report-same, with_report-kept, with_report-reports}
use Rattle.ordup_primary.proofs.SettlingLemmas.{where_below-same}
use Rattle.ordup_primary.proofs.PrimaryLemmas.{not_not, seen-count}

-- no bit is set in 0
no-bit : (s : ℕ) → (bit_at 0 s == 1) ≡ true → ⊥
no-bit s bit = absurd (omega (arith, eqb-true (bit_at 0 s) 1 bit, bit_at-zero s))

-- a bit of two masks
pub one-bit : (m n s : ℕ) → (bit_at (bit_or m n) s == 1) ≡ true → ((bit_at m s == 1) ≡ true) ⊎ ((bit_at n s == 1) ≡ true)
one-bit m n s bit = elim (cases_Bool (bit_at m s == 1)) [
  | inl here ↦ inl here
  | inr other ↦ inr (eq-eqb (bit_at n s) 1 (omega (
    arith,
    bit_at_or m n s,
    eqb-true (bit_at (bit_or m n) s) 1 bit,
    bit_at-lt m s,
    bit_at-lt n s,
    eqb-false (bit_at m s) 1 other,
  )))
]

no-bits : (m n s : ℕ) → (bit_at (bit_or m n) s == 1) ≡ false → ((bit_at m s == 1) ≡ false) × ((bit_at n s == 1) ≡ false)
no-bits m n s none =
    let clear : bit_at (bit_or m n) s ≡ 1 → ⊥ = λ e. eqb-false (bit_at (bit_or m n) s) 1 none e in (
      ne_eqb (bit_at m s) 1 (λ e. clear (omega (arith, bit_at_or m n s, e, bit_at-lt n s))),
      ne_eqb (bit_at n s) 1 (λ e. clear (omega (arith, bit_at_or m n s, e, bit_at-lt m s))),
    )

-- sites at the start
pub AreKept-first : (n : ℕ) (sites : List KeptSite) → sites ≡ replicate n first_kept → AreKept 0 0 sites
AreKept-first n sites e = rw e (record {
  changes = λ s d lt. rw (get_or-replicate n s first_kept d (omega (arith, lt, length-replicate n first_kept))) refl;
  there = λ s bit. absurd (no-bit s bit);
  still = λ s d lt none. rw (get_or-replicate n s first_kept d (omega (arith, lt, length-replicate n first_kept))) refl;
})

pub first-seen : (n : ℕ) (sites : List KeptSite) → sites ≡ replicate n first_kept
    → map (progress_upto 0) sites ≡ replicate n first_progress
first-seen n sites e = rw e (seen-alike n)
  where
    seen-alike : (n : ℕ) → map (progress_upto 0) (replicate n first_kept) ≡ replicate n first_progress
    seen-alike zero = refl
    seen-alike (suc n) = ap (λ sites. first_progress ∷ sites) (seen-alike n)

-- one site in the place of another, with the same changes: it has its bit, or has reported what it had
pub AreKept-with_site : (decided moved more : ℕ) (sites : List KeptSite) (s : ℕ) (site : KeptSite) → AreKept decided moved sites
    → s < length sites → site.changes ≡ (get_or sites s site).changes
    → ((t : ℕ) → (t ≡ s → ⊥) → (bit_at more t == 1) ≡ (bit_at moved t == 1))
    → ((bit_at more s == 1) ≡ false → site.reported ≡ last_report site.changes)
    → AreKept decided more (set sites s site)
AreKept-with_site decided moved more sites s site are lt same others still = record {
  changes = λ t d below. elim (cases_eq t s) [
    | inl here ↦ rw (get_or-set_at sites s t site d here lt, same) (are.changes s site lt)
    | inr other ↦ rw (get_or-set_other sites s t site d other) (are.changes t d (omega (arith, below, length-set sites s site)))
  ];
  there = λ t bit. elim (cases_eq t s) [
    | inl here ↦ omega (arith, here, lt, length-set sites s site)
    | inr other ↦ omega (arith, are.there t (sym (others t other) ∙ bit), length-set sites s site)
  ];
  still = λ t d below none. elim (cases_eq t s) [
    | inl here ↦ rw (get_or-set_at sites s t site d here lt) (still (rw here at none))
    | inr other ↦ rw (get_or-set_other sites s t site d other)
        (are.still t d (omega (arith, below, length-set sites s site)) (sym (others t other) ∙ none))
  ];
}

-- a decision that is put down
pub progress-decided : (decided : ℕ) (is_kept : Bool) (site : KeptSite) → site.changes ≡ changes_of (reports_upto site.changes decided)
    → progress_upto (decided + 1) (kept_at is_kept (decided + 1) site) ≡ decided_at is_kept (decided + 1) (progress_upto decided site)
progress-decided decided is_kept site are =
    rw (with_report-reports site.changes decided are site.reported) refl

pub AreKept-decided : (decided head moved : ℕ) (old new : List KeptSite) (kept : ℕ → Bool) → AreKept decided moved old
    → head ≡ decided + 1 → length new ≡ length old
    → ((s : ℕ) (d : KeptSite) → s < length old → get_or new s d ≡ kept_at (kept s) head (get_or old s d))
    → AreKept head 0 new
AreKept-decided decided head moved old new kept are next count each = rw next (record {
  changes = λ s d lt. (let below : s < length old = omega (arith, lt, count) in
      rw (each s d below, next) (with_report-kept (get_or old s d).changes decided (are.changes s d below) (get_or old s d).reported));
  there = λ s bit. absurd (no-bit s bit);
  still = λ s d lt none. rw (each s d (omega (arith, lt, count))) (last_report-with (get_or old s d).changes head (get_or old s d).reported);
})

-- elements that are related one by one stay so under a view
map-related : {X Y : Type 0} (f : X → Y) (g : ℕ → Y → Y) (old new : List X) → length new ≡ length old
    → ((s : ℕ) (d : X) → s < length old → f (get_or new s d) ≡ g s (f (get_or old s d))) → (s : ℕ) (d : Y) → s < length old
    → get_or (map f new) s d ≡ g s (get_or (map f old) s d)
map-related f g [] new count related s d lt = absurd (omega arith)
map-related f g (x ∷ old) new count related s d lt =
    get_or-map f new s x d (omega (arith, count)) ∙ related s x lt ∙ ap (g s) (sym (get_or-map f (x ∷ old) s x d lt))

-- what is put down at each site is the decision of the head
pub Decides-kept : (p : PrimaryState) (old new : List KeptSite) (moved mask acked head : ℕ) (forced : List ℕ)
    → p.sites ≡ map (progress_upto p.decided) old → AreKept p.decided moved old → p.acked ≡ p.decided → head ≡ p.acked + 1
    → length new ≡ length old
    → ((s : ℕ) (d : KeptSite) → s < length old → get_or new s d ≡ kept_at (not (bit_at mask s == 1)) head (get_or old s d))
    → ((s : ℕ) → s < length p.sites → (bit_at mask s == 1) ≡ not (is_within p s (progress_at p s).reported (p.acked + 1)))
    → forced ≡ forced_now p → acked ≡ acked_after p.acked forced
    → Decides p (record p { acked = acked; decided = head; sites = map (progress_upto head) new })
Decides-kept p old new moved mask acked head forced sites are first here count each bits listed e = record {
  setup = refl;
  log = refl;
  limits = refl;
  acked = e ∙ ap (acked_after p.acked) listed;
  decided = here;
  count = length-map new (progress_upto head) ∙ count ∙ sym (ap length sites ∙ length-map old (progress_upto p.decided));
  sites = λ s d lt. (let there : s < length old = omega (arith, lt, ap length sites, length-map old (progress_upto p.decided)) in
      let kept = not (bit_at mask s == 1) in
      let next : head ≡ p.decided + 1 = here ∙ ap (λ n. n + 1) first in
      let was : get_or p.sites s d ≡ progress_upto p.decided (get_or old s first_kept) =
      ap (λ xs. get_or xs s d) sites ∙ get_or-map (progress_upto p.decided) old s first_kept d there in
      let test : kept ≡ is_within p s (progress_at p s).reported (p.acked + 1) = ap not (bits s lt) ∙ not_not _ in
      get_or-map (progress_upto head) new s first_kept d (omega (arith, there, count))
      ∙ ap (progress_upto head) (each s first_kept there)
      ∙ ap (λ k. progress_upto k (kept_at kept k (get_or old s first_kept))) next
      ∙ progress-decided p.decided kept (get_or old s first_kept) (are.changes s first_kept there)
      ∙ ap (λ k. decided_at kept (k + 1) (progress_upto p.decided (get_or old s first_kept))) (sym first)
      ∙ ap (decided_at kept (p.acked + 1)) (sym was)
      ∙ ap (λ b. decided_at b (p.acked + 1) (get_or p.sites s d)) test);
}

-- the sites whose bits are in the mask are those that the head forces
pub forced-listed : (p : PrimaryState) (mask n : ℕ) → n ≡ length p.sites
    → ((s : ℕ) → s < length p.sites → (bit_at mask s == 1) ≡ not (is_within p s (progress_at p s).reported (p.acked + 1)))
    → where_below (λ s. bit_at mask s == 1) n ≡ forced_now p
forced-listed p mask n all bits =
    rw all (where_below-same (λ s. bit_at mask s == 1) (λ s. not (is_within p s (progress_at p s).reported (p.acked + 1))) (length p.sites) bits)

module _ {A : Type 0} where
  -- the sites once the decision is put down, without the spare capacity that was reserved
  pub kept-each : (reserved new : List (Progress A)) (sites : List KeptSite) (mask head : ℕ) → map kept_of reserved ≡ sites
      → length new ≡ length reserved
      → ((s : ℕ) (d : Progress A) → s < length reserved
      → kept_of (get_or new s d) ≡ kept_at (not (bit_at mask s == 1)) head (kept_of (get_or reserved s d)))
      → (s : ℕ) (d : KeptSite) → s < length sites
      → get_or (map kept_of new) s d ≡ kept_at (not (bit_at mask s == 1)) head (get_or sites s d)
  kept-each reserved new sites mask head same count each s d lt =
      map-related kept_of (λ t site. kept_at (not (bit_at mask t == 1)) head site) reserved new count each s d
      (omega (arith, lt, ap length same, length-map reserved (kept_of {A = A})))
      ∙ ap (λ xs. kept_at (not (bit_at mask s == 1)) head (get_or xs s d)) same

  pub kept-count : (reserved new : List (Progress A)) (sites : List KeptSite) → map kept_of reserved ≡ sites → length new ≡ length reserved
      → length (map kept_of new) ≡ length sites
  kept-count reserved new sites same count =
      length-map new (kept_of {A = A}) ∙ count ∙ sym (length-map reserved (kept_of {A = A})) ∙ ap length same

  -- and by them the decision
  pub Decides-at : (l : Inside A) (reserved new : List (Progress A)) (over acked head : ℕ) (forced : List ℕ)
      → AreKept l.decided l.moved (map kept_of l.sites.items) → map kept_of reserved ≡ map kept_of l.sites.items
      → length new ≡ length reserved
      → ((s : ℕ) (d : Progress A) → s < length reserved
      → kept_of (get_or new s d) ≡ kept_at (not (bit_at over s == 1)) head (kept_of (get_or reserved s d)))
      → l.acked ≡ l.decided → head ≡ l.acked + 1
      → ((s : ℕ) → s < length (state_of l).sites
      → (bit_at over s == 1) ≡ not (is_within (state_of l) s (progress_at (state_of l) s).reported (l.acked + 1)))
      → forced ≡ forced_now (state_of l) → acked ≡ acked_after l.acked forced
      → Decides (state_of l) (record (state_of l) { acked = acked; decided = head; sites = map (progress_upto head) (map kept_of new) })
  Decides-at l reserved new over acked head forced are same count each first here bits listed e =
      Decides-kept (state_of l) (map kept_of l.sites.items) (map kept_of new) l.moved over acked head forced refl are first here
      (kept-count reserved new (map kept_of l.sites.items) same count) (kept-each reserved new (map kept_of l.sites.items) over head same count each)
      bits listed e

  -- they are kept, and no site reported since
  pub AreKept-at : (l : Inside A) (reserved new : List (Progress A)) (over head : ℕ)
      → AreKept l.decided l.moved (map kept_of l.sites.items) → map kept_of reserved ≡ map kept_of l.sites.items
      → length new ≡ length reserved
      → ((s : ℕ) (d : Progress A) → s < length reserved
      → kept_of (get_or new s d) ≡ kept_at (not (bit_at over s == 1)) head (kept_of (get_or reserved s d)))
      → l.acked ≡ l.decided → head ≡ l.acked + 1 → AreKept head 0 (map kept_of new)
  AreKept-at l reserved new over head are same count each first here =
      AreKept-decided l.decided head l.moved (map kept_of l.sites.items) (map kept_of new) (λ s. not (bit_at over s == 1)) are
      (omega (arith, first, here)) (kept-count reserved new (map kept_of l.sites.items) same count)
      (kept-each reserved new (map kept_of l.sites.items) over head same count each)

  -- the sites that reported or are forced are there
  pub mask-there : (reserved : List (Progress A)) (sites : List KeptSite) (decided moved over n : ℕ) → map kept_of reserved ≡ sites
      → AreKept decided moved sites → n ≡ length sites → ((s : ℕ) → (bit_at over s == 1) ≡ true → s < n)
      → (s : ℕ) → (bit_at (bit_or moved over) s == 1) ≡ true → s < length reserved
  mask-there reserved sites decided moved over n same are all there s bit =
      let count : length reserved ≡ length sites = sym (length-map reserved (kept_of {A = A})) ∙ ap length same in
      elim (one-bit moved over s bit) [
        | inl here ↦ omega (arith, are.there s here, count)
        | inr forced ↦ omega (arith, there s forced, all, count)
      ]

  -- where the mask has no bit of a site, nothing is put down: the site did not report, and is not forced
  pub kept-others : (reserved : List (Progress A)) (sites : List KeptSite) (decided moved over head : ℕ) → map kept_of reserved ≡ sites
      → AreKept decided moved sites → (s : ℕ) (d : Progress A) → s < length reserved → (bit_at (bit_or moved over) s == 1) ≡ false
      → kept_of (get_or reserved s d) ≡ kept_at (not (bit_at over s == 1)) head (kept_of (get_or reserved s d))
  kept-others reserved sites decided moved over head same are s d lt none =
      let there : s < length sites = omega (arith, lt, ap length same, length-map reserved (kept_of {A = A})) in
      let at : get_or sites s (kept_of d) ≡ kept_of (get_or reserved s d) =
      ap (λ xs. get_or xs s (kept_of d)) (sym same) ∙ get_or-map kept_of reserved s d (kept_of d) lt in
      let clear = no-bits moved over s none in
      let still = rw at at (are.still s (kept_of d) there clear.0) in
      rw (clear.1, with_report-same (get_or reserved s d).reports.changes head (get_or reserved s d).reported still) refl

  -- a site that changes, with the same changes of its reports: it has its bit, or has reported what it had
  pub AreKept-set : (l : Inside A) (more i s : ℕ) (x y : Progress A) → AreKept l.decided l.moved (map kept_of l.sites.items) → i ≡ s
      → s < length (state_of l).sites → x ≡ get_or l.sites.items i x → y.reports.changes ≡ x.reports.changes
      → ((t : ℕ) → (t ≡ s → ⊥) → (bit_at more t == 1) ≡ (bit_at l.moved t == 1))
      → ((bit_at more s == 1) ≡ false → ((bit_at l.moved s == 1) ≡ false) × (y.reported ≡ x.reported))
      → AreKept l.decided more (map kept_of (set l.sites.items i y))
  AreKept-set l more i s x y are same lt at changes others still =
      let kept = map kept_of l.sites.items in
      let count : length kept ≡ length l.sites.items = length-map l.sites.items (kept_of {A = A}) in
      let there : s < length kept = omega (arith, lt, count, seen-count l.decided l.sites.items) in
      let here : (d : KeptSite) → get_or kept s d ≡ kept_of x =
      λ d. get_or-map kept_of l.sites.items s x d (omega (arith, there, count))
      ∙ ap (λ k. kept_of (get_or l.sites.items k x)) (sym same) ∙ ap kept_of (sym at) in
      rw (map-set kept_of l.sites.items i y, same)
      (AreKept-with_site l.decided l.moved more kept s (kept_of y) are there
      (changes ∙ ap (λ (k : KeptSite). k.changes) (sym (here (kept_of y)))) others
      (λ none. (let was = still none in
      was.1 ∙ rw (here (kept_of y)) at (are.still s (kept_of y) there was.0) ∙ ap last_report (sym changes))))
