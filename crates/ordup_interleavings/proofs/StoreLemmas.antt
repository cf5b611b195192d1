-- The rounds of a site over stores that go on one from another: one join after another.
use Rattle.std.proofs.Common.{◌≡◌, ◌+◌, ◌<◌, ◌∙◌, ◌==◌, ℕ, None, List, [], ◌∷◌, length, arith, refl, ap, subst}
use Rattle.std.proofs.lemmas.Bool.{eqb-true}
use Rattle.std.proofs.lemmas.List.Elements.{All-tail}
use Rattle.ordup_objects.specs.Joins.{BeginsAtEnd}
use Rattle.ordup_log.specs.Groups.{GroupList}
use Rattle.ordup_limits.specs.Limits.{within}
use Rattle.ordup_limits.proofs.JoinLemmas.{limits_by_place_are_tests, tests_join}
use Rattle.ordup_objects.specs.declared.refusal.Refusal.TheVariants.{NotYet}
use Rattle.ordup_primary.specs.Primaries.{IsPrimary, PrimaryState}
use Rattle.ordup_primary.specs.Successors.{successor_refusal}
use Rattle.ordup_primary.proofs.PrimaryLemmas.{HasFewestRounds-sound}
use Rattle.ordup_cluster.specs.Clusters.{count_at_end, count_refusal}
use Rattle.ordup_record.specs.Successive.{GoesOn}
use Rattle.ordup_rounds.specs.Fewest.{AreFewest}
use Rattle.ordup_rounds.proofs.JoinLemmas.{fewest_rounds_join}
use Rattle.ordup_series.specs.Series.{Whole, is_within, joined_wholes, length_of}
use Rattle.ordup_interleavings.specs.Stores.{SuccessiveStoresHaveTheFewestRounds, SuccessorsGoOn, decided_in, whole_of_store, whole_of_stores}
use Rattle.ordup_interleavings.proofs.SoundLemmas.{or_none, test-passed}

-- the whole begins as its first store does
begins-as_first : (s : ℕ) (p : PrimaryState) (more : List PrimaryState) → (whole_of_stores s p more).history.start ≡ p.log.start
begins-as_first s p [] = refl
begins-as_first s p (q ∷ more) = refl

groups-of_first : (s : ℕ) (p : PrimaryState) (more : List PrimaryState) → (whole_of_stores s p more).groups ≡ p.setup.groups
groups-of_first s p [] = refl
groups-of_first s p (q ∷ more) = refl

-- the fewest rounds up to this place of a whole
abbrev HasFewest : Whole → ℕ → Type 0
HasFewest w decided = AreFewest (is_within w) w.reported_at decided w.rounds w.windows

-- all of a whole has the fewest rounds, and so has a next one that begins with the values in which it ends: so have both together
fewest-joined : (w next : Whole) (decided : ℕ) → BeginsAtEnd w.history next.history → next.groups ≡ w.groups → HasFewest w (length_of w)
    → HasFewest next decided → HasFewest (joined_wholes w next) (length_of w + decided)
fewest-joined w next decided begins groups one two =
    let both = joined_wholes w next in
    let test = limits_by_place_are_tests both.history both.groups both.limits_at in
    let joins = tests_join w.history next.history w.groups w.limits_at next.limits_at begins in
    let later : AreFewest (λ a b. within next.history w.groups (next.limits_at b) a b) next.reported_at decided next.rounds next.windows =
    subst (λ (g : GroupList). AreFewest (λ a b. within next.history g (next.limits_at b) a b) next.reported_at decided next.rounds
    next.windows) groups two in
    fewest_rounds_join (length_of w) decided (is_within both) (is_within w) (λ a b. within next.history w.groups (next.limits_at b) a b)
    w.reported_at next.reported_at test joins w.rounds next.rounds w.windows next.windows one later

-- the store that goes on has the site too
has-site : (p q : PrimaryState) (s : ℕ) → IsPrimary p → IsPrimary q → GoesOn p q → s < length p.sites → s < length q.sites
has-site p q s is next on there = omega (arith, is.count, next.count, ap length on.sites, there)

pub successive_stores_have_the_fewest_rounds : SuccessiveStoresHaveTheFewestRounds
successive_stores_have_the_fewest_rounds s p [] are there on = HasFewestRounds-sound p (are 0 p (omega arith)) s there
successive_stores_have_the_fewest_rounds s p (q ∷ more) are there (first, rest) =
    let here : IsPrimary p = are 0 p (omega arith) in
    let next : IsPrimary q = are 1 q (omega arith) in
    let all : p.decided ≡ length p.log.sets = omega (arith, here.acked, here.decided, first.acked) in
    let one : HasFewest (whole_of_store s p) (length p.log.sets) = rw all at (HasFewestRounds-sound p here s there) in
    let begins : BeginsAtEnd p.log (whole_of_stores s q more).history = begins-as_first s q more ∙ next.start ∙ first.values in
    fewest-joined (whole_of_store s p) (whole_of_stores s q more) (decided_in q more) begins (groups-of_first s q more ∙ first.groups) one
    (successive_stores_have_the_fewest_rounds s q more (All-tail IsPrimary p (q ∷ more) are) (has-site p q s here next first there) rest)

-- ---- clusters

pub successors-go-on : SuccessorsGoOn
successors-go-on p q c e is same =
    let n = length p.primary.log.sets in
    let passed = or_none (count_refusal (count_at_end p)) (successor_refusal p.primary) e in
    record {
      acked = eqb-true p.primary.acked n (test-passed (p.primary.acked == n) (NotYet n) None passed.1).0;
      objects = rw same is.objects;
      values = rw same is.values;
      groups = rw same is.groups;
      sites = rw same is.sites;
    }
