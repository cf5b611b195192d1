-- The sites of a closed cluster.
use Rattle.std.proofs.Common.{◌≡◌, ◌≢◌, ℕ, ◌+◌, ◌<◌, ◌≤◌, List, length, Some}
use Rattle.std.proofs.Common.{sym, subst, arith, ⊎_elim}
use Rattle.std.specs.Prelude.{slice_get, true}
use Rattle.std.proofs.lemmas.Option.{slice_get_within}
use Rattle.std.proofs.lemmas.Bool.{cases_eq}
use Rattle.ordup_primary.specs.Primaries.{PrimaryState, IsPrimary, progress_at, is_lag_within}
use Rattle.ordup_site.specs.Sites.{SiteState}
use Rattle.ordup_holds.specs.Agreement.{Agrees}
use Rattle.ordup_cluster.specs.Clusters.{AgreeBelow, IsFirstMixed, IsClosed}

pub agree-more : (n : ℕ) (p : PrimaryState) (sites : List SiteState) (y : SiteState) → AgreeBelow n p sites
    → slice_get sites n ≡ Some y → Agrees p n y → AgreeBelow (n + 1) p sites
agree-more n p sites y below at agrees s x less here = ⊎_elim
    (λ (e : s ≡ n).
    let there : slice_get sites n ≡ Some x = subst (λ (i : ℕ). slice_get sites i ≡ Some x) e here in
    let same : y ≡ x = cc in subst (λ (z : ℕ × SiteState). Agrees p z.0 z.1) (λ i. (sym e i, same i)) agrees)
    (λ (ne : s ≢ n). below s x (omega arith) here)
    (cases_eq s n)

pub first-mixed : (n : ℕ) (p : PrimaryState) (sites : List SiteState) (y : SiteState) → n < length sites → AgreeBelow n p sites
    → slice_get sites n ≡ Some y → (Agrees p n y → ⊥) → IsFirstMixed p sites n
first-mixed n p sites y there before at differs = record {
  there = there;
  before = before;
  mixed = λ x here agrees. let same : x ≡ y = cc in differs (subst (λ (z : SiteState). Agrees p n z) same agrees);
}

pub is-closed : (before : ℕ) (p : PrimaryState) (sites : List SiteState) → IsPrimary p → length sites ≡ length p.sites
    → ((s : ℕ) (x : SiteState) → slice_get sites s ≡ Some x → Agrees p s x)
    → ((s applied : ℕ) → s < length p.sites → (progress_at p s).reported ≤ applied → is_lag_within p s applied ≡ true)
    → IsClosed (record { before = before; primary = p; sites = sites })
is-closed before p sites sound count agrees within = record {
  sound = sound;
  count = count;
  agrees = agrees;
  within = λ s x at.
      within s x.applied (let there = slice_get_within sites s x at in omega arith) ((agrees s x at).reported);
}
