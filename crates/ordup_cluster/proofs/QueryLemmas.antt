-- What a read of a query answers, whose place counts the updates before its store.
use Rattle.std.proofs.Common.{◌≡◌, ◌<◌, ℕ, length, Some, Ok, Err, inr, IfErr}
use Rattle.std.specs.Prelude.{Result}
use Rattle.ordup_objects.specs.declared.refusal.Refusal.{Refusal}
use Rattle.ordup_site.specs.Sites.{SiteState}
use Rattle.ordup_query.specs.Imports.{charge}
use Rattle.ordup_query.specs.Queries.{QueryState, refusal_at}
use Rattle.ordup_query.specs.declared.answer.ReadAnswer.{ReadAnswer}
use Rattle.ordup_cluster.specs.Refusals.{IsQueryRefusal}

-- q differs from p in its place alone
pub refused-by : (p q : QueryState) (s : SiteState) (x : ℕ) (r : Result ReadAnswer Refusal) → q ≡ record p { place = q.place }
    → x < length p.marks → IfErr r (λ e. refusal_at p s x ≡ Some e) → IfErr r (IsQueryRefusal q x)
refused-by p q s x (Ok a) same marked refused = tt
refused-by p q s x (Err e) same marked refused = rw same (inr (marked, charge s p.marks x, refused))
