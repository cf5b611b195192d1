-- An open query is a query with its site. So by a read it becomes what the query becomes, with the same site beside it.
use Rattle.std.proofs.Common.{◌≡◌, ℕ, ◌+◌, None, Result, Ok, Err, ap, arith}
use Rattle.std.specs.Prelude.{IfOk, OnOk}
use Rattle.std.proofs.lemmas.List.{get_or_read}
use Rattle.std.proofs.lemmas.Result.{on_err_weaker}
use Rattle.ordup_objects.specs.States.{value_at}
use Rattle.ordup_objects.specs.declared.refusal.Refusal.{Refusal}
use Rattle.ordup_site.specs.Sites.{SiteState}
use Rattle.ordup_query.specs.Imports.{charge}
use Rattle.ordup_query.specs.Queries.{QueryState, refusal_at}
use Rattle.ordup_query.specs.declared.answer.ReadAnswer.{ReadAnswer}
use Rattle.ordup_world.specs.Worlds.{OpenState}
use Rattle.ordup_world.specs.OpenQueries.{IsAnswered, with_answer}
use Rattle.ordup_world.proofs.StoreLemmas.{no_site}
use Rattle.ordup_world.proofs.queries.OpenQuery.read.Goals as goal

pub read-requires : goal.read-requires
read-requires g c = record {
  marked = rw (← c.self.view_is) at c.requires.marked;
  known =
      rw (c.index-sites-index.is, c.index.ensures)
      (c.requires.known c.self.inside.site c.index-sites-index.result (rw (← c.self.view_is) at c.requires.site));
}

-- the open query with another query
abbrev of_query : OpenState → QueryState → OpenState
of_query o q = record { site = o.site; query = q }

-- an answer of the query is one of the open query
answered : (o : OpenState) (site : SiteState) (x : ℕ) (r : Result ReadAnswer Refusal)
    → IfOk r (λ a. a.value ≡ value_at site.values x) → IfOk r (λ a. a.import ≡ charge site o.query.marks x)
    → IfOk r (λ a. a.total ≡ o.query.total + a.import) → OnOk r (refusal_at o.query site x ≡ None)
    → IfOk r (λ a. IsAnswered o site x a)
answered o site x (Ok a) value import total allowed = record { allowed = allowed; value = value; import = import; total = total }
answered o site x (Err e) value import total allowed = tt

-- so is the query that it leaves
left : (o : OpenState) (new : QueryState) (r : Result ReadAnswer Refusal) → IfOk r (λ a. new ≡ (with_answer o a).query)
    → IfOk r (λ a. of_query o new ≡ with_answer o a)
left o new (Ok a) is = ap (of_query o) is
left o new (Err e) is = tt

pub returns : goal.returns
returns g c =
    let o : OpenState = record { site = c.self.inside.site; query = c.self.inside.query } in
    let lt = rw (← c.self.view_is) at c.requires.site in
    let site : SiteState = c.index-sites-index.result in
    let at = get_or_read c.args.sites.now o.site site lt (rw c.index.ensures at c.index-sites-index.is) no_site in
    let read = c.read.ensures in
    rw (← c.self.view_is, ← at) (record {
      ok = answered o site c.args.object c.read.result read.value read.import read.total read.allowed;
      query = left o c.read.new.self c.read.result read.query;
      refused = read.refused;
      err = on_err_weaker c.read.result (ap (of_query o)) read.err;
    })

pub bounds-sites-index : goal.bounds-sites-index
bounds-sites-index g c = rw c.index.ensures (rw (← c.self.view_is) at c.requires.site)

pub offset_bounds-sites-index : goal.offset_bounds-sites-index
offset_bounds-sites-index g c = omega (arith, bounds-sites-index g c)
