-- An object without a mark, or without a value at the site, is unknown. Any other read is as the query answers it.
use Rattle.std.proofs.Common.{◌<◌, length, inl, refl, rules}
use Rattle.ordup_cluster.proofs.QueryLemmas.{refused-by}
use Rattle.ordup_cluster.proofs.site_query.SiteQuery.read.Goals as goal

pub returns-then-index-objects : goal.returns-then-index-objects
returns-then-index-objects g c = record {
  total = tt;
  query = tt;
  reads = λ answers had. tt;
  marked = tt;
  allowed = tt;
  refused = inl refl;
  err = refl;
}

pub returns-then-index-len : goal.returns-then-index-len
returns-then-index-len g c = record {
  total = tt;
  query = tt;
  reads = λ answers had. tt;
  marked = tt;
  allowed = tt;
  refused = inl refl;
  err = refl;
}

pub returns-clause-refused : goal.returns-clause-refused
returns-clause-refused g c =
    let marked : c.args.object < length c.self.inside.query.marks = search rules in
    refused-by c.self.inside.query c.args.self.now c.site-site.result.now c.args.object c.read.result
    (search rules) marked c.read.ensures.refused
