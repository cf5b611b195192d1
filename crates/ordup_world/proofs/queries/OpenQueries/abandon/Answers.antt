use Rattle.std.proofs.Common.{refl, ◌∙◌, sym}
use Rattle.ordup_world.proofs.QueryLemmas.{is_found}
use Rattle.ordup_world.proofs.QueryStepLemmas.{abandoned, unknown-query}
use Rattle.ordup_world.proofs.queries.OpenQueries.abandon.Goals as goal

pub returns-in-Some : goal.returns-in-Some
returns-in-Some g c store sound =
    abandoned sound (sym c.remove.ensures.query ∙ c.in-Some.is) c.remove.ensures.found
    (c.remove.ensures.len (is_found c.remove.result c.in-Some._open c.in-Some.is))

pub returns-in-None : goal.returns-in-None
returns-in-None g c store sound =
    unknown-query sound c.args.name (λ setup past none. rw none refl) (sym c.remove.ensures.query ∙ c.in-None.is)
    (c.remove.ensures.none c.in-None.is)
