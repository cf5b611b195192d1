use Rattle.std.proofs.Common.{◌∙◌, sym}
use Rattle.ordup_world.specs.OpenQueries.{IsOpenAt}
use Rattle.ordup_world.proofs.QueryLemmas.{is_open-first}
use Rattle.ordup_world.proofs.WorldLemmas.{if-found}
use Rattle.ordup_world.proofs.queries.OpenQueries.index_by_hash.Goals as goal

pub returns-clause-at : goal.returns-clause-at
returns-clause-at g c =
    if-found c.get_index_of.result (λ i. IsOpenAt c.args.self.now c.args.name.now i)
    (λ i is. is_open-first c.args.self.now c.args.name.now i (rw (← c.self.view_is) (sym c.get_index_of.ensures.index ∙ is)))
