-- A sound world has the site of each open query, and a mark and a value for each object. So the query's answer is the reply.
use Rattle.std.proofs.Common.{arith, ◌<◌, length}
use Rattle.std.proofs.lemmas.Grind.{common_steps}
use Rattle.ordup_world.specs.Worlds.{WorldState, with_queries, find_query}
use Rattle.ordup_world.specs.StoreInside.{state_of}
use Rattle.ordup_world.proofs.WorldLemmas.{if-found, values-known}
use Rattle.ordup_world.proofs.QueryStepLemmas.{unknown-read, read_refused, read_out}
use Rattle.ordup_world.proofs.queries.OpenQueries.read.Goals as goal

pub returns-then-index-len : goal.returns-then-index-len
returns-then-index-len g c = unknown-read c.requires (grind (arith, common_steps))

pub read_at-requires-clause-site : goal.read_at-requires-clause-site
read_at-requires-clause-site g c =
    let w : WorldState = with_queries (state_of c.args.store.now) c.args.self.now in
    rw c.as_slice.ensures.value (if-found (find_query c.args.name.now w.queries) (λ o. o.site < length w.sites)
    (λ o found. (c.requires.queries c.args.name.now o found).site))

pub read_at-requires-clause-marked : goal.read_at-requires-clause-marked
read_at-requires-clause-marked g c =
    let w : WorldState = with_queries (state_of c.args.store.now) c.args.self.now in
    let known : c.args.object < length w.primary.setup.objects = grind (arith, common_steps) in
    if-found (find_query c.args.name.now w.queries) (λ o. c.args.object < length o.query.marks)
    (λ o found. omega (arith, known, (c.requires.queries c.args.name.now o found).count))

pub read_at-requires-clause-known : goal.read_at-requires-clause-known
read_at-requires-clause-known g c =
    let w : WorldState = with_queries (state_of c.args.store.now) c.args.self.now in
    let known : c.args.object < length w.primary.setup.objects = grind (arith, common_steps) in
    rw c.as_slice.ensures.value (λ s d lt. omega (arith, known, values-known w c.requires s d lt))

pub returns-in-Ok : goal.returns-in-Ok
returns-in-Ok g c = read_out c.requires (grind (arith, common_steps)) (rw c.as_slice.ensures.value at c.in-Ok.ensures.ok)

pub returns-in-Err : goal.returns-in-Err
returns-in-Err g c =
    read_refused c.requires (grind (arith, common_steps)) (rw c.as_slice.ensures.value at c.in-Err.ensures.refused)
    c.in-Err.ensures.err
