-- Each test is a refusal of the definition, in its order, and changes nothing.
-- The last branch adds one query to the open ones.
use Rattle.std.proofs.Common.{arith}
use Rattle.std.proofs.lemmas.Grind.{common_steps}
use Rattle.ordup_world.proofs.QueryStepLemmas.{unknown-begin, limit_out_of_range, too_many_open, already_open, begun}
use Rattle.ordup_world.proofs.queries.OpenQueries.begin.Goals as goal

pub returns-then-index-len : goal.returns-then-index-len
returns-then-index-len g c = unknown-begin c.requires (grind (arith, common_steps))

pub returns-then-limit-gt-GREATEST_IMPORT_LIMIT : goal.returns-then-limit-gt-GREATEST_IMPORT_LIMIT
returns-then-limit-gt-GREATEST_IMPORT_LIMIT g c =
    limit_out_of_range c.requires (grind (arith, common_steps)) (grind (arith, common_steps))

pub returns-then-len-eq-MOST_QUERIES : goal.returns-then-len-eq-MOST_QUERIES
returns-then-len-eq-MOST_QUERIES g c =
    too_many_open c.requires (grind (arith, common_steps)) (grind (arith, common_steps)) (grind (arith, common_steps))

pub returns-then-contains : goal.returns-then-contains
returns-then-contains g c =
    already_open c.requires (grind (arith, common_steps)) (grind (arith, common_steps)) (grind (arith, common_steps))
    (grind (arith, common_steps))

pub returns : goal.returns
returns g c =
    begun c.requires (grind (arith, common_steps)) (grind (arith, common_steps)) (grind (arith, common_steps))
    (grind (arith, common_steps)) c.in-Ok.ensures.begun c.in-Ok-insert.ensures.found c.in-Ok-insert.ensures.len c.acked.ensures.acked
