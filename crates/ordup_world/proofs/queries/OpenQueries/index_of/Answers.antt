use Rattle.std.proofs.Common.{◌≡◌, ◌∙◌, refl, sym, true}
use Rattle.std.specs.Cmp.Lexicographic.{bytes_decides}
use Rattle.ordup_world.specs.Events.{is_same}
use Rattle.ordup_world.proofs.QueryLemmas.{is_open-at}
use Rattle.ordup_world.proofs.queries.OpenQueries.index_of.Goals as goal

pub returns-then-is_spelled-clause-at : goal.returns-then-is_spelled-clause-at
returns-then-is_spelled-clause-at g c =
    let key : is_same c.args.name.now c.in-Some.key.now ≡ true = sym c.is_spelled.ensures ∙ c.if-is_spelled.true in
    let is : c.in-Some.key.now ≡ c.args.name.now = sym ((bytes_decides c.args.name.now c.in-Some.key.now).0 key) in
    is_open-at c.args.self.now c.args.name.now c.guess-guess.result (c.in-Some.key.now, c.in-Some.field-0-1.now)
    (rw (← c.self.view_is, ← c.in-Some.ensures.entry) refl) key
    (rw (← c.self.view_is) (rw is at c.in-Some.ensures.value))
