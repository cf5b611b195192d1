-- What is at the index of the name goes out, and no other name loses its query.
-- Contracts see nothing of the hint that is noted.
use Rattle.std.proofs.Common.{◌≡◌, ◌∙◌, ap, refl, sym, Some, ℕ, List}
use Rattle.std.specs.Prelude.{option_map}
use Rattle.ordup_world.specs.Worlds.{OpenState}
use Rattle.std.proofs.lemmas.Option.{none-some}
use Rattle.ordup_world.proofs.queries.OpenQueries.remove.Goals as goal
use Rattle.ordup_world.proofs.queries.OpenQueries.remove.Goals.{in-Some, in_default}

pub unwrap-open-requires : goal.unwrap-open-requires
unwrap-open-requires g c =
    let at = rw c.as_bytes.ensures.bytes at c.in_ok-index.ensures.at in
    let removed : c.swap_remove_index.result ≡ Some (c.args.name, at.held) =
    c.swap_remove_index.ensures.entry ∙ rw c.self.view_is at.entry in
    rw removed refl

pub returns-in_err-index-clause-query : goal.returns-in_err-index-clause-query
returns-in_err-index-clause-query g c = c.from_residual.ensures ∙ sym (rw c.as_bytes.ensures.bytes at c.in_err-index.ensures.none)

pub returns-clause-query : goal.returns-clause-query
returns-clause-query g c =
    let at = rw c.as_bytes.ensures.bytes at c.in_ok-index.ensures.at in
    let removed : c.swap_remove_index.result ≡ Some (c.args.name, at.held) =
    c.swap_remove_index.ensures.entry ∙ rw c.self.view_is at.entry in
    ap (option_map (λ (e : List ℕ × OpenState). e.1)) (sym c.unwrap-open.ensures ∙ removed) ∙ sym at.found

pub returns-clause-found : goal.returns-clause-found
returns-clause-found g c =
    let at = rw c.as_bytes.ensures.bytes at c.in_ok-index.ensures.at in
    let removed : c.swap_remove_index.result ≡ Some (c.args.name, at.held) =
    c.swap_remove_index.ensures.entry ∙ rw c.self.view_is at.entry in
    let updates = rw removed at c.swap_remove_index.ensures.updates in
    elim c.match-get_index.branch [
      | in-Some w ↦ (λ q. rw (w.self-is, ← c.self.view_is) (updates.0 q))
      | in_default w ↦ (λ q. rw (w.self-is, ← c.self.view_is) (updates.0 q))
    ]

pub returns-clause-none : goal.returns-clause-none
returns-clause-none g c none = absurd (none-some c.unwrap-open.result.1 (sym none))
