use Rattle.std.proofs.Common.{◌≡◌, ◌++◌, ◌∷◌, [], ◌∙◌, true, List, ℕ}
use Rattle.std.proofs.lemmas.List.Elements.{All-same, All-push}
use Rattle.ordup_objects.specs.Names.{is_name}
use Rattle.ordup_objects.proofs.TableLemmas.{insert_entry-absent}
use Rattle.ordup_objects.proofs.name_table.NameTable.push.Goals as goal

pub invariant_of-self-2 : goal.invariant_of-self-2
invariant_of-self-2 g c =
    let added =
    c.in_ok-insert.ensures.entries ∙ insert_entry-absent c.args.name c.args.entry c.self.inside.entries.entries
    (rw (← c.self.view_is) at c.requires) in
    All-same (λ (e : List ℕ × g.row.V.Denot). is_name e.0 ≡ true) c.insert.new.self.entries
    (c.self.inside.entries.entries ++ (c.args.name, c.args.entry) ∷ []) added
    (All-push (λ (e : List ℕ × g.row.V.Denot). is_name e.0 ≡ true) c.self.inside.entries.entries
    (c.args.name, c.args.entry) c.self.invariant c.as_bytes.ensures.name)

pub returns-clause-ok : goal.returns-clause-ok
returns-clause-ok g c =
    rw (← c.self.view_is) (c.in_ok-insert.ensures.entries ∙ insert_entry-absent c.args.name c.args.entry
    c.self.inside.entries.entries (rw (← c.self.view_is) at c.requires))
