-- Another entry at an index changes no name, so the names stay distinct and each stays where it was.
use Rattle.std.proofs.Common.{rules, List, ℕ, Some, ◌∙◌, ap, sym}
use Rattle.std.specs.Option.{option_copied_mut}
use Rattle.std.proofs.lemmas.Option.{slice_get-map}
use Rattle.ordup_objects.proofs.TableLemmas.{set_value_at-is, AreNames-with_entry}
use Rattle.ordup_objects.proofs.name_table.NameTable.replace.Goals as goal

pub invariant_of-self : goal.invariant_of-self
invariant_of-self g c =
    rw (set_value_at-is c.self.inside.entries.entries c.args.index c.replace.new.dest)
    (AreNames-with_entry c.self.inside.entries.entries c.args.index c.replace.new.dest (search rules) c.self.invariant)

pub returns-clause-replaced : goal.returns-clause-replaced
returns-clause-replaced g c =
    rw (set_value_at-is c.self.inside.entries.entries c.args.index c.replace.new.dest, c.replace.ensures.after) (search rules)

pub returns-clause-before : goal.returns-clause-before
returns-clause-before g c =
    rw (← c.self.view_is) (
    sym (slice_get-map (λ (e : List ℕ × g.row.V.Denot). e.1) c.self.inside.entries.entries c.args.index)
    ∙ sym c.get_index_mut.ensures.value
    ∙ ap option_copied_mut c.unwrap.ensures
    ∙ ap Some (sym c.replace.ensures.value))
