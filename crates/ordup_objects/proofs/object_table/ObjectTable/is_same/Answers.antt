use Rattle.std.proofs.lemmas.Bool.Decides.{Decides-int_eq}
use Rattle.ordup_objects.proofs.SameLemmas.{same-tables}
use Rattle.ordup_objects.proofs.object_table.ObjectTable.is_same.Goals as goal

pub returns : goal.returns
returns g c =
    rw (← c.self.view_is, ← c.other.view_is) (same-tables _ Decides-int_eq c.self.inside.objects c.other.inside.objects c.is_same.result
    c.is_same.ensures)
