use Rattle.ordup_rows.proofs.spelling.put_change.Goals as goal

pub name-requires : goal.name-requires
name-requires g c = rw c.in-Take.is at c.requires
