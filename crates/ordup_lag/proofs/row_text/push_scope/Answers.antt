use Rattle.ordup_lag.proofs.row_text.push_scope.Goals as goal

pub name-requires : goal.name-requires
name-requires g c = rw c.in-Object.is at c.requires

pub name-requires-in-Group : goal.name-requires-in-Group
name-requires-in-Group g c = rw c.in-Group.is at c.requires
