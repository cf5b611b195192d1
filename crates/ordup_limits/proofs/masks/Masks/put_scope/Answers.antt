use Rattle.std.proofs.Common.{refl}
use Rattle.ordup_limits.proofs.masks.Masks.put_scope.Goals as goal

pub members-requires : goal.members-requires
members-requires g c = rw c.in-Group.is at c.requires.known.1

pub returns-in-Object : goal.returns-in-Object
returns-in-Object g c = rw c.in-Object.is c.put.ensures

pub returns-in-Group : goal.returns-in-Group
returns-in-Group g c = rw (c.in-Group.is, ← c.members.ensures.members) c.put_members.ensures

pub returns-in-Count : goal.returns-in-Count
returns-in-Count g c = λ x i below few. rw c.in-Count.is refl
