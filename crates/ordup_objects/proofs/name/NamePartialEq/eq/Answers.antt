use Rattle.std.proofs.Common.{◌∙◌}
use Rattle.ordup_objects.proofs.NameLemmas.{same_padded}
use Rattle.ordup_objects.proofs.name.NamePartialEq.eq.Goals as goal

pub returns-then-self-other : goal.returns-then-self-other
returns-then-self-other c =
    rw (← c.self.view_is, ← c.other.view_is)
    (c.eq.ensures ∙ same_padded c.self.inside c.other.inside c.self.invariant c.other.invariant c.if-self-other.true)
