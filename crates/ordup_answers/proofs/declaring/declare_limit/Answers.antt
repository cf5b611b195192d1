use Rattle.ordup_answers.proofs.RefusalLemmas.{made_by_call}
use Rattle.ordup_answers.proofs.declaring.declare_limit.Goals as goal

pub returns : goal.returns
returns g c =
    rw (← c.amount.ensures, ← c.find_site-site.ensures, ← c.find_scope-scope.ensures)
    (made_by_call c.limit.result _ _ _ _ c.limit.ensures.declared c.limit.ensures.allowed c.limit.ensures.refused c.limit.ensures.err)
