use Rattle.ordup_script.proofs.plan.Planning.follow.Goals as goal

pub returns-in-Some-Propose : goal.returns-in-Some-Propose
returns-in-Some-Propose g c =
    rw (← c.of.ensures, c.in-Some-Propose.is, c.in-Some-Propose.field-0-is) (record {
      plan = c.propose.ensures.plan;
      lines = c.propose.ensures.lines;
    })

pub returns-in-None : goal.returns-in-None
returns-in-None g c =
    rw (← c.of.ensures, c.in-None.is) (record { plan = c.declare.ensures.plan; lines = c.declare.ensures.lines })
