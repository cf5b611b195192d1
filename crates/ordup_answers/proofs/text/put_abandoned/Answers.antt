use Rattle.ordup_answers.proofs.text.put_abandoned.Goals as goal

pub returns : goal.returns
returns g c = rw c.as_bytes.ensures.bytes at c.put_named.ensures
