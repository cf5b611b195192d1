use Rattle.ordup_rows.proofs.SentLemmas.{whole_text}
use Rattle.ordup_rows.proofs.writing.write_rows.Goals as goal

pub returns-in-Ok-send_rows-clause-written : goal.returns-in-Ok-send_rows-clause-written
returns-in-Ok-send_rows-clause-written g c =
    rw (whole_text c.args.audited.now _ c.keeps.ensures c.in-Ok.ensures.text) at c.in-Ok-send_rows.ensures.sent

pub returns-in-Ok-send_rows-clause-front : goal.returns-in-Ok-send_rows-clause-front
returns-in-Ok-send_rows-clause-front g c =
    rw (whole_text c.args.audited.now _ c.keeps.ensures c.in-Ok.ensures.text) at c.in-Ok-send_rows.ensures.front

pub returns-in-Err-clause-front : goal.returns-in-Err-clause-front
returns-in-Err-clause-front g c = rw (whole_text c.args.audited.now _ c.keeps.ensures c.in-Ok.ensures.text) at c.send_rows.ensures.front
