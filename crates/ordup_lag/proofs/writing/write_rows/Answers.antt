-- The buffer was empty, so the head begins the text, and the rows go behind it.
use Rattle.ordup_lag.proofs.writing.write_rows.Goals as goal

pub send_rows-requires : goal.send_rows-requires
send_rows-requires g c = record {
  valid = c.requires.valid;
  few = c.requires.few;
  limits = c.requires.limits;
  first = c.requires.first;
}

pub returns-in-Ok-send_rows-clause-written : goal.returns-in-Ok-send_rows-clause-written
returns-in-Ok-send_rows-clause-written g c =
    let head = rw c.requires.empty at c.in-Ok.ensures in
    rw head at c.in-Ok-send_rows.ensures.sent

pub returns-in-Ok-send_rows-clause-front : goal.returns-in-Ok-send_rows-clause-front
returns-in-Ok-send_rows-clause-front g c =
    let head = rw c.requires.empty at c.in-Ok.ensures in
    rw head at c.in-Ok-send_rows.ensures.front

pub returns-in-Err-clause-front : goal.returns-in-Err-clause-front
returns-in-Err-clause-front g c =
    let head = rw c.requires.empty at c.in-Ok.ensures in
    rw head at c.send_rows.ensures.front
