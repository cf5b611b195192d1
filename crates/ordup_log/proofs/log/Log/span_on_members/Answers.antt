use Rattle.ordup_log.proofs.log.Log.span_on_members.Goals as goal

pub span_on-total-requires : goal.span_on-total-requires
span_on-total-requires g c = record {
  forward = c.requires.forward;
  last = c.requires.last;
}
