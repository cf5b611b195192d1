-- The updates of a record are those of its log, and then the rest. A number above the log's length is counted from there.
use Rattle.std.proofs.Common.{arith, length-append, ◌∙◌}
use Rattle.ordup_audit.proofs.RecordLemmas.{first-of, rest-of}
use Rattle.ordup_audit.proofs.record.Record.set.Goals as goal

pub returns-then-number-legal : goal.returns-then-number-legal
returns-then-number-legal g c =
    rw (← c.self.view_is) (c.set.ensures.set ∙ first-of c.len-legal.result c.args.number c.self.inside.parts.log.sets
    c.self.inside.parts.rest.items c.len-legal.ensures.len c.requires.first c.if-number-legal.true)

pub returns : goal.returns
returns g c =
    rw (← c.self.view_is) (c.index.ensures ∙ rest-of c.len-legal.result c.args.number c.self.inside.parts.log.sets
    c.self.inside.parts.rest.items _ c.len-legal.ensures.len c.if-number-legal.false (rw (← c.self.view_is) at c.requires.last))

pub set-requires : goal.set-requires
set-requires g c = record {
  first = c.requires.first;
  last = omega (arith, c.if-number-legal.true, c.len-legal.ensures.len);
}

pub index-requires : goal.index-requires
index-requires g c =
    let parts = c.self.inside.parts in
    let last = rw (← c.self.view_is) at c.requires.last in
    omega (
      arith,
      last,
      length-append parts.log.sets parts.rest.items,
      c.len-legal.ensures.len,
      c.if-number-legal.false,
    )
