use Rattle.ordup_objects.proofs.object_table.ObjectTable.copy.Goals as goal

pub copy_to-requires : goal.copy_to-requires
copy_to-requires g c = c.new-objects.ensures

pub invariant_of-result : goal.invariant_of-result
invariant_of-result g c = rw c.in-Ok.ensures (c.keeps.ensures.few, c.keeps.ensures.state)

pub returns : goal.returns
returns g c = record {
  copied = c.in-Ok.ensures;
  refused = tt;
}
