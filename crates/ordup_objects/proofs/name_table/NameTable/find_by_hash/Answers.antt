use Rattle.ordup_objects.proofs.name_table.NameTable.find_by_hash.Goals as goal

pub returns : goal.returns
returns g c = rw (← c.self.view_is) (record {
  index = c.get_index_of.ensures.index;
  within = c.get_index_of.ensures.within;
})
