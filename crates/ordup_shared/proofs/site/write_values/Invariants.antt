use Rattle.std.proofs.Common.{◌≡◌, map, take, drop}
use Rattle.ordup_shared.specs.Sites.{value_of}
use Rattle.ordup_shared.proofs.site.write_values.Given as goal

-- the values so far are written, and the rest of the buffer is as it was
abbrev pub invariant-loop-index : goal.invariant-loop-index
invariant-loop-index l = record {
  written : take l.index l.values ≡ map (value_of l.cell) (take l.index l.objects);
  rest : drop l.index l.values ≡ drop l.index l.fn.values;
}
