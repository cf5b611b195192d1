use Rattle.ordup_objects.proofs.NameLemmas.{same_ends}
use Rattle.ordup_objects.proofs.bytes.have_alike_ends.Goals as goal

pub returns : goal.returns
returns g c =
    let first_of_a = rw c.unwrap.ensures at c.first_chunk.ensures.cases in
    let first_of_b = rw c.unwrap-2.ensures at c.first_chunk-2.ensures.cases in
    let last_of_a = rw c.unwrap-3.ensures at c.last_chunk.ensures.cases in
    let last_of_b = rw c.unwrap-4.ensures at c.last_chunk-2.ensures.cases in
    rw (c.eq.ensures, c.eq-2.ensures, first_of_a.same, first_of_b.same, last_of_a.1.same, last_of_b.1.same)
    (same_ends g.row.N c.args.a.now c.args.b.now c.requires.0 c.requires.2)
