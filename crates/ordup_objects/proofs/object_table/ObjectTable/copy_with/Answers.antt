use Rattle.std.proofs.Common.{◌≡◌, ◌∙◌, length, arith, sym, ap}
use Rattle.std.proofs.lemmas.List.{length-map}
use Rattle.ordup_objects.proofs.object_table.ObjectTable.copy_with.Goals as goal

pub invariant_of-result : goal.invariant_of-result
invariant_of-result g c =
    let begun = c.begin_at.ensures.values in
    let count : length c.begin_at.new.objects ≡ length c.args.values.now = sym (length-map c.begin_at.new.objects (λ e. e.1)) ∙ ap length begun in
    (omega (arith, count, c.keeps.ensures.few, c.requires), rw begun c.keeps-2.ensures)
