use Rattle.std.proofs.Common.{◌≡◌, rules, to_z, of_z, w64, get_or, pos, ap, ◌∙◌}
use Rattle.std.proofs.lemmas.Int.{to_z-of_z}
use Rattle.ordup_objects.specs.States.{result_of, value_at}
use Rattle.ordup_objects.proofs.values.result_at.Goals as goal

pub returns : goal.returns
returns c =
    let v = c.args.values.now in
    let op = c.args.change.now.op in
    let same : to_z w64 (of_z w64 c.result.result) ≡ c.result.result = to_z-of_z w64 c.result.result (search rules) in
    let source = c.source_of-source.result in
    let read : to_z w64 (of_z w64 source) ≡ source = to_z-of_z w64 source (search rules) in
    let here = get_or v c.index.result (pos 0) in
    let value : to_z w64 (of_z w64 here) ≡ value_at v c.args.change.now.object =
    to_z-of_z w64 here (search rules) ∙ ap (λ k. value_at v k) c.index.ensures in
    same ∙ c.result.ensures v (rw read c.source_of-source.ensures) ∙ ap (λ a. result_of v a op) value
