-- What is put and what is left make up the text of all values. Nothing is left where the objects end, or the values do.
use Rattle.std.proofs.Common.{rules, arith, ◌≡◌, ◌++◌, [], ◌∙◌, sym, ap}
use Rattle.std.proofs.Common.{append_assoc, inl, inr, length, get_or, pos, drop, w64}
use Rattle.std.proofs.lemmas.Int.{to_z-of_z}
use Rattle.std.proofs.lemmas.Bool.{cases_lt}
use Rattle.std.proofs.lemmas.List.{append-nil}
use Rattle.ordup_text.specs.Lines.{value_text, values_text}
use Rattle.ordup_text.proofs.LineLemmas.{values_text-more, values_text-end}
use Rattle.ordup_text.proofs.lines.put_values.Goals as goal

pub loop-index-preserved : goal.loop-index-preserved
loop-index-preserved g c =
    let objects = c.args.objects.now in
    let values = c.args.values.now in
    let index = c.loop-index.index in
    let next = values_text-more objects values index c.name-name.result.now (pos 0) (omega arith) (omega arith)
    (rw c.new.ensures at c.name-name.ensures) in (
      rw (c.put_named_value.ensures.text, to_z-of_z w64 (get_or values index (pos 0)) (search rules))
          (append_assoc c.loop-index.out.text (value_text c.name-name.result.now (get_or values index (pos 0))) _
          ∙ ap (λ t. c.loop-index.out.text ++ t) (sym next)
          ∙ c.loop-index.invariant.0),
      omega (arith, c.loop-index.invariant.1, c.put_named_value.ensures.spare),
    )

pub returns-clause-text : goal.returns-clause-text
returns-clause-text g c =
    let objects = c.args.objects.now in
    let values = c.args.values.now in
    let index = c.loop-index.index in
    let none = elim (cases_lt index (length objects)) as (λ _. values_text (drop index objects) (drop index values) ≡ []) [
      | inl lt ↦ values_text-end objects values index (inr (omega arith))
      | inr past ↦ values_text-end objects values index (inl past)
    ] in
    sym (append-nil c.loop-index.out.text) ∙ ap (λ t. c.loop-index.out.text ++ t) (sym none) ∙ c.loop-index.invariant.0
