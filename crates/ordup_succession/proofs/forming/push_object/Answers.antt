-- The pieces are the words of one line, with spaces between them and a line feed at the end. The value is a word of digits.
use Rattle.std.proofs.Common.{◌∙◌, ◌++◌, ◌∷◌, [], ap, append_assoc, get_or, List, pos, rules, w64, ℕ, ℤ}
use Rattle.std.specs.Fmt.{signed_decimal}
use Rattle.std.specs.Prelude.{codes}
use Rattle.std.proofs.lemmas.Int.{to_z-of_z}
use Rattle.std.proofs.lemmas.List.{get_or-map}
use Rattle.ordup_objects.proofs.SameLemmas.{first-at}
use Rattle.ordup_succession.proofs.FormLemmas.{line_formed, name_formed, word_formed}
use Rattle.ordup_succession.proofs.forming.push_object.Goals as goal

pub returns : goal.returns
returns g c = λ d.
    let objects = c.args.objects.now in
    let name = first-at objects c.args.object d c.name.result.now c.requires c.name.ensures in
    let value = to_z-of_z w64 c.initial.result (search rules) ∙ c.initial.ensures
    ∙ get_or-map (λ (e : List ℕ × ℤ). e.1) objects c.args.object d (pos 0) c.requires in
    let digits = rw value at c.in_ok-push_value.ensures in
    let named = rw (c.as_bytes.ensures.bytes, name) at c.in_ok-push-2.ensures in
    let object : List ℕ × ℤ = get_or objects c.args.object d in
    let written = word_formed c.push-2.new.self.text c.push_value.new.self.text (signed_decimal object.1)
    (digits ∙ ap (λ t. t ++ signed_decimal object.1) c.in_ok-push-3.ensures
    ∙ append_assoc c.push-2.new.self.text (32 ∷ []) (signed_decimal object.1)) in
    line_formed c.push-4.result c.args.out.now.text _ _ (codes "object") (object.0 ∷ signed_decimal object.1 ∷ [])
    (name_formed c.args.out.now.text _ _ _ (codes "object") object.0 (signed_decimal object.1 ∷ []) c.in_ok-push.ensures named written)
    c.push-4.ensures
