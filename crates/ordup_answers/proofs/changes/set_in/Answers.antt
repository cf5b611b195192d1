use Rattle.std.proofs.Common.{◌≡◌, ◌∙◌, sym, Some}
use Rattle.ordup_grammar.specs.ChangeWords.{change_of, changes_of}
use Rattle.ordup_answers.proofs.NearestNumberLemmas.{set_made}
use Rattle.ordup_answers.proofs.changes.set_in.Goals as goal

pub returns-in-Ok-clause-set : goal.returns-in-Ok-clause-set
returns-in-Ok-clause-set g c each =
    let of : change_of c.in-Some.word ≡ Some c.in-Some-parse.word = sym c.parse.ensures ∙ c.in-Some-parse.is in
    set_made c.args.objects.now c.new.result (changes_of c.args.words.now) c.in-Ok.changes.items
    (rw (c.in-Some.ensures, of, ← c.change_in-change.ensures) c.in-Ok.ensures.changes) c.new.ensures.set c.new.ensures.allowed
    c.new.ensures.refused
