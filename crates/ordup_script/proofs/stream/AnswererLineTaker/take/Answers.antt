-- The reply of the line goes behind the answers to those before it.
-- Where memory is refused, these are all that was answered.
use Rattle.std.proofs.Common.{[], ◌∷◌, ◌++◌, append_assoc, inr, refl}
use Rattle.std.proofs.KnownBytes.{Appends-nil}
use Rattle.std.proofs.lemmas.List.{append-nil}
use Rattle.ordup_grammar.specs.Lines.{cut}
use Rattle.ordup_script.proofs.Answerers.{answers_line, sends_front}
use Rattle.ordup_script.proofs.stream.AnswererLineTaker.take.Goals as goal

pub returns-in-Ok-clause-lines : goal.returns-in-Ok-clause-lines
returns-in-Ok-clause-lines g c =
    let line = cut c.args.line.now in record {
      goes_on = λ first earlier h.
          let answered = answers_line g.W.Write.contents first c.args.self.now _ earlier _ line h refl c.in-Ok.ensures.reply
          (record { script = refl; output = refl }) refl in
          rw (append-nil (earlier ++ line ∷ [])) at (c.hand_out_many.ensures.goes_on first (earlier ++ line ∷ []) answered);
    }

pub returns-in-Err-clause-lines : goal.returns-in-Err-clause-lines
returns-in-Err-clause-lines g c =
    let line = cut c.args.line.now in record {
      goes_on = λ first earlier h later.
          rw append_assoc (sends_front g.W.Write.contents first c.args.self.now _ earlier h (record { script = refl; output = refl })
          ([], c.args.self.now.answers.now.text, refl, Appends-nil _) _ (inr refl) (line ∷ later));
    }
