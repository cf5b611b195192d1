-- The reply of the line goes behind the answers to those before it, and its note behind theirs.
-- Where memory is refused, these are all that was answered and noted.
use Rattle.std.proofs.Common.{◌∙◌, [], ◌∷◌, ◌++◌, ap, append_assoc, inr, refl}
use Rattle.std.proofs.KnownBytes.{Appends-nil}
use Rattle.std.proofs.lemmas.List.{append-nil}
use Rattle.ordup_answers.specs.Replies.{request_reply}
use Rattle.ordup_grammar.specs.Lines.{cut}
use Rattle.ordup_grammar.specs.Requests.{request_of}
use Rattle.ordup_script.proofs.Explainers.{explains_front, explains_line}
use Rattle.ordup_script.proofs.explaining.ExplainerLineTaker.take.Goals as goal

pub returns-in_default-clause-lines : goal.returns-in_default-clause-lines
returns-in_default-clause-lines g c =
    let before = c.args.self.now in
    let line = cut c.args.line.now in record {
      goes_on = λ first earlier h later.
          rw append_assoc (explains_front g.W.Write.contents g.E.Write.contents first before _ earlier h
          (record { script = refl; output = refl }) ([], before.answers.now.text, refl, Appends-nil _) refl
          ([], before.notes.now.text, refl, Appends-nil _) _ (inr refl) (line ∷ later));
    }

pub returns-in_default-push-clause-lines : goal.returns-in_default-push-clause-lines
returns-in_default-push-clause-lines g c =
    let before = c.args.self.now in
    let line = cut c.args.line.now in record {
      goes_on = λ first earlier h later.
          rw append_assoc (explains_front g.W.Write.contents g.E.Write.contents first before _ earlier h
          (record { script = refl; output = refl }) ([], before.answers.now.text, refl, Appends-nil _) refl
          ([], before.notes.now.text, refl, Appends-nil _) _ (inr refl) (line ∷ later));
    }

pub returns-in-Ok-note_if_refused-clause-lines : goal.returns-in-Ok-note_if_refused-clause-lines
returns-in-Ok-note_if_refused-clause-lines g c =
    let before = c.args.self.now in
    let line = cut c.args.line.now in
    let (more, notes, grew) = c.in-Ok-note_if_refused.ensures.notes in record {
      goes_on = λ first earlier h.
          let explained = explains_line g.W.Write.contents g.E.Write.contents first before _ earlier _ line c.as_slice-answer.result.now
          more h refl
          (λ s stands.
          let (state, text) = c.in-Ok.ensures.reply s stands in
          (state, c.as_slice-answer.ensures ∙ text ∙ ap (λ t. t ++ (request_reply s (request_of line)).1) c.clear.ensures))
          (record { script = refl; output = refl }) refl c.in-Ok-push.ensures refl refl c.in-Ok-note_if_refused.ensures.refusal notes grew in
          rw (append-nil (earlier ++ line ∷ [])) at (c.hand_out_many.ensures.lines.goes_on first (earlier ++ line ∷ []) explained);
    }

pub returns-in-Err-clause-lines : goal.returns-in-Err-clause-lines
returns-in-Err-clause-lines g c =
    let before = c.args.self.now in
    let line = cut c.args.line.now in record {
      goes_on = λ first earlier h later.
          rw append_assoc (explains_front g.W.Write.contents g.E.Write.contents first before _ earlier h
          (record { script = refl; output = refl }) ([], before.answers.now.text, refl, Appends-nil _) refl
          ([], before.notes.now.text, refl, Appends-nil _) _ (inr refl) (line ∷ later));
    }
