-- What each step of an answerer adds to how far it has come.
use Rattle.std.proofs.Common.{◌≡◌, ◌⊎◌, ◌∙◌, sym, ap, subst, ℕ, List, [], ◌∷◌, ◌++◌, Option, append_assoc}
use Rattle.std.proofs.KnownBytes.{Appends-trans}
use Rattle.std.specs.Io.KnownBytes.{Appends}
use Rattle.std.proofs.lemmas.List.{append-nil}
use Rattle.ordup_answers.specs.Answers.{Leaves}
use Rattle.ordup_answers.specs.Replies.{request_reply, reply}
use Rattle.ordup_answers.specs.ScriptStates.{ScriptState, Stands}
use Rattle.ordup_grammar.specs.Requests.{Request, request_of}
use Rattle.ordup_grammar.specs.Lines.{Line}
use Rattle.ordup_script.specs.Answerers.{HasAnswered, HasStopped, IsLater}
use Rattle.ordup_text.specs.Fronts.{AppendsFront}
use Rattle.ordup_answers.specs.Output.{Written, answered, written}
use Rattle.ordup_script.specs.declared.stream.Answerer.{Answerer}
use Rattle.ordup_script.specs.declared.stream.ScriptFault.{ScriptFault}
use Rattle.ordup_script.specs.declared.stream.ScriptFault.TheVariants as fault
use Rattle.ordup_script.proofs.Output.{after_lines-append, front_of_more}

module _ {W A : Type 0} where
  pub IsLater-trans : (a b c : Answerer W A) → IsLater a b → IsLater b c → IsLater a c
  IsLater-trans a b c one next = record { script = next.script ∙ one.script; output = next.output ∙ one.output }

module _ {W A : Type 0} (contents : W → Option (List ℕ)) where
  -- one line more is answered
  pub answers_line : (first before after : Answerer W A) (earlier : List Line) (request : Request) (line : Line)
      → HasAnswered contents first before earlier → request ≡ request_of line
      → ((s : ScriptState A) → Stands before.script.now s
      → Leaves (Stands after.script.now) (λ text. after.answers.now.text ≡ before.answers.now.text ++ text) (request_reply s request))
      → IsLater before after → after.output.now ≡ before.output.now
      → HasAnswered contents first after (earlier ++ line ∷ [])
  unfolding reply
  answers_line first before after earlier request line h is leaves later same =
      let w : Written A = written A earlier in
      let (left, grew) = subst
      (λ (a : Request).
      Leaves {A = A} (Stands after.script.now) (λ text. after.answers.now.text ≡ before.answers.now.text ++ text)
      (request_reply w.0 a)) is
      (leaves w.0 h.script) in
      let next : written A (earlier ++ line ∷ []) ≡ answered w line = after_lines-append answered _ earlier (line ∷ []) in record {
        later = IsLater-trans first before after h.later later;
        script = subst (λ (v : Written A). Stands after.script.now v.0) (sym next) left;
        sent = h.sent;
        wrote = rw same h.wrote;
        text =
            ap (λ (v : Written A). v.1) next
            ∙ ap (λ t. t ++ (reply w.0 line).1) h.text
            ∙ append_assoc h.sent before.answers.now.text _
            ∙ ap (λ t. h.sent ++ t) (sym grew);
      }

  -- a prefix of the answers that were kept is sent
  pub sends_front : (first before after : Answerer W A) (earlier : List Line) → HasAnswered contents first before earlier
      → IsLater before after → AppendsFront (contents before.output.now) (contents after.output.now) before.answers.now.text
      → (e : ScriptFault) → (e ≡ fault.Write) ⊎ (e ≡ fault.NoMemory) → (later : List Line)
      → HasStopped contents first after (earlier ++ later) e
  sends_front first before after earlier h next (front, back, is, grew) e cause later = record {
    later = IsLater-trans first before after h.later next;
    cause = cause;
    front = front_of_more A _ _ earlier later (
      h.sent ++ front,
      back,
      h.text ∙ ap (λ t. h.sent ++ t) is ∙ sym (append_assoc h.sent front back),
      Appends-trans _ _ _ h.sent front h.wrote grew,
    );
  }

  -- all answers that were kept are sent
  pub sends_all : (first before after : Answerer W A) (earlier : List Line) → HasAnswered contents first before earlier
      → IsLater before after → Appends (contents before.output.now) (contents after.output.now) before.answers.now.text
      → after.script.now ≡ before.script.now → after.answers.now.text ≡ []
      → HasAnswered contents first after earlier
  sends_all first before after earlier h later grew script none = record {
    later = IsLater-trans first before after h.later later;
    script = rw script h.script;
    sent = h.sent ++ before.answers.now.text;
    wrote = Appends-trans _ _ _ h.sent before.answers.now.text h.wrote grew;
    text =
        h.text
        ∙ sym (append-nil (h.sent ++ before.answers.now.text))
        ∙ ap (λ t. (h.sent ++ before.answers.now.text) ++ t) (sym none);
  }
