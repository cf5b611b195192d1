-- What each step of an explainer adds to how far it has come.
use Rattle.std.proofs.Common.{◌≡◌, ◌⊎◌, ◌∙◌, refl, sym, ap, subst, ℕ, Bool, ◌||◌, List, [], ◌∷◌, ◌++◌, ◌+◌, Option, append_assoc}
use Rattle.std.proofs.KnownBytes.{Appends-trans}
use Rattle.std.specs.Io.KnownBytes.{Appends}
use Rattle.ordup_answers.specs.Answers.{Leaves}
use Rattle.ordup_answers.specs.Replies.{request_reply, reply}
use Rattle.ordup_answers.specs.ScriptStates.{ScriptState, Stands}
use Rattle.ordup_answers.specs.Output.{Written, answered, written}
use Rattle.ordup_grammar.specs.Requests.{Request, request_of}
use Rattle.ordup_grammar.specs.Lines.{Line}
use Rattle.ordup_text.specs.Fronts.{AppendsFront}
use Rattle.ordup_script.specs.Answerers.{IsLater}
use Rattle.ordup_script.specs.Explainers.{HasExplained, HasStoppedExplaining, answerer_of}
use Rattle.ordup_script.specs.Explanations.{AreNotes, Refusing, is_refusal, one_more, refused_at, refusing, refusing_more}
use Rattle.ordup_script.specs.declared.explaining.Explainer.{Explainer}
use Rattle.ordup_script.specs.declared.stream.ScriptFault.{ScriptFault}
use Rattle.ordup_script.specs.declared.stream.ScriptFault.TheVariants as fault
use Rattle.ordup_script.proofs.Answerers.{answers_line, sends_all, sends_front}
use Rattle.ordup_script.proofs.Explanations.{notes_more}
use Rattle.ordup_script.proofs.Output.{after_lines-append}
use Rattle.std.proofs.lemmas.List.{append-nil}

module _ {W E A : Type 0} (contents : W → Option (List ℕ)) (noted : E → Option (List ℕ)) where
  -- one line more is answered, and noted where it is refused
  pub explains_line : (first before after : Explainer W E A) (earlier : List Line) (request : Request) (line : Line) (answer more : List ℕ)
      → HasExplained contents noted first before earlier → request ≡ request_of line
      → ((s : ScriptState A) → Stands before.script.now s
      → Leaves (Stands after.script.now) (λ text. answer ≡ text) (request_reply s request))
      → IsLater (answerer_of before) (answerer_of after) → after.output.now ≡ before.output.now
      → after.answers.now.text ≡ before.answers.now.text ++ answer
      → after.faults ≡ before.faults → after.tally.now.lines ≡ before.tally.now.lines + 1
      → after.tally.now.is_refused ≡ (before.tally.now.is_refused || is_refusal answer)
      → AreNotes (refused_at after.tally.now.lines answer) more → after.notes.now.text ≡ before.notes.now.text ++ more
      → HasExplained contents noted first after (earlier ++ line ∷ [])
  unfolding reply
  explains_line first before after earlier request line answer more h is leaves later same put faults count refused notes grew =
      let w : Written A = written A earlier in
      let e : Refusing A = refusing A earlier in
      let given : ScriptState A × List ℕ = reply w.0 line in
      let (left, its) = subst
      (λ (a : Request). Leaves {A = A} (Stands after.script.now) (λ text. answer ≡ text) (request_reply w.0 a)) is
      (leaves w.0 h.answered.script) in
      let next : written A (earlier ++ line ∷ []) ≡ answered w line = after_lines-append answered _ earlier (line ∷ []) in
      let stepped : refusing A (earlier ++ line ∷ []) ≡ refusing_more e line = after_lines-append refusing_more _ earlier (line ∷ []) in
      let full : refusing A (earlier ++ line ∷ []) ≡ one_more e given =
      stepped ∙ ap (λ (s : ScriptState A). one_more e (reply s line)) h.state in
      let counted : after.tally.now.lines ≡ e.lines + 1 = count ∙ ap (λ n. n + 1) h.count in record {
        answered =
            answers_line contents (answerer_of first) (answerer_of before) (answerer_of after) earlier request line h.answered is
            (λ s stands.
            let (state, is_answer) = leaves s stands in
            (state, put ∙ ap (λ t. before.answers.now.text ++ t) is_answer))
            later same;
        faults = ap (λ f. f.ghost_name) faults ∙ h.faults;
        state = ap (λ (r : Refusing A). r.state) full ∙ sym (ap (λ (v : Written A). v.0) next);
        count = counted ∙ sym (ap (λ (r : Refusing A). r.lines) full);
        refused =
            refused ∙ ap (λ b. b || is_refusal answer) h.refused ∙ ap (λ a. e.is_refused || is_refusal a) its
            ∙ sym (ap (λ (r : Refusing A). r.is_refused) full);
        text = h.text ++ more;
        notes =
            subst (λ (r : Refusing A). AreNotes r.refused (h.text ++ more)) (sym full)
            (notes_more e.refused (refused_at (e.lines + 1) given.1) h.text more h.notes
            (subst (λ a. AreNotes (refused_at (e.lines + 1) a) more) its
            (subst (λ n. AreNotes (refused_at n answer) more) counted notes)));
        sent = h.sent;
        wrote = rw faults h.wrote;
        kept = ap (λ t. t ++ more) h.kept ∙ append_assoc h.sent before.notes.now.text more ∙ ap (λ t. h.sent ++ t) (sym grew);
      }

  -- a prefix of the answers and of the notes that were kept is sent
  pub explains_front : (first before after : Explainer W E A) (earlier : List Line)
      → HasExplained contents noted first before earlier
      → IsLater (answerer_of before) (answerer_of after)
      → AppendsFront (contents before.output.now) (contents after.output.now) before.answers.now.text
      → after.faults.ghost_name ≡ before.faults.ghost_name
      → AppendsFront (noted before.faults.now) (noted after.faults.now) before.notes.now.text
      → (e : ScriptFault) → (e ≡ fault.Write) ⊎ (e ≡ fault.NoMemory) → (later : List Line)
      → HasStoppedExplaining contents noted first after (earlier ++ later) e
  explains_front first before after earlier h next front faults (noted_front, back, is, grew) e cause later = record {
    answered = sends_front contents (answerer_of first) (answerer_of before) (answerer_of after) earlier h.answered next front e cause later;
    faults = faults ∙ h.faults;
    front = (
      earlier,
      later,
      h.text,
      refl,
      h.notes,
      (
        h.sent ++ noted_front,
        back,
        h.kept ∙ ap (λ t. h.sent ++ t) is ∙ sym (append_assoc h.sent noted_front back),
        Appends-trans _ _ _ h.sent noted_front h.wrote grew,
      ),
    );
  }

  -- all answers and notes that were kept are sent
  pub explains_all : (first before after : Explainer W E A) (earlier : List Line)
      → HasExplained contents noted first before earlier
      → IsLater (answerer_of before) (answerer_of after)
      → Appends (contents before.output.now) (contents after.output.now) before.answers.now.text
      → after.script.now ≡ before.script.now → after.answers.now.text ≡ []
      → after.faults.ghost_name ≡ before.faults.ghost_name
      → Appends (noted before.faults.now) (noted after.faults.now) before.notes.now.text
      → after.notes.now.text ≡ [] → after.tally.now.lines ≡ before.tally.now.lines → after.tally.now.is_refused ≡ before.tally.now.is_refused
      → HasExplained contents noted first after earlier
  explains_all first before after earlier h next grew script none faults notes no_notes lines refused = record {
    answered =
        sends_all contents (answerer_of first) (answerer_of before) (answerer_of after) earlier h.answered next grew script none;
    faults = faults ∙ h.faults;
    state = h.state;
    count = lines ∙ h.count;
    refused = refused ∙ h.refused;
    text = h.text;
    notes = h.notes;
    sent = h.sent ++ before.notes.now.text;
    wrote = Appends-trans _ _ _ h.sent before.notes.now.text h.wrote notes;
    kept =
        h.kept
        ∙ sym (append-nil (h.sent ++ before.notes.now.text))
        ∙ ap (λ t. (h.sent ++ before.notes.now.text) ++ t) (sym no_notes);
  }
