-- What was kept is sent: the answers, and then the notes. Where a send fails, a prefix of both is.
use Rattle.std.proofs.Common.{[], inl, refl, rules, sym}
use Rattle.std.proofs.KnownBytes.{Appends-nil}
use Rattle.std.proofs.lemmas.List.{append-nil}
use Rattle.ordup_script.proofs.Explainers.{explains_all, explains_front}
use Rattle.ordup_script.proofs.explaining.ExplainerLineTaker.hand_out.Goals as goal

pub returns-in_default-clause-lines : goal.returns-in_default-clause-lines
returns-in_default-clause-lines g c =
    let before = c.args.self.now in record {
      goes_on = λ first earlier h later.
          rw append-nil (explains_front g.W.Write.contents g.E.Write.contents first before _ earlier h (record { script = refl; output = refl })
          (search rules) refl ([], before.notes.now.text, refl, Appends-nil _) _ (inl refl) later);
    }

pub returns-in_default-send-clause-lines : goal.returns-in_default-send-clause-lines
returns-in_default-send-clause-lines g c =
    let before = c.args.self.now in record {
      goes_on = λ first earlier h later.
          rw append-nil (explains_front g.W.Write.contents g.E.Write.contents first before _ earlier h (record { script = refl; output = refl })
          (before.answers.now.text, [], sym (append-nil _), search rules) refl (search rules) _ (inl refl) later);
    }

pub returns-clause-lines : goal.returns-clause-lines
returns-clause-lines g c = record {
  goes_on = λ first earlier h.
      rw append-nil (explains_all g.W.Write.contents g.E.Write.contents first c.args.self.now _ earlier h
      (record { script = refl; output = refl }) (search rules) refl c.clear.ensures refl (search rules) c.clear-2.ensures refl refl);
}
