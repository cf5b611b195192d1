use Rattle.std.proofs.Common.{rules, inl, refl}
use Rattle.std.proofs.lemmas.List.{append-nil}
use Rattle.ordup_script.proofs.Answerers.{sends_all, sends_front}
use Rattle.ordup_script.proofs.stream.AnswererLineTaker.hand_out.Goals as goal

pub returns-in-Err-clause-lines : goal.returns-in-Err-clause-lines
returns-in-Err-clause-lines g c = record {
  goes_on = λ first earlier h later.
      rw append-nil (sends_front g.W.Write.contents first c.args.self.now _ earlier h (record { script = refl; output = refl })
      (search rules) _ (inl refl) later);
}

pub returns-in-Ok-clause-lines : goal.returns-in-Ok-clause-lines
returns-in-Ok-clause-lines g c = record {
  goes_on = λ first earlier h.
      rw append-nil (sends_all g.W.Write.contents first c.args.self.now _ earlier h (record { script = refl; output = refl }) (search rules)
      refl c.clear.ensures);
}
