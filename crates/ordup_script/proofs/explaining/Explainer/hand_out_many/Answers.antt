use Rattle.std.proofs.lemmas.List.{append-nil}
use Rattle.ordup_script.proofs.explaining.Explainer.hand_out_many.Goals as goal

pub returns-then-most-lt-PIECE-clause-lines : goal.returns-then-most-lt-PIECE-clause-lines
returns-then-most-lt-PIECE-clause-lines g c = record { goes_on = λ first earlier h. rw append-nil h }
