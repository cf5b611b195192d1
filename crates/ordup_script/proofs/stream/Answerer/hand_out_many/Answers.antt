use Rattle.std.proofs.lemmas.List.{append-nil}
use Rattle.ordup_script.proofs.stream.Answerer.hand_out_many.Goals as goal

pub returns-then-len-lt-PIECE : goal.returns-then-len-lt-PIECE
returns-then-len-lt-PIECE g c = record { goes_on = λ first earlier h. rw append-nil h }
