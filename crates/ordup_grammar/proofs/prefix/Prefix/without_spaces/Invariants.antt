use Rattle.std.proofs.Common.{◌≡◌, length}
use Rattle.ordup_grammar.specs.Words.{words_of}
use Rattle.ordup_grammar.proofs.prefix.Prefix.without_spaces.Given as goal

-- the words stay the same
abbrev pub invariant-loop-prefix : goal.invariant-loop-prefix
invariant-loop-prefix l = words_of l.prefix ≡ words_of l.fn.self

abbrev pub decreases-loop-prefix : goal.decreases-loop-prefix
decreases-loop-prefix l = length l.prefix
