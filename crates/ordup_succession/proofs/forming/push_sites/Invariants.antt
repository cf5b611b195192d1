use Rattle.std.proofs.Common.{◌≡◌, ◌++◌, drop, map}
use Rattle.ordup_succession.specs.DeclaringLines.{site_words}
use Rattle.ordup_succession.specs.Lines.{lines_text}
use Rattle.ordup_succession.proofs.forming.push_sites.Given as goal

-- the lines so far and those that are left are all of them
abbrev pub invariant-loop-index : goal.invariant-loop-index
invariant-loop-index g l =
    l.out.text ++ lines_text (map site_words (drop l.index l.setup.sites))
    ≡ l.initial.out.text ++ lines_text (map site_words l.setup.sites)
