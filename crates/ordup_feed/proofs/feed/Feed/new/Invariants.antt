use Rattle.ordup_objects.specs.Tables.{initial_state}
use Rattle.ordup_feed.proofs.feed.Feed.new.Given as goal

abbrev pub ghosts-open : goal.ghosts-open
ghosts-open a = record { start = initial_state a.objects.now }
