-- The name of a refusal has at most 15 bytes, as going through all of them shows.
-- So it fits, with the line feed, into what the number leaves of the spare capacity.
use Rattle.std.proofs.Common.{◌≤◌, length, arith}
use Rattle.ordup_objects.specs.Refusals.{refusal_name}
use Rattle.ordup_objects.specs.declared.refusal.Refusal.{Refusal}
use Rattle.ordup_objects.specs.declared.refusal.Refusal.TheVariants.{Syntax, NotStarted, AlreadyStarted, BadName, NameTaken}
use Rattle.ordup_objects.specs.declared.refusal.Refusal.TheVariants.{UnknownObject, UnknownGroup, UnknownSite, OutOfRange}
use Rattle.ordup_objects.specs.declared.refusal.Refusal.TheVariants.{TooMany, Empty, Repeated, LogFull, NothingToSend, FeedFull}
use Rattle.ordup_objects.specs.declared.refusal.Refusal.TheVariants.{NothingToApply, NothingToSettle, UnknownQuery, QueryOpen}
use Rattle.ordup_objects.specs.declared.refusal.Refusal.TheVariants.{OverImport, Behind, NotYet, Stopped, HeadPending, LagOver}
use Rattle.ordup_objects.specs.declared.refusal.Refusal.TheVariants.{NoMemory, Mixed}
use Rattle.ordup_answers.proofs.text.put_refused.Goals as goal

-- the bytes of a refusal's name
few : (r : Refusal) → length (refusal_name r) ≤ 15
few Syntax = omega arith
few NotStarted = omega arith
few AlreadyStarted = omega arith
few BadName = omega arith
few NameTaken = omega arith
few UnknownObject = omega arith
few UnknownGroup = omega arith
few UnknownSite = omega arith
few OutOfRange = omega arith
few TooMany = omega arith
few Empty = omega arith
few Repeated = omega arith
few LogFull = omega arith
few NothingToSend = omega arith
few FeedFull = omega arith
few NothingToApply = omega arith
few NothingToSettle = omega arith
few UnknownQuery = omega arith
few QueryOpen = omega arith
few OverImport = omega arith
few (Behind applied) = omega arith
few (NotYet number) = omega arith
few Stopped = omega arith
few HeadPending = omega arith
few LagOver = omega arith
few NoMemory = omega arith
few (Mixed site) = omega arith

pub put-requires-4 : goal.put-requires-4
put-requires-4 g c =
    let size : length c.as_bytes.result.now ≤ 15 = rw (c.as_bytes.ensures.value, c.name.ensures) (few c.args.refusal) in
    omega (arith, size, c.requires, c.put.ensures.spare, c.put_number.ensures.spare, c.put-2.ensures.spare, c.put-3.ensures.spare)
