-- The numbers and names of refusals, and how a call says that it was refused.
use Rattle.std.specs.Prelude.{◌≡◌, ℕ, List, Option, Some, None, codes}
use Rattle.ordup_objects.specs.declared.refusal.Refusal.{Refusal}
use Rattle.ordup_objects.specs.declared.refusal.Refusal.TheVariants.{Syntax, NotStarted, AlreadyStarted, BadName, NameTaken}
use Rattle.ordup_objects.specs.declared.refusal.Refusal.TheVariants.{UnknownObject, UnknownGroup, UnknownSite, OutOfRange}
use Rattle.ordup_objects.specs.declared.refusal.Refusal.TheVariants.{TooMany, Empty, Repeated, LogFull, NothingToSend, FeedFull}
use Rattle.ordup_objects.specs.declared.refusal.Refusal.TheVariants.{NothingToApply, NothingToSettle, UnknownQuery, QueryOpen}
use Rattle.ordup_objects.specs.declared.refusal.Refusal.TheVariants.{OverImport, Behind, NotYet, Stopped, HeadPending, LagOver}
use Rattle.ordup_objects.specs.declared.refusal.Refusal.TheVariants.{NoMemory, Mixed}

-- the number by which answers show a refusal
abbrev pub refusal_number : Refusal → ℕ
refusal_number Syntax = 1
refusal_number NotStarted = 2
refusal_number AlreadyStarted = 3
refusal_number BadName = 4
refusal_number NameTaken = 5
refusal_number UnknownObject = 6
refusal_number UnknownGroup = 7
refusal_number UnknownSite = 8
refusal_number OutOfRange = 9
refusal_number TooMany = 10
refusal_number Empty = 11
refusal_number Repeated = 12
refusal_number LogFull = 13
refusal_number NothingToSend = 14
refusal_number FeedFull = 15
refusal_number NothingToApply = 16
refusal_number NothingToSettle = 17
refusal_number UnknownQuery = 18
refusal_number QueryOpen = 19
refusal_number OverImport = 20
refusal_number (Behind applied) = 21
refusal_number (NotYet number) = 22
refusal_number Stopped = 23
refusal_number HeadPending = 24
refusal_number LagOver = 25
refusal_number NoMemory = 26
refusal_number (Mixed site) = 27

-- the name by which answers show it
abbrev pub refusal_name : Refusal → List ℕ
refusal_name Syntax = codes "Syntax"
refusal_name NotStarted = codes "NotStarted"
refusal_name AlreadyStarted = codes "AlreadyStarted"
refusal_name BadName = codes "BadName"
refusal_name NameTaken = codes "NameTaken"
refusal_name UnknownObject = codes "UnknownObject"
refusal_name UnknownGroup = codes "UnknownGroup"
refusal_name UnknownSite = codes "UnknownSite"
refusal_name OutOfRange = codes "OutOfRange"
refusal_name TooMany = codes "TooMany"
refusal_name Empty = codes "Empty"
refusal_name Repeated = codes "Repeated"
refusal_name LogFull = codes "LogFull"
refusal_name NothingToSend = codes "NothingToSend"
refusal_name FeedFull = codes "FeedFull"
refusal_name NothingToApply = codes "NothingToApply"
refusal_name NothingToSettle = codes "NothingToSettle"
refusal_name UnknownQuery = codes "UnknownQuery"
refusal_name QueryOpen = codes "QueryOpen"
refusal_name OverImport = codes "OverImport"
refusal_name (Behind applied) = codes "Behind"
refusal_name (NotYet number) = codes "NotYet"
refusal_name Stopped = codes "Stopped"
refusal_name HeadPending = codes "HeadPending"
refusal_name LagOver = codes "LagOver"
refusal_name NoMemory = codes "NoMemory"
refusal_name (Mixed site) = codes "Mixed"

-- the error of a call that this refusal refuses, or that was refused memory where no refusal does
abbrev pub IsRefusal : Option Refusal → Refusal → Type 0
IsRefusal None e = e ≡ NoMemory
IsRefusal (Some r) e = e ≡ r
