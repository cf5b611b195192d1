-- Events, what they are answered, and the numbers of a list of accepted events.
use Rattle.std.specs.Prelude.{◌≡◌, ◌⊎◌, ℕ, ◌+◌, ◌-◌, ◌==◌, not, if◌then◌else◌, nat_eq, nat_lt, Bool}
use Rattle.std.specs.Prelude.{true, false, Option, Some, None, option_map, is_some, List, [], ◌∷◌, ◌++◌, length, slice_index_or, slice_set}
use Rattle.std.specs.Cmp.Lexicographic.{pointwise}
use Rattle.ordup_objects.specs.declared.change.Change.{Change}
use Rattle.ordup_objects.specs.declared.refusal.Refusal.{Refusal}
use Rattle.ordup_objects.specs.declared.refusal.Refusal.TheVariants.{UnknownObject, UnknownSite, OutOfRange, TooMany}
use Rattle.ordup_objects.specs.declared.refusal.Refusal.TheVariants.{NothingToSend, FeedFull, NothingToApply, NothingToSettle}
use Rattle.ordup_objects.specs.declared.refusal.Refusal.TheVariants.{UnknownQuery, QueryOpen, NoMemory}
use Rattle.ordup_objects.specs.States.{value_at}
use Rattle.ordup_objects.specs.Tables.{initial_state}
use Rattle.ordup_objects.specs.Sets.{are_known}
use Rattle.ordup_objects.specs.Serial.{History, serial}
use Rattle.ordup_log.specs.Appending.{append_refusal}
use Rattle.ordup_log.specs.declared.scope.Scope.{Scope}
use Rattle.ordup_rounds.specs.declared.window.Window.{Window}
use Rattle.ordup_rounds.specs.Rounds.{rounds_upto, windows_upto}
use Rattle.ordup_limits.specs.Limits.{Limits, within}
use Rattle.ordup_limits.specs.Entries.{Entries, entry_of, in_force, latest, changed}
use Rattle.ordup_primary.specs.Declarations.{Declared, capacity_of}
use Rattle.ordup_primary.specs.LimitChanges.{SiteView, limit_change_refusal}
use Rattle.ordup_primary.specs.Settling.{forced_sites, waiting_sites, report_at}
use Rattle.ordup_primary.specs.Primaries.{acked_after, acked_or_round, acked_or_waiting}
use Rattle.ordup_primary.specs.declared.settled.Settled.{Settled}
use Rattle.ordup_query.specs.Sizes.{greatest_import_limit}
use Rattle.ordup_query.specs.Imports.{import_of}
use Rattle.ordup_query.specs.Queries.{value_sum}
use Rattle.ordup_world.specs.Sizes.{most_queries}
use Rattle.ordup_world.specs.Queries.{ReadMade, Opened, import_total, values_read, refusal_now}
use Rattle.ordup_world.specs.declared.event.Event.{Event}
use Rattle.ordup_world.specs.declared.event.Event.TheVariants.{Propose, Send, Apply, Report, Settle, Relimit}
use Rattle.ordup_world.specs.declared.event.Event.TheVariants.{Begin, Read, End, Abandon, Show}
use Rattle.ordup_world.specs.declared.event.Answer.{Answer}
use Rattle.ordup_world.specs.declared.event.Answer.TheVariants.{Proposed, Sent, Applied, Reported, Settlement, Relimited, Begun}
use Rattle.ordup_world.specs.declared.event.Answer.TheVariants.{ReadOut, Ended, Abandoned, Shown, Refused}

-- the accepted events, the newest first
abbrev pub Past : Type 0 → Type 0
Past A = List (Event A)

-- how many updates are acknowledged, how many are decided, what each site had reported at the decision of each place, and the
-- limits of each site, each with the place from which it holds
pub record Decisions : Type 0 where
  pub acked : ℕ
  pub decided : ℕ
  pub reports : ℕ → List ℕ
  pub limits : List Entries

-- the same name
abbrev pub is_same : List ℕ → List ℕ → Bool
is_same = pointwise nat_eq

-- the limit of site s on a scope is changed, and the change holds from the head on
abbrev pub relimited : ℕ → Scope → ℕ → Decisions → Decisions
relimited s scope amount ds =
    record ds { limits = slice_set ds.limits s (changed (slice_index_or ds.limits s []) (entry_of scope amount (ds.acked + 1))) }

module _ {A : Type 0} where
  -- the proposed message sets, in their order
  abbrev pub sets_of : Past A → List (List Change)
  sets_of [] = []
  sets_of (Propose m ∷ past) = sets_of past ++ m ∷ []
  sets_of (_ ∷ past) = sets_of past

  -- how many updates were sent to a site: the count of its Send events
  abbrev pub sent : ℕ → Past A → ℕ
  sent s [] = 0
  sent s (Send t ∷ past) = if t == s then sent s past + 1 else sent s past
  sent s (_ ∷ past) = sent s past

  -- how many updates a site applied: the count of its Apply events
  abbrev pub applied : ℕ → Past A → ℕ
  applied s [] = 0
  applied s (Apply t ∷ past) = if t == s then applied s past + 1 else applied s past
  applied s (_ ∷ past) = applied s past

  -- what a site had applied at its last report, or 0
  abbrev pub reported : ℕ → Past A → ℕ
  reported s [] = 0
  reported s (Report t ∷ past) = if t == s then applied s past else reported s past
  reported s (_ ∷ past) = reported s past

  -- the log: the proposed message sets over the initial state
  abbrev pub log_of : Declared → Past A → History
  log_of setup past = record { start = initial_state setup.objects; sets = sets_of past }

  -- by the limits of these decisions the span from a to b passes none of those of site s that are in force at b
  abbrev pub is_within_by : Declared → Past A → Decisions → ℕ → ℕ → ℕ → Bool
  is_within_by setup past ds s a b = within (log_of setup past) setup.groups (in_force (slice_index_or ds.limits s []) b) a b

  -- the sites that a first settlement of the head would force
  abbrev pub forced_after : Declared → Past A → Decisions → List ℕ
  forced_after setup past ds = forced_sites (is_within_by setup past ds) (λ s. reported s past) (length setup.sites) (ds.acked + 1)

  -- the sites that were forced at the decision of the head and have not reported it
  abbrev pub waiting_after : Declared → Past A → Decisions → List ℕ
  waiting_after setup past ds =
      waiting_sites (is_within_by setup past ds) (λ s. report_at (ds.reports s) (ds.acked + 1)) (λ s. reported s past)
      (length setup.sites) (ds.acked + 1)

  -- The first settlement of the head decides it: what each site has reported then counts from now on.
  -- It is acknowledged where no site is forced, and later where no forced site is waited for.
  abbrev pub settled : Declared → Past A → Decisions → Decisions
  settled setup past ds = if ds.acked == ds.decided then (record ds {
    acked = acked_after ds.acked (forced_after setup past ds);
    decided = ds.acked + 1;
    reports = λ s. ds.reports s ++ reported s past ∷ [];
  }) else (record ds { acked = acked_after ds.acked (waiting_after setup past ds) })

  -- the decisions of the settlements among the accepted events, and the limits, which begin as those that were declared and are
  -- changed by the Relimit events
  abbrev pub decisions : Declared → Past A → Decisions
  decisions setup [] = record { acked = 0; decided = 0; reports = λ s. []; limits = setup.limits }
  decisions setup (Settle ∷ past) = settled setup past (decisions setup past)
  decisions setup (Relimit s scope amount ∷ past) = relimited s scope amount (decisions setup past)
  decisions setup (_ ∷ past) = decisions setup past

  -- the limits of site s that are in force at a place
  abbrev pub limits_at : Declared → Past A → ℕ → ℕ → Limits
  limits_at setup past s place = in_force (slice_index_or (decisions setup past).limits s []) place

  -- the span from a to b passes none of the limits of site s that are in force at b
  abbrev pub is_within_after : Declared → Past A → ℕ → ℕ → ℕ → Bool
  is_within_after setup past s a b = within (log_of setup past) setup.groups (limits_at setup past s b) a b

  -- the acknowledged updates after place a pass none of the limits of site s that are in force now
  abbrev pub is_lag_within_after : Declared → Past A → ℕ → ℕ → Bool
  is_lag_within_after setup past s a =
      within (log_of setup past) setup.groups (latest (slice_index_or (decisions setup past).limits s [])) a (decisions setup past).acked

  -- what a settlement answers
  abbrev pub settlement_of : Declared → Past A → Decisions → Settled
  settlement_of setup past ds =
      if ds.acked == ds.decided then acked_or_round (ds.acked + 1) (forced_after setup past ds)
      else acked_or_waiting (ds.acked + 1) (waiting_after setup past ds)

  -- what a change of a limit of site s is judged by
  abbrev pub view_after : Declared → Past A → Decisions → ℕ → SiteView
  view_after setup past ds s = record {
    site = s;
    setup = setup;
    log = log_of setup past;
    acked = ds.acked;
    decided = ds.decided;
    limits = slice_index_or ds.limits s [];
    reported = reported s past;
  }

  -- the rounds of a site: the decided places for which the span from what it had reported at the decision passes a limit
  abbrev pub rounds : Declared → ℕ → Past A → List ℕ
  rounds setup s past =
      rounds_upto (is_within_after setup past s) (report_at ((decisions setup past).reports s)) (decisions setup past).decided

  -- its windows: one for each round, from what it had reported at the decision to the decided place
  abbrev pub windows : Declared → ℕ → Past A → List Window
  windows setup s past =
      windows_upto (is_within_after setup past s) (report_at ((decisions setup past).reports s)) (decisions setup past).decided

  -- a read of object x at site s by the reference p: the value that the site holds,
  -- and the weight on the object of the span between the two places
  abbrev pub read_now : Declared → Past A → ℕ → ℕ → ℕ → ReadMade
  read_now setup past s p x = record {
    object = x;
    value = value_at (serial (log_of setup past) (applied s past)) x;
    import = import_of (log_of setup past) x (applied s past) p;
  }

  -- a query with one read more
  abbrev pub with_read : Declared → Past A → ℕ → Opened → Opened
  with_read setup past x o = record {
    site = o.site;
    place = o.place;
    limit = o.limit;
    reads = read_now setup past o.site o.place x ∷ o.reads;
  }

  -- the query of a name, where it is open: where its last Begin has no End or Abandon after it.
  -- Its reference is what was acknowledged at that Begin.
  abbrev pub opened : Declared → List ℕ → Past A → Option Opened
  opened setup q [] = None
  opened setup q (Begin r s limit ∷ past) =
      if is_same r q then Some (record { site = s; place = (decisions setup past).acked; limit = limit; reads = [] })
      else opened setup q past
  opened setup q (Read r x ∷ past) =
      if is_same r q then option_map (with_read setup past x) (opened setup q past) else opened setup q past
  opened setup q (End r ∷ past) = if is_same r q then None else opened setup q past
  opened setup q (Abandon r ∷ past) = if is_same r q then None else opened setup q past
  opened setup q (_ ∷ past) = opened setup q past

  -- how many queries are open: one more with each Begin, one fewer with each End and each Abandon
  abbrev pub open_count : Past A → ℕ
  open_count [] = 0
  open_count (Begin q s limit ∷ past) = open_count past + 1
  open_count (End q ∷ past) = open_count past - 1
  open_count (Abandon q ∷ past) = open_count past - 1
  open_count (_ ∷ past) = open_count past

  -- a refusal, or else an answer
  abbrev pub refused_or : Option Refusal → Answer A → Answer A
  refused_or None answer = answer
  refused_or (Some r) answer = Refused r

  -- what a read is answered by the query of its name
  abbrev pub read_reply : Option Opened → (Opened → ReadMade) → Answer A
  read_reply None now = Refused UnknownQuery
  read_reply (Some o) now =
      refused_or (refusal_now o (now o))
      (ReadOut (record { value = (now o).value; import = (now o).import; total = import_total o.reads + (now o).import }))

  -- what the end of a query is answered
  abbrev pub end_reply : Option Opened → Answer A
  end_reply None = Refused UnknownQuery
  end_reply (Some o) =
      Ended (record { place = o.place; sum = value_sum (values_read o.reads); total = import_total o.reads; reads = length o.reads })

  -- the reply to an event after the past: the first refusal that applies, or else the answer
  abbrev pub reply : Declared → Past A → Event A → Answer A
  reply setup past (Propose m) =
      if not (are_known (length setup.objects) m) then Refused UnknownObject else
      refused_or (append_refusal (log_of setup past) m) (Proposed (length (sets_of past) + 1))
  reply setup past (Send s) =
      if not (nat_lt s (length setup.sites)) then Refused UnknownSite else
      if sent s past == length (sets_of past) then Refused NothingToSend else
      if sent s past - applied s past == capacity_of setup s then Refused FeedFull else
      Sent s (sent s past + 1)
  reply setup past (Apply s) =
      if not (nat_lt s (length setup.sites)) then Refused UnknownSite else
      if applied s past == sent s past then Refused NothingToApply else
      Applied s (applied s past + 1)
  reply setup past (Report s) =
      if not (nat_lt s (length setup.sites)) then Refused UnknownSite else
      Reported s (applied s past)
  reply setup past Settle =
      if (decisions setup past).acked == length (sets_of past) then Refused NothingToSettle else
      Settlement (settlement_of setup past (decisions setup past))
  reply setup past (Relimit s scope amount) =
      refused_or (limit_change_refusal (view_after setup past (decisions setup past) s) scope amount)
      (Relimited s ((decisions setup past).acked + 1))
  reply setup past (Begin q s limit) =
      if not (nat_lt s (length setup.sites)) then Refused UnknownSite else
      if nat_lt greatest_import_limit limit then Refused OutOfRange else
      if open_count past == most_queries then Refused TooMany else
      if is_some (opened setup q past) then Refused QueryOpen else
      Begun q (decisions setup past).acked
  reply setup past (Read q x) =
      if not (nat_lt x (length setup.objects)) then Refused UnknownObject else
      read_reply (opened setup q past) (λ o. read_now setup past o.site o.place x)
  reply setup past (End q) = end_reply (opened setup q past)
  reply setup past (Abandon q) = if is_some (opened setup q past) then Abandoned q else Refused UnknownQuery
  reply setup past (Show s) =
      if not (nat_lt s (length setup.sites)) then Refused UnknownSite else
      Shown (sent s past) (applied s past) (reported s past) (length (rounds setup s past)) (serial (log_of setup past) (applied s past))

  -- whether an answer is a refusal
  abbrev pub is_refused : Answer A → Bool
  is_refused (Refused r) = true
  is_refused _ = false

  -- the past after an event with this answer
  abbrev pub later : Past A → Event A → Answer A → Past A
  later past e (Refused r) = past
  later past e _ = e ∷ past

  -- whether an event may be refused memory
  abbrev pub takes_memory : Event A → Bool
  takes_memory (Propose m) = true
  takes_memory (Send s) = false
  takes_memory (Apply s) = false
  takes_memory (Report s) = false
  takes_memory Settle = true
  takes_memory (Relimit s scope amount) = true
  takes_memory (Begin q s limit) = true
  takes_memory (Read q x) = false
  takes_memory (End q) = false
  takes_memory (Abandon q) = false
  takes_memory (Show s) = true

  -- an event after the past may be answered so: by the reply, or by NoMemory where the event takes memory and the reply is no
  -- refusal
  abbrev pub IsAnswer : Declared → Past A → Event A → Answer A → Type 0
  IsAnswer setup past e answer =
      (answer ≡ reply setup past e)
      ⊎ ((takes_memory e ≡ true) × (is_refused (reply setup past e) ≡ false) × (answer ≡ Refused NoMemory))

  -- a fact where an answer is a refusal
  abbrev pub OnRefused : Answer A → Type 0 → Type 0
  OnRefused answer P = is_refused answer ≡ true → P

  -- the past after these events with these answers
  abbrev pub past_after : Past A → List (Event A) → List (Answer A) → Past A
  past_after past [] answers = past
  past_after past (e ∷ events) [] = past
  past_after past (e ∷ events) (a ∷ answers) = past_after (later past e a) events answers

  -- each event is answered after those before it
  abbrev pub AreAnswers : Declared → Past A → List (Event A) → List (Answer A) → Type 0
  AreAnswers setup past [] [] = Unit {0}
  AreAnswers setup past [] (a ∷ answers) = ⊥
  AreAnswers setup past (e ∷ events) [] = ⊥
  AreAnswers setup past (e ∷ events) (a ∷ answers) =
      IsAnswer setup past e a × AreAnswers setup (later past e a) events answers
