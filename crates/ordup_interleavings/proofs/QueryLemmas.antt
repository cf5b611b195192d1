-- What queries keep, from hold to hold.
use Rattle.std.proofs.Common.{◌≡◌, ℕ, ◌+◌, ◌<◌, ◌≤◌, ◌⊎◌, List, [], ◌∷◌, length, min, max}
use Rattle.std.proofs.Common.{sym, ap, ◌∙◌, subst, arith, inl, inr}
use Rattle.std.specs.Prelude.{Option, Some}
use Rattle.std.proofs.lemmas.Option.{none-some, same_Some, slice_get_within}
use Rattle.std.proofs.lemmas.List.{length-append}
use Rattle.ordup_objects.specs.declared.change.Change.{Change}
use Rattle.ordup_objects.specs.States.{State, value_at}
use Rattle.ordup_objects.specs.Serial.{History, serial, with_more}
use Rattle.ordup_objects.specs.Weights.{distance}
use Rattle.ordup_objects.proofs.SerialLemmas.{serial-longer}
use Rattle.ordup_objects.proofs.SpanLemmas.{object_span-longer, AreMarks-longer}
use Rattle.ordup_primary.specs.Declarations.{Declared}
use Rattle.ordup_primary.specs.Primaries.{PrimaryState}
use Rattle.ordup_site.specs.Sites.{HasApplied}
use Rattle.ordup_query.specs.declared.answer.ReadAnswer.{ReadAnswer}
use Rattle.ordup_query.specs.Imports.{charge, import_of}
use Rattle.ordup_query.proofs.ImportLemmas.{import-import_of, import-near}
use Rattle.ordup_world.specs.Queries.{ReadMade, import_total}
use Rattle.ordup_world.specs.OpenQueries.{IsAnswered}
use Rattle.ordup_world.proofs.QueryLemmas.{total-within}
use Rattle.ordup_world.proofs.ImportLemmas.{KeepsImport-read, KeepsImport-begun}
use Rattle.ordup_holds.specs.Cells.{CellState}
use Rattle.ordup_interleavings.specs.Moments.{ReadAt, Asked, Moment, but_at}
use Rattle.ordup_interleavings.specs.Holds.{Hold, Number, NumberAndTurn, Turn, Hear, Relimit, Begin, Take, View, Read, Makes, Steps, Begins}
use Rattle.ordup_interleavings.specs.Holds.{open_of, with_read}
use Rattle.ordup_interleavings.specs.Promises.{opened_of, IsRead, AreReads, KeepsAsked, QueriesKeepTheirLimits}
use Rattle.ordup_interleavings.proofs.TurnLemmas.{there}
use Rattle.ordup_interleavings.proofs.SoundLemmas.{IsSound, Grew, along}
use Rattle.ordup_interleavings.proofs.SiteLemmas.{prefix-at}
use Rattle.ordup_interleavings.proofs.SessionLemmas.{but-at}

-- ---- a log that grows

module _ (p q : PrimaryState) (more : List (List Change)) (log : q.log ≡ with_more p.log more) (acked : p.acked ≤ q.acked)
    (few : p.acked ≤ length p.log.sets) where
  import-grown : (x j place : ℕ) → j ≤ length p.log.sets → place ≤ length p.log.sets
      → import_of (with_more p.log more) x j place ≡ import_of p.log x j place
  import-grown x j place a b = object_span-longer p.log more x (min j place) (max j place) (omega arith)

  read-grown : (place : ℕ) (r : ReadAt) → place ≤ length p.log.sets → IsRead p.log place r → IsRead (with_more p.log more) place r
  read-grown place r le is = record {
    applied = omega (arith, is.applied, length-append p.log.sets more);
    value = is.value ∙ ap (λ (v : State). value_at v r.made.object) (sym (serial-longer p.log more r.applied is.applied));
    import = is.import ∙ sym (import-grown r.made.object r.applied place is.applied le);
    near = rw (serial-longer p.log more place le) is.near;
  }

  reads-grown : (place : ℕ) (reads : List ReadAt) → place ≤ length p.log.sets → AreReads p.log place reads
      → AreReads (with_more p.log more) place reads
  reads-grown place [] le are = tt
  reads-grown place (r ∷ reads) le are = (read-grown place r le are.0, reads-grown place reads le are.1)

  asked-grown : (k : Asked) → KeepsAsked p k → KeepsAsked q k
  asked-grown k keeps =
      let le : k.query.place ≤ length p.log.sets = omega (arith, keeps.place, few) in
      record {
        place = omega (arith, keeps.place, acked);
        count = keeps.count ∙ sym (ap (λ (h : History). length h.start) log);
        marks = rw log (AreMarks-longer p.log k.query.place k.query.marks more le keeps.marks);
        reads = rw log (reads-grown k.query.place k.reads le keeps.reads);
        total = keeps.total;
        import = rw (log, serial-longer p.log more k.query.place le) keeps.import;
      }

-- ---- one query

begun : (p : PrimaryState) (s limit : ℕ) (k : _) → Begins p limit k → KeepsAsked p (record { site = s; query = k; reads = [] })
begun p s limit k is = record {
  place = omega (arith, ap (λ q. q.place) is.query);
  count = is.count;
  marks = rw (ap (λ q. q.place) is.query) is.marks;
  reads = tt;
  total = ap (λ q. q.total) is.query;
  import = KeepsImport-begun (serial p.log k.place) s k.place k.limit;
}

-- one read more
read-more : (p : PrimaryState) (k : Asked) (c : CellState) (x : ℕ) (a : ReadAnswer) → KeepsAsked p k
    → HasApplied c.site p.log c.site.applied → x < length k.query.marks → IsAnswered (open_of k) c.site x a
    → KeepsAsked p (with_read k c.site.applied x a)
read-more p k c x a keeps held marked answer =
    let j = c.site.applied in
    let made : ReadMade = record { object = x; value = a.value; import = a.import } in
    let near : distance a.value (value_at (serial p.log k.query.place) x) ≤ a.import =
    import-near c.site k.query.marks x a.import a.value marked answer.import answer.value p.log j k.query.place held keeps.marks in
    let is : a.import ≡ import_of p.log x j k.query.place =
    import-import_of c.site k.query.marks x a.import marked answer.import p.log j k.query.place held keeps.marks in
    let value : a.value ≡ value_at (serial p.log j) x = answer.value ∙ ap (λ (v : State). value_at v x) held.values in
    let few : k.query.total + charge c.site k.query.marks x ≤ k.query.limit =
    total-within k.query.reads k.query.limit k.query.total _ answer.allowed in
    let within : import_total (opened_of k).reads + made.import ≤ k.query.limit = omega (arith, few, answer.import, keeps.total) in
    record {
      place = keeps.place;
      count = keeps.count;
      marks = keeps.marks;
      reads = (record { applied = held.within; value = value; import = is; near = near }, keeps.reads);
      total = omega (arith, answer.total, keeps.total);
      import = KeepsImport-read (serial p.log k.query.place) (opened_of k) made keeps.import within near;
    }

-- ---- from hold to hold

-- what is kept of an option's query
abbrev KeptOf : PrimaryState → Option Asked → Type 0
KeptOf p o = (k : Asked) → o ≡ Some k → KeepsAsked p k

queries-of : (new same : Moment) → new ≡ same → new.queries ≡ same.queries
queries-of new same is = ap (λ (m : Moment). m.queries) is

-- what a hold leaves of the queries: one of them may be another one
record Changed (old new : Moment) : Type 0 where
  pub query : ℕ
  pub asked : Asked
  pub queries : new.queries ≡ but_at old.queries query (Some asked)
  pub keeps : KeepsAsked old.book.primary asked

changed : (d : Declared) (old : Moment) (h : Hold) (new : Moment) → IsSound d old → ((q : ℕ) → KeptOf old.book.primary (old.queries q))
    → Makes old h new → (new.queries ≡ old.queries) ⊎ Changed old new
changed d old (Number a set) new is keeps makes = inl (queries-of new _ makes.1)
changed d old (NumberAndTurn a set) new is keeps makes = inl (queries-of new _ makes.3)
changed d old Turn new is keeps makes = inl (queries-of new _ makes.2)
changed d old (Hear a n) new is keeps makes = inl (queries-of new _ makes.1)
changed d old (Relimit s scope amount) new is keeps makes = inl (queries-of new _ makes.1)
changed d old (Begin q s limit) new is keeps makes = inr (record {
  query = q;
  asked = record { site = s; query = makes.0; reads = [] };
  queries = queries-of new _ makes.2;
  keeps = begun old.book.primary s limit makes.0 makes.1;
})
changed d old (Take s) new is keeps makes = inl (queries-of new _ makes.5)
changed d old (View a s x) new is keeps makes = inl (queries-of new _ makes.4)
changed d old (Read q x) new is keeps makes =
    let k = makes.0 in
    let c = makes.1 in
    let kept = is.kept in
    let e = there old.book.ends k.site (omega (arith, kept.count, slice_get_within old.cells k.site c makes.4)) in
    let at = prefix-at d old is k.site e.0 c e.1 makes.4 in
    inr (record {
      query = q;
      asked = with_read k c.site.applied x makes.2;
      queries = queries-of new _ makes.7;
      keeps = read-more old.book.primary k c x makes.2 (keeps q k makes.3) at.prefix makes.5 makes.6;
    })

keeps-next : (d : Declared) (old : Moment) (h : Hold) (new : Moment) → IsSound d old → IsSound d new → Grew old.book new.book
    → Steps old h new → ((q : ℕ) → KeptOf old.book.primary (old.queries q)) → (q : ℕ) → KeptOf new.book.primary (new.queries q)
keeps-next d old h new is after grew step keeps =
    let few : old.book.primary.acked ≤ length old.book.primary.log.sets = omega (arith, is.primary.acked, is.primary.decided) in
    let grown = asked-grown old.book.primary new.book.primary grew.more grew.log grew.acked few in
    elim (changed d old h new is keeps step.makes) [
      | inl same ↦ rw same (λ q k found. grown k (keeps q k found))
      | inr one ↦
          rw one.queries
          (but-at (KeptOf new.book.primary) old.queries one.query (Some one.asked)
          (λ k found. subst (KeepsAsked new.book.primary) (same_Some one.asked k found) (grown one.asked one.keeps))
          (λ q k found. grown k (keeps q k found)))
    ]

pub queries-keep-their-limits : QueriesKeepTheirLimits
queries-keep-their-limits =
    along (λ d m. (q : ℕ) → KeptOf m.book.primary (m.queries q)) _ keeps-next
    (λ d m is keeps q k found. record {
      asked = keeps q k found;
      site = λ c at.
          let kept = is.kept in
          let e = there m.book.ends k.site (omega (arith, kept.count, slice_get_within m.cells k.site c at)) in
          (prefix-at d m is k.site e.0 c e.1 at).prefix;
    })
    (λ d m start is q k found. absurd (none-some k (sym (start.queries q) ∙ found)))
