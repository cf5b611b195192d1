-- The calls of ordup_holds: what each ensures of what it is lent is what its hold makes of a moment.
use Rattle.std.specs.Prelude.{◌≡◌, ℕ, ℤ, ◌+◌, ◌+ℤ◌, ◌<◌, ◌≤◌, pos, Some, None, Result, List, ◌∷◌, [], length, slice_get, slice_set}
use Rattle.ordup_objects.specs.declared.change.Change.{Change}
use Rattle.ordup_objects.specs.declared.refusal.Refusal.{Refusal}
use Rattle.ordup_objects.specs.States.{value_at}
use Rattle.ordup_objects.specs.Sets.{IsSet, AreKnown}
use Rattle.ordup_objects.specs.Serial.{serial, with_update}
use Rattle.ordup_objects.specs.Marks.{AreMarks}
use Rattle.ordup_log.specs.Appending.{append_refusal}
use Rattle.ordup_log.specs.declared.scope.Scope.{Scope}
use Rattle.ordup_primary.specs.LimitChanges.{limit_change_refusal}
use Rattle.ordup_primary.specs.Primaries.{site_view}
use Rattle.ordup_query.specs.Imports.{charge}
use Rattle.ordup_query.specs.Queries.{QueryState, begin_refusal, refusal_at}
use Rattle.ordup_query.specs.declared.answer.ReadAnswer.{ReadAnswer}
use Rattle.ordup_feed.specs.Parcels.{history_of}
use Rattle.ordup_holds.specs.Books.{BookState}
use Rattle.ordup_holds.specs.Cells.{CellState, TakesNext}
use Rattle.ordup_holds.specs.Numbering.{with_numbered, IsTurn}
use Rattle.ordup_holds.specs.Relimiting.{with_changed_limit}
use Rattle.ordup_holds.specs.Turning.{Turned, TurnedInPart}
use Rattle.ordup_interleavings.specs.Moments.{ReadAt, Asked, Viewed, Moment, but_at}
use Rattle.ordup_interleavings.specs.Holds.{Number, NumberAndTurn, Turn, Relimit, Begin, Take, View, Read, Makes, with_heard, with_number, with_book}

-- The premises of each field are the clauses of the call on the path without an error; of `turn` those of the other path too.
pub record CallsMakeHolds : Type 0 where
  pub number : (m : Moment) (a : ℕ) (set : List Change) (b : BookState) → IsSet set → AreKnown (length m.book.primary.log.start) set
      → append_refusal m.book.primary.log set ≡ None
      → b ≡ record m.book { primary = record m.book.primary { log = with_update m.book.primary.log set } }
      → Makes m (Number a set) (with_book (with_number m a set) b)
  pub number_and_turn : (m : Moment) (a : ℕ) (set : List Change) (b : BookState) (turn : Result ℕ Refusal) → IsSet set
      → AreKnown (length m.book.primary.log.start) set → append_refusal m.book.primary.log set ≡ None
      → IsTurn (with_numbered m.book set) b turn → Makes m (NumberAndTurn a set) (with_book (with_number m a set) b)
  pub turn : (m : Moment) (b : BookState) → Turned m.book b → Makes m Turn (with_book m b)
  pub turn_refused : (m : Moment) (b : BookState) → TurnedInPart m.book b → Makes m Turn (with_book m b)
  pub relimit : (m : Moment) (s : ℕ) (scope : Scope) (amount : ℕ) (b : BookState) → b ≡ with_changed_limit m.book s scope amount
      → limit_change_refusal (site_view m.book.primary s) scope amount ≡ None → Makes m (Relimit s scope amount) (with_book m b)
  pub begin : (m : Moment) (q s limit : ℕ) (k : QueryState)
      → k ≡ record { place = m.book.primary.acked; marks = k.marks; limit = limit; sum = pos 0; total = 0; reads = 0 }
      → length k.marks ≡ length m.book.primary.log.start → AreMarks m.book.primary.log m.book.primary.acked k.marks
      → begin_refusal limit ≡ None
      → Makes m (Begin q s limit) (record m { queries = but_at m.queries q (Some (record { site = s; query = k; reads = [] })) })
  pub take : (m : Moment) (s number : ℕ) (c d : CellState) → slice_get m.cells s ≡ Some c → TakesNext c d number
      → Makes m (Take s) (record m { cells = slice_set m.cells s d })
  pub view : (m : Moment) (a s x : ℕ) (c : CellState) (value : ℤ) (applied : ℕ) → slice_get m.cells s ≡ Some c
      → value ≡ value_at (serial (history_of c.end.start c.end.taken) (length c.end.taken)) x → applied ≡ length c.end.taken
      → x < length c.end.start → (m.sessions a).seen ≤ applied
      → Makes m (View a s x) (with_heard m a applied (Viewed s x value applied))
  pub read : (m : Moment) (q x : ℕ) (k : Asked) (c : CellState) (a : ReadAnswer) (new : QueryState) → m.queries q ≡ Some k
      → slice_get m.cells k.site ≡ Some c → x < length k.query.marks → a.value ≡ value_at c.site.values x
      → a.import ≡ charge c.site k.query.marks x → a.total ≡ k.query.total + a.import → refusal_at k.query c.site x ≡ None
      → new ≡ record k.query { sum = k.query.sum +ℤ a.value; total = a.total; reads = k.query.reads + 1 }
      → (read : ReadAt) → read ≡ record { made = record { object = x; value = a.value; import = a.import }; applied = c.site.applied }
      → Makes m (Read q x) (record m {
        queries = but_at m.queries q (Some (record { site = k.site; query = new; reads = read ∷ k.reads }));
      })
