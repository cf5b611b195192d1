-- Texts of records, and what is told of them, worked out by hand: no definition can change its meaning unseen.
use Rattle.ordup_audit.proofs.Common.{◌++◌, ◌<◌, ◌∷◌, ◌≡◌, ◌≤◌, [], All-nil, All-cons, arith, codes, false≢true, inl, inr, IsInRange, IsSet, IsWindow}
use Rattle.ordup_audit.proofs.Common.{AreKnown, is_within, List, pos, RecordState, refl, report_at, ℕ}
use Rattle.csv.specs.Machine.{next_record}
use Rattle.csv.specs.Reading.{Reached, strip_bom}
use Rattle.csv.specs.declared.parser.State.TheVariants as st
use Rattle.ordup_audit.specs.Validity.{IsValid}
use Rattle.ordup_rows.specs.Rows.{Row}
use Rattle.ordup_rows.specs.Stages.{Stage, reading, record_at}
use Rattle.ordup_rows.specs.Telling.{IsMissingRow, Tells}
use Rattle.ordup_rows.specs.Texts.{BeginsWithRows, HasRows}
use Rattle.ordup_rows.specs.declared.version.Version.TheVariants.{First}
use Rattle.ordup_rows.proofs.Beginnings.{taken_rows_begin_a_record}
use Rattle.ordup_rows.proofs.ReadingBack.{reading_is_complete}
use Rattle.ordup_rows.proofs.Running.{reading_is_sound}
use Rattle.ordup_series.specs.declared.verdict.SeriesVerdict.TheVariants.{Fewest}
use Rattle.ordup_check.specs.SeriesReading.{BeginsNext, IsMalformedAfter, TextTellsSeries}
use Rattle.ordup_check.specs.SeriesVerdicts.{IsMalformedSeries, JudgesText}
use Rattle.ordup_check.specs.ShortRows.{from_row}
use Rattle.ordup_check.proofs.JudgingLemmas.{judged-all}
use Rattle.ordup_check.proofs.ReadSteps.{not-taken}

-- ---- a record: the site a, with x at 1, and no update

abbrev first : Row
first = codes "ordup" ∷ codes "1" ∷ codes "a" ∷ codes "0" ∷ []

abbrev object : List ℕ → Row
object value = codes "object" ∷ codes "1" ∷ codes "x" ∷ value ∷ []

abbrev rows : List Row
rows = first ∷ object (codes "1") ∷ []

abbrev alone : RecordState
alone = record {
  site = codes "a";
  objects = (codes "x", pos 1) ∷ [];
  groups = [];
  limits = [];
  sets = [];
  reports = [];
  rounds = [];
  windows = [];
}

-- how far it is read after its first row
abbrev begun : Stage
begun = reading First 0 (record_at (codes "a"))

told : Tells rows alone
told = reading_is_sound rows alone refl

-- without its object it is none, nor are no rows
missing_object : IsMissingRow (first ∷ []) 2
missing_object =
    (refl, taken_rows_begin_a_record (first ∷ []) begun refl, λ r tells. let none = reading_is_complete (first ∷ []) r tells in absurd cc)

missing_first : IsMissingRow [] 1
missing_first = (refl, (alone, rows, told), λ r tells. let none = reading_is_complete [] r tells in absurd cc)

-- ---- where a next record begins

-- behind the record it begins with a first row; with no other, and not where nothing comes
begins : BeginsNext (alone ∷ []) rows
begins some = refl

not_at_object : ¬ BeginsNext (alone ∷ []) (object (codes "1") ∷ [])
not_at_object is = false≢true (is (λ none. absurd cc))

not_at_end : ¬ BeginsNext (alone ∷ []) []
not_at_end is = false≢true (is (λ none. absurd cc))

-- the first record begins where the text does
begins_text : BeginsNext [] []
begins_text some = absurd (some refl)

-- ---- texts

-- the record twice
abbrev twice : List ℕ
twice = codes "ordup,1,a,0\nobject,1,x,1\nordup,1,a,0\nobject,1,x,1\n"

twice_rows : HasRows twice (rows ++ rows)
unfolding Reached next_record
twice_rows = (
  st.StartRecord,
  [],
  (
    (first, st.StartRecord, codes "object,1,x,1\nordup,1,a,0\nobject,1,x,1\n"),
    refl,
    refl,
    (
      (object (codes "1"), st.StartRecord, codes "ordup,1,a,0\nobject,1,x,1\n"),
      refl,
      refl,
      (
        (first, st.StartRecord, codes "object,1,x,1\n"),
        refl,
        refl,
        ((object (codes "1"), st.StartRecord, []), refl, refl, (refl, refl)),
      ),
    ),
  ),
  refl,
)

twice_told : TextTellsSeries twice (alone ∷ alone ∷ [])
twice_told = (rows ++ rows, twice_rows, (rows, rows, refl, told, (rows, [], refl, told, refl)))

-- the second one has a value that is spelled otherwise
abbrev misspelled : List ℕ
misspelled = codes "ordup,1,a,0\nobject,1,x,1\nordup,1,a,0\nobject,1,x,01\n"

misspelled_rows : BeginsWithRows (from_row misspelled) (rows ++ first ∷ object (codes "01") ∷ [])
unfolding Reached next_record
misspelled_rows = (
  st.StartRecord,
  [],
  (
    (first, st.StartRecord, codes "object,1,x,1\nordup,1,a,0\nobject,1,x,01\n"),
    refl,
    refl,
    (
      (object (codes "1"), st.StartRecord, codes "ordup,1,a,0\nobject,1,x,01\n"),
      refl,
      refl,
      (
        (first, st.StartRecord, codes "object,1,x,01\n"),
        refl,
        refl,
        ((object (codes "01"), st.StartRecord, []), refl, refl, (refl, refl)),
      ),
    ),
  ),
)

misspelled_after : IsMalformedAfter misspelled (alone ∷ []) 2
misspelled_after = (
  rows,
  first ∷ object (codes "01") ∷ [],
  (rows, [], refl, told, refl),
  begins_again,
  inl (misspelled_rows, record { bad = not-taken (first ∷ []) (object (codes "01")) begun refl refl; alone = λ is. absurd (false≢true is) }),
)
  where
    begins_again : BeginsNext (alone ∷ []) (first ∷ object (codes "01") ∷ [])
    begins_again some = refl

-- the second one has no object
abbrev cut : List ℕ
cut = codes "ordup,1,a,0\nobject,1,x,1\nordup,1,a,0\n"

cut_rows : HasRows cut (rows ++ first ∷ [])
unfolding Reached next_record
cut_rows = (
  st.StartRecord,
  [],
  (
    (first, st.StartRecord, codes "object,1,x,1\nordup,1,a,0\n"),
    refl,
    refl,
    ((object (codes "1"), st.StartRecord, codes "ordup,1,a,0\n"), refl, refl, ((first, st.StartRecord, []), refl, refl, (refl, refl))),
  ),
  refl,
)

cut_after : IsMalformedAfter cut (alone ∷ []) 2
cut_after = (rows, first ∷ [], (rows, [], refl, told, refl), λ some. refl, inr (cut_rows, missing_object))

-- no text tells no record, and misses the first row of one
empty_rows : HasRows [] []
unfolding Reached next_record
empty_rows = (st.StartRecord, [], (refl, refl), refl)

empty_after : IsMalformedAfter [] [] 1
empty_after = ([], [], refl, begins_text, inr (empty_rows, missing_first))

-- ---- verdicts

valid : IsValid alone
valid = record {
  legal = record {
    start = All-cons IsInRange (pos 1) [] (omega arith) (All-nil IsInRange);
    sets = All-nil IsSet;
    known = All-nil (AreKnown 1);
    legal = λ k there. absurd (omega arith);
  };
  certificate = record {
    places = record { ascending = λ i there. absurd (omega arith); each = All-nil (λ k. (0 < k) × (k ≤ 0)) };
    keeps = λ k some le. absurd (omega arith);
    disjoint = record {
      each = All-nil (IsWindow (is_within alone) (report_at []) 0);
      apart = λ i d there. absurd (omega arith);
    };
    count = refl;
  };
}

unmarked : strip_bom twice ≡ twice
unfolding strip_bom
unmarked = refl

-- twice the record is a valid series without rounds
judged_twice : JudgesText twice (Fewest 0)
judged_twice =
    judged-all twice (alone ∷ alone ∷ []) 0 (λ none. absurd cc) (omega arith) (rw unmarked twice_told)
    ((record { site = refl; names = refl; values = refl; groups = refl }, tt), (valid, valid)) refl

-- the text without a record is malformed at the first row of the first
judged_empty : IsMalformedSeries [] 1 1
unfolding strip_bom
judged_empty = ([], (tt, tt), refl, inl (omega arith, empty_after))
