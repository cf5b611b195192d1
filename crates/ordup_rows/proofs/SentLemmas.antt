-- Rows that are sent as they are formed.
use Rattle.ordup_audit.proofs.Common.{◌++◌, ◌∙◌, ◌≡◌, [], ap, append-nil, append_assoc, IsRecord, List, map, None, Option, option_map}
use Rattle.ordup_audit.proofs.Common.{RecordState, refl, same_Some, Some, sym, ℕ}
use Rattle.std.proofs.KnownBytes.{Appends-trans}
use Rattle.std.specs.Io.KnownBytes.{Appends}
use Rattle.std.specs.Prelude.{Err, Ok, OnErr, Result, Vec}
use Rattle.csv.specs.declared.writer.Writer.{Writer}
use Rattle.ordup_text.specs.Fronts.{AppendsFront}
use Rattle.ordup_rows.specs.Forming.{IsClean, SendsUpto, csv_text, first_rows, last_rows, text_so_far, unsent}
use Rattle.ordup_rows.specs.Rows.{Row, change_rows, counted, report_row, round_row, rows_of, rows_text, window_row}
use Rattle.ordup_rows.specs.Versions.{version_for}
use Rattle.ordup_rows.proofs.FormLemmas.{csv_text-append, two_parts}
use Rattle.ordup_rows.proofs.PlainLemmas.{lines_of}

-- nothing is sent
pub sends_none : (known : Option (List ℕ)) (text : List ℕ) → SendsUpto known known text text
sends_none None text = ([], refl, tt)
sends_none (Some xs) text = ([], refl, sym (append-nil xs))

-- a text is sent to what is left of it, with more behind it
pub sends_on : (a b c : Option (List ℕ)) (whole text left rest : List ℕ) → SendsUpto a b whole (text ++ rest)
    → SendsUpto b c text left
    → SendsUpto a c whole (left ++ rest)
sends_on a b c whole text left rest (sent, is, grew) (more, cut, grew_more) = (
  sent ++ more,
  is ∙ ap (λ t. sent ++ (t ++ rest)) cut ∙ ap (λ t. sent ++ t) (append_assoc more left rest)
      ∙ sym (append_assoc sent more (left ++ rest)),
  Appends-trans a b c sent more grew grew_more,
)

-- a prefix of a text is sent, with more behind it
pub stops : (a b c : Option (List ℕ)) (whole text rest : List ℕ) → SendsUpto a b whole (text ++ rest) → AppendsFront b c text
    → AppendsFront a c whole
stops a b c whole text rest (sent, is, grew) (front, back, cut, grew_more) = (
  sent ++ front,
  back ++ rest,
  is ∙ ap (λ t. sent ++ (t ++ rest)) cut ∙ ap (λ t. sent ++ t) (append_assoc front back rest)
      ∙ sym (append_assoc sent front (back ++ rest)),
  Appends-trans a b c sent front grew grew_more,
)

-- rows were formed up to some rest of all, and sent up to those that are not sent yet
abbrev pub IsUnderWay : {A : Type 0} → Option (List ℕ) → Option (List ℕ) → Writer (Vec ℕ A) → Writer (Vec ℕ A) → List Row → List Row
    → Type 0
IsUnderWay old new first now rest all =
    IsClean now × SendsUpto old new (unsent first ++ csv_text all) (unsent now ++ csv_text rest)

-- the next of the rest was formed
pub formed : {A : Type 0} (old new : Option (List ℕ)) (mid now : Writer (Vec ℕ A)) (whole rest text next : List ℕ)
    → SendsUpto old new whole (unsent mid ++ rest) → text_so_far now ≡ option_map (λ t. t ++ text) (text_so_far mid)
    → rest ≡ text ++ next
    → SendsUpto old new whole (unsent now ++ next)
formed old new mid now whole rest text next (sent, is, grew) adds more = (
  sent,
  is ∙ ap (λ t. sent ++ (unsent mid ++ t)) more ∙ ap (λ t. sent ++ t) (sym (append_assoc (unsent mid) text next))
      ∙ ap (λ t. sent ++ (t ++ next)) (sym (same_Some (unsent now) (unsent mid ++ text) adds)),
  grew,
)

-- a text is sent to what is left of it, and the next one is formed after that
pub sends_next : (a b c : Option (List ℕ)) (whole text left next rest : List ℕ) → SendsUpto a b whole (text ++ (next ++ rest))
    → SendsUpto b c text left
    → SendsUpto a c whole ((left ++ next) ++ rest)
sends_next a b c whole text left next rest upto more =
    rw (append_assoc left next rest) (sends_on a b c whole text left (next ++ rest) upto more)

-- the last rows of a record, one kind after the other
last_text : (r : RecordState) → csv_text (last_rows r) ≡ csv_text (change_rows r.objects 1 r.sets)
    ++ (csv_text (map report_row r.reports) ++ (csv_text (counted round_row 1 r.rounds) ++ csv_text (counted window_row 1 r.windows)))
last_text r = simp (csv_text-append, append_assoc)

-- all that was formed first is sent, and nothing of the last rows is formed
pub sends_first : (a b : Option (List ℕ)) (first none : List ℕ) (r : RecordState) → none ≡ [] → Appends a b first
    → SendsUpto a b (first ++ csv_text (last_rows r)) ((none ++ csv_text (change_rows r.objects 1 r.sets))
    ++ (csv_text (map report_row r.reports) ++ (csv_text (counted round_row 1 r.rounds) ++ (csv_text (counted window_row 1 r.windows) ++ []))))
sends_first a b first none r empty grew = (first, rw (last_text r, empty, append-nil (csv_text (counted window_row 1 r.windows))) refl, grew)

-- what holds where a call fails, once it failed
pub on_err : {T E : Type 0} (result : Result T E) (fact : Type 0) → fact → OnErr result fact
on_err (Ok value) fact holds = tt
on_err (Err error) fact holds = holds

-- all that is left is sent
pub sends_all : (a b c : Option (List ℕ)) (whole text : List ℕ) → SendsUpto a b whole (text ++ []) → Appends b c text → Appends a c whole
sends_all a b c whole text (sent, is, grew) all = rw (is, append-nil text) (Appends-trans a b c sent text grew all)

pub appended_front : (a b : Option (List ℕ)) (text : List ℕ) → Appends a b text → AppendsFront a b text
appended_front a b text grew = (text, [], sym (append-nil text), grew)

-- the text of the first rows of a record and that of its last ones are its text
pub whole_text : (r : RecordState) (text : List ℕ) → IsRecord r → text ≡ csv_text (first_rows (version_for r.limits) r)
    → text ++ csv_text (last_rows r) ≡ rows_text (rows_of r)
whole_text r text is first = rw first (two_parts (version_for r.limits) r ∙ lines_of r is (version_for r.limits))
