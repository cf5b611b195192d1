-- Rows that are read one after another: they are the rows of what was read.
use Rattle.ordup_audit.proofs.Common.{◌++◌, ◌<◌, ◌==◌, ◌∙◌, ◌∷◌, ◌≡◌, ◌≤◌, [], All-nil, and_parts, ap, append-nil, append_assoc, AreKnown}
use Rattle.ordup_audit.proofs.Common.{arith, eqb-true, inr, is_name, IsInRange, IsRecord}
use Rattle.ordup_audit.proofs.Common.{IsSet, leb-true, length, List, ltb-true, most_updates, RecordState, refl, same_Some}
use Rattle.ordup_audit.proofs.Common.{Some, subst, sym, true, Window, ℕ, ℤ}
use Rattle.ordup_audit.specs.declared.report_change.ReportChange.{ReportChange}
use Rattle.ordup_rows.specs.Columns.{Columns, columns_of, natural_of}
use Rattle.ordup_rows.specs.Laws.{ReadingIsSound}
use Rattle.ordup_rows.specs.RowKinds.{kind_of}
use Rattle.ordup_rows.specs.Rows.{Row, rows_so_far}
use Rattle.ordup_rows.specs.Stages.{Stage, closed, has_objects, has_updates, head_of, record_at, run, step, reading, unread, with_row}
use Rattle.ordup_rows.specs.Telling.{Tells}
use Rattle.ordup_rows.specs.Versions.{version_of}
use Rattle.ordup_rows.specs.declared.version.Version.{Version}
use Rattle.ordup_rows.proofs.Columns.{bound, four_columns, kept, kind_spelled, mapped, natural_spelled, parts_3, same_bytes}
use Rattle.ordup_rows.proofs.Names.{AreDistinct-none}
use Rattle.ordup_rows.proofs.Taking.{row_by, take_row}
use Rattle.ordup_rows.proofs.RecordsSoFar.{AreGroups-none, AreLimits-none, IsRecordSoFar, so_far_by_parts}
use Rattle.ordup_rows.proofs.Versions.{version_spelled}

-- the rows that were read up to a stage
abbrev pub stage_rows : Stage → List Row
stage_rows unread = []
stage_rows (reading version decided r) = rows_so_far version decided r

-- what a stage keeps
abbrev pub IsStage : Stage → Type 0
IsStage unread = Unit {0}
IsStage (reading version decided r) = IsRecordSoFar version decided r

-- the stage after some rows more
pub record Follows (stage : Stage) (more : List Row) (next : Stage) : Type 0 where
  pub is : IsStage next
  pub rows : stage_rows next ≡ stage_rows stage ++ more

pub no_record : (version : Version) (site : List ℕ) (decided : ℕ) → is_name site ≡ true → decided ≤ most_updates
    → IsRecordSoFar version decided (record_at site)
no_record version site decided name few =
    let names = All-nil (λ (e : List ℕ × ℤ). is_name e.0 ≡ true) in
    so_far_by_parts name few (record { few = omega arith; values = All-nil IsInRange; names = names; distinct = AreDistinct-none ℤ })
    (AreGroups-none 0 [] refl)
    (AreLimits-none version decided 0 [] [] refl)
    (record { count = omega arith; each = All-nil IsSet; known = All-nil (AreKnown 0) })
    (record {
      places = λ k lt. absurd (omega arith);
      each = All-nil (λ (c : ReportChange). (0 < c.place) × (c.place ≤ decided));
      rising = λ k lt. absurd (omega arith);
      reported = All-nil (λ (c : ReportChange). (0 < c.reported) × (c.reported ≤ most_updates));
    })
    (record { ascending = λ k lt. absurd (omega arith); each = All-nil (λ k. (0 < k) × (k ≤ decided)) })
    (record { few = omega arith; each = All-nil (λ (w : Window). (w.from ≤ decided) × (w.to ≤ decided)) })
    (inr (refl, (refl, (refl, (refl, (refl, refl)))))) (inr (refl, (refl, refl)))

step_head : (c : Columns) (next : Stage) → head_of c ≡ Some next → Follows unread (row_by c ∷ []) next
step_head c next h =
    let (version, named, rest) = bound _ (version_of c.first) next h in
    let (decided, read, rest2) = bound _ (natural_of c.third) next rest in
    let (tests, same) = kept _ _ next rest2 in
    let (kind, name, few) = parts_3 tests in
    let e1 = same_bytes c.kind _ kind in
    let e2 = version_spelled c.first version named in
    let e3 = (natural_spelled c.third decided read).1 in
    subst (Follows unread (row_by c ∷ [])) same (record {
      is = no_record version c.second decided name (leb-true decided most_updates few);
      rows = cc;
    })

pub step_follows : (stage : Stage) (row : Row) (next : Stage) → IsStage stage → step stage row ≡ Some next → Follows stage (row ∷ []) next
step_follows unread row next is h =
    let (c, columns, rest) = bound head_of (columns_of row) next h in
    subst (λ (r : Row). Follows unread (r ∷ []) next) (sym (four_columns row c columns)) (step_head c next rest)
step_follows (reading version decided r) row next is h =
    let (c, columns, rest) = bound _ (columns_of row) next h in
    let (kind, read, rest2) = bound _ (kind_of c.kind) next rest in
    let (q, taken, same) = mapped (λ (q : RecordState). reading version decided q) (with_row version decided r kind c) next rest2 in
    let more = take_row version decided r is c kind q (kind_spelled c.kind kind read) taken in
    subst (λ (r2 : Row). Follows (reading version decided r) (r2 ∷ []) next) (sym (four_columns row c columns))
    (subst (Follows (reading version decided r) (row_by c ∷ [])) same (record { is = more.is; rows = more.rows }))

pub run_follows : (rows : List Row) (stage next : Stage) → IsStage stage → run stage rows ≡ Some next → Follows stage rows next
run_follows [] stage next is h =
    subst (Follows stage []) (same_Some stage next h) (record { is = is; rows = sym (append-nil (stage_rows stage)) })
run_follows (row ∷ rows) stage next is h =
    let (mid, stepped, rest) = bound _ (step stage row) next h in
    let first = step_follows stage row mid is stepped in
    let then = run_follows rows mid next first.is rest in
    record {
      is = then.is;
      rows = then.rows ∙ ap (λ before. before ++ rows) first.rows ∙ append_assoc (stage_rows stage) (row ∷ []) rows;
    }

-- what was taken from the start
pub run_whole : (rows : List Row) (stage : Stage) → run unread rows ≡ Some stage → IsStage stage × (stage_rows stage ≡ rows)
run_whole rows stage h = let all = run_follows rows unread stage tt h in (all.is, all.rows)

-- a record of which nothing is missing
so_far-is_record : (version : Version) (decided : ℕ) (r : RecordState) → IsRecordSoFar version decided r → 0 < length r.objects
    → length r.sets ≡ decided → IsRecord r
so_far-is_record version decided r is some all = record {
  site = is.site;
  objects = record {
    some = some;
    few = is.objects.few;
    values = is.objects.values;
    names = is.objects.names;
    distinct = is.objects.distinct;
  };
  groups = is.groups;
  limits = is.limits.entries;
  scopes = is.limits.known;
  begun = rw all is.limits.begun;
  few = omega (arith, is.updates);
  sets = is.sets.each;
  known = is.sets.known;
  reports = rw all is.reports;
  rounds = rw all is.rounds;
  few_windows = is.windows.few;
  windows = rw all is.windows.each;
}

-- rows of a record of which nothing is missing tell it
pub whole_tells : (version : Version) (decided : ℕ) (r : RecordState) → IsRecordSoFar version decided r → 0 < length r.objects
    → length r.sets ≡ decided → Tells (rows_so_far version decided r) r
whole_tells version decided r is some all = record {
  valid = so_far-is_record version decided r is some all;
  version = version;
  limits = is.limits.tells;
  same = ap (λ d. rows_so_far version d r) (sym all);
}

-- so is what is closed
closed_tells : (stage : Stage) (r : RecordState) → IsStage stage → closed stage ≡ Some r → Tells (stage_rows stage) r
closed_tells unread r is h = absurd cc
closed_tells (reading version decided q) r is h =
    let (tests, same) = kept (has_updates decided q) q r h in
    let (some, all) = and_parts (has_objects q) (length q.sets == decided) tests in
    subst (Tells (rows_so_far version decided q)) same
    (whole_tells version decided q is (ltb-true 0 (length q.objects) some) (eqb-true (length q.sets) decided all))

pub reading_is_sound : ReadingIsSound
reading_is_sound rows r h =
    let (stage, ran, end) = bound closed (run unread rows) r h in
    let (is, same) = run_whole rows stage ran in
    subst (λ l. Tells l r) same (closed_tells stage r is end)
