-- Rows at small numbers, written by hand: no definition can change its meaning unseen.
use Rattle.ordup_audit.proofs.Common.{◌++◌, ◌∷◌, ◌≡◌, [], Add, Bool, codes, Count, Everything, false, Group, is_some, List, map, Mul}
use Rattle.ordup_audit.proofs.Common.{◌∙◌, ap, Object, pos, RecordState, refl, same_Some, slice_split, Some, sym, take, Take, true, ℕ}
use Prim.Native.String.{String}
use Rattle.std.specs.Prelude.{neg_ℤ, ◌==◌, Option, None, slice_index_or}
use Rattle.ordup_limits.specs.Entries.{entry_of}
use Rattle.ordup_rows.specs.Rows.{Row, rows_in, rows_of, rows_text}
use Rattle.ordup_rows.specs.Stages.{run, record_read, unread}
use Rattle.ordup_rows.specs.Telling.{Tells}
use Rattle.ordup_rows.specs.Versions.{version_of, version_text}
use Rattle.ordup_rows.specs.declared.version.Version.{Version}
use Rattle.ordup_rows.specs.declared.version.Version.TheVariants.{First, Second}
use Rattle.ordup_rows.proofs.Running.{reading_is_sound}
use Rattle.ordup_rows.proofs.Versions.{version_of-text}

-- a row, and rows with a semicolon between each two, as text
abbrev row : String → Row
row line = slice_split (λ byte. byte == 44) (codes line)

abbrev rows : String → List Row
rows lines = map (slice_split (λ byte. byte == 44)) (slice_split (λ byte. byte == 59) (codes lines))

-- the version that the first of some rows tells
abbrev version_at : List Row → Option Version
version_at [] = None
version_at (first ∷ rest) = version_of (slice_index_or first 1 [])

-- rows that tell a record are those of it in the version that the first of them tells
in_version : (version : Version) (all : List Row) (r : RecordState) → version_at all ≡ Some version → Tells all r → all ≡ rows_in version r
in_version version all r named tells =
    let spelled : version_of (version_text tells.version) ≡ Some version = ap version_at (sym tells.same) ∙ named in
    tells.same ∙ ap (λ v. rows_in v r) (same_Some tells.version version (sym (version_of-text tells.version) ∙ spelled))

-- a site that was forced at place 2, with its window
abbrev forced : List Row
forced =
    rows "ordup,1,a,2;object,1,x,0;object,2,y,10;limit,1,object:x,5;change,1,1,add:x:5;change,2,1,add:x:1;round,1,2,-"
    ++ rows "window,1,0,2"

abbrev forced_record : RecordState
forced_record = record {
  site = codes "a";
  objects = (codes "x", pos 0) ∷ (codes "y", pos 10) ∷ [];
  groups = [];
  limits = entry_of (Object 0) 5 1 ∷ [];
  sets = ((record { object = 0; op = Add (pos 5) }) ∷ []) ∷ ((record { object = 0; op = Add (pos 1) }) ∷ []) ∷ [];
  reports = [];
  rounds = 2 ∷ [];
  windows = (record { from = 0; to = 2 }) ∷ [];
}

forced_read : record_read forced ≡ Some forced_record
forced_read = refl

-- and its rows are these
forced_written : forced ≡ rows_of forced_record
forced_written = in_version First forced forced_record refl (reading_is_sound forced forced_record refl)

forced_line : rows_text
    (rows "ordup,1,a,2;round,1,2,-")
    ≡ codes "ordup,1,a,2" ++ 10 ∷ (codes "round,1,2,-" ++ 10 ∷ [])
forced_line = refl

-- without its last rows it is taken and no record, and a window without a round is one
abbrev is_taken : List Row → Bool
is_taken all = is_some (run unread all)

abbrev is_read : List Row → Bool
is_read all = is_some (record_read all)

cut : (map (λ n. is_taken (take n forced)) (0 ∷ 1 ∷ 2 ∷ 5 ∷ 6 ∷ 8 ∷ []) ≡ true ∷ true ∷ true ∷ true ∷ true ∷ true ∷ [])
    × (map (λ n. is_read (take n forced)) (0 ∷ 1 ∷ 2 ∷ 5 ∷ 6 ∷ 8 ∷ []) ≡ false ∷ false ∷ false ∷ false ∷ true ∷ true ∷ [])
cut = (refl, refl)

-- a round may not come while a change is missing, nor a limit after a change, nor an object after another kind
out_of_place : map (λ (p : ℕ × Row). is_taken (take p.0 forced ++ p.1 ∷ []))
    ((5, row "round,1,1,-") ∷ (5, row "limit,2,all,5") ∷ (4, row "limit,2,all,5") ∷ (4, row "object,3,z,5") ∷
    (1, row "limit,1,all,5") ∷ (8, row "ordup,1,a,2") ∷ [])
    ≡ false ∷ false ∷ true ∷ false ∷ false ∷ false ∷ []
out_of_place = refl

-- counters, numbers, names and dashes have one spelling
misspelled : map (λ r. is_taken (take 6 forced ++ r ∷ []))
    (rows "round,1,2,-;round,2,2,-;round,01,2,-;round,1,02,-;round,1,2,;round,1,3,-;round,1,0,-;Round,1,2,-;round,1,2;round,1,2,-,")
    ≡ true ∷ false ∷ false ∷ false ∷ false ∷ false ∷ false ∷ false ∷ false ∷ false ∷ []
misspelled = refl

-- the first row: version 1 or 2, a name, and 0 to 1,000,000 decided updates
heads : map (λ r. is_taken (r ∷ []))
    (rows "ordup,1,a,0;ordup,1,a,1000000;ordup,1,a,1000001;ordup,1,a,-1;ordup,1,A,0;ordup,2,a,0;ordup,3,a,0;ordup,02,a,0;object,1,x,0")
    ≡ true ∷ true ∷ false ∷ false ∷ false ∷ true ∷ false ∷ false ∷ false ∷ []
heads = refl

-- two groups, whose rows are counted through both and stand together; a limit on each kind of scope
abbrev grouped : List Row
grouped =
    rows "ordup,1,a,1;object,1,x,-7;object,2,y,10;member,1,g,x;member,2,g,y;member,3,h,y;limit,1,group:h,0;limit,2,all,3"
    ++ rows "limit,3,count,1000000000000000000;change,1,1,take:x:y;change,1,2,mul:y:-3;report,1,7,-"

abbrev grouped_record : RecordState
grouped_record = record {
  site = codes "a";
  objects = (codes "x", neg_ℤ (pos 7)) ∷ (codes "y", pos 10) ∷ [];
  groups = (codes "g", 0 ∷ 1 ∷ []) ∷ (codes "h", 1 ∷ []) ∷ [];
  limits = entry_of (Group 1) 0 1 ∷ entry_of Everything 3 1 ∷ entry_of Count 1000000000000000000 1 ∷ [];
  sets = ((record { object = 0; op = Take 1 }) ∷ (record { object = 1; op = Mul (neg_ℤ (pos 3)) }) ∷ []) ∷ [];
  reports = (record { place = 1; reported = 7 }) ∷ [];
  rounds = [];
  windows = [];
}

grouped_read : record_read grouped ≡ Some grouped_record
grouped_read = refl

-- what may not come after its rows
refused_after : map (λ (p : ℕ × Row). is_taken (take p.0 grouped ++ p.1 ∷ []))
    ((6, row "member,4,g,y") ∷ (6, row "member,4,h,x") ∷ (6, row "member,1,h,x") ∷ (6, row "member,4,h,y") ∷ (6, row "member,4,h,z") ∷
    (9, row "limit,4,group:h,1") ∷ (9, row "limit,4,object:x,1000000000000000001") ∷ (9, row "limit,4,object:x,1") ∷
    (11, row "change,1,3,add:x:1") ∷ (11, row "change,2,1,add:x:1") ∷ (9, row "change,1,1,add:x:1000000001") ∷
    (12, row "report,1,8,-") ∷ (12, row "window,1,1,0") ∷ (12, row "window,1,0,2") ∷ [])
    ≡ false ∷ true ∷ false ∷ false ∷ false ∷ false ∷ false ∷ true ∷ false ∷ false ∷ false ∷ false ∷ true ∷ false ∷ []
refused_after = refl

-- ---- limits by place

-- the second version tells a record whose limits hold from the start too
forced_read_again : record_read
    (rows "ordup,2,a,2;object,1,x,0;object,2,y,10;limit,1,object:x,5@1;change,1,1,add:x:5;change,2,1,add:x:1;round,1,2,-;window,1,0,2")
    ≡ Some forced_record
forced_read_again = refl

-- a limit on x of 5 from the start, of 3 from place 2 and of 0 from place 3 on
abbrev lowered : List Row
lowered =
    rows "ordup,2,a,3;object,1,x,0;object,2,y,10;limit,1,object:x,5@1;limit,2,object:x,3@2;limit,3,object:x,0@3;change,1,1,add:x:3"
    ++ rows "change,2,1,add:x:1;change,3,1,add:x:1;report,3,2,-;round,1,2,-;round,2,3,-;window,1,0,2;window,2,2,3"

abbrev lowered_record : RecordState
lowered_record = record {
  site = codes "a";
  objects = (codes "x", pos 0) ∷ (codes "y", pos 10) ∷ [];
  groups = [];
  limits = entry_of (Object 0) 5 1 ∷ entry_of (Object 0) 3 2 ∷ entry_of (Object 0) 0 3 ∷ [];
  sets = ((record { object = 0; op = Add (pos 3) }) ∷ []) ∷ ((record { object = 0; op = Add (pos 1) }) ∷ []) ∷
      ((record { object = 0; op = Add (pos 1) }) ∷ []) ∷ [];
  reports = (record { place = 3; reported = 2 }) ∷ [];
  rounds = 2 ∷ 3 ∷ [];
  windows = (record { from = 0; to = 2 }) ∷ (record { from = 2; to = 3 }) ∷ [];
}

lowered_read : record_read lowered ≡ Some lowered_record
lowered_read = refl

-- its rows are of the second version
lowered_written : lowered ≡ rows_of lowered_record
lowered_written = in_version Second lowered lowered_record refl (reading_is_sound lowered lowered_record refl)

-- which limits may come third: from place 2 to 4 on, and on x from 3; an amount and a place have one spelling
next_limits : map (λ r. is_taken (take 5 lowered ++ r ∷ []))
    (rows "limit,3,all,0@2;limit,3,object:x,0@3;limit,3,object:x,0@4;limit,3,count,1000000000000000000@4"
    ++ rows "limit,3,all,0@1;limit,3,object:x,0@2;limit,3,object:x,3@2;limit,3,all,0@5;limit,4,all,0@3;limit,3,all,1000000000000000001@3"
    ++ rows "limit,3,all,0;limit,3,all,0@;limit,3,all,@3;limit,3,all,0@3@3;limit,3,all,00@3;limit,3,all,0@03;limit,3,all,0@-3;limit,3,all,-1@3")
    ≡ true ∷ true ∷ true ∷ true ∷ false ∷ false ∷ false ∷ false ∷ false ∷ false ∷ false ∷ false ∷ false ∷ false ∷ false ∷ false ∷ false
    ∷ false ∷ []
next_limits = refl

-- a limit that is there is refused with another one between, and the first version has no places
repeated : map is_taken
    (rows "ordup,2,a,0;object,1,x,0;limit,1,all,9@1;limit,2,count,9@1;limit,3,all,8@1" ∷
    rows "ordup,2,a,0;object,1,x,0;limit,1,all,9@1;limit,2,count,9@1;limit,3,object:x,8@1" ∷
    rows "ordup,2,a,0;object,1,x,0;limit,1,all,9@0" ∷
    rows "ordup,1,a,0;object,1,x,0;limit,1,all,9@1" ∷ [])
    ≡ false ∷ true ∷ false ∷ false ∷ []
repeated = refl
