-- The columns of a row, and what they spell.
use Rattle.std.specs.Prelude.{ℕ, ℤ, pos, negsuc, ◌==◌, Bool, false, List, [], ◌∷◌, length, take, drop}
use Rattle.std.specs.Prelude.{Option, Some, None, option_map, option_and_then, codes, if◌then◌else◌}
use Rattle.std.specs.List.{slice_split}
use Rattle.std.specs.Str.{bytes_eq}
use Rattle.ordup_grammar.specs.ChangeWords.{change_of}
use Rattle.ordup_grammar.specs.Numbers.{number_of}
use Rattle.ordup_grammar.specs.declared.change_words.ChangeWord.{ChangeWord}
use Rattle.ordup_grammar.specs.declared.change_words.Operation.{Operation}
use Rattle.ordup_grammar.specs.declared.change_words.Operation.TheVariants as word
use Rattle.ordup_objects.specs.Ops.{op_with}
use Rattle.ordup_objects.specs.Tables.{index_of, Objects}
use Rattle.ordup_objects.specs.declared.change.Change.{Change}
use Rattle.ordup_objects.specs.declared.change.Op.{Op}
use Rattle.ordup_objects.specs.declared.change.Op.TheVariants.{Take}
use Rattle.ordup_log.specs.Groups.{GroupList}
use Rattle.ordup_log.specs.declared.scope.Scope.{Scope}
use Rattle.ordup_log.specs.declared.scope.Scope.TheVariants.{Object, Group, All as Everything, Count}
use Rattle.ordup_rows.specs.Rows.{Row}
use Rattle.ordup_rows.specs.declared.version.Version.{Version}
use Rattle.ordup_rows.specs.declared.version.Version.TheVariants.{First, Second}

-- what comes of a value where there is one, as `do` has it
infixl 10 ◌>>=◌
abbrev pub ◌>>=◌ : {A B : Type 0} → Option A → (A → Option B) → Option B
o >>= f = option_and_then f o

-- the four columns of a row
pub record Columns : Type 0 where
  pub kind : List ℕ
  pub first : List ℕ
  pub second : List ℕ
  pub third : List ℕ

-- the columns of a row, where there are four
abbrev pub columns_of : Row → Option Columns
columns_of (kind ∷ first ∷ second ∷ third ∷ []) = Some (record { kind = kind; first = first; second = second; third = third })
columns_of _ = None

-- a number that is not below zero
abbrev pub natural : ℤ → Option ℕ
natural (pos n) = Some n
natural (negsuc n) = None

-- the number that a column writes, where it has no minus
abbrev pub natural_of : List ℕ → Option ℕ
natural_of column = option_and_then natural (number_of column)

-- this number is there
abbrev pub is_number : ℕ → Option ℕ → Bool
is_number n None = false
is_number n (Some m) = m == n

-- a column writes this number
abbrev pub writes : List ℕ → ℕ → Bool
writes column n = is_number n (natural_of column)

-- a column begins with this prefix
abbrev pub has_prefix : List ℕ → List ℕ → Bool
has_prefix prefix column = bytes_eq (take (length prefix) column) prefix

-- what stands after this prefix, of a column that has it
abbrev pub after_prefix : List ℕ → List ℕ → List ℕ
after_prefix prefix column = drop (length prefix) column

-- the scope that a column spells
abbrev pub scope_of : Objects → GroupList → List ℕ → Option Scope
scope_of objects groups column =
    if has_prefix (codes "object:") column then option_map (λ x. Object x) (index_of (after_prefix (codes "object:") column) objects)
    else if has_prefix (codes "group:") column then option_map (λ g. Group g) (index_of (after_prefix (codes "group:") column) groups)
    else if bytes_eq column (codes "all") then Some Everything
    else if bytes_eq column (codes "count") then Some Count
    else None

-- the amount and the place that exactly two parts write
abbrev pub amount_and_place : List (List ℕ) → Option (ℕ × ℕ)
amount_and_place (amount ∷ place ∷ []) = do
  n ← natural_of amount
  k ← natural_of place
  Some (n, k)
amount_and_place _ = None

-- the amount of a limit and the place from which it holds, as a column tells them: by an amount alone, which holds from place 1 on,
-- or in the second version by an amount and a place, with one `@` between them
abbrev pub amount_by : Version → List ℕ → Option (ℕ × ℕ)
amount_by First column = option_map (λ n. (n, 1)) (natural_of column)
amount_by Second column = amount_and_place (slice_split (λ byte. byte == 64) column)

-- the operation over these objects, where the object that it reads is one
abbrev pub op_in : Objects → Operation → Option Op
op_in objects (word.WithNumber op n) = Some (op_with op n)
op_in objects (word.Take y) = option_map (λ place. Take place) (index_of y objects)

-- the change of these objects that a change word means, where its objects are some
abbrev pub change_in : Objects → ChangeWord → Option Change
change_in objects c = do
  object ← index_of c.object objects
  op ← op_in objects c.operation
  Some (record { object = object; op = op })

-- the change that a column spells
abbrev pub change_by : Objects → List ℕ → Option Change
change_by objects column = option_and_then (change_in objects) (change_of column)
