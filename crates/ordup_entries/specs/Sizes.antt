-- The sizes of an entry, as `sizes.rt` has them.
use Rattle.std.specs.Prelude.{ℕ}

-- the bytes of an entry that is read
abbrev pub most_entry_bytes : ℕ
most_entry_bytes = 2097152

-- the bytes of a declaration, or of the changes of a request
abbrev pub most_changes_bytes : ℕ
most_changes_bytes = 4000

-- the bytes of the name of a client
abbrev pub most_client_bytes : ℕ
most_client_bytes = 64

-- the bytes of the name of a writer
abbrev pub most_writer_bytes : ℕ
most_writer_bytes = 256

-- the bytes of a version, a digest or the name of a refusal
abbrev pub most_word_bytes : ℕ
most_word_bytes = 64

-- what the steps of an entry count in sum, and each number that counts
abbrev pub most_counted : ℕ
most_counted = 1000000

-- the number of a request, of an epoch, or of seconds that a request is older
abbrev pub most_number : ℕ
most_number = 999999999999999999

-- the amount of a limit
abbrev pub most_amount : ℕ
most_amount = 9223372036854775807
