-- What words of an entry may be.
use Rattle.std.specs.Prelude.{ℕ, Bool, ◌&&◌, ◌||◌, ◌==◌, List, length, nat_le}
use Rattle.std.specs.List.{list_all}
use Rattle.ordup_objects.specs.Names.{is_name_byte}
use Rattle.ordup_entries.specs.Sizes.{most_client_bytes, most_changes_bytes}

-- whether a number lies from one to another
abbrev pub within : ℕ → ℕ → ℕ → Bool
within least most n = nat_le least n && nat_le n most

-- a byte of a word: printed, and no space
abbrev pub is_word_byte : ℕ → Bool
is_word_byte b = nat_le 33 b && nat_le b 126

-- a word of at most so many bytes
abbrev pub is_word : ℕ → List ℕ → Bool
is_word most word = within 1 most (length word) && list_all is_word_byte word

-- a to z, 0 to 9, _ or -
abbrev pub is_client_byte : ℕ → Bool
is_client_byte b = is_name_byte b || b == 45

-- the name of a client
abbrev pub is_client : List ℕ → Bool
is_client word = within 1 most_client_bytes (length word) && list_all is_client_byte word

-- a byte from space to tilde
abbrev pub is_printed : ℕ → Bool
is_printed b = nat_le 32 b && nat_le b 126

-- a declaration, or the changes of a request
abbrev pub is_changes : List ℕ → Bool
is_changes text = nat_le (length text) most_changes_bytes && list_all is_printed text
