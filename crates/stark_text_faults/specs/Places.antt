-- Lines and columns of a text in UTF-8, both from 1.
use Rattle.std.specs.Prelude.{ℕ, ◌+◌, ◌==◌, ◌||◌, Bool, List, nat_le, nat_lt, count_by}
use Rattle.std.specs.List.{after_last}

abbrev pub is_line_feed : ℕ → Bool
is_line_feed byte = byte == 10

-- whether a byte is the first of a character
abbrev pub begins_character : ℕ → Bool
begins_character byte = nat_lt byte 128 || nat_le 192 byte

-- the line in which a text goes on after this front of it
unfoldable pub line_after : List ℕ → ℕ
line_after front = 1 + count_by is_line_feed front

-- the column there, in characters
unfoldable pub column_after : List ℕ → ℕ
column_after front = 1 + count_by begins_character (after_last is_line_feed front)
