-- Classes of bytes in the C locale, as the shell and its utilities tell them apart.
use Rattle.std.specs.Prelude.{ℕ, Bool, ◌==◌, ◌||◌}
use Rattle.std.specs.Char.{is_ascii_alphabetic, is_ascii_digit}

-- a space, a tab or a newline
abbrev pub is_white_space : ℕ → Bool
is_white_space byte = byte == 32 || byte == 9 || byte == 10

-- a letter or an underscore: it begins a name
abbrev pub is_name_start : ℕ → Bool
is_name_start byte = is_ascii_alphabetic byte || byte == 95

-- a letter, an underscore or a digit: it goes on a name
abbrev pub is_name_byte : ℕ → Bool
is_name_byte byte = is_name_start byte || is_ascii_digit byte
