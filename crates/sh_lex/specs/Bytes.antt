-- The bytes that the shell's language gives a meaning to (XCU 2.2, 2.3, 2.5). The code tests the same classes.
use Rattle.std.specs.Prelude.{ℕ, Bool, ◌||◌, ◌==◌}
use Rattle.std.specs.Char.{is_ascii_digit}
use Rattle.sh_lex.specs.declared.bytes.TheConstants.{SPACE, TAB, NEWLINE, AND, PIPE, SEMI, OPEN, CLOSE, LESS, GREAT, DOLLAR, BACKQUOTE, DOUBLE_QUOTE, BACKSLASH, AT, STAR, HASH, QUESTION}

-- a space or a tab
abbrev pub is_blank : ℕ → Bool
is_blank byte = (byte == SPACE) || (byte == TAB)

-- a blank, a newline or the first byte of an operator: unquoted it is no part of a word
unfoldable pub ends_word : ℕ → Bool
ends_word byte =
    is_blank byte || (byte == NEWLINE) || (byte == AND) || (byte == PIPE) || (byte == SEMI)
    || (byte == OPEN) || (byte == CLOSE) || (byte == LESS) || (byte == GREAT)

-- in double quotes a backslash is special before these bytes, and before a newline
unfoldable pub is_quoted_escape : ℕ → Bool
is_quoted_escape byte = (byte == DOLLAR) || (byte == BACKQUOTE) || (byte == DOUBLE_QUOTE) || (byte == BACKSLASH)

-- after a `$` these bytes are a parameter each by itself
unfoldable pub is_parameter : ℕ → Bool
is_parameter byte = is_ascii_digit byte || (byte == AT) || (byte == STAR) || (byte == HASH) || (byte == QUESTION)
