use Rattle.std.proofs.Common.{arith, ◌+◌, ◌-◌, Some, None, length, take, drop}
use Rattle.std.proofs.lemmas.List.{length-take, length-drop}
use Rattle.ps_lines.proofs.SeekLemmas.{first_behind, none_behind}
use Rattle.ps_lines.proofs.seek.newline_in.Goals as goal

pub returns-in-Some-newline_among_64 : goal.returns-in-Some-newline_among_64
returns-in-Some-newline_among_64 c =
    let sought = c.up_to_newline_ahead-sought.result.now in
    let found = c.in-Some-newline_among_64.ensures in
    c.up_to_newline_ahead-sought.ensures (Some (16 + c.in-Some-newline_among_64.place))
    (first_behind sought 16 c.in_default.ensures 64 c.in-Some-newline_among_64.place (omega (arith, c.if-sought-lt80.false)) found.0 found.1)

pub returns-in-Some-memchr : goal.returns-in-Some-memchr
returns-in-Some-memchr c =
    let sought = c.up_to_newline_ahead-sought.result.now in
    let found = c.in-Some-memchr.ensures in
    c.up_to_newline_ahead-sought.ensures (Some (80 + c.in-Some-memchr.place))
    (first_behind sought 80 (none_behind sought 16 c.in_default.ensures 64 c.in_default-newline_among_64.ensures) (length (take (length sought - 80) (drop 80 sought)))
    c.in-Some-memchr.place (omega (arith, c.if-sought-lt80.false, length-take (length sought - 80) (drop 80 sought), length-drop 80 sought)) found.0 found.1)

pub returns-in-None : goal.returns-in-None
returns-in-None c =
    let sought = c.up_to_newline_ahead-sought.result.now in
    c.up_to_newline_ahead-sought.ensures None
    (λ k low high. none_behind sought 80 (none_behind sought 16 c.in_default.ensures 64 c.in_default-newline_among_64.ensures)
    (length (take (length sought - 80) (drop 80 sought))) c.in-None.ensures k low (omega (arith, c.if-sought-lt80.false, length-take (length sought - 80) (drop 80 sought), length-drop 80 sought)))
