use Rattle.std.proofs.Common.{rules, ◌≡◌, ◌++◌, drop}
use Rattle.std.specs.List.{flat_map}
use Rattle.std.specs.Result.{is_ok}
use Rattle.ps_lines.specs.Lines.{lines}
use Rattle.ut_streams.proofs.StreamLemmas.{Wrote-behind}
use Rattle.ut_slices.specs.Paste.{row}
use Rattle.ut_slices.specs.Inner.Serials.{row_left}
use Rattle.ut_slices.proofs.serials.SerialSeries.feed.Goals as goal

pub returns-clause-wrote : goal.returns-clause-wrote
returns-clause-wrote c = λ others.
    let self = c.args.self.now in
    let all = drop 1 self.delimiters.items in
    let place = self.row.delimiter in
    let place' = c.write_piece-fed.new.row.delimiter in
    let same : c.as_slice.result.now ≡ self.delimiters.items = search rules in
    Wrote-behind (λ more. row_left all (drop place self.delimiters.items) self.row.within (lines (c.args.piece.now ++ more)))
    (λ more. row_left all (drop place' self.delimiters.items) c.write_piece-fed.new.row.within (lines more))
    (flat_map (λ text. row all (lines text)) others) c.args.out.now.items c.write_piece-fed.new.out.items (is_ok c.write_piece-fed.result)
    (rw (← same) c.write_piece-fed.ensures)
