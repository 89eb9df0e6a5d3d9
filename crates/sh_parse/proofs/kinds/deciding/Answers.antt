use Rattle.std.proofs.Common.{◌≡◌, true, false, sym, ◌∙◌, take, rules}
use Rattle.ps_lines.specs.Bytes.{is_name_byte}
use Rattle.sh_parse.specs.Kinds.{spelled}
use Rattle.sh_parse.specs.Inner.Kinds.{deciding}
use Rattle.sh_parse.proofs.Spellings.{grown, whole}
use Rattle.sh_parse.proofs.KindLemmas.{cut-none, cut-name, cut-other}
use Rattle.sh_parse.proofs.kinds.deciding.Goals as goal

pub loop-byte-preserved : goal.loop-byte-preserved
loop-byte-preserved c =
    let l = c.loop-byte in
    let name : is_name_byte c.in-Some.byte ≡ true = search rules in
    grown (deciding (spelled c.args.word.now)) l.bytes.items c.push.new.self.items (deciding (spelled l.rest.now))
    (deciding (spelled c.in-Some.after.now)) c.in-Some.byte l.invariant
    (cut-name c.in-Some.byte c.in-Some.after.now l.rest.now c.in-Some.ensures.front name) c.in_ok-push.ensures.items

pub returns-then-not-is_name_byte : goal.returns-then-not-is_name_byte
returns-then-not-is_name_byte c =
    let l = c.loop-byte in
    let other : is_name_byte c.in-Some.byte ≡ false = search rules in
    c.in_ok-push_first.ensures
    ∙ sym
    (grown (deciding (spelled c.args.word.now)) l.bytes.items c.push.new.self.items (deciding (spelled l.rest.now))
    (take 1 (spelled c.in-Some.after.now)) c.in-Some.byte l.invariant
    (cut-other c.in-Some.byte c.in-Some.after.now l.rest.now c.in-Some.ensures.front other) c.in_ok-push.ensures.items)

pub returns : goal.returns
returns c =
    let l = c.loop-byte in
    whole (deciding (spelled c.args.word.now)) l.bytes.items (deciding (spelled l.rest.now)) l.invariant
    (cut-none l.rest.now c.in_default.ensures.front)
