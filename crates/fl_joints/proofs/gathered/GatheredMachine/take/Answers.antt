use Rattle.std.proofs.Common.{rules, ◌≡◌, ◌==◌, ◌+◌, ◌∙◌, ◌++◌, ◌&&◌, ◌||◌, nat_lt, true, ap, refl}
use Rattle.std.specs.Result.{is_ok}
use Rattle.fl_machines.specs.Waiting.{is_worth_putting}
use Rattle.fl_joints.proofs.GatherLemmas.{gathered-bytes, gathered-end}
use Rattle.fl_joints.proofs.gathered.GatheredMachine.take.Goals as goal

pub returns-else-self-clause-due : goal.returns-else-self-clause-due
returns-else-self-clause-due g c = λ whole texts port.
    let self = c.args.self.now in
    let ok : is_ok c.feed-fed.result ≡ true = search rules in
    gathered-bytes (g.S.Stream.due self.stream) self.close self.within_line (self.putting && (self.broken || is_worth_putting self.waiting)) (nat_lt self.at self.ins) self.putting
    self.at self.ins c.requires.turn refl c.args.piece self.waiting c.as_slice-in-Bytes.result.now _ (g.S.Stream.due c.feed-fed.new.self) _ (search rules)
    (search rules) (search rules)
    (λ more.
    ap (λ waiting. waiting ++ g.S.Stream.due c.feed-fed.new.self more) (c.keep.ensures ∙ c.hold.ensures) ∙ c.feed-fed.ensures.wrote.grew ok more
    ∙ ap (λ old. old ++ g.S.Stream.due self.stream (c.as_slice-in-Bytes.result.now ++ more)) c.buffer-out.ensures.waited)
    texts port

pub returns-else-self-2-clause-due : goal.returns-else-self-2-clause-due
returns-else-self-2-clause-due g c = λ whole texts port.
    let self = c.args.self.now in
    let ok : is_ok c.end_text-fed.result ≡ true = search rules in
    gathered-end (g.S.Stream.due self.stream) self.close self.within_line (self.putting && (self.broken || is_worth_putting self.waiting)) (nat_lt self.at self.ins) self.putting
    self.at self.ins c.requires.turn refl c.args.piece self.waiting _ (g.S.Stream.due c.end_text-fed.new.stream)
    c.lacks_newline-lacks_newline.result (self.at + 1 == self.ins) c.in-End.is
    (search rules) refl (search rules) (search rules) (search rules)
    texts port
