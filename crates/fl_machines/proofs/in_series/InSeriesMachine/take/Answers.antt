use Rattle.std.proofs.Common.{rules, ◌≡◌, ◌==◌, ◌+◌, ◌∙◌, ◌++◌, ◌||◌, [], ◌∷◌, true, ap, refl}
use Rattle.std.specs.Result.{is_ok}
use Rattle.fl_machines.specs.Waiting.{is_worth_putting}
use Rattle.fl_machines.proofs.SeriesLemmas.{bytes-taken, end-taken}
use Rattle.fl_machines.proofs.in_series.InSeriesMachine.take.Goals as goal

pub returns-else-self-clause-due : goal.returns-else-self-clause-due
returns-else-self-clause-due g c = λ whole texts port.
    let self = c.args.self.now in
    let ok : is_ok c.feed-fed.result ≡ true = search rules in
    bytes-taken (g.S.Series.due self.series) (g.S.Series.due c.feed-fed.new.self) (self.broken || is_worth_putting self.waiting) self.at self.ins self.putting
    c.requires.turn self.waiting _ texts port c.args.piece c.as_slice.result.now (search rules)
    (λ more others. ap (λ waiting. waiting ++ g.S.Series.due c.feed-fed.new.self (more ∷ others)) (c.keep.ensures ∙ c.hold.ensures) ∙ (c.feed-fed.ensures.wrote others).grew ok more ∙ ap (λ old. old ++ g.S.Series.due self.series ((c.as_slice.result.now ++ more) ∷ others)) c.buffer-out.ensures.waited)

pub returns-else-self-2-clause-due : goal.returns-else-self-2-clause-due
returns-else-self-2-clause-due g c = λ whole texts port.
    let self = c.args.self.now in
    let ok : is_ok c.end_input-ended.result ≡ true = search rules in
    end-taken (g.S.Series.due self.series) (g.S.Series.due c.end_input-ended.new.series) (self.broken || is_worth_putting self.waiting) self.at self.ins self.putting
    c.requires.turn self.waiting _ texts port c.args.piece (self.at + 1 == self.ins) c.in-End.is refl
    (λ more others. ap (λ waiting. waiting ++ g.S.Series.due c.end_input-ended.new.series others) c.hold-in-End.ensures ∙ (c.end_input-ended.ensures.more more).grew ok others ∙ ap (λ old. old ++ g.S.Series.due self.series ([] ∷ others)) c.buffer-out-in-End.ensures.waited)
    (λ last. c.hold-in-End.ensures ∙ (c.end_input-ended.ensures.last last).grew ok ∙ ap (λ old. old ++ g.S.Series.due self.series ([] ∷ [])) c.buffer-out-in-End.ensures.waited)
