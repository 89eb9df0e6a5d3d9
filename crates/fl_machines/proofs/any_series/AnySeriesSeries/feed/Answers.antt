use Rattle.fl_machines.proofs.any_series.AnySeriesSeries.feed.Goals as goal

pub returns-in-Grep-clause-wrote : goal.returns-in-Grep-clause-wrote
returns-in-Grep-clause-wrote c = λ others. rw c.in-Grep.is (c.feed.ensures.wrote others)

pub returns-in-Head-clause-wrote : goal.returns-in-Head-clause-wrote
returns-in-Head-clause-wrote c = λ others. rw c.in-Head.is (c.feed-in-Head.ensures.wrote others)

pub returns-in-Paste-clause-wrote : goal.returns-in-Paste-clause-wrote
returns-in-Paste-clause-wrote c = λ others. rw c.in-Paste.is (c.feed-in-Paste.ensures.wrote others)

pub returns-in-Wc-clause-wrote : goal.returns-in-Wc-clause-wrote
returns-in-Wc-clause-wrote c = λ others. rw c.in-Wc.is (c.feed-in-Wc.ensures.wrote others)
