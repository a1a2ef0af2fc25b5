use Rattle.audit_top.proofs.top.judged.Goals as goal

pub returns-clause-calm : goal.returns-clause-calm
returns-clause-calm g c not-read = c.judge_lines-verdict.ensures.calm (λ e. not-read (c.answer_of.ensures.failed e))
