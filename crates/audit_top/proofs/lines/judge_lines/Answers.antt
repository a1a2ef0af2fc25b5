use Rattle.audit_top.proofs.lines.judge_lines.Goals as goal

pub returns-in-Faulty-clause-right : goal.returns-in-Faulty-clause-right
returns-in-Faulty-clause-right g c =
    c.in-Faulty.ensures.right (g.Q.Source.left c.args.input.now) c.loop-count.count c.loop-count.invariant.at
