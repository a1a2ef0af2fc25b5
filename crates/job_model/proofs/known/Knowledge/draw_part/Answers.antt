use Rattle.std.proofs.Common.{◌∙◌, sym, ap, is_some}
use Rattle.job_model.specs.contracts.known.Knowledge.{the_view}
use Rattle.job_model.proofs.Drawn.{drawn_more, none_more, known_is, on_ok}
use Rattle.job_model.proofs.known.Knowledge.draw_part.Goals as goal
use Rattle.job_model.proofs.known.Knowledge.draw_part.Goals.{in-Some, in-None}

pub returns-clause-ok : goal.returns-clause-ok
returns-clause-ok c = elim c.match-last_mut.branch [
  | in-Some w ↦
      on_ok _ _ _ _ w.result-is w.push.ensures.ok (λ e. ap the_view w.self-inside-is ∙ known_is c.args.self.now _ _ _ _ c.args.tag
      c.args.size c.self.view_is
      (drawn_more c.self.inside.drawn.items c.self.inside.drawn.len w.in-Some.drawn.now w.drawn.inside.key w.drawn.inside.upload
      w.drawn.inside.parts w.push.new.self (record { tag = c.args.tag; size = c.args.size })
      c.self.inside.drawn.ok.0 (c.last_mut.ensures.variant.0 (ap is_some w.in-Some.is)) w.in-Some.ensures.value w.drawn.view_is e))
  | in-None w ↦ on_ok _ _ (Unit {0}) _ w.result-is tt (λ _. ap the_view w.self-inside-is ∙ known_is c.args.self.now _ _ _ _ c.args.tag
      c.args.size c.self.view_is
      (none_more c.self.inside.drawn.items c.self.inside.drawn.len c.args.tag c.args.size c.self.inside.drawn.ok.0
      (λ h. sym (ap is_some w.in-None.is) ∙ c.last_mut.ensures.variant.1 h)))
]
