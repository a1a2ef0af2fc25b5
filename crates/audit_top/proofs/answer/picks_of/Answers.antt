use Rattle.std.proofs.Common.{IfSome, List, [], ap, rules, subst, ℕ, ◌∙◌, ◌≡◌, sym}
use Rattle.std.proofs.lemmas.List.{append-nil}
use Rattle.audit_model.specs.Answers.{IsLeast}
use Rattle.audit_text.specs.declared.sound.Pick.{Pick}
use Rattle.audit_top.proofs.Answering.{one_pick}
use Rattle.audit_top.specs.Answer.{AreLeast}
use Rattle.audit_top.proofs.answer.picks_of.Goals as goal

pub loop-task-preserved : goal.loop-task-preserved
loop-task-preserved c lines t =
    one_pick c.args.audit.now lines t c.loop-task.task c.in-Some.attempt c.loop-task.picks.items c.push.new.self.items
    (c.loop-task.invariant lines t) (c.in-Some.ensures.least lines t) c.in_ok-push-in-Some.ensures.items

pub returns : goal.returns
returns c = record {
  picks = λ lines t.
      let all : c.loop-task.task ≡ c.tasks-task-end.result = search rules in
      let ended : c.loop-task.task ≡ t.said.tasks = all ∙ c.tasks-task-end.ensures.tasks t.said t.at.tells in
      subst (λ (l : List Pick). AreLeast lines t.said 0 l) (append-nil c.loop-task.picks.items) (c.loop-task.invariant lines t [] ended);
}
