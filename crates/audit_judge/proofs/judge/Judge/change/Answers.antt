use Rattle.std.proofs.Common.{◌∙◌, ap, subst, sym}
use Rattle.audit_judge.proofs.Deciding.{answered, followed}
use Rattle.audit_judge.specs.Bench.{Bench}
use Rattle.audit_judge.specs.Changes.{paths_of}
use Rattle.audit_judge.specs.Scene.{Scene}
use Rattle.audit_judge.specs.declared.change.Change.{Change}
use Rattle.text_and_lists.specs.Order.{text_cmp}
use Rattle.std.proofs.Common.{List}
use Rattle.std.specs.List.Sorted.{IsStrictlySortedBy}
use Rattle.audit_judge.proofs.judge.Judge.change.Goals as goal

pub find_reason-requires : goal.find_reason-requires
find_reason-requires c = record {
  started = ap (λ (s : Scene). s.started) c.in_ok-show.ensures.ok ∙ ap (λ (b : Bench). b.started) c.self.view_is ∙ c.requires.started;
  follows = (
    c.requires.follows.0,
    followed c.args.self.now c.self.inside.known c.show.new.self c.self.inside.begun c.self.inside.marker c.self.inside.needed
        c.self.inside.candidates.items c.deref.result.now c.deref-2.result.now c.args.changes.items c.requires.follows.0
        c.self.view_is c.requires.follows.1 c.in_ok-show.ensures.ok c.deref.ensures.value c.deref-2.ensures.value,
  );
  rising = subst (λ (l : List Change). IsStrictlySortedBy text_cmp (paths_of l)) (sym c.deref-2.ensures.value) c.requires.rising;
  old = λ e. ap (λ (b : Bench). b.marker) c.self.view_is ∙ c.requires.old e;
}

pub returns-clause-right : goal.returns-clause-right
returns-clause-right c m f = answered c.args.self.now c.self.inside.known c.show.new.self c.self.inside.begun c.self.inside.marker
    c.self.inside.needed c.self.inside.candidates.items c.deref.result.now c.deref-2.result.now c.args.changes.items m
    c.self.view_is f c.in_ok-show.ensures.ok c.deref.ensures.value c.deref-2.ensures.value c.in_ok-reason.reason _
    (c.in_ok-reason.ensures.right m (followed c.args.self.now c.self.inside.known c.show.new.self c.self.inside.begun
    c.self.inside.marker c.self.inside.needed c.self.inside.candidates.items c.deref.result.now c.deref-2.result.now
    c.args.changes.items m c.self.view_is f c.in_ok-show.ensures.ok c.deref.ensures.value c.deref-2.ensures.value))
