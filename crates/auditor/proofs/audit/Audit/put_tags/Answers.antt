use Rattle.std.proofs.Common.{List, [], ap, cond, subst, sym, ◌∙◌, ◌∷◌}
use Rattle.std.specs.List.Sorted.{IsStrictlySortedBy}
use Rattle.audit_judge.specs.Changes.{paths_of}
use Rattle.audit_judge.specs.Following.{FollowsSome}
use Rattle.audit_judge.specs.declared.change.Change.{Change}
use Rattle.audit_model.specs.Answers.{seen_paths}
use Rattle.audit_model.specs.Recorded.{is_marker}
use Rattle.audit_objects.specs.Objects.{at, put}
use Rattle.auditor.proofs.Requests.{follows_some, one_rises, put_step}
use Rattle.auditor.specs.AuditState.{AuditState}
use Rattle.text_and_lists.specs.Order.{text_cmp}
use Rattle.soundness.specs.declared.marker.Marker.TheVariants as markers
use Rattle.auditor.proofs.audit.Audit.put_tags.Goals as goal

pub tell-requires-clause-follows : goal.tell-requires-clause-follows
tell-requires-clause-follows c = subst (λ (h : AuditState). FollowsSome h.bench) (sym c.self.view_is)
    (follows_some c.args.self.now c.start.new.self c.requires.at c.in_ok-start.ensures.begun)

pub tell-requires-clause-rising : goal.tell-requires-clause-rising
tell-requires-clause-rising c = subst (λ (l : List Change). IsStrictlySortedBy text_cmp (paths_of l))
    (sym c.in_ok-changes.ensures.changes) (one_rises c.in_ok-path.path _)

pub returns : goal.returns
returns c = record {
  stepped = put_step c.args.self.now c.start.new.self _ c.tell.new.self c.args.bucket c.args.key c.args.etags c.in_ok-path.path
      c.in_ok-changes.changes.items c.marker_by-marker.result c.in_ok-reason.reason c.in_ok-start.ensures.begun
      (ap (λ (h : AuditState). record h { objects = c.put.new.self }) c.self.view_is) c.in_ok-changes.ensures.changes
      (c.in_ok-path.ensures.path ∙ ap (λ (h : AuditState). seen_paths h.dest c.args.bucket (c.args.key ∷ [])) c.self.view_is)
      (c.marker_by-marker.ensures.by ∙ (λ i. cond (c.is_marker.ensures.marker i) markers.New (c.marker.ensures.marker i))
      ∙ ap (λ (h : AuditState). cond (is_marker h.dest c.args.bucket c.args.key) markers.New h.bench.marker) c.self.view_is)
      (λ b k. c.in_ok-put.ensures.put b k ∙ ap (λ (h : AuditState). put c.args.bucket c.args.key c.args.etags (at h.objects) b k)
      c.self.view_is)
      c.in_ok-reason.ensures.told;
}
