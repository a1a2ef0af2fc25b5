use Rattle.std.proofs.Common.{List, ap, cond, subst, sym, ℕ, ◌∙◌}
use Rattle.std.specs.List.{list_any}
use Rattle.std.specs.List.Sorted.{IsStrictlySortedBy}
use Rattle.audit_judge.specs.Changes.{paths_of}
use Rattle.audit_judge.specs.Following.{FollowsSome}
use Rattle.audit_model.specs.Answers.{seen_paths}
use Rattle.audit_model.specs.Recorded.{is_marker}
use Rattle.audit_objects.specs.Objects.{at, delete}
use Rattle.auditor.proofs.Requests.{delete_step, follows_some, given_paths}
use Rattle.auditor.specs.AuditState.{AuditState}
use Rattle.auditor.specs.inner.Paths.{has_path}
use Rattle.text_and_lists.specs.Order.{text_cmp}
use Rattle.soundness.specs.declared.marker.Marker.TheVariants as markers
use Rattle.auditor.proofs.audit.Audit.delete.Goals as goal

pub tell-requires-clause-follows : goal.tell-requires-clause-follows
tell-requires-clause-follows c = subst (λ (h : AuditState). FollowsSome h.bench) (sym c.self.view_is)
    (follows_some c.args.self.now c.start.new.self c.requires.at c.in_ok-start.ensures.begun)

pub tell-requires-clause-rising : goal.tell-requires-clause-rising
tell-requires-clause-rising c = subst (λ (l : List (List ℕ)). IsStrictlySortedBy text_cmp l)
    (sym (ap paths_of c.in_ok-changes.ensures.gone ∙ given_paths c.in_ok-paths.paths _)) c.in_ok-changes.ensures.rising

pub returns : goal.returns
returns c = record {
  stepped = delete_step c.args.self.now c.start.new.self _ c.tell.new.self c.args.bucket c.args.keys c.in_ok-paths.paths
      c.in_ok-changes.changes.items c.marker_by-marker.result c.in_ok-reason.reason c.in_ok-start.ensures.begun
      (ap (λ (h : AuditState). record h { objects = c.remove_all.new.self }) c.self.view_is) c.in_ok-changes.ensures.gone
      (λ p. c.in_ok-paths.ensures.seen p ∙ (λ i. has_path p (seen_paths (c.self.view_is i).dest c.args.bucket (c.as_slice.ensures i))))
      (c.marker_by-marker.ensures.by ∙ (λ i. cond (c.has_marker.ensures.has i) markers.Absent (c.marker.ensures.marker i))
      ∙ (λ i. cond (list_any (λ key. is_marker (c.self.view_is i).dest c.args.bucket key) (c.as_slice-2.ensures i)) markers.Absent
      (c.self.view_is i).bench.marker))
      (λ b k. c.remove_all.ensures.gone b k ∙ (λ i. delete c.args.bucket (c.as_slice-3.ensures i) (at (c.self.view_is i).objects) b k))
      c.in_ok-reason.ensures.told;
}
