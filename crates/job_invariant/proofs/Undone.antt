-- What deletions leave: all that exists existed before, and no upload changes.
use Rattle.text_and_lists.proofs.Members.{none_some}
use Rattle.text_and_lists.specs.Order.{text_cmp, text_total}
use Rattle.job_invariant.proofs.Keep.{Drops}
use Rattle.job_invariant.proofs.Shapes.{bucket_after, id_after, id_before, key_after, key_before, store_is, with_store}
use Rattle.job_model.specs.Attempts.{Who}
use Rattle.job_model.specs.JobScript.{Script}
use Rattle.job_protocol.specs.TaskCommits.{attempt_prefix}
use Rattle.magic_paths.proofs.Tails.{begins_behind}
use Rattle.magic_paths.specs.Places.{SetPlace, key_at}
use Rattle.s3_types.specs.Answer.{apply, without}
use Rattle.s3_types.specs.Pages.{begins}
use Rattle.s3_types.specs.Store.{Objects, Scene}
use Rattle.s3_types.specs.declared.limits.TheConstants.{MOST_ENTRIES}
use Rattle.s3_types.specs.declared.object.Object.{Object}
use Rattle.s3_types.specs.declared.request.Request.TheVariants.{DeleteObjects}
use Rattle.std.proofs.Common.{List, None, Some, ap, append_assoc, codes, cond, false, length, nat_lt, refl, subst, sym, true, ℕ, [], ◌++◌}
use Rattle.std.proofs.Common.{◌∙◌, ◌∷◌, ◌≡◌}
use Rattle.std.specs.Fmt.{decimal}
use Rattle.std.specs.Ordering.{eq_by_cmp}
use Rattle.store_frame.specs.Held.{HasBucket}
use Rattle.std.specs.FinMap as fin

-- ---- keys that are deleted

pub stood_before : (o : Objects) (ks : List (List ℕ)) (k : List ℕ) (x : Object) → fin.get (without o ks) k ≡ Some x → fin.get o k ≡ Some x
stood_before o [] k x e = e
stood_before o (q ∷ ks) k x e =
    (elim (eq_by_cmp text_cmp k q) as (λ b. cond b None (fin.get o k) ≡ Some x → fin.get o k ≡ Some x)
    [ true ↦ λ h. absurd (none_some refl h) | false ↦ λ h. h ])
    (sym (fin.get-remove text_total o q k) ∙ stood_before (fin.remove o q) ks k x e)

pub deletes_drop : (w : Script) (s : Scene) (keys : List (List ℕ)) → (there : HasBucket s.content w.dest.bucket)
    → Drops w s (apply s (DeleteObjects w.dest.bucket keys))
deletes_drop w s keys there =
    subst (λ c. Drops w s (with_store s c)) (sym (store_is w s there.0 there.1 (DeleteObjects w.dest.bucket keys))) (record {
      there = (_, bucket_after w s there.0 there.1 _ s.content.next);
      least = refl;
      next = refl;
      objects = λ k x e. key_before w s there.0 there.1 k
          ∙ (elim (nat_lt MOST_ENTRIES (length keys)) as (λ b. fin.get (cond b there.0.objects (without there.0.objects keys)) k ≡ Some x →
          fin.get there.0.objects k ≡ Some x) [ true ↦ λ h. h | false ↦ stood_before there.0.objects keys k x ])
          (sym (key_after w s there.0 there.1 _ s.content.next k) ∙ e);
      uploads = λ id. id_after w s there.0 there.1 _ s.content.next id ∙ sym (id_before w s there.0 there.1 id);
      files = λ p b e. e;
    })

-- A task's set is in no attempt's directory.
pub set_apart : (w : Script) (a : Who) (t : ℕ) → begins (attempt_prefix w a) (key_at w.dest.key w.job (SetPlace t)) ≡ false
set_apart w a t =
    let rest = decimal a.task ++ (codes "_" ++ (decimal a.attempt ++ codes "/__base")) in
    let own = codes "/__magic/job-" ++ (w.job ++ (codes "/tasks/" ++ rest)) in
    ap (λ p. begins p (key_at w.dest.key w.job (SetPlace t))) (append_assoc w.dest.key own (codes "/"))
    ∙ begins_behind w.dest.key (own ++ codes "/") (codes "/__magic/job-" ++ (w.job ++
    (codes "/sets/task_" ++ (decimal t ++ codes ".pendingset"))))
    ∙ ap (λ p. begins (codes "/__magic/job-" ++ p) (codes "/__magic/job-" ++
    (w.job ++ (codes "/sets/task_" ++ (decimal t ++ codes ".pendingset"))))) (append_assoc w.job (codes "/tasks/" ++ rest) (codes "/"))
    ∙ begins_behind w.job ((codes "/tasks/" ++ rest) ++ codes "/") (codes "/sets/task_" ++ (decimal t ++ codes ".pendingset"))
