use Rattle.job_model.specs.Files.{File, has_path}
use Rattle.job_model.specs.Placed.{path_of}
use Rattle.job_plans.proofs.FilePlans.{all_placed, next_free, next_placed}
use Rattle.std.proofs.Common.{IfOk, ap, subst, sym, [], ◌∙◌, ◌≡◌}
use Rattle.std.specs.Result.{MatchResult}
use Rattle.job_plans.proofs.files.placed.Goals as goal

pub loop-path-init : goal.loop-path-init
loop-path-init c = record {
  done = [];
  all = sym (c.into_iter-path-iterator.ensures.into_iter_gives.0 ∙ c.held-path-items.ensures);
  so_far =
      c.new-copy.ensures;
}

pub add-requires : goal.add-requires
add-requires c =
    let f : File = (c.in-Some.path.now, c.in-Some.bytes.now) in
    let path = subst (λ r. IfOk r (λ text. text ≡ path_of c.args.unique c.args.job.now f.0)) c.in-Ok.ensures.one c.path_of.ensures in
    ap (has_path c.loop-path.copy) path ∙ next_free {rest = c.next.new.self} {f = f} c.requires.id c.requires.files c.loop-path.invariant
    c.in-Some.ensures.steps

pub loop-path-preserved : goal.loop-path-preserved
loop-path-preserved c =
    let f : File = (c.in-Some.path.now, c.in-Some.bytes.now) in
    let g : File = (c.in-Ok.path, c.in-Ok.bytes) in
    let path = subst (λ r. IfOk r (λ text. text ≡ path_of c.args.unique c.args.job.now f.0)) c.in-Ok.ensures.one c.path_of.ensures in
    let bytes = subst (λ r. MatchResult r (λ copy. copy ≡ f.1) (λ e. ¬ ⊥)) c.in-Ok.ensures.other c.clone.ensures.cases in
    next_placed {f = f} {g = g} c.loop-path.invariant c.in-Some.ensures.steps path bytes c.in-Ok-add.ensures.ok

pub returns : goal.returns
returns c = all_placed c.loop-path.invariant c.in-None.ensures.steps.0
