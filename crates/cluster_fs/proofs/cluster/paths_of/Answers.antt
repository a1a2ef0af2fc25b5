use Rattle.cluster_fs.proofs.Listed.{follows_rest, none_left}
use Rattle.cluster_fs.specs.inner.Cluster.{Follows}
use Rattle.s3_types.specs.Pages.{begins}
use Rattle.std.proofs.Common.{List, ap, append-nil, append_assoc, cond, false, subst, sym, true, ℕ, [], ◌++◌, ◌∙◌, ◌∷◌, ◌≡◌}
use Rattle.std.specs.List.{filter}
use Rattle.std.specs.Map.{keys_of}
use Rattle.cluster_fs.proofs.cluster.paths_of.Goals as goal

pub returns-then-not-starts_with : goal.returns-then-not-starts_with
returns-then-not-starts_with c =
    let n : begins c.args.prefix.now c.in-Some.path.now ≡ false = cc in
    let e : c.loop-path.rest ≡ (c.in-Some.path.now, c.in-Some.field-0-1.now) ∷ c.next.new.self = c.in-Some.ensures.steps in
    let f : Follows c.args.prefix.now (c.in-Some.path.now ∷ keys_of c.next.new.self) = subst
    (λ (l : List (List ℕ × List ℕ)). Follows c.args.prefix.now (keys_of l)) e c.loop-path.invariant.follows in
    c.from_vec.ensures
    ∙ sym (append-nil c.loop-path.paths.items)
    ∙ ap (λ l. c.loop-path.paths.items ++ l) (sym (none_left c.args.prefix.now c.in-Some.path.now (keys_of c.next.new.self) f n))
    ∙ ap (λ (l : List (List ℕ × List ℕ)). c.loop-path.paths.items ++ filter (begins c.args.prefix.now) (keys_of l)) (sym e)
    ∙ c.loop-path.invariant.told

pub loop-path-preserved : goal.loop-path-preserved
loop-path-preserved c =
    let n : begins c.args.prefix.now c.in-Some.path.now ≡ true = cc in
    let e : c.loop-path.rest ≡ (c.in-Some.path.now, c.in-Some.field-0-1.now) ∷ c.next.new.self = c.in-Some.ensures.steps in
    let left : List (List ℕ) = filter (begins c.args.prefix.now) (keys_of c.next.new.self) in
    record {
      told =
          ap (λ l. l ++ left) c.in_ok-push.ensures.items
          ∙ append_assoc c.loop-path.paths.items (c.in_ok-clone.field-0 ∷ []) left
          ∙ ap (λ k. c.loop-path.paths.items ++ (k ∷ left)) c.in_ok-clone.ensures.cases
          ∙ ap (λ b. c.loop-path.paths.items ++ cond b (c.in-Some.path.now ∷ left) left) (sym n)
          ∙ ap (λ (l : List (List ℕ × List ℕ)). c.loop-path.paths.items ++ filter (begins c.args.prefix.now) (keys_of l)) (sym e)
          ∙ c.loop-path.invariant.told;
      follows = follows_rest c.args.prefix.now c.in-Some.path.now (keys_of c.next.new.self)
          (subst (λ (l : List (List ℕ × List ℕ)). Follows c.args.prefix.now (keys_of l)) e c.loop-path.invariant.follows);
    }
