use Rattle.std.proofs.Common.{List, None, Option, Some, [], ap, rules, subst, sym, true, ℕ, ◌∙◌, ◌≡◌}
use Rattle.std.specs.Str.{bytes_eq}
use Rattle.path_keys.specs.Paths.{Path, below}
use Rattle.soundness.specs.Paths.{is_visible}
use Rattle.auditor.proofs.Seen.{none_here, seen_here}
use Rattle.auditor.specs.inner.Destinations.{behind}
use Rattle.auditor.proofs.destination.Destination.path_of.Goals as goal

pub returns-in_default : goal.returns-in_default
returns-in_default c =
    let e : bytes_eq c.args.bucket.now c.args.self.now.bucket ≡ true = search rules in
    let f : c.self.inside.below ≡ below c.args.self.now.key [] =
    c.self.invariant.front_is ∙ ap (λ (p : Path). below p.key []) c.self.view_is in
    let b : None ≡ behind c.self.inside.below c.args.key.now = search rules in
    record { path = none_here c.args.self.now c.args.bucket.now c.args.key.now c.self.inside.below e f b }

pub returns : goal.returns
returns c =
    let e : bytes_eq c.args.bucket.now c.args.self.now.bucket ≡ true = search rules in
    let f : c.self.inside.below ≡ below c.args.self.now.key [] =
    c.self.invariant.front_is ∙ ap (λ (p : Path). below p.key []) c.self.view_is in
    let b : Some c.in-Some.path.now ≡ behind c.self.inside.below c.args.key.now = search rules in
    let v : is_visible c.in-Some.path.now ≡ true = search rules in
    record {
      path = seen_here c.args.self.now c.args.bucket.now c.args.key.now c.self.inside.below c.in-Some.path.now c.in_ok-copied.field-0 e f b
          v
          c.in_ok-copied.ensures;
    }
