use Rattle.text_and_lists.proofs.Tree.{filter_all}
use Rattle.s3_service.proofs.Next.{is_next}
use Rattle.s3_service.specs.inner.Next.{IsNext, next_of}
use Rattle.s3_types.specs.Store.{BucketContent, Content}
use Rattle.std.proofs.Common.{List, ap, rules, subst, sym, ℕ, ◌∙◌, ◌≡◌}
use Rattle.std.specs.List.{slice_get}
use Rattle.std.specs.Option.{option_copied, option_map}
use Rattle.std.specs.FinMap as fin
use Rattle.s3_service.proofs.service.Service.next_bucket.Goals as goal

pub returns-in-Some-clause-rest : goal.returns-in-Some-clause-rest
returns-in-Some-clause-rest c =
    let next : option_map {U = List ℕ × BucketContent} (λ b. (b.name.now, record { objects = b.objects.now; uploads = b.uploads.now }))
    c.first_from.result ≡ next_of (option_copied c.args.after) c.args.self.now.buckets = search rules in
    subst (IsNext (option_copied c.args.after) c.args.self.now.buckets) (sym next)
    (is_next (option_copied c.args.after) c.args.self.now.buckets)

pub returns-in-None-clause-next : goal.returns-in-None-clause-next
returns-in-None-clause-next c =
    c.first_from-in-None.ensures
    ∙ ap (λ (l : List (List ℕ × BucketContent)). slice_get l 0) (filter_all (fin.entries c.self.inside.buckets))
    ∙ ap (λ o. next_of (option_copied o) c.self.inside.buckets) (sym c.in-None.is)
    ∙ ap (λ (s : Content). next_of (option_copied c.args.after) s.buckets) c.self.view_is

pub returns-in-None-clause-rest : goal.returns-in-None-clause-rest
returns-in-None-clause-rest c =
    subst (IsNext (option_copied c.args.after) c.args.self.now.buckets) (sym (returns-in-None-clause-next c))
    (is_next (option_copied c.args.after) c.args.self.now.buckets)
