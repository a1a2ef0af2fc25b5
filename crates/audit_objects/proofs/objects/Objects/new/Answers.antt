use Rattle.std.proofs.Common.{List, [], ℕ, ap, ◌∙◌}
use Rattle.std.specs.FinMap as map
use Rattle.text_and_lists.specs.Order.{text_cmp, text_total}
use Rattle.text_and_lists.proofs.Tree.{get_made}
use Rattle.audit_claims.specs.Etags.{TagMap}
use Rattle.audit_objects.specs.Objects.{tags_in}
use Rattle.audit_objects.proofs.objects.Objects.new.Goals as goal

pub returns : goal.returns
returns c = record {
  none = λ b k.
      ap (λ (es : List (List ℕ × TagMap)). tags_in (map.get (map.from_entries {R = text_cmp} es) b) k) c.new.ensures.empty
      ∙ ap (λ t. tags_in t k) (get_made {X = TagMap} text_total [] b);
}
