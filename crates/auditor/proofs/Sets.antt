-- Sets of paths.
use Rattle.std.proofs.Common.{List, ap, sym, ℕ, ◌||◌, ◌∙◌, ◌≡◌}
use Rattle.std.proofs.lemmas.List.{map-id}
use Rattle.std.specs.BTreeSet.{insert_key}
use Rattle.audit_claims.proofs.Dirs.{has_inserted}
use Rattle.text_and_lists.specs.Order.{text_cmp, text_eq}
use Rattle.auditor.specs.inner.Paths.{has_path}

pub has_added : (p : List ℕ) (ks new : List (List ℕ)) (k : List ℕ) → new ≡ insert_key text_cmp ks k
    → has_path p new ≡ (text_eq p k || has_path p ks)
has_added p ks new k e = ap (has_path p) e ∙ ap (has_path p) (sym (map-id (insert_key text_cmp ks k))) ∙ has_inserted (λ (x : List ℕ). x) p
    ks k
    ∙ ap (λ l. text_eq p k || has_path p l) (map-id ks)
