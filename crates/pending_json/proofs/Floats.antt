-- No record has a float.
use Rattle.pending_json.specs.Pending.{Pending}
use Rattle.pending_json.specs.Trees.{pending_tree, set_tree, success_tree, tag_digits, texts, wholes}
use Rattle.pending_json.specs.declared.records.PendingSet.{PendingSet}
use Rattle.pending_json.specs.declared.records.SuccessMark.{SuccessMark}
use Rattle.serde_json.specs.View.{items_of}
use Rattle.serde_json.specs.Written.{has_float, items_have_float}
use Rattle.std.proofs.Common.{List, None, Option, Some, ap, false, map, refl, ℕ, [], ◌||◌, ◌∙◌, ◌∷◌, ◌≡◌}

texts_have_none : (all : List (List ℕ)) → items_have_float (texts all) ≡ false
texts_have_none [] = refl
texts_have_none (text ∷ all) = texts_have_none all

wholes_have_none : (all : List ℕ) → items_have_float (wholes all) ≡ false
wholes_have_none [] = refl
wholes_have_none (n ∷ all) = wholes_have_none all

pub pending_has_none : (p : Pending) → has_float (pending_tree p) ≡ false
pending_has_none p = by p.sizes refl
  where
    by : (o : Option (List ℕ)) → p.sizes ≡ o → has_float (pending_tree p) ≡ false
    by None e = rw (texts_have_none (map tag_digits p.tags), e) refl
    by (Some ns) e = rw (texts_have_none (map tag_digits p.tags), e, wholes_have_none ns) refl

all_have_none : (all : List Pending) → items_have_float (items_of (map pending_tree all)) ≡ false
all_have_none [] = refl
all_have_none (p ∷ all) = ap (λ b. b || items_have_float (items_of (map pending_tree all))) (pending_has_none p) ∙ all_have_none all

pub set_has_none : (s : PendingSet) → has_float (set_tree s) ≡ false
set_has_none s = rw (all_have_none s.commits) refl

pub success_has_none : (m : SuccessMark) → has_float (success_tree m) ≡ false
success_has_none m = by m.stamp refl
  where
    by : (o : Option ℕ) → m.stamp ≡ o → has_float (success_tree m) ≡ false
    by None e = rw (texts_have_none m.files, e) refl
    by (Some n) e = rw (texts_have_none m.files, e) refl
