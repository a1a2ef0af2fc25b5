-- If a moment differs from the one before only at some paths, only these need to be looked at.
use Rattle.std.proofs.Common.{Bool, List, None, Option, Some, [], false, get_or, inl, inr, refl, subst, sym, true, ℕ, ◌++◌, ◌∙◌}
use Rattle.std.proofs.Common.{◌∷◌, ◌≡◌, ◌≢◌, ◌⊎◌}
use Rattle.std.proofs.lemmas.Bool.{false≢true, true≢false}
use Rattle.std.proofs.lemmas.List.Elements.{All-push}
use Rattle.std.proofs.lemmas.List.Folds.{list_any_at}
use Rattle.std.proofs.lemmas.Map.Views.{Contains-from_any}
use Rattle.std.proofs.lemmas.Slice.Eq.{bytes_eq-Decides}
use Rattle.std.specs.List.{All, Contains, list_any}
use Rattle.std.specs.Prelude.{◌↔◌}
use Rattle.std.specs.Str.{bytes_eq}
use Rattle.soundness.specs.Claims.{Attempts, Claim, Files, file_at, is_claimed, is_kept, is_replaced, writes}
use Rattle.soundness.specs.Moments.{Fits, MayShow, Moment, Shown, Unchanged, Whole}
use Rattle.judging.specs.Judging.{AttemptExplains, Begins, DifferAt, OthersFit, StillExplains}
use Rattle.judging.specs.TaskByTask.{WhereChanged}
use Rattle.judging.proofs.InTurn.{both_of}
use Rattle.judging.proofs.Owned.{either}
use Rattle.soundness.specs.declared.marker.Marker.TheVariants as markers

-- ---- one path among some

pub among : (changed : List (List ℕ)) (q : List ℕ) → (list_any (bytes_eq q) changed ≡ true) ↔ Contains changed q
among changed q = (
  Contains-from_any (λ x y. (bytes_eq-Decides x y).0) q changed,
  λ c. list_any_at (bytes_eq q) changed c.0 q c.1 ((bytes_eq-Decides q (get_or changed c.0 q)).1 (sym c.2)),
)

-- A fact that holds at some paths and at all others holds at each.
pub at_each : (changed : List (List ℕ)) (P : List ℕ → Type 0) → All P changed → ((q : List ℕ) → (Contains changed q → ⊥) → P q)
    → (q : List ℕ) → P q
at_each changed P here elsewhere q = elim (either (list_any (bytes_eq q) changed)) [
  | inl e ↦ let c = (among changed q).0 e in subst P c.2 (here c.0 q c.1)
  | inr n ↦ elsewhere q (λ c. false≢true (sym n ∙ (among changed q).1 c))
]

-- ---- what readers may see at one path

pub whole_fits : {I : Type 0} (is_kept is_replaced : Bool) (o f v : Option I) → Whole is_kept is_replaced o f v → Fits is_kept o f v
whole_fits {I} is_kept is_replaced o f v h = record {
  only = λ x e. by f refl x e;
  stays = λ x e k n. h.stays n x e k;
}
  where
    by : (g : Option I) → f ≡ g → (x : I) → v ≡ Some x → (o ≡ Some x) ⊎ (f ≡ Some x)
    by None n x e = inl (h.only n x e)
    by (Some y) n x e = inr (n ∙ sym (h.written y n) ∙ e)

-- If there is no file at all, this is what the whole job leaves.
pub whole_none : {I : Type 0} (is_kept is_replaced : Bool) → Whole {I = I} is_kept is_replaced None None None
whole_none is_kept is_replaced = record {
  written = λ x e. e;
  only = λ n x e. e;
  stays = λ n x e k. e;
  goes = λ n x e r. refl;
}

module _ {I : Type 0} (w : Claim I) (opening : Shown I) (changed : List (List ℕ)) (m n : Moment I) (d : DifferAt changed m n) where
  pub elsewhere : (n.marker ≡ markers.New → m.marker ≡ markers.New) → (q : List ℕ) (f : Option I) → (Contains changed q → ⊥)
      → MayShow w opening m q f → MayShow w opening n q f
  elsewhere new q f out h = record {
    before = λ b. d.shown q out ∙ h.before (sym d.begun ∙ b);
    between = λ b. subst (Fits (is_kept w q) (opening q) f) (sym (d.shown q out)) (h.between (sym d.begun ∙ b));
    stale = λ e. d.shown q out ∙ h.stale (d.old e);
    whole = λ e. subst (Whole (is_kept w q) (is_replaced w q) (opening q) f) (sym (d.shown q out)) (h.whole (new e));
  }

  pub marked_at : n.marker ≡ markers.New → (q : List ℕ) (f : Option I) → (n.begun ≡ false → n.shown q ≡ opening q)
      → Whole (is_kept w q) (is_replaced w q) (opening q) f (n.shown q) → MayShow w opening n q f
  marked_at new q f before whole = record {
    before = before;
    between = λ b. whole_fits (is_kept w q) (is_replaced w q) (opening q) f (n.shown q) whole;
    stale = λ e. absurd (new_or_old (sym new ∙ e));
    whole = λ e. whole;
  }
    where
      new_or_old : markers.New ≡ markers.Old → ⊥
      new_or_old e = cc

  attempts : (task : Attempts I) (files : Files I) → AttemptExplains w opening task m files
      → (n.marker ≡ markers.New → m.marker ≡ markers.New)
      → All (λ p. writes task p ≡ true → MayShow w opening n p (file_at files p)) changed → AttemptExplains w opening task n files
  attempts task files before new here = at_each changed (λ p. writes task p ≡ true → MayShow w opening n p (file_at files p)) here
      (λ q out o. elsewhere new q (file_at files q) out (before q o))

  others : OthersFit w opening m → (n.marker ≡ markers.New → m.marker ≡ markers.New)
      → All (λ p. is_claimed w.tasks p ≡ false → MayShow w opening n p None) changed → OthersFit w opening n
  others before new here = at_each changed (λ p. is_claimed w.tasks p ≡ false → MayShow w opening n p None) here
      (λ q out o. elsewhere new q None out (before q o))

  -- Before the commit begins, readers see the opening files, also at the paths that have not just changed.
  opened : (P : List ℕ → Type 0) (f : List ℕ → Option I) → ((p : List ℕ) → P p → MayShow w opening m p (f p)) → n.begun ≡ false
      → All (λ p. P p → n.shown p ≡ opening p) changed → (p : List ℕ) → P p → n.shown p ≡ opening p
  opened P f before b here = at_each changed (λ p. P p → n.shown p ≡ opening p) here
      (λ q out o. d.shown q out ∙ (before q o).before (sym d.begun ∙ b))

  marked : (P : List ℕ → Type 0) (f : List ℕ → Option I) → ((p : List ℕ) → P p → MayShow w opening m p (f p))
      → n.marker ≡ markers.New → (n.begun ≡ false → All (λ p. P p → n.shown p ≡ opening p) changed)
      → ((p : List ℕ) → P p → Whole (is_kept w p) (is_replaced w p) (opening p) (f p) (n.shown p))
      → (p : List ℕ) → P p → MayShow w opening n p (f p)
  marked P f before new here whole p o = marked_at new p (f p) (λ b. opened P f before b (here b) p o) (whole p o)

unchanged : {I : Type 0} (opening : Shown I) (changed : List (List ℕ)) (m n : Moment I) → DifferAt changed m n → Unchanged opening m
    → n.marker ≢ markers.New → All (λ p. n.shown p ≡ opening p) changed → Unchanged opening n
unchanged opening changed m n d calm unmarked here = record {
  shows = at_each changed (λ p. n.shown p ≡ opening p) here (λ q out. d.shown q out ∙ calm.shows q);
  unmarked = unmarked;
}

-- ---- the commit begins

begun_at : {I : Type 0} (w : Claim I) (opening : Shown I) (m n : Moment I) → Begins opening m n → (q : List ℕ) (f : Option I)
    → MayShow w opening m q f → MayShow w opening n q f
begun_at w opening m n b q f h = record {
  before = λ e. absurd (true≢false (sym b.begun ∙ e));
  between = λ e. record { only = λ x s. inl (sym same ∙ s); stays = λ x s k none. same ∙ s };
  stale = λ e. same;
  whole = λ e. subst (Whole (is_kept w q) (is_replaced w q) (opening q) f) (sym (b.shown q)) (h.whole (sym b.marker ∙ e));
}
  where
    same : n.shown q ≡ opening q
    same = b.shown q ∙ b.before q

begun_unchanged : {I : Type 0} (opening : Shown I) (m n : Moment I) → Begins opening m n → Unchanged opening m → Unchanged opening n
begun_unchanged opening m n b calm = record {
  shows = λ q. b.shown q ∙ calm.shows q;
  unmarked = λ e. calm.unmarked (sym b.marker ∙ e);
}

-- ---- the laws

one_more : {I : Type 0} (w : Claim I) (opening : Shown I) (moments : List (Moment I)) (task : Attempts I) (files : Files I) (m : Moment I)
    → StillExplains w opening (moments ++ m ∷ []) task files
    ↔ (StillExplains w opening moments task files × AttemptExplains w opening task m files)
one_more w opening moments task files m = (
  both_of (λ n. AttemptExplains w opening task n files) moments m,
  λ both. All-push (λ n. AttemptExplains w opening task n files) moments m both.0 both.1,
)

pub where_changed : (I : Type 0) → WhereChanged I
where_changed I = record {
  is_changed = among;
  unchanged = unchanged;
  attempts = λ w opening task files changed m n d. attempts w opening changed m n d task files;
  others = λ w opening changed m n d. others w opening changed m n d;
  marked_attempts = λ w opening task files changed m n d. marked w opening changed m n d (λ p. writes task p ≡ true) (file_at files);
  marked_others = λ w opening changed m n d. marked w opening changed m n d (λ p. is_claimed w.tasks p ≡ false) (λ p. None);
  begins_unchanged = begun_unchanged;
  begins_attempts = λ w opening task files m n b before p o. begun_at w opening m n b p (file_at files p) (before p o);
  begins_others = λ w opening m n b before p o. begun_at w opening m n b p None (before p o);
  one_more = one_more;
}
