-- Moments that are alike.
use Rattle.std.proofs.Common.{Bool, List, Option, [], ap, get_or, inl, inr, subst, sym, ℕ}
use Rattle.std.proofs.Common.{◌∙◌, ◌∷◌, ◌≡◌, ◌≢◌}
use Rattle.std.proofs.lemmas.List.Elements.{All-from_recursion, recursion_from_All}
use Rattle.std.specs.List.{All, AllByRecursion, Contains}
use Rattle.std.specs.Prelude.{is_some}
use Rattle.soundness.specs.Claims.{Attempts, Claim, Files, file_at, is_kept, is_replaced}
use Rattle.soundness.specs.Moments.{Allows, Explains, Fits, MayShow, Moment, Same, Shown, Sound, Unchanged}
use Rattle.soundness.specs.declared.marker.Marker.{Marker}
use Rattle.judging.specs.Judging.{AttemptExplains, StillExplains}
use Rattle.judging.specs.Reasons.{AttemptFits, NeedsChoice}
use Rattle.audit_claims.specs.Claims.{Tags}
use Rattle.audit_judge.specs.Reasons.{Holds}
use Rattle.audit_judge.specs.declared.reason.Reason.{Reason}
use Rattle.audit_judge.specs.declared.reason.Reason.TheVariants.{Early, Missing, Foreign, Lost, Torn, Stale, Half, Left}
use Rattle.audit_laws.specs.Alike.{Alike, AllAlike}
use Rattle.audit_laws.specs.LineByLine.{FirstAlike, SoundAlike}

-- ---- likeness

pub back_alike : {I : Type 0} (m n : Moment I) → Alike m n → Alike n m
back_alike m n a = record { begun = sym a.begun; marker = sym a.marker; shown = λ p. sym (a.shown p) }

pub all_back : {I : Type 0} (ms ns : List (Moment I)) → AllAlike ms ns → AllAlike ns ms
all_back [] [] h = tt
all_back [] (n ∷ ns) h = absurd h
all_back (m ∷ ms) [] h = absurd h
all_back (m ∷ ms) (n ∷ ns) h = (back_alike m n h.0, all_back ms ns h.1)

pub back_same : {I : Type 0} (o p : Shown I) → Same o p → Same p o
back_same o p h q = sym (h q)

-- A fact that holds at each moment holds at each moment alike to it.
by_turn : {I : Type 0} (P Q : Moment I → Type 0) → ((m n : Moment I) → Alike m n → P m → Q n) → (ms ns : List (Moment I)) → AllAlike ms ns
    → AllByRecursion P ms → AllByRecursion Q ns
by_turn P Q on [] [] h all = tt
by_turn P Q on [] (n ∷ ns) h all = absurd h
by_turn P Q on (m ∷ ms) [] h all = absurd h
by_turn P Q on (m ∷ ms) (n ∷ ns) h all = (on m n h.0 all.0, by_turn P Q on ms ns h.1 all.1)

at_all : {I : Type 0} (P Q : Moment I → Type 0) → ((m n : Moment I) → Alike m n → P m → Q n) → (ms ns : List (Moment I)) → AllAlike ms ns
    → All P ms → All Q ns
at_all P Q on ms ns h all = All-from_recursion Q ns (by_turn P Q on ms ns h (recursion_from_All P ms all))

-- ---- what readers may see

fits_same : {I : Type 0} (k : Bool) (o p f u v : Option I) → o ≡ p → u ≡ v → Fits k o f u → Fits k p f v
fits_same k o p f u v e s h = subst (λ x. Fits k x f v) e (subst (Fits k o f) s h)

allows_same : {I : Type 0} (b c : Bool) (x y : Marker) (k r : Bool) (o p f u v : Option I) → b ≡ c → x ≡ y → o ≡ p → u ≡ v
    → Allows b x k r o f u → Allows c y k r p f v
allows_same b c x y k r o p f u v e g s t h =
    subst (λ a. Allows a y k r p f v) e (subst (λ a. Allows b a k r p f v) g (subst (λ a. Allows b x k r a f v) s
    (subst (Allows b x k r o f) t h)))

unlike : {A : Type 0} (a b c d : A) → a ≡ c → b ≡ d → a ≢ b → c ≢ d
unlike a b c d e g not h = not (e ∙ h ∙ sym g)

module _ {I : Type 0} (w : Claim I) (o p : Shown I) (same : Same o p) where
  pub may : (m n : Moment I) → Alike m n → (q : List ℕ) (f : Option I) → MayShow w o m q f → MayShow w p n q f
  may m n a q f h = allows_same m.begun n.begun m.marker n.marker (is_kept w q) (is_replaced w q) (o q) (p q) f (m.shown q) (n.shown q)
      a.begun a.marker (same q) (a.shown q) h

  pub calm : (m n : Moment I) → Alike m n → Unchanged o m → Unchanged p n
  calm m n a h = record {
    shows = λ q. sym (a.shown q) ∙ h.shows q ∙ same q;
    unmarked = λ e. h.unmarked (a.marker ∙ e);
  }

  pub sound : (ms ns : List (Moment I)) → AllAlike ms ns → Sound w o ms → Sound w p ns
  sound ms ns h (inl all) = inl (at_all (Unchanged o) (Unchanged p) calm ms ns h all)
  sound ms ns h (inr c) = inr (
    c.0,
    c.1,
    at_all (Explains w o c.0) (Explains w p c.0) (λ m n a e q. may m n a q _ (e q)) ms ns h c.2,
  )

  explains : (task : Attempts I) (files : Files I) (m n : Moment I) → Alike m n → AttemptExplains w o task m files
      → AttemptExplains w p task n files
  explains task files m n a h q is = may m n a q (file_at files q) (h q is)

  pub still : (task : Attempts I) (files : Files I) (ms ns : List (Moment I)) → AllAlike ms ns → StillExplains w o ms task files
      → StillExplains w p ns task files
  still task files ms ns h all = at_all (λ m. AttemptExplains w o task m files) (λ n. AttemptExplains w p task n files)
      (explains task files) ms ns h all

  fits : (task : Attempts I) (files : Files I) (m n : Moment I) → Alike m n → AttemptFits w o task m files
      → AttemptFits w p task n files
  fits task files m n a h q is = fits_same (is_kept w q) (o q) (p q) (file_at files q) (m.shown q) (n.shown q) (same q) (a.shown q) (h q is)

  needs : (m n : Moment I) → Alike m n → NeedsChoice o m → NeedsChoice p n
  needs m n a (inl d) = inl (d.0, unlike (m.shown d.0) (o d.0) (n.shown d.0) (p d.0) (a.shown d.0) (same d.0) d.1)
  needs m n a (inr e) = inr (sym a.marker ∙ e)

-- ---- reasons

module _ (w : Claim Tags) (o p : Shown Tags) (same : Same o p) (ms ns : List (Moment Tags)) (all : AllAlike ms ns) (m n : Moment Tags)
    (a : Alike m n) (changed other : List (List ℕ)) (on : (q : List ℕ) → Contains changed q → Contains other q) where
  differs : (q : List ℕ) → m.shown q ≢ o q → n.shown q ≢ p q
  differs q = unlike (m.shown q) (o q) (n.shown q) (p q) (a.shown q) (same q)

  still_back : (task : Attempts Tags) (files : Files Tags) → StillExplains w p ns task files → StillExplains w o ms task files
  still_back task files h = still w p o (back_same o p same) task files ns ms (all_back ms ns all) h

  holds : (r : Reason) → Holds w o ms m changed r → Holds w p ns n other r
  holds (Early q) h = record { before = sym a.begun ∙ h.before; differs = differs q h.differs }
  holds (Missing t) h = record { needed = needs w o p same m n a h.needed; none = h.none }
  holds (Foreign q) h = record {
    is_changed = on q h.is_changed;
    content = h.content;
    seen = sym (a.shown q) ∙ h.seen;
    differs = λ e. h.differs (same q ∙ e);
    unclaimed = h.unclaimed;
  }
  holds (Lost q) h = record {
    is_changed = on q h.is_changed;
    kept = h.kept;
    unclaimed = h.unclaimed;
    existed = ap is_some (sym (same q)) ∙ h.existed;
    gone = sym (a.shown q) ∙ h.gone;
  }
  holds (Torn t) h = record {
    task = h.task;
    here = h.here;
    attempted = h.attempted;
    none = λ k d l s f. h.none k d l (still_back h.task (get_or h.task k d) s)
        (fits w p o (back_same o p same) h.task (get_or h.task k d) n m (back_alike m n a) f);
  }
  holds (Stale q) h = record { old = sym a.marker ∙ h.old; differs = differs q h.differs }
  holds (Half t) h = record {
    new = sym a.marker ∙ h.new;
    task = h.task;
    here = h.here;
    none = λ k d l s e. h.none k d l (still_back h.task (get_or h.task k d) s)
        (explains w p o (back_same o p same) h.task (get_or h.task k d) n m (back_alike m n a) e);
  }
  holds (Left q) h = record {
    new = sym a.marker ∙ h.new;
    unclaimed = h.unclaimed;
    replaced = h.replaced;
    existed = ap is_some (sym (same q)) ∙ h.existed;
    still = ap is_some (sym (a.shown q)) ∙ h.still;
  }

pub sound_alike : SoundAlike
sound_alike w o p ms ns h same = sound w o p same ms ns h

pub first_alike : FirstAlike
first_alike w o p ms ns m n changed other r h a same e first = record {
  holds = holds w o p same ms ns h m n a changed other e.on r first.holds;
  first = λ s before there. first.first s before
      (holds w p o (back_same o p same) ns ms (all_back ms ns h) n m (back_alike m n a) other changed e.back s there);
}
