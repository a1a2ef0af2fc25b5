-- How the states that crashes leave go on from one call to the next.
use Rattle.journal_log.proofs.Standing.{begins_all, begins_longer, begins_more, between, grown_none, grown_one, grown_then, holds_one}
use Rattle.journal_log.proofs.Standing.{longer, some}
use Rattle.journal_log.specs.Changes.{Begins, changes}
use Rattle.journal_log.specs.Crashes.{AreAppended, IsAppended, IsBetween, WhereTold}
use Rattle.journal_log.specs.Kept.{Holds, HoldsGrownBy, HoldsSome, IsMoment}
use Rattle.s3_types.specs.Store.{Content}
use Rattle.s3_types.specs.declared.journal.Entry.{Entry}
use Rattle.s3_types.specs.declared.request.Request.{Request}
use Rattle.devices.specs.Logged.{CrashesLeave, Holding, IsBeforeOrAfter, IsDurable, IsTimed, Sight, Stored, fresh}
use Rattle.std.proofs.Common.{List, None, Option, Some, arith, inl, inr, refl, subst, sym, [], ⊎_elim, ◌++◌, ◌∙◌, ◌∷◌, ◌≡◌, ◌⊎◌}
use Rattle.store_image.specs.Image.{image}

-- ---- what a crash left between changes

pub told_all : (o : Option Stored) (P : Type 0) → P → WhereTold o P
told_all o P h = grind arith

pub told_more : (o : Option Stored) (P Q : Type 0) → (P → Q) → WhereTold o P → WhereTold o Q
told_more o P Q h g = grind arith

-- What grew is known if it was known before.
pub told_still : (o p : Option Stored) (rs : List Request) (P : Type 0) → HoldsGrownBy o p rs → WhereTold o P → WhereTold p P
told_still o p rs P h g = grind arith

-- Nothing was changed yet.
pub at_first : (o : Option Stored) (leaves : Holding → Type 0) (h : Holding) → IsDurable o leaves → leaves h → IsBetween o [] h
at_first None leaves h only left = tt
at_first (Some s) leaves h only left = ([], begins_all [], only h left ∙ sym (grown_none s.holding))

-- The first changes, as first ones of more.
pub so_far : (o : Option Stored) (rs qs : List Request) (h : Holding) → IsBetween o rs h → IsBetween o (rs ++ qs) h
so_far None rs qs h is = tt
so_far (Some s) rs qs h is = (is.0, begins_longer is.0 rs qs is.1, is.2)

-- Further changes.
pub further_on : (o p : Option Stored) (rs qs : List Request) → HoldsGrownBy o p rs → (h : Holding) → IsBetween p qs h
    → IsBetween o (rs ++ qs) h
further_on o p rs qs g h e = grind (arith, begins_more, grown_then)

-- Before or after one change.
pub around : (o : Option Stored) (r : Request) (h : Holding) → IsBeforeOrAfter o r h → IsBetween o (r ∷ []) h
around o r h g = grind (arith, grown_none, begins_all, grown_one)

module _ {S : Type 0} (F : Sight S) where
  -- before the first call
  pub started : (old : S) (P : Holding → Type 0) → ((c : Holding) → F.left_since old (F.moment old) c → P c) → CrashesLeave F old old P
  started old P here = record { later = omega arith; each = here; before = λ t c le left. inl left }

  -- one run and then another
  pub then_on : (old mid new : S) (P Q R : Holding → Type 0) → CrashesLeave F old mid P → CrashesLeave F mid new Q
      → ((c : Holding) → P c → R c) → ((c : Holding) → Q c → R c) → CrashesLeave F old new R
  then_on old mid new P Q R h g e f = grind arith

  -- a weaker property holds too
  pub widened : (old new : S) (P R : Holding → Type 0) → CrashesLeave F old new P → ((c : Holding) → P c → R c) → CrashesLeave F old new R
  widened old new P R h g = grind arith

-- ---- appends, one after another

module _ {S : Type 0} (F : Sight S) where
  -- changes that follow others
  pub goes_on : (old mid new : S) (rs qs : List Request) → HoldsGrownBy (F.held old) (F.held mid) rs
      → CrashesLeave F old mid (IsBetween (F.held old) rs) → CrashesLeave F mid new (IsBetween (F.held mid) qs)
      → CrashesLeave F old new (IsBetween (F.held old) (rs ++ qs))
  goes_on old mid new rs qs grown first second =
      then_on F old mid new (IsBetween (F.held old) rs) (IsBetween (F.held mid) qs) (IsBetween (F.held old) (rs ++ qs)) first second
      (so_far (F.held old) rs qs) (further_on (F.held old) (F.held mid) rs qs grown)

  one_append : (old new : S) (r : Request) → IsAppended F old new r → CrashesLeave F old new (IsBetween (F.held old) (r ∷ []))
  one_append old new r is = widened F old new (IsBeforeOrAfter (F.held old) r) (IsBetween (F.held old) (r ∷ [])) is.leaves
      (around (F.held old) r)

  from_one : (old mid new : S) (r : Request) (rs : List Request) → IsAppended F old mid r → AreAppended F mid rs new
      → CrashesLeave F old new (IsBetween (F.held old) (r ∷ rs))
  from_one old mid new r [] is are = subst (λ (s : S). CrashesLeave F old s (IsBetween (F.held old) (r ∷ []))) are (one_append old mid r is)
  from_one old mid new r (q ∷ rs) is are =
      goes_on old mid new (r ∷ []) (q ∷ rs) (holds_one (F.held old) (F.held mid) r is.grown) (one_append old mid r is)
      (from_one mid are.0 new q rs are.1 are.2)

  pub all_appended : IsTimed F → (old new : S) (rs : List Request) → IsDurable (F.held old) (F.may_leave old) → AreAppended F old rs new
      → CrashesLeave F old new (IsBetween (F.held old) rs)
  all_appended timed old new [] durable are =
      subst (λ (s : S). CrashesLeave F old s (IsBetween (F.held old) [])) are
      (started F old (IsBetween (F.held old) []) (λ h left. at_first (F.held old) (F.may_leave old) h durable (timed.only_now old h left)))
  all_appended timed old new (r ∷ rs) durable are = from_one old are.0 new r rs are.1 are.2

  pub leaves_moments : IsTimed F → (c : Content) (es part : List Entry) (old new : S) (rs : List Request)
      → Holds (F.held old) c (changes es) → IsDurable (F.held old) (F.may_leave old) → AreAppended F old rs new → Begins rs (changes part)
      → CrashesLeave F old new (λ h. WhereTold (F.held old) (IsMoment c (es ++ part) h))
  leaves_moments h c es part old new rs g e f p = grind (arith, widened, all_appended, between, so_far)

  pub on_and_on : (c : Content) (es part : List Entry) (first mid new : S) → Holds (F.held mid) c (changes es)
      → HoldsSome (F.held mid) (F.held new) (changes part) → CrashesLeave F first mid (λ h. WhereTold (F.held mid) (IsMoment c es h))
      → CrashesLeave F mid new (IsBetween (F.held mid) (changes part))
      → CrashesLeave F first new (λ h. WhereTold (F.held new) (IsMoment c (es ++ part) h))
  on_and_on c es part first mid new h g e f = grind (arith, told_still, then_on, told_more, longer, between)

-- A load, a replacement by the opening image, and then changes of the journal.
pub survives : {S : Type 0} (F : Sight S) → IsTimed F
    → (c : Content) (es : List Entry) (o : Option Stored) (first loaded replaced last : S) → CrashesLeave F first loaded (F.may_leave first)
    → CrashesLeave F loaded replaced (λ h. F.may_leave loaded h ⊎ (h ≡ fresh (image c)))
    → CrashesLeave F replaced last (λ h. WhereTold o (IsMoment c es h))
    → CrashesLeave F first last (λ h. WhereTold o (F.may_leave first h ⊎ IsMoment c es h))
survives {S} F timed c es o first loaded replaced last load replace append =
    let Or : Holding → Type 0 = λ h. F.may_leave first h ⊎ IsMoment c es h in
    let opened : (h : Holding) → h ≡ fresh (image c)
    → IsMoment c es h = λ h e. subst (IsMoment c es) (sym e) (some c es [] (changes es, refl)) in
    let on = then_on F first loaded replaced (F.may_leave first) (λ h. F.may_leave loaded h ⊎ (h ≡ fresh (image c))) Or load replace
    (λ h left. inl left) (λ h is. ⊎_elim (λ left. inl (load.each h (timed.counts_now loaded (F.moment first) h load.later left)))
    (λ e. inr (opened h e)) is) in
    then_on F first replaced last Or (λ h. WhereTold o (IsMoment c es h)) (λ h. WhereTold o (Or h)) on append (λ h is. told_all o (Or h) is)
    (λ h is. told_more o (IsMoment c es h) (Or h) (λ m. inr m) is)
