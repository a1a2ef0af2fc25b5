-- The listing of a directory, stage by stage.
use Rattle.text_and_lists.proofs.Less.{lt}
use Rattle.text_and_lists.specs.Members.{RisesFrom}
use Rattle.text_and_lists.specs.Order.{text_cmp}
use Rattle.bucket_ops.specs.Asks.{edited, is_look, reply_in}
use Rattle.bucket_ops.specs.Phases.{IsPhases, MayAsk}
use Rattle.fs_ops.proofs.AtPathLaws.{looks_there, still_look}
use Rattle.fs_ops.proofs.Children.{listed_rises, none_listed, some_listed}
use Rattle.fs_ops.proofs.Deleting.{no_cons}
use Rattle.fs_ops.proofs.Showing.{shows_children}
use Rattle.fs_ops.proofs.StepLaws.{phases_of}
use Rattle.fs_ops.specs.Places.{prefix_of}
use Rattle.fs_ops.specs.code.List.{ListAnswer, added, all_added, asks, children, first, holds, last_text, left, on, paged, shown, told}
use Rattle.fs_ops.specs.code.List.{whole}
use Rattle.fs_ops.specs.code.Stat.{length_in}
use Rattle.fs_ops.specs.code.Steps.{IsStill, OnlyLooks, goes_by}
use Rattle.fs_ops.specs.inner.Steps.{IsStages}
use Rattle.fs_ops.specs.declared.list.ListStage.{ListStage}
use Rattle.fs_ops.specs.declared.list.ListStage.TheVariants.{Here, Pages}
use Rattle.fs_tree.specs.Answers.{Lists}
use Rattle.fs_tree.specs.Tree.{HasDir, NoFile, SomeBelow}
use Rattle.fs_tree.specs.declared.answers.DirEntry.{DirEntry}
use Rattle.fs_tree.specs.declared.answers.FsRefusal.TheVariants.{NoSuchBucket}
use Rattle.operations.specs.Plans.{Falls, Goes}
use Rattle.operations.specs.declared.plan.Step.{Step}
use Rattle.s3_types.specs.Answer.{head}
use Rattle.s3_types.specs.Pages.{listed, text_in}
use Rattle.s3_types.specs.Store.{Objects}
use Rattle.s3_types.specs.declared.object.Object.{Object}
use Rattle.s3_types.specs.declared.reply.PageEntry.{PageEntry}
use Rattle.std.proofs.Common.{ap, arith, inl, inr, length-drop, refl, subst, sym, ◌∙◌}
use Rattle.std.proofs.lemmas.Bool.{false≢true, ltb-false, ltb-true}
use Rattle.std.proofs.lemmas.List.{take_all}
use Rattle.std.specs.Prelude.{Bool, Err, List, None, Ok, Option, Some, drop, false, length, map, nat_lt, suc, take, true, ℕ, [], ◌+◌, ◌<◌}
use Rattle.std.specs.Prelude.{◌∷◌, ◌≡◌, ◌⊎◌}
use Rattle.store_frame.proofs.Listed.{listed_behind}
use Rattle.std.specs.FinMap as fin

-- ---- pages

added_more : (q : List ℕ) (n : ℕ) (es : List PageEntry) (found : List DirEntry)
    → all_added q (all_added q found (take n es)) (drop n es) ≡ all_added q found es
added_more q (suc n) (e ∷ es) found = added_more q n es (added found (shown q found e))
added_more q _ _ found = refl

-- The entries listed after a page are those that the page left.
behind_page : (q mark : List ℕ) (z : Objects) (n : ℕ) (l : List PageEntry) → listed q true mark z ≡ l
    → listed q true (last_text mark (take n l)) z ≡ drop n l
behind_page q mark z (suc n) (x ∷ xs) h = behind_page q (text_in x) z n xs (listed_behind q true mark z x xs h)
behind_page q mark z _ _ h = h

-- Holds if the mark is unchanged and the page was empty, or the mark is not empty.
abbrev MarkOf : List ℕ → List ℕ → List PageEntry → Type 0
MarkOf mark last l = ((last ≡ mark) × (l ≡ [])) ⊎ ((0 < length l) × (0 < length last))

some_after : (mark t : List ℕ) → lt text_cmp mark t ≡ true → 0 < length t
some_after [] [] h = absurd (false≢true h)
some_after (x ∷ mark) [] h = absurd (false≢true h)
some_after mark (y ∷ t) h = omega arith

last_some : (t : List ℕ) (l : List PageEntry) → 0 < length t → RisesFrom t (map text_in l) → 0 < length (last_text t l)
last_some t [] h r = h
last_some t (x ∷ l) h r = last_some (text_in x) l (some_after t (text_in x) r.0) r.1

mark_of : (mark : List ℕ) (l : List PageEntry) → RisesFrom mark (map text_in l) → MarkOf mark (last_text mark l) l
mark_of mark [] r = inl (refl, refl)
mark_of mark (x ∷ l) r = inr (omega arith, last_some (text_in x) l (some_after mark (text_in x) r.0) r.1)

no_length : 0 < length {A = ℕ} [] → ⊥
no_length h = omega (arith, h)

module _ (z : Objects) where
  abbrev On : List ℕ → Step ListStage ListAnswer → Objects → Type 0
  On o y m = Goes (holds o z) (Lists o z) y m

  -- ---- the directory, if something was listed

  dir_paged : (o mark : List ℕ) (l : List PageEntry) → listed (prefix_of o) true mark z ≡ l → 0 < length l → HasDir z o
  dir_paged o mark [] e h = absurd (omega (arith, h))
  dir_paged o mark (x ∷ l) e h = (elim o as (λ o. SomeBelow z (prefix_of o) → HasDir z o) [ [] ↦ λ h. tt | x ∷ p ↦ λ h. h ])
      (some_listed (prefix_of o) z mark x l e)

  full : (o : List ℕ) (found : List DirEntry) → NoFile z o → HasDir z o → found ≡ children (prefix_of o) z → Lists o z (Ok found) z
  full o found f d e = (inr ((f, d), subst (Rattle.fs_tree.specs.Changes.HasEntries o z) (sym e) (shows_children o z)), refl)

  -- ---- a page

  module _ (o : List ℕ) (found : List DirEntry) (mark : List ℕ) (file : NoFile z o) (dir : (mark ≡ []) ⊎ HasDir z o) (l : List PageEntry)
      (e : listed (prefix_of o) true mark z ≡ l) (is : all_added (prefix_of o) found l ≡ children (prefix_of o) z) where
    more : nat_lt 1000 (length l) ≡ true → On o (paged o true (all_added (prefix_of o) found (take 1000 l)) (last_text mark (take 1000 l)))
        z
    more t =
        let long : 0 < length l = let g = ltb-true 1000 (length l) t in omega (arith, g) in (
          refl,
          file,
          inr (dir_paged o mark l e long),
          ap (all_added (prefix_of o) (all_added (prefix_of o) found (take 1000 l))) (behind_page (prefix_of o) mark z 1000 l e) ∙
              added_more (prefix_of o) 1000 l found ∙ is,
        )

    -- the first page, or a later one
    ended : (o : List ℕ) → NoFile z o → (mark ≡ []) ⊎ HasDir z o → listed (prefix_of o) true mark z ≡ l
        → all_added (prefix_of o) found l ≡ children (prefix_of o) z → (k : List ℕ) → MarkOf mark k l
        → On o (whole o (all_added (prefix_of o) found l) k) z
    ended o h g e f k p = grind (arith, full, none_listed, no_length, no_cons, dir_paged)

    last : nat_lt 1000 (length l) ≡ false → On o (paged o false (all_added (prefix_of o) found (take 1000 l))
        (last_text mark (take 1000 l))) z
    last t =
        subst (λ k. On o (whole o (all_added (prefix_of o) found k) (last_text mark k)) z)
        (sym (take_all 1000 l (ltb-false 1000 (length l) t)))
        (ended o file dir e is (last_text mark l) (mark_of mark l (subst (λ l. RisesFrom mark (map text_in l)) e
        (listed_rises (prefix_of o) z mark))))

    page_goes : (c : Bool) → nat_lt 1000 (length l) ≡ c
        → On o (paged o c (all_added (prefix_of o) found (take 1000 l)) (last_text mark (take 1000 l))) z
    page_goes true t = more t
    page_goes false t = last t

  -- ---- each stage

  none_found : (o : List ℕ) → NoFile z o → On o (told o None) z
  none_found o f = (refl, f, inl refl, refl)

  here : (x : ℕ) (p : List ℕ) (v : Option Object) → fin.get z (x ∷ p) ≡ v → On (x ∷ p) (told (x ∷ p) (length_in (head v))) z
  here x p v h = grind arith

  step : (o : List ℕ) (x : ListStage) → holds o z x z → On o (on o x (reply_in z (asks o x))) (edited (asks o x) z)
  step o x h = grind (arith, none_found, here, page_goes)

-- ---- the requests that are left

fall_whole : (o : List ℕ) (found : List DirEntry) (mark : List ℕ) (m : Objects) (n : ℕ) → Falls (left o) (whole o found mark) m n
fall_whole o found mark m n = grind arith

fall_page : (o mark : List ℕ) (found : List DirEntry) (m : Objects) (l : List PageEntry) → listed (prefix_of o) true mark m ≡ l → (c : Bool)
    → nat_lt 1000 (length l) ≡ c → Falls (left o) (paged o c found (last_text mark (take 1000 l))) m (length l)
fall_page o mark found m l e true t =
    omega (arith, ap length (behind_page (prefix_of o) mark m 1000 l e), length-drop 1000 l, ltb-true 1000 (length l) t)
fall_page o mark found m l e false t = fall_whole o found (last_text mark (take 1000 l)) m (length l)

fall_here : (o : List ℕ) (n : Option ℕ) (m : Objects) → Falls (left o) (told o n) m (1 + length (listed (prefix_of o) true [] m))
fall_here o None m = omega arith
fall_here o (Some n) m = tt

falls : (o : List ℕ) (x : ListStage) (m : Objects) → Falls (left o) (on o x (reply_in m (asks o x))) (edited (asks o x) m) (left o x m)
falls o x m = grind (arith, fall_here, fall_page)

same : (o : List ℕ) (z : Objects) (x : ListStage) (m : Objects) → holds o z x m → m ≡ z
same o z x m h = grind arith

stages : IsStages {O = List ℕ} first asks on holds Lists IsStill left
stages = grind (arith, same, step, falls, still_look)

pub list_laws : IsPhases {O = List ℕ} first asks (goes_by on) holds Lists IsStill left (Err NoSuchBucket)
list_laws = phases_of (Err NoSuchBucket) stages

pub list_asked : MayAsk {O = List ℕ} asks holds OnlyLooks
list_asked o z Here m h = looks_there o
list_asked o z (Pages found mark) m h = refl

pub first_looks : (o : List ℕ) → is_look (asks o (first o)) ≡ true
first_looks o = grind arith
