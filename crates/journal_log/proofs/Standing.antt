-- What a shelf stands for that holds changes of a run.
use Rattle.journal_log.proofs.Journals.{changes_append, cut, folded}
use Rattle.journal_log.specs.Changes.{Begins, changes, content_after}
use Rattle.journal_log.specs.Crashes.{IsBetween, IsLast, WhereTold}
use Rattle.journal_log.specs.Kept.{HasEarlier, Holds, HoldsGrownBy, HoldsPart, HoldsSome, IsMoment, StandsFor, Unfolds, grown_by, kept}
use Rattle.journal_log.specs.Kept.{last_event}
use Rattle.log_format.specs.declared.logged_store.LoggedStore.{LoggedStore}
use Rattle.s3_types.specs.Moment.{after_all, moment}
use Rattle.s3_types.specs.Store.{Content, opening}
use Rattle.s3_types.specs.declared.journal.Entry.{Entry}
use Rattle.s3_types.specs.declared.request.Request.{Request}
use Rattle.devices.specs.Logged.{Holding, HoldsGrown, IsDurable, Stored, grown}
use Rattle.devices.specs.Logged.Holding.{Stands}
use Rattle.std.proofs.Common.{List, None, Option, Some, ap, append-nil, append_assoc, arith, inl, inr, length, length-append, refl, subst}
use Rattle.std.proofs.Common.{sym, take, ℕ, [], ◌++◌, ◌<◌, ◌^◌, ◌∙◌, ◌∷◌, ◌≡◌, ◌⊎◌}
use Rattle.std.proofs.lemmas.List.{take-append-le, take_all}
use Rattle.std.specs.List.{AllByRecursion}
use Rattle.store_image.specs.Content.{IsContent}
use Rattle.store_image.proofs.Whole as images

-- ---- first changes

pub begins_all : {X : Type 0} (xs : List X) → Begins xs xs
begins_all xs = ([], append-nil xs)

pub begins_more : {X : Type 0} (xs ys zs : List X) → Begins ys zs → Begins (xs ++ ys) (xs ++ zs)
begins_more xs ys zs h = (h.0, append_assoc xs ys h.0 ∙ ap (λ (l : List _). xs ++ l) h.1)

pub begins_longer : {X : Type 0} (xs ys zs : List X) → Begins xs ys → Begins xs (ys ++ zs)
begins_longer xs ys zs h = (h.0 ++ zs, sym (append_assoc xs h.0 zs) ∙ ap (λ (l : List _). l ++ zs) h.1)

-- ---- growth

pub grown_none : (h : Holding) → grown_by h [] ≡ h
grown_none (Stands held) = ap (λ (rs : List Request). Stands (record { base = held.base; changes = rs })) (append-nil held.changes)
grown_none _ = refl

pub grown_one : (h : Holding) (r : Request) → grown h r ≡ grown_by h (r ∷ [])
grown_one h r = grind arith

pub grown_then : (h : Holding) (rs qs : List Request) → grown_by (grown_by h rs) qs ≡ grown_by h (rs ++ qs)
grown_then (Stands held) rs qs = ap (λ (l : List Request). Stands (record { base = held.base; changes = l }))
    (append_assoc held.changes rs qs)
grown_then _ rs qs = refl

pub holds_none : (o : Option Stored) → HoldsGrownBy o o []
holds_none None = refl
holds_none (Some s) = ap Some (sym (grown_none s.holding))

pub holds_one : (o p : Option Stored) (r : Request) → HoldsGrown o p r → HoldsGrownBy o p (r ∷ [])
holds_one o p r h = grind arith

pub holds_then : (o p q : Option Stored) (rs qs : List Request) → HoldsGrownBy o p rs → HoldsGrownBy p q qs → HoldsGrownBy o q (rs ++ qs)
holds_then o p q rs qs h g = grind (arith, grown_then)

pub holds_more : (c : Content) (o p : Option Stored) (rs more : List Request) → Holds o c rs → HoldsGrownBy o p more
    → Holds p c (rs ++ more)
holds_more c o p rs more h g = grind arith

-- ---- points of a run

pub moments : (c : Content) (es : List Entry) (m : ℕ) → StandsFor (kept c (changes (take m es))) (moment c es m).content
moments c es m = record { first = c; is_image = refl; folded = sym (folded c es m) }

pub some : (c : Content) (es : List Entry) (rs : List Request) → Begins rs (changes es) → IsMoment c es (kept c rs)
some c es rs h =
    let found = cut es rs h in (
      found.0,
      found.1,
      subst (λ (l : List Request). StandsFor (kept c l) (moment c es found.0).content) (sym found.2)
          (moments c es found.0),
    )

pub longer : (c : Content) (es fs : List Entry) (h : Holding) → IsMoment c es h → IsMoment c (es ++ fs) h
longer c es fs h is =
    let same : take is.0 (es ++ fs) ≡ take is.0 es = take-append-le is.0 es fs is.1 in (
      is.0,
      omega (arith, is.1, length-append es fs),
      subst (λ (l : List Entry). StandsFor h (after_all (opening c) l).content) (sym same)
          is.2,
    )

pub between : (c : Content) (es part : List Entry) (o : Option Stored) (h : Holding) → Holds o c (changes es) → IsBetween o (changes part) h
    → WhereTold o (IsMoment c (es ++ part) h)
between c es part None h holds is = tt
between c es part (Some s) h holds is =
    let same : h ≡ kept c (changes es ++ is.0) = is.2 ∙ ap (λ (x : Holding). grown_by x is.0) holds in
    let begins : Begins (changes es ++ is.0) (changes (es ++ part)) = subst (Begins (changes es ++ is.0)) (sym (changes_append es part))
    (begins_more (changes es) is.0 (changes part) is.1) in
    subst (IsMoment c (es ++ part)) (sym same) (some c (es ++ part) (changes es ++ is.0) begins)

pub last : (c : Content) (es : List Entry) (o : Option Stored) (leaves : Holding → Type 0) → Holds o c (changes es) → IsDurable o leaves
    → (h : Holding) → leaves h → IsLast o c es h
last c es None leaves holds only h left = tt
last c es (Some s) leaves holds only h left =
    let all : kept c (changes (take (length es) es)) ≡ h = ap (λ (l : List Entry). kept c (changes l))
    (take_all (length es) es (omega arith)) ∙ sym holds ∙ sym (only h left) in
    inl (subst (λ (x : Holding). StandsFor x (moment c es (length es)).content) all (moments c es (length es)))

pub one : (held : LoggedStore) (c d : Content) (a : Unfolds held c) (b : Unfolds held d) → length held.base < 2 ^ 64 → IsContent a.first
    → IsContent b.first → c ≡ d
one held c d a b fits is are =
    let same = images.one held.base a.first b.first fits is are a.is_image b.is_image in
    a.folded ∙ ap (λ (x : Content). content_after x held.changes) same ∙ sym b.folded

-- ---- earlier events

-- An entry of two lists in a row is in the first or in the second.
split : (xs ys front : List Entry) (e : Entry) (back : List Entry) → xs ++ ys ≡ front ++ e ∷ back
    → ((rest : List Entry) × (xs ≡ front ++ e ∷ rest)) ⊎ ((more : List Entry) × (ys ≡ more ++ e ∷ back))
split [] ys front e back h = inr (front, h)
split (x ∷ xs) ys [] e back h = let same : x ≡ e = cc in inl (xs, ap (λ (y : Entry). y ∷ xs) same)
split (x ∷ xs) ys (z ∷ front) e back h =
    let same : x ≡ z = cc in
    let others : xs ++ ys ≡ front ++ e ∷ back = cc in
    elim (split xs ys front e back others) [
      | inl is ↦ inl (is.0, ap (λ (y : Entry). y ∷ xs) same ∙ ap (λ (l : List Entry). z ∷ l) is.1)
      | inr is ↦ inr is
    ]

last_append : (n : ℕ) (xs ys : List Entry) → last_event n (xs ++ ys) ≡ last_event (last_event n xs) ys
last_append n [] ys = refl
last_append n (x ∷ xs) ys = last_append x.event xs ys

last_same : (n m : ℕ) (xs : List Entry) → AllByRecursion (λ e. e.event ≡ n) xs → m ≡ n → last_event m xs ≡ n
last_same n m [] all same = same
last_same n m (x ∷ xs) all same = last_same n x.event xs all.1 all.0

all_behind : (n : ℕ) (xs ys : List Entry) → AllByRecursion (λ e. e.event ≡ n) (xs ++ ys) → AllByRecursion (λ e. e.event ≡ n) ys
all_behind n [] ys all = all
all_behind n (x ∷ xs) ys all = all_behind n xs ys all.1

pub earlier : (es part : List Entry) (n : ℕ) (rs : List Request) → AllByRecursion (λ e. e.event ≡ n) part → Begins rs (changes part)
    → HasEarlier (es ++ part) (changes es ++ rs)
earlier es part n rs all begins front back e is less = elim (split es part front e back is) [
  | inl h ↦
      let whole : es ≡ (front ++ e ∷ []) ++ h.0 = h.1 ∙ sym (append_assoc front (e ∷ []) h.0) in
      let parts : changes es ≡ changes (front ++ e ∷ []) ++ changes h.0 = ap changes whole ∙ changes_append (front ++ e ∷ []) h.0 in
      begins_longer (changes (front ++ e ∷ [])) (changes es) rs (changes h.0, sym parts)
  | inr h ↦
      let here = all_behind n h.0 (e ∷ back) (subst (AllByRecursion (λ (x : Entry). x.event ≡ n)) h.1 all) in
      let last : last_event 0 (es ++ part) ≡ n = ap (last_event 0) is ∙ last_append 0 front (e ∷ back) ∙ last_same n e.event back here.1
      here.0 in
      absurd (omega (arith, less, last, here.0))
]

pub short : (c : Content) (o p : Option Stored) (es part : List Entry) (n : ℕ) → Holds o c (changes es)
    → AllByRecursion (λ e. e.event ≡ n) part → HoldsSome o p (changes part) → HoldsPart p c (es ++ part)
short c o p es part n holds all grew = record {
  part = changes es ++ grew.0;
  holds = holds_more c o p (changes es) grew.0 holds grew.2;
  begins = subst (Begins (changes es ++ grew.0)) (sym (changes_append es part)) (begins_more (changes es) grew.0 (changes part) grew.1);
  earlier = earlier es part n grew.0 all grew.1;
}
