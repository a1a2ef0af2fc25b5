-- The changes of journals, and the contents that they make.
use Rattle.journal_log.specs.Changes.{Begins, changes, content_after}
use Rattle.log_format.specs.Change.{is_changing}
use Rattle.s3_types.specs.Answer.{apply, apply_store}
use Rattle.s3_types.specs.Moment.{after_all, effect, is_effective, moment}
use Rattle.s3_types.specs.Store.{Content, Scene, opening}
use Rattle.s3_types.specs.declared.journal.Entry.{Entry}
use Rattle.s3_types.specs.declared.journal.Outcome.{Outcome}
use Rattle.s3_types.specs.declared.request.Request.{Request}
use Rattle.std.proofs.Common.{Bool, List, ap, arith, cond, false, inl, inr, length, map, refl, suc, sym, take, true, ℕ, [], ◌++◌, ◌∙◌, ◌∷◌}
use Rattle.std.proofs.Common.{◌≡◌, ◌≤◌, ◌⊎◌}
use Rattle.std.proofs.lemmas.List.{map-append}
use Rattle.std.proofs.lemmas.List.Elements.{filter-append}
use Rattle.std.specs.List.{filter}
use Rattle.store_frame.proofs.Reading.{reads_nothing}

-- ---- the changes of a journal

pub changes_append : (es fs : List Entry) → changes (es ++ fs) ≡ changes es ++ changes fs
unfolding changes
changes_append es fs =
    let took : Entry → Bool = λ e. is_effective e.outcome in
    let sent : Entry → Request = λ e. e.request in
    ap (λ (xs : List Entry). filter is_changing (map sent xs)) (filter-append took es fs)
    ∙ ap (filter is_changing) (map-append sent (filter took es) (filter took fs))
    ∙ filter-append is_changing (map sent (filter took es)) (map sent (filter took fs))

pub changes_none : changes [] ≡ []
unfolding changes
changes_none = refl

-- The changes of one entry.
pub changes_one : (e : Entry) → changes (e ∷ []) ≡ cond (is_effective e.outcome) (cond (is_changing e.request) (e.request ∷ []) []) []
unfolding changes
changes_one e = elim (is_effective e.outcome) as
    (λ b. filter is_changing (map (λ (x : Entry). x.request) (cond b (e ∷ []) [])) ≡ cond b
    (cond (is_changing e.request) (e.request ∷ []) []) []) [ true ↦ refl | false ↦ refl ]

pub taken : (e : Entry) → is_effective e.outcome ≡ true → is_changing e.request ≡ true → changes (e ∷ []) ≡ e.request ∷ []
taken e took may = changes_one e ∙ ap (λ (b : Bool). cond b (cond (is_changing e.request) (e.request ∷ []) []) []) took ∙ ap
    (λ (b : Bool). cond b (e.request ∷ []) []) may

pub not_effective : (e : Entry) → is_effective e.outcome ≡ false → changes (e ∷ []) ≡ []
not_effective e took = changes_one e ∙ ap (λ (b : Bool). cond b (cond (is_changing e.request) (e.request ∷ []) []) []) took

pub not_changing : (e : Entry) → is_changing e.request ≡ false → changes (e ∷ []) ≡ []
not_changing e may = rw (changes_one e, may) (elim (is_effective e.outcome) as (λ b. cond b (cond false (e.request ∷ []) []) [] ≡ [])
    [ true ↦ refl | false ↦ refl ])

none_or_one : (e : Entry) → (changes (e ∷ []) ≡ []) ⊎ (changes (e ∷ []) ≡ e.request ∷ [])
none_or_one e = grind (arith, not_effective, taken, not_changing)

-- The first changes of a journal are those of its first entries.
pub cut : (es : List Entry) (rs : List Request) → Begins rs (changes es) → (m : ℕ) × (m ≤ length es) × (rs ≡ changes (take m es))
cut es [] h = (0, omega arith, sym changes_none)
cut [] (r ∷ rs) h = let e : (r ∷ rs) ++ h.0 ≡ [] = h.1 ∙ changes_none in absurd (cc)
cut (e ∷ es) (r ∷ rs) h = elim (none_or_one e) [
  | inl none ↦
      let found = cut es (r ∷ rs) (h.0, rw none at (h.1 ∙ changes_append (e ∷ []) es)) in (
        suc found.0,
        omega (arith, found.1),
        found.2 ∙ sym (changes_append (e ∷ []) (take found.0 es) ∙ ap
            (λ (xs : List Request). xs ++ changes (take found.0 es)) none),
      )
  | inr one ↦
      let here : r ∷ (rs ++ h.0) ≡ e.request ∷ changes es = rw one at (h.1 ∙ changes_append (e ∷ []) es) in
      let same : r ≡ e.request = cc in
      let others : rs ++ h.0 ≡ changes es = cc in
      let found = cut es rs (h.0, others) in
      let whole : r ∷ rs ≡ e.request ∷ changes (take found.0 es) = cc found.2 in (
        suc found.0,
        omega (arith, found.1),
        whole ∙ sym (changes_append (e ∷ []) (take found.0 es) ∙ ap
            (λ (xs : List Request). xs ++ changes (take found.0 es)) one),
      )
]

-- ---- the contents that they make

pub content_append : (c : Content) (rs qs : List Request) → content_after c (rs ++ qs) ≡ content_after (content_after c rs) qs
content_append c [] qs = refl
content_append c (r ∷ rs) qs = content_append (apply_store c r) rs qs

pub store_alone : (s : Scene) (r : Request) → is_changing r ≡ true
    → apply s r ≡ record { content = apply_store s.content r; files = s.files }
store_alone s r h = grind arith

pub others_leave : (s : Scene) (r : Request) → is_changing r ≡ false → (apply s r).content ≡ s.content
others_leave s r h = grind (arith, reads_nothing)

effect_of : (s : Scene) (r : Request) (o : Outcome)
    → (effect s r o).content ≡ content_after s.content (cond (is_effective o) (cond (is_changing r) (r ∷ []) []) [])
effect_of s r o = grind (arith, store_alone, others_leave)

pub follows : (s : Scene) (es : List Entry) → content_after s.content (changes es) ≡ (after_all s es).content
follows s [] = ap (content_after s.content) changes_none
follows s (e ∷ es) =
    ap (content_after s.content) (changes_append (e ∷ []) es)
    ∙ content_append s.content (changes (e ∷ [])) (changes es)
    ∙ ap (λ (c : Content). content_after c (changes es)) (ap (content_after s.content) (changes_one e) ∙ sym
    (effect_of s e.request e.outcome))
    ∙ follows (effect s e.request e.outcome) es

pub folded : (c : Content) (es : List Entry) (m : ℕ) → content_after c (changes (take m es)) ≡ (moment c es m).content
folded c es m = follows (opening c) (take m es)
